use Rattle.std.proofs.Common.{◌∙◌, ◌-◌, ap, take}
use Rattle.sc_stream.proofs.Moving.{front_moved}
use Rattle.sc_stream.proofs.streams.remove_front.Goals as goal

pub returns : goal.returns
returns c =
    c.truncate.ensures.items ∙ ap (take (c.len-len.result - c.args.count)) c.copy_within.ensures.items
    ∙ front_moved c.args.bytes.now.items c.len-len.result c.args.count (c.len-len.ensures ∙ c.args.bytes.now.ok.0) c.requires
