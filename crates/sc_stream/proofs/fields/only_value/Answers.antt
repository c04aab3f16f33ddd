use Rattle.std.proofs.Common.{◌+◌, ◌-◌, ◌∙◌, Some, length, take, drop, ap}
use Rattle.std.proofs.lemmas.List.{take_rest}
use Rattle.sc_stream.proofs.ReadSteps.{only_one, only_more}
use Rattle.sc_stream.proofs.fields.only_value.Goals as goal

pub returns-then-place_of-behind : goal.returns-then-place_of-behind
returns-then-place_of-behind c =
    only_more c.args.name.now c.args.fields.now (take (length c.args.fields.now - (c.place_of-first.result + 1)) (drop (c.place_of-first.result + 1) c.args.fields.now)) c.place_of-first.result c.place_of.result
    c.place_of-first.ensures.exact c.if-fields-first.false (take_rest c.args.fields.now (c.place_of-first.result + 1)) c.place_of.ensures.exact c.if-place_of-behind.true

pub returns : goal.returns
returns c =
    ap Some c.as_bytes.ensures
    ∙ only_one c.args.name.now c.args.fields.now (take (length c.args.fields.now - (c.place_of-first.result + 1)) (drop (c.place_of-first.result + 1) c.args.fields.now)) c.place_of-first.result c.place_of.result c.index-fields-first.result
    c.place_of-first.ensures.exact c.if-fields-first.false (take_rest c.args.fields.now (c.place_of-first.result + 1)) c.place_of.ensures.exact c.place_of.ensures.within c.if-place_of-behind.false
