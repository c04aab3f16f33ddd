use Rattle.std.proofs.Common.{◌∙◌}
use Rattle.std.specs.Prelude.{string_bytes}
use Rattle.sc_replay.proofs.CommandLaws.{counted_two, counted_few, counted_many}
use Rattle.sc_replay.proofs.commanding.counted.Goals as goal

pub returns-in_default-clause-exact : goal.returns-in_default-clause-exact
returns-in_default-clause-exact c = counted_few string_bytes c.args.name.now c.args.words.now c.in_default.len_below

pub returns-in_default-2-clause-exact : goal.returns-in_default-2-clause-exact
returns-in_default-2-clause-exact c = counted_many string_bytes c.args.name.now c.args.words.now c.in_default.len_at_least

pub returns-clause-exact : goal.returns-clause-exact
returns-clause-exact c =
    c.count_behind.ensures.exact
    ∙ rw (c.as_bytes.ensures.value, c.as_bytes-2.ensures.value) (counted_two string_bytes c.args.name.now c.args.words.now c.word-item.result c.count-item.result c.in-len2.len_at_least c.in-len2.len_below c.word-item.is c.count-item.is)
