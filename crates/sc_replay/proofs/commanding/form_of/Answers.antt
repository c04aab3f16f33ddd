use Rattle.std.proofs.Common.{◌∙◌}
use Rattle.std.specs.Prelude.{string_bytes}
use Rattle.sc_replay.proofs.CommandLaws.{two_words, three_words, four_words, few_words, many_words}
use Rattle.sc_replay.proofs.commanding.form_of.Goals as goal

pub returns-in-len2 : goal.returns-in-len2
returns-in-len2 c =
    c.counted_command.ensures
    ∙ rw (c.as_bytes.ensures.value, c.as_bytes-in-len2.ensures.value) (two_words string_bytes c.args.words.now c.word-item.result c.count-item.result c.in-len2.len_at_least c.in-len2.len_below c.word-item.is c.count-item.is)

pub returns-in-len3 : goal.returns-in-len3
returns-in-len3 c =
    c.settled_command.ensures
    ∙ rw c.as_bytes-in-len3.ensures.value (three_words string_bytes c.args.words.now c.word-item-then-words-lt4.result c.in-len3.len_at_least c.in-len3.len_below c.word-item-then-words-lt4.is)

pub returns-in-len4 : goal.returns-in-len4
returns-in-len4 c =
    c.scripted_command.ensures
    ∙ rw c.as_bytes-in-len4.ensures.value (four_words string_bytes c.args.words.now c.word-item-then-words-lt5.result c.in-len4.len_at_least c.in-len4.len_below c.word-item-then-words-lt5.is)

pub returns-in_default : goal.returns-in_default
returns-in_default c = few_words string_bytes c.args.words.now c.in_default.len_below

pub returns-in_default-2 : goal.returns-in_default-2
returns-in_default-2 c = many_words string_bytes c.args.words.now c.in_default.len_at_least
