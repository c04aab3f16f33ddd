use Rattle.std.specs.Prelude.{string_bytes}
use Rattle.std.proofs.lemmas.Bool.{ltb-true, ltb-false}
use Rattle.sc_replay.proofs.CommandLaws.{settled_three, settled_other, settled_few, settled_many}
use Rattle.sc_replay.proofs.commanding.settled_names.Goals as goal
use Rattle.sc_replay.proofs.commanding.settled_names.Goals.{in_default-via-then-words-lt3, in_default-via-else-words-lt3+else-words-lt4}

pub returns-in_default : goal.returns-in_default
returns-in_default c = elim c.in_default.branch [ in_default-via-then-words-lt3 w ↦ settled_few string_bytes c.args.name.now c.args.words.now (ltb-true _ _ w.if-words-lt3-1.true) | in_default-via-else-words-lt3+else-words-lt4 w ↦ settled_many string_bytes c.args.name.now c.args.words.now (ltb-false _ _ w.if-words-lt4-1.false) ]

pub returns-then-is_word : goal.returns-then-is_word
returns-then-is_word c =
    settled_three string_bytes c.args.name.now c.args.words.now c.word-item.result c.config-item.result c.dar-item.result c.in-len3.len_at_least c.in-len3.len_below c.word-item.is c.config-item.is c.dar-item.is
    (rw (← c.as_bytes.ensures.value, ← c.is_word.ensures) c.if-is_word.true)

pub returns-else-is_word : goal.returns-else-is_word
returns-else-is_word c =
    settled_other string_bytes c.args.name.now c.args.words.now c.word-item.result c.in-len3.len_at_least c.in-len3.len_below c.word-item.is (rw (← c.as_bytes.ensures.value, ← c.is_word.ensures) c.if-is_word.false)
