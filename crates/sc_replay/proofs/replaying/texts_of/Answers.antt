use Rattle.std.proofs.Common.{refl, arith}
use Rattle.std.specs.Prelude.{string_bytes}
use Rattle.sc_replay.specs.Replaying.{replay_word}
use Rattle.sc_replay.proofs.Words.{words_replay, words_first, words_text}
use Rattle.sc_replay.proofs.replaying.texts_of.Goals as goal

pub returns-then-is_word-clause-replay : goal.returns-then-is_word-clause-replay
unfolding replay_word
returns-then-is_word-clause-replay c =
    (λ t. words_replay string_bytes c.args.words.now c.word-item.result c.in-len4.len_at_least c.in-len4.len_below c.word-item.is (c.if-is_word.ensures.0 refl), λ is. refl)

pub returns-then-is_word-clause-config : goal.returns-then-is_word-clause-config
returns-then-is_word-clause-config c = words_text string_bytes c.args.words.now c.config-item.result 1 (omega (arith, c.in-len4.len_at_least)) c.config-item.is

pub returns-then-is_word-clause-dar : goal.returns-then-is_word-clause-dar
returns-then-is_word-clause-dar c = words_text string_bytes c.args.words.now c.dar-item.result 2 (omega (arith, c.in-len4.len_at_least)) c.dar-item.is

pub returns-then-is_word-clause-script : goal.returns-then-is_word-clause-script
returns-then-is_word-clause-script c = words_text string_bytes c.args.words.now c.script-item.result 3 (omega (arith, c.in-len4.len_at_least)) c.script-item.is

pub returns-else-is_word-clause-replay : goal.returns-else-is_word-clause-replay
unfolding replay_word
returns-else-is_word-clause-replay c = (
  λ t. words_replay string_bytes c.args.words.now c.word-item.result c.in-len4.len_at_least c.in-len4.len_below c.word-item.is (c.if-is_word.ensures.0 t),
  λ is. c.if-is_word.ensures.1 (words_first string_bytes c.args.words.now c.word-item.result c.in-len4.len_at_least c.word-item.is is),
)
