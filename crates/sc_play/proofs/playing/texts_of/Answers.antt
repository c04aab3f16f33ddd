use Rattle.std.proofs.Common.{arith}
use Rattle.std.specs.Prelude.{string_bytes}
use Rattle.sc_replay.proofs.Words.{words_text}
use Rattle.sc_play.proofs.playing.texts_of.Goals as goal

pub returns-then-is_play-clause-config : goal.returns-then-is_play-clause-config
returns-then-is_play-clause-config c = words_text string_bytes c.args.words.now c.config-item.result 1 (omega (arith, c.in-len4.len_at_least)) c.config-item.is

pub returns-then-is_play-clause-dar : goal.returns-then-is_play-clause-dar
returns-then-is_play-clause-dar c = words_text string_bytes c.args.words.now c.dar-item.result 2 (omega (arith, c.in-len4.len_at_least)) c.dar-item.is

pub returns-then-is_play-clause-recording : goal.returns-then-is_play-clause-recording
returns-then-is_play-clause-recording c = words_text string_bytes c.args.words.now c.recording-item.result 3 (omega (arith, c.in-len4.len_at_least)) c.recording-item.is
