use Rattle.std.proofs.Common.{◌≤◌, ◌-◌, take, length}
use Rattle.sc_play.proofs.PlayLaws.{HasPlayed}
use Rattle.sc_play.proofs.running.play_rows.Given as goal

-- the rows before were played
abbrev pub invariant-loop-at : goal.invariant-loop-at
invariant-loop-at g l = record {
  within : l.at ≤ length l.text;
  played : HasPlayed l.fn.player.switch (g.K.Sink.took l.fn.out) (take l.at l.text) l.player.switch l.counts (g.K.Sink.took l.out);
}

abbrev pub decreases-loop-at : goal.decreases-loop-at
decreases-loop-at g l = length l.text - l.at
