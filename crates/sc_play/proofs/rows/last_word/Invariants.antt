use Rattle.std.proofs.Common.{◌≤◌, length}
use Rattle.sc_play.proofs.rows.last_word.Given as goal

abbrev pub invariant-loop-from : goal.invariant-loop-from
invariant-loop-from l = l.from ≤ length l.line

abbrev pub decreases-loop-from : goal.decreases-loop-from
decreases-loop-from l = l.from
