use Rattle.std.proofs.Common.{◌≤◌, length}
use Rattle.sc_queue.proofs.joining.staying.Given as goal

abbrev pub invariant-loop-at : goal.invariant-loop-at
invariant-loop-at g l = l.at ≤ length l.parts

abbrev pub decreases-loop-at : goal.decreases-loop-at
decreases-loop-at g l = l.at
