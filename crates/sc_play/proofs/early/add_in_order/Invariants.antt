use Rattle.std.proofs.Common.{◌≤◌, length}
use Rattle.sc_play.proofs.early.add_in_order.Given as goal

abbrev pub invariant-loop-at : goal.invariant-loop-at
invariant-loop-at l = l.at ≤ length l.early.items

abbrev pub decreases-loop-at : goal.decreases-loop-at
decreases-loop-at l = l.at
