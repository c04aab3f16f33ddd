use Rattle.std.proofs.Common.{◌≡◌, ◌≤◌, length, drop}
use Rattle.sc_hosts.specs.Working.{in_order}
use Rattle.sc_work.proofs.ending.in_order.Given as goal

abbrev pub invariant-loop-left : goal.invariant-loop-left
invariant-loop-left l = record { within : l.left ≤ length l.numbers; sorted : l.sorted.items ≡ in_order (drop l.left l.numbers) }

abbrev pub decreases-loop-left : goal.decreases-loop-left
decreases-loop-left l = l.left
