use Rattle.std.proofs.Common.{◌≡◌, ◌≤◌, drop, take}
use Rattle.sc_queue.proofs.long_lists.copied.Given as goal

abbrev pub invariant-loop-at : goal.invariant-loop-at
invariant-loop-at g l = (l.from ≤ l.at) × (l.items ≡ drop l.from (take l.at l.all))
