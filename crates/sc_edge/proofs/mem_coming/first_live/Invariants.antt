use Rattle.std.proofs.Common.{◌≡◌, ◌-◌, length}
use Rattle.std.proofs.Math.ListN.{drop}
use Rattle.sc_edge.specs.EdgeComing.{left_of, live_from}
use Rattle.sc_edge.proofs.mem_coming.first_live.Given as goal

-- what was passed over changes nothing
abbrev pub invariant-loop-next : goal.invariant-loop-next
invariant-loop-next l =
    live_from l.places (left_of l.from (drop l.next l.items)) ≡ live_from l.fn.places (left_of l.fn.from (drop l.fn.next l.fn.items))

abbrev pub decreases-loop-next : goal.decreases-loop-next
decreases-loop-next l = length l.items - l.next
