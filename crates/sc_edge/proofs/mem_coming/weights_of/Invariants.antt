use Rattle.std.proofs.Common.{◌≡◌, take}
use Rattle.sc_edge.specs.EdgeComing.{weights}
use Rattle.sc_edge.proofs.mem_coming.weights_of.Given as goal

abbrev pub invariant-loop-item : goal.invariant-loop-item
invariant-loop-item l = l.total ≡ weights (take l.item-index l.items)
