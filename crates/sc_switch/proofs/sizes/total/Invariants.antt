use Rattle.std.proofs.Common.{◌≡◌, take, min, sum_by}
use Rattle.sc_switch.proofs.sizes.total.Given as goal

abbrev pub invariant-loop-item : goal.invariant-loop-item
invariant-loop-item g l = l.sum ≡ min (sum_by g.T.Measured.size (take l.item-index l.items)) 18446744073709551615
