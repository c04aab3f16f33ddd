use Rattle.std.proofs.Common.{◌≡◌, take, min, length, sum_by}
use Rattle.sc_switch.proofs.lengths.lengths.Given as goal

abbrev pub invariant-loop-item : goal.invariant-loop-item
invariant-loop-item g l = l.sum ≡ min (sum_by (λ item. length (g.F.Form.form item)) (take l.item-index l.items)) 18446744073709551615
