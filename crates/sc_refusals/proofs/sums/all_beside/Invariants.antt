use Rattle.std.proofs.Common.{◌≡◌, take, min, sum_by}
use Rattle.sc_refusals.specs.AttributeSums.{bytes_beside}
use Rattle.sc_refusals.proofs.sums.all_beside.Given as goal

abbrev pub invariant-loop-field : goal.invariant-loop-field
invariant-loop-field l = l.sum ≡ min (sum_by (bytes_beside l.name) (take l.field-index l.fields)) 18446744073709551615
