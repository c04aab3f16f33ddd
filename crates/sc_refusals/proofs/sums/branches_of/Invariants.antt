use Rattle.std.proofs.Common.{◌≡◌, take, min, sum_by}
use Rattle.sc_refusals.proofs.sums.branches_of.Given as goal

abbrev pub invariant-loop-request : goal.invariant-loop-request
invariant-loop-request l = l.sum ≡ min (sum_by (λ request. request.branches) (take l.request-index l.requests)) 18446744073709551615
