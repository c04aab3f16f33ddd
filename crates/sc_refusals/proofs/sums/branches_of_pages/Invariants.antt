use Rattle.std.proofs.Common.{◌≡◌, take, min, sum_by}
use Rattle.sc_refusals.proofs.sums.branches_of_pages.Given as goal

abbrev pub invariant-loop-page : goal.invariant-loop-page
invariant-loop-page l = l.sum ≡ min (sum_by (λ page. sum_by (λ request. request.branches) page) (take l.page-index l.pages)) 18446744073709551615
