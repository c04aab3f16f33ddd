-- What ties the two views of a pass. This project's own.
use Rattle.std.specs.Prelude.{◌≡◌, ◌<◌, ◌+◌, ℕ, List}
use Rattle.std.specs.List.{sum_by}
use Rattle.sc_servlets.specs.declared.lease.Lease.{Lease}
use Rattle.sc_servlets.specs.declared.done.Done.{Done}
use Rattle.sc_board.specs.declared.jobs.JobView.{JobView}
use Rattle.sc_board.specs.declared.results.ResultView.{ResultView}

-- however leases are weighed, all are those of the results and the others, each as often
abbrev pub IsMadeOf : List Lease → List Done → List Lease → Type 0
IsMadeOf all results others =
    (h : Lease → ℕ)
    → sum_by h all ≡ sum_by (λ (done : Done). h done.lease) results + sum_by h others

-- both have as many parts, one at least, and the same mark
pub record AreAlike (jobs : JobView) (results : ResultView) : Type 0 where
  pub parts_are : jobs.parts ≡ results.parts
  pub some_part : 0 < jobs.parts
  pub first_is : jobs.first ≡ results.first
