-- What a clause says of a board and its passes. This project's own.
use Rattle.std.specs.Prelude.{◌≡◌, ◌≤◌, ◌<◌, ◌+◌, ℕ, List, ◌++◌, Option, Some, length, map, option_map}
use Rattle.std.specs.List.{AllByRecursion, slice_get}
use Rattle.crossbeam_queue.specs.Passes.{view, IsPassOf, ruled_capacity}
use Rattle.sc_terms.specs.declared.charters.Charter.{Charter}
use Rattle.sc_terms.specs.declared.charters.ListenerCharter.{ListenerCharter}
use Rattle.sc_servlets.specs.declared.lease.Lease.{Lease}
use Rattle.sc_servlets.specs.declared.done.Done.{Done}
use Rattle.sc_servlets.specs.Stated.{servlet_at, listener_at}
use Rattle.sc_board.specs.JobRules.{new_job_view}
use Rattle.sc_board.specs.ResultRules.{new_result_view}
use Rattle.sc_board.specs.declared.board.Board.{Board}
use Rattle.sc_board.specs.declared.jobs.JobView.{JobView}
use Rattle.sc_board.specs.declared.pass.BoardPass.{BoardPass}
use Rattle.sc_board.specs.declared.results.ResultView.{ResultView}

-- what a pass knows of the queue of jobs
abbrev pub jobs_of : BoardPass → JobView
jobs_of pass = view pass.jobs

-- what a pass knows of the queue of results
abbrev pub results_of : BoardPass → ResultView
results_of pass = view pass.results

-- how many jobs the board holds at most, and how many results
abbrev pub room_of : Board → ℕ
room_of board = ruled_capacity board.jobs

-- it came from this board, by its `new` or a `split`
abbrev pub IsOf : Board → BoardPass → Type 0
IsOf board pass = IsPassOf board.jobs pass.jobs × IsPassOf board.results pass.results

-- the result has the charters of whom its event calls, of those that the kinds state
abbrev pub IsMadeBy : List (Charter × Option ListenerCharter) → Done → Type 0
IsMadeBy charters done =
    (option_map (servlet_at done.lease.event) (slice_get charters done.lease.kind)
    ≡ Some done.charter)
    × (option_map (listener_at done.lease.event) (slice_get charters done.lease.kind)
    ≡ Some done.listener)

-- a pass that was split off, and was not used
abbrev pub IsNewPass : Board → ℕ → BoardPass → Type 0
IsNewPass board kinds pass =
    IsOf board pass × (jobs_of pass ≡ new_job_view kinds) × (results_of pass ≡ new_result_view)

-- a worker's pass, with a catalogue of so many kinds
abbrev pub MayWork : Board → ℕ → BoardPass → Type 0
MayWork board kinds pass = IsOf board pass × ((jobs_of pass).kinds ≤ kinds)

-- a pass of a worker that may make the turn of each lease that it is to take
abbrev pub MayMake : Board → (Lease → Type 0) → BoardPass → Type 0
MayMake board may pass =
    IsOf board pass × ((lease : Lease) → lease.kind < (jobs_of pass).kinds → may lease)

-- the leases of which these results were made
abbrev pub leases_of : List Done → List Lease
leases_of results = map (λ (done : Done). done.lease) results

-- since `old` the pass took some leases and so many stops, and brought the results that were made
-- of these leases, in order; all else is as it was, its hand too
pub record HasWorked (board : Board) (IsMade : Done → Type 0) (stops : ℕ)
    (old new : BoardPass) : Type 0 where
  pub is_of : IsOf board new
  pub made : List Done
  pub are_made : AllByRecursion IsMade made
  pub jobs_are : jobs_of new
      ≡ record (jobs_of old) {
        taken = (jobs_of old).taken ++ leases_of made;
        stops = (jobs_of old).stops + stops;
      }
  pub results_are : results_of new
      ≡ record (results_of old) { brought = (results_of old).brought ++ made }

-- each pass of these has worked until it took a stop, and stands at its place among the others
pub record HaveWorked (board : Board) (IsMade : Done → Type 0)
    (passes ended : List BoardPass) : Type 0 where
  pub as_many : length ended ≡ length passes
  pub each : (i : ℕ) (old new : BoardPass) → slice_get passes i ≡ Some old
      → slice_get ended i ≡ Some new → HasWorked board IsMade 1 old new
