-- The rule of the queue of jobs, and the steps of its passes. This project's own.
use Rattle.std.specs.Prelude.{◌≡◌, ◌<◌, ◌≤◌, ◌+◌, ◌-◌, ◌||◌, ℕ, Bool, true, false, cond, List, [], ◌∷◌, ◌++◌, length, max, Option, nat_eq, if◌then◌else◌}
use Rattle.std.specs.List.{sum_by, find, AllByRecursion}
use mathlib.Core.Option.{some}
use lib.ListN.{get_elem?}
use Rattle.sc_servlets.specs.declared.lease.Lease.{Lease}
use Rattle.sc_board.specs.declared.job.Job.{Job}
use Rattle.sc_board.specs.declared.job.Job.TheVariants as jobs
use Rattle.sc_board.specs.declared.jobs.JobView.{JobView}

-- a lease weighs what h says, a stop nothing
abbrev pub job_weight : (Lease → ℕ) → Job → ℕ
job_weight h (jobs.Turn lease) = h lease
job_weight h jobs.Stop = 0

-- a stop weighs one, a lease nothing
abbrev pub stop_weight : Job → ℕ
stop_weight (jobs.Turn lease) = 0
stop_weight jobs.Stop = 1

-- the pass that posts weighs one, each other nothing
abbrev pub first_weight : Bool → ℕ
first_weight first = cond first 1 0

-- the job's kind is one of the catalogue, which has so many
abbrev pub JobFits : ℕ → Job → Type 0
JobFits kinds (jobs.Turn lease) = lease.kind < kinds
JobFits kinds jobs.Stop = Unit {0}

-- the lease's number is above this one
abbrev pub IsAbove : ℕ → Job → Type 0
IsAbove last (jobs.Turn lease) = last < lease.number
IsAbove last jobs.Stop = Unit {0}

-- each number is above those before it
abbrev pub Rises : List Lease → Type 0
Rises [] = Unit {0}
Rises (lease ∷ later) =
    AllByRecursion (λ (next : Lease). lease.number < next.number) later × Rises later

-- the numbers of the leases are at most this one
abbrev pub AreUpTo : ℕ → List Lease → Type 0
AreUpTo last leases = AllByRecursion (λ (lease : Lease). lease.number ≤ last) leases

-- the newest lease of this number in a hand
abbrev pub in_hand : ℕ → List Lease → Option Lease
in_hand number hand = find (λ lease. nat_eq lease.number number) hand

-- the hand without that lease
abbrev pub without : ℕ → List Lease → List Lease
without number [] = []
without number (lease ∷ older) =
    if nat_eq lease.number number then older else lease ∷ without number older

-- the view of the pass that posts, as the board is made: it has all 1,024 parts
abbrev pub first_job_view : ℕ → JobView
first_job_view kinds =
    record {
      first = true;
      parts = 1024;
      kinds = kinds;
      posted = [];
      last = 0;
      told = 0;
      taken = [];
      stops = 0;
      hand = [];
    }

-- the view of a pass as it is split off: it has one part
abbrev pub new_job_view : ℕ → JobView
new_job_view kinds =
    record {
      first = false;
      parts = 1;
      kinds = kinds;
      posted = [];
      last = 0;
      told = 0;
      taken = [];
      stops = 0;
      hand = [];
    }

-- the view of a pass that was joined to another one: it has no part
abbrev pub spent_job_view : JobView
spent_job_view =
    record {
      first = false;
      parts = 0;
      kinds = 0;
      posted = [];
      last = 0;
      told = 0;
      taken = [];
      stops = 0;
      hand = [];
    }

-- a pass after one was split off from it, which takes one of its parts
abbrev pub job_view_left : JobView → JobView
job_view_left v = record v { parts = v.parts - 1 }

-- a pass after another one was joined to it
abbrev pub joined_job_view : JobView → JobView → JobView
joined_job_view v w = record {
  first = v.first || w.first;
  parts = v.parts + w.parts;
  kinds = v.kinds;
  posted = v.posted ++ w.posted;
  last = max v.last w.last;
  told = v.told + w.told;
  taken = v.taken ++ w.taken;
  stops = v.stops + w.stops;
  hand = v.hand ++ w.hand;
}

-- a pass after it posted this job
abbrev pub after_post : JobView → Job → JobView
after_post v (jobs.Turn lease) = record v { posted = v.posted ++ lease ∷ []; last = lease.number }
after_post v jobs.Stop = record v { told = v.told + 1 }

-- a pass after it took this job, a lease into its hand
abbrev pub after_take : JobView → Job → JobView
after_take v (jobs.Turn lease) = record v { taken = v.taken ++ lease ∷ []; hand = lease ∷ v.hand }
after_take v jobs.Stop = record v { stops = v.stops + 1 }

-- the pass took this job, which fits its catalogue
abbrev pub Took : JobView → Job → JobView → Type 0
Took v job w = (w ≡ after_take v job) × JobFits v.kinds job

-- what the first pass knows of the jobs in the queue: it posted them
abbrev pub WasPosted : JobView → List Job → Type 0
WasPosted v items =
    ((h : Lease → ℕ) → sum_by (job_weight h) items ≤ sum_by h v.posted)
    × (length items ≤ length v.posted + v.told)

-- what a pass with all parts knows: what it posted, however leases are weighed, is what it took and
-- what the queue holds
abbrev pub IsJobWhole : JobView → List Job → Type 0
IsJobWhole v items =
    v.parts ≡ 1024
    → ((h : Lease → ℕ) → sum_by h v.posted ≡ sum_by h v.taken + sum_by (job_weight h) items)
    × Rises v.posted

-- what holds of each pass: one that doesn't post has posted nothing, and numbers that were posted
-- rise
pub record IsJobView (kinds : ℕ) (v : JobView) : Type 0 where
  pub plain : v.first ≡ false → (v.posted ≡ []) × (v.last ≡ 0) × (v.told ≡ 0)
  pub spent : v.parts ≡ 0 → v ≡ spent_job_view
  pub kinds_are : 0 < v.parts → v.kinds ≡ kinds
  pub rises : Rises v.posted
  pub upto : AreUpTo v.last v.posted

-- Each lease that was posted is in the queue or was taken by one pass, once: however leases are
-- weighed, all that was posted weighs what the queue holds and all passes took. One pass alone
-- posts.
pub record JobsKept (items : List Job) (views : List JobView) : Type 0 where
  pub kinds : ℕ
  pub parts : sum_by (λ (v : JobView). v.parts) views ≡ 1024
  pub one : sum_by (λ (v : JobView). first_weight v.first) views ≡ 1
  pub balanced : (h : Lease → ℕ)
      → sum_by (λ (v : JobView). sum_by h v.posted) views
      ≡ sum_by (λ (v : JobView). sum_by h v.taken) views + sum_by (job_weight h) items
  pub stopped : sum_by (λ (v : JobView). v.told) views
      ≡ sum_by (λ (v : JobView). v.stops) views + sum_by stop_weight items
  pub views_are : (port : ℕ) (v : JobView) → get_elem? views port ≡ some v → IsJobView kinds v
  pub fits : AllByRecursion (JobFits kinds) items
