-- Each step of a pass keeps the rule of the queue of jobs.
use Rattle.std.proofs.Common.{◌≡◌, ◌≢◌, ℕ, ◌+◌, ◌<◌, ◌≤◌, ◌||◌, max, Bool, true, false, true≢false, List, [], ◌∷◌, ◌++◌, length, set, sym, refl, ap, ◌∙◌, subst, ⊎_elim, append-nil, arith}
use Rattle.std.specs.List.{sum_by, AllByRecursion}
use Rattle.std.proofs.lemmas.List.Sums.{sum_by-cons, sum_by-append, sum_by_push}
use mathlib.Core.Option.{some}
use lib.ListN.{get_elem?}
use Rattle.crossbeam_queue.specs.Fifo.{Pushes, Pops, Forks, Merges, Learns}
use Rattle.crossbeam_queue.proofs.Lists.{at_set}
use Rattle.sc_servlets.specs.declared.lease.Lease.{Lease}
use Rattle.sc_board.specs.declared.job.Job.{Job}
use Rattle.sc_board.specs.declared.job.Job.TheVariants as jobs
use Rattle.sc_board.specs.declared.jobs.JobView.{JobView}
use Rattle.sc_board.specs.JobRules.{AreUpTo, IsAbove, IsJobView, IsJobWhole, JobFits, JobsKept, Rises, Took, WasPosted, after_post, after_take, first_job_view, first_weight, job_view_left, job_weight, joined_job_view, new_job_view, spent_job_view, stop_weight, without}
use Rattle.sc_board.proofs.Totals.{Each, all_more, all_snoc, alone, each_one, each_set, each_snoc, either_way, others_none, some_or_none, total_set, total_snoc}

rises_snoc : (leases : List Lease) (next : Lease) → Rises leases → AllByRecursion (λ (lease : Lease). lease.number < next.number) leases → Rises (leases ++ next ∷ [])
rises_snoc [] next rises below = (tt, tt)
rises_snoc (lease ∷ later) next rises below = (all_snoc (λ (other : Lease). lease.number < other.number) later next rises.0 below.0, rises_snoc later next rises.1 below.1)

counted : (items : List Job) → length items ≡ sum_by (job_weight (λ (lease : Lease). 1)) items + sum_by stop_weight items
counted [] = refl
counted (jobs.Turn lease ∷ items) =
    let a = sum_by-cons (job_weight (λ (l : Lease). 1)) (jobs.Turn lease) items in
    let b = sum_by-cons stop_weight (jobs.Turn lease) items in
    let later = counted items in
    omega (arith, a, b, later)
counted (jobs.Stop ∷ items) =
    let a = sum_by-cons (job_weight (λ (l : Lease). 1)) jobs.Stop items in
    let b = sum_by-cons stop_weight jobs.Stop items in
    let later = counted items in
    omega (arith, a, b, later)

ones : (leases : List Lease) → sum_by (λ (lease : Lease). 1) leases ≡ length leases
ones [] = refl
ones (lease ∷ later) = let a = sum_by-cons (λ (l : Lease). 1) lease later in let rest = ones later in omega (arith, a, rest)

-- the pass that posts has a part
posting : (kinds : ℕ) (v : JobView) → IsJobView kinds v → v.first ≡ true → 0 < v.parts
posting kinds v is first = ⊎_elim (λ (none : v.parts ≡ 0). absurd (true≢false (sym first ∙ ap (λ (u : JobView). u.first) (is.spent none)))) (λ (some_part : 0 < v.parts). some_part) (some_or_none v.parts)

no_weight : (b : Bool) → first_weight b ≡ 0 → b ≡ false
no_weight true none = absurd (omega (arith, none))
no_weight false none = refl

-- in a step of one view, what was posted grows by as much as what was taken and what is queued
kept : (items after : List Job) (views : List JobView) (port : ℕ) (v w : JobView) → (h : JobsKept items views) → get_elem? views port ≡ some v
    → w.parts ≡ v.parts → w.first ≡ v.first
    → ((f : Lease → ℕ) → sum_by f w.posted + (sum_by f v.taken + sum_by (job_weight f) items) ≡ sum_by f v.posted + (sum_by f w.taken + sum_by (job_weight f) after))
    → w.told + (v.stops + sum_by stop_weight items) ≡ v.told + (w.stops + sum_by stop_weight after)
    → IsJobView h.kinds w → AllByRecursion (JobFits h.kinds) after → JobsKept after (set views port w)
kept items after views port v w h at parts first weighs stops is fits = record {
  kinds = h.kinds;
  parts = let s = total_set (λ (u : JobView). u.parts) views port v w at in let p = h.parts in omega (arith, s, p, parts);
  one = let s = total_set (λ (u : JobView). first_weight u.first) views port v w at in let p = h.one in let same = ap first_weight first in omega (arith, s, p, same);
  balanced = λ f.
      let s = total_set (λ (u : JobView). sum_by f u.posted) views port v w at in
      let t = total_set (λ (u : JobView). sum_by f u.taken) views port v w at in
      let p = h.balanced f in
      let q = weighs f in
      omega (arith, s, t, p, q);
  stopped =
      let s = total_set (λ (u : JobView). u.told) views port v w at in
      let t = total_set (λ (u : JobView). u.stops) views port v w at in
      let p = h.stopped in
      omega (arith, s, t, p, stops);
  views_are = each_set (IsJobView h.kinds) views port w is h.views_are;
  fits = fits;
}

pub begins : JobsKept [] (first_job_view 0 ∷ [])
begins = record {
  kinds = 0;
  parts = refl;
  one = refl;
  balanced = λ f. refl;
  stopped = refl;
  views_are = each_one (IsJobView 0) (first_job_view 0)
      (record { plain = λ other. absurd (true≢false other); spent = λ none. absurd (omega (arith, none)); kinds_are = λ _. refl; rises = tt; upto = tt });
  fits = tt;
}

fitting : (kinds of : ℕ) (job : Job) → of ≡ kinds → JobFits of job → JobFits kinds job
fitting kinds of job same fits = subst (λ n. JobFits n job) same fits

after_post_is : (kinds : ℕ) (v : JobView) (job : Job) → IsJobView kinds v → v.first ≡ true → IsAbove v.last job → IsJobView kinds (after_post v job)
after_post_is kinds v (jobs.Turn lease) is first above = record {
  plain = λ other. absurd (true≢false (sym first ∙ other));
  spent = λ none. let some_part = posting kinds v is first in absurd (omega (arith, none, some_part));
  kinds_are = is.kinds_are;
  rises = rises_snoc v.posted lease is.rises (all_more (λ (l : Lease). l.number ≤ v.last) (λ (l : Lease). l.number < lease.number) v.posted (λ l le. omega (arith, le, above)) is.upto);
  upto = all_snoc (λ (l : Lease). l.number ≤ lease.number) v.posted lease (all_more (λ (l : Lease). l.number ≤ v.last) (λ (l : Lease). l.number ≤ lease.number) v.posted (λ l le. omega (arith, le, above)) is.upto) (omega arith);
}
after_post_is kinds v jobs.Stop is first above = record {
  plain = λ other. absurd (true≢false (sym first ∙ other));
  spent = λ none. let some_part = posting kinds v is first in absurd (omega (arith, none, some_part));
  kinds_are = is.kinds_are;
  rises = is.rises;
  upto = is.upto;
}

pub posts : (n port : ℕ) (v : JobView) (job : Job) → v.first ≡ true → JobFits v.kinds job → IsAbove v.last job → Pushes JobsKept n port v job (λ w. w ≡ after_post v job)
posts n port v (jobs.Turn lease) first fits above items views room h at =
    let is = h.views_are port v at in
    let some_part = posting h.kinds v is first in
    let w = after_post v (jobs.Turn lease) in (
      w,
      kept items (items ++ jobs.Turn lease ∷ []) views port v w h at refl refl
          (λ f. let a = sum_by_push f v.posted lease in let b = sum_by_push (job_weight f) items (jobs.Turn lease) in omega (arith, a, b))
          (let b = sum_by_push stop_weight items (jobs.Turn lease) in omega (arith, b))
          (after_post_is h.kinds v (jobs.Turn lease) is first above)
          (all_snoc (JobFits h.kinds) items (jobs.Turn lease) h.fits (fitting h.kinds v.kinds (jobs.Turn lease) (is.kinds_are some_part) fits)),
      refl,
    )
posts n port v jobs.Stop first fits above items views room h at =
    let is = h.views_are port v at in
    let w = after_post v jobs.Stop in (
      w,
      kept items (items ++ jobs.Stop ∷ []) views port v w h at refl refl
          (λ f. let b = sum_by_push (job_weight f) items jobs.Stop in omega (arith, b))
          (let b = sum_by_push stop_weight items jobs.Stop in omega (arith, b))
          (after_post_is h.kinds v jobs.Stop is first above)
          (all_snoc (JobFits h.kinds) items jobs.Stop h.fits tt),
      refl,
    )

-- a view that stays but for what it took and has in hand
taking : (kinds : ℕ) (v w : JobView) → 0 < v.parts → w.first ≡ v.first → w.parts ≡ v.parts → w.kinds ≡ v.kinds → w.posted ≡ v.posted → w.last ≡ v.last → w.told ≡ v.told
    → IsJobView kinds v → IsJobView kinds w
taking kinds v w some_part first parts kinds_same posted last told is = record {
  plain = λ other. let none = is.plain (sym first ∙ other) in (posted ∙ none.0, last ∙ none.1, told ∙ none.2);
  spent = λ none. absurd (omega (arith, none, parts, some_part));
  kinds_are = λ _. kinds_same ∙ is.kinds_are some_part;
  rises = subst Rises (sym posted) is.rises;
  upto = subst (λ n. AreUpTo n w.posted) (sym last) (subst (AreUpTo v.last) (sym posted) is.upto);
}

pub takes : (port : ℕ) (v : JobView) → 0 < v.parts → Pops JobsKept port v (Took v)
takes port v some_part (jobs.Turn lease) items views h at =
    let is = h.views_are port v at in
    let w = after_take v (jobs.Turn lease) in (
      w,
      kept (jobs.Turn lease ∷ items) items views port v w h at refl refl
          (λ f. let a = sum_by_push f v.taken lease in let b = sum_by-cons (job_weight f) (jobs.Turn lease) items in omega (arith, a, b))
          (let b = sum_by-cons stop_weight (jobs.Turn lease) items in omega (arith, b))
          (taking h.kinds v w some_part refl refl refl refl refl refl is)
          h.fits.1,
      (refl, fitting v.kinds h.kinds (jobs.Turn lease) (sym (is.kinds_are some_part)) h.fits.0),
    )
takes port v some_part jobs.Stop items views h at =
    let is = h.views_are port v at in
    let w = after_take v jobs.Stop in (
      w,
      kept (jobs.Stop ∷ items) items views port v w h at refl refl
          (λ f. let b = sum_by-cons (job_weight f) jobs.Stop items in omega (arith, b))
          (let b = sum_by-cons stop_weight jobs.Stop items in omega (arith, b))
          (taking h.kinds v w some_part refl refl refl refl refl refl is)
          h.fits.1,
      (refl, tt),
    )

spent_is : (kinds : ℕ) → IsJobView kinds spent_job_view
spent_is kinds = record { plain = λ _. (refl, refl, refl); spent = λ _. refl; kinds_are = λ part. absurd (omega (arith, part)); rises = tt; upto = tt }

-- a pass is split: the two views that come weigh what the one did
parted : (items : List Job) (views : List JobView) (port : ℕ) (v left right : JobView) → (h : JobsKept items views) → get_elem? views port ≡ some v
    → left.parts + right.parts ≡ v.parts → first_weight left.first + first_weight right.first ≡ first_weight v.first
    → ((f : Lease → ℕ) → sum_by f left.posted + sum_by f right.posted ≡ sum_by f v.posted)
    → ((f : Lease → ℕ) → sum_by f left.taken + sum_by f right.taken ≡ sum_by f v.taken)
    → left.told + right.told ≡ v.told → left.stops + right.stops ≡ v.stops
    → (kinds : ℕ) → Each (IsJobView kinds) (set views port left) → IsJobView kinds right → AllByRecursion (JobFits kinds) items
    → JobsKept items (set views port left ++ right ∷ [])
parted items views port v left right h at parts first posted taken told stops kinds lefts rights fits = record {
  kinds = kinds;
  parts = let a = total_set (λ (u : JobView). u.parts) views port v left at in let b = total_snoc (λ (u : JobView). u.parts) (set views port left) right in let p = h.parts in omega (arith, a, b, p, parts);
  one = let a = total_set (λ (u : JobView). first_weight u.first) views port v left at in let b = total_snoc (λ (u : JobView). first_weight u.first) (set views port left) right in let p = h.one in omega (arith, a, b, p, first);
  balanced = λ f.
      let a = total_set (λ (u : JobView). sum_by f u.posted) views port v left at in
      let b = total_snoc (λ (u : JobView). sum_by f u.posted) (set views port left) right in
      let c = total_set (λ (u : JobView). sum_by f u.taken) views port v left at in
      let d = total_snoc (λ (u : JobView). sum_by f u.taken) (set views port left) right in
      let p = h.balanced f in
      let q = posted f in
      let r = taken f in
      omega (arith, a, b, c, d, p, q, r);
  stopped =
      let a = total_set (λ (u : JobView). u.told) views port v left at in
      let b = total_snoc (λ (u : JobView). u.told) (set views port left) right in
      let c = total_set (λ (u : JobView). u.stops) views port v left at in
      let d = total_snoc (λ (u : JobView). u.stops) (set views port left) right in
      let p = h.stopped in
      omega (arith, a, b, c, d, p, told, stops);
  views_are = each_snoc (IsJobView kinds) (set views port left) right rights lefts;
  fits = fits;
}

pub splits : (port : ℕ) (v : JobView) → 1 < v.parts → Forks JobsKept port v (job_view_left v) (new_job_view v.kinds)
splits port v more items views h at =
    let is = h.views_are port v at in
    parted items views port v (job_view_left v) (new_job_view v.kinds) h at (omega (arith, more)) (omega arith) (λ f. omega arith) (λ f. omega arith) (omega arith) (omega arith) h.kinds
    (each_set (IsJobView h.kinds) views port (job_view_left v)
    (record { plain = is.plain; spent = λ none. absurd (omega (arith, none, more)); kinds_are = λ _. is.kinds_are (omega (arith, more)); rises = is.rises; upto = is.upto })
    h.views_are)
    (record { plain = λ _. (refl, refl, refl); spent = λ none. absurd (omega (arith, none)); kinds_are = λ _. is.kinds_are (omega (arith, more)); rises = tt; upto = tt })
    h.fits

pub lets_go : (number port : ℕ) (v : JobView) → 0 < v.parts → Forks JobsKept port v (record v { hand = without number v.hand }) spent_job_view
lets_go number port v some_part items views h at =
    let is = h.views_are port v at in
    let w : JobView = record v { hand = without number v.hand } in
    parted items views port v w spent_job_view h at (omega arith) (omega arith) (λ f. omega arith) (λ f. omega arith) (omega arith) (omega arith) h.kinds
    (each_set (IsJobView h.kinds) views port w (taking h.kinds v w some_part refl refl refl refl refl refl is) h.views_are)
    (spent_is h.kinds)
    h.fits

unbounded : (kinds : ℕ) (job : Job) → JobFits 0 job → JobFits kinds job
unbounded kinds (jobs.Turn lease) fits = absurd (omega (arith, fits))
unbounded kinds jobs.Stop fits = tt

-- the bound is set while one pass has all parts, nothing was posted, and all others are spent
pub bounds : (kinds port : ℕ) → Forks JobsKept port (first_job_view 0) (first_job_view kinds) spent_job_view
bounds kinds port items views h at =
    let none = others_none (λ (u : JobView). u.parts) views port (first_job_view 0) at h.parts in
    parted items views port (first_job_view 0) (first_job_view kinds) spent_job_view h at refl refl (λ f. refl) (λ f. refl) refl refl kinds
    (λ j u there. ⊎_elim
    (λ (x : (j ≡ port) × (first_job_view kinds ≡ u)). subst (IsJobView kinds) x.1
    (record { plain = λ other. absurd (true≢false other); spent = λ no. absurd (omega (arith, no)); kinds_are = λ _. refl; rises = tt; upto = tt }))
    (λ (x : (j ≢ port) × (get_elem? views j ≡ some u)). subst (IsJobView kinds) (sym ((h.views_are j u x.1).spent (none j u x.0 x.1))) (spent_is kinds))
    (at_set views port j (first_job_view kinds) u there))
    (spent_is kinds)
    (all_more (JobFits h.kinds) (JobFits kinds) items (λ job fits. unbounded kinds job (fitting 0 h.kinds job (sym ((h.views_are port (first_job_view 0) at).kinds_are (omega arith))) fits)) h.fits)

one_posts : (items : List Job) (views : List JobView) (port : ℕ) (v : JobView) (other : ℕ) (w : JobView) → JobsKept items views → get_elem? views port ≡ some v → other ≢ port → get_elem? views other ≡ some w
    → v.first ≡ true → w.first ≡ false
one_posts items views port v other w h at apart there first =
    no_weight w.first (others_none (λ (u : JobView). first_weight u.first) views port v at (h.one ∙ sym (ap first_weight first)) other w apart there)

-- both views of a join, of which one at most posts
both_are : (kinds : ℕ) (v w : JobView) → 0 < v.parts → 0 < w.parts → (v.first ≡ true → w.first ≡ false) → IsJobView kinds v → IsJobView kinds w → IsJobView kinds (joined_job_view v w)
both_are kinds v w part other one is other_is = ⊎_elim
    (λ (first : v.first ≡ true).
    let none = other_is.plain (one first) in
    record {
      plain = λ neither. absurd (true≢false (sym (ap (λ b. b || w.first) first) ∙ neither));
      spent = λ no. absurd (omega (arith, no, part));
      kinds_are = λ _. is.kinds_are part;
      rises = subst Rises (sym (ap (λ xs. v.posted ++ xs) none.0 ∙ append-nil v.posted)) is.rises;
      upto = subst (AreUpTo (max v.last w.last)) (sym (ap (λ xs. v.posted ++ xs) none.0 ∙ append-nil v.posted))
          (all_more (λ (l : Lease). l.number ≤ v.last) (λ (l : Lease). l.number ≤ max v.last w.last) v.posted (λ l le. omega (arith, le)) is.upto);
    })
    (λ (second : v.first ≡ false).
    let none = is.plain second in
    record {
      plain = λ neither.
          let no = other_is.plain (sym (ap (λ b. b || w.first) second) ∙ neither) in
          (ap (λ xs. xs ++ w.posted) none.0 ∙ no.0, omega (arith, none.1, no.1), omega (arith, none.2, no.2));
      spent = λ no. absurd (omega (arith, no, part));
      kinds_are = λ _. is.kinds_are part;
      rises = subst Rises (sym (ap (λ xs. xs ++ w.posted) none.0)) other_is.rises;
      upto = subst (AreUpTo (max v.last w.last)) (sym (ap (λ xs. xs ++ w.posted) none.0))
          (all_more (λ (l : Lease). l.number ≤ w.last) (λ (l : Lease). l.number ≤ max v.last w.last) w.posted (λ l le. omega (arith, le)) other_is.upto);
    })
    (either_way v.first)

weight_of_both : (a b : Bool) → (a ≡ true → b ≡ false) → first_weight (a || b) ≡ first_weight a + first_weight b
weight_of_both true b one = sym (ap (λ c. 1 + first_weight c) (one refl))
weight_of_both false b one = omega arith

pub merges : (port : ℕ) (v : JobView) (other : ℕ) (w : JobView) → 0 < v.parts → 0 < w.parts → Merges JobsKept port v other w (joined_job_view v w) spent_job_view
merges port v other w part other_part items views h at apart there =
    let both = joined_job_view v w in
    let vs = set views port both in
    let was : get_elem? views other ≡ some w = ⊎_elim (λ (x : (other ≡ port) × (both ≡ w)). absurd (apart x.0)) (λ (x : (other ≢ port) × (get_elem? views other ≡ some w)). x.1) (at_set views port other both w there) in
    let one = one_posts items views port v other w h at apart was in
    let twice : (f : JobView → ℕ) → f both ≡ f v + f w → f spent_job_view ≡ 0 → sum_by f (set vs other spent_job_view) ≡ sum_by f views = λ f adds none.
    let a = total_set f views port v both at in
    let b = total_set f vs other w spent_job_view there in
    omega (arith, a, b, adds, none) in
    record {
      kinds = h.kinds;
      parts = twice (λ (u : JobView). u.parts) refl refl ∙ h.parts;
      one = twice (λ (u : JobView). first_weight u.first) (weight_of_both v.first w.first one) refl ∙ h.one;
      balanced = λ f.
          let a = twice (λ (u : JobView). sum_by f u.posted) (sum_by-append f v.posted w.posted) refl in
          let b = twice (λ (u : JobView). sum_by f u.taken) (sum_by-append f v.taken w.taken) refl in
          let p = h.balanced f in
          omega (arith, a, b, p);
      stopped = let a = twice (λ (u : JobView). u.told) refl refl in let b = twice (λ (u : JobView). u.stops) refl refl in let p = h.stopped in omega (arith, a, b, p);
      views_are = each_set (IsJobView h.kinds) vs other spent_job_view (spent_is h.kinds)
          (each_set (IsJobView h.kinds) views port both (both_are h.kinds v w part other_part one (h.views_are port v at) (h.views_are other w was)) h.views_are);
      fits = h.fits;
    }

pub was_posted : (port : ℕ) (v : JobView) → v.first ≡ true → Learns JobsKept port v (WasPosted v)
was_posted port v first items views h at =
    let all : sum_by (λ (u : JobView). first_weight u.first) views ≡ first_weight v.first = h.one ∙ sym (ap first_weight first) in
    let mine : (f : JobView → ℕ) → ((u : JobView) → u.posted ≡ [] → u.told ≡ 0 → f u ≡ 0) → sum_by f views ≡ f v = λ f light.
    alone f (λ (u : JobView). first_weight u.first) views port v at (λ j u there none. let no = (h.views_are j u there).plain (no_weight u.first none) in light u no.0 no.2) all in
    let weighs : (f : Lease → ℕ) → sum_by (job_weight f) items ≤ sum_by f v.posted = λ f.
    let a = mine (λ (u : JobView). sum_by f u.posted) (λ u none _. ap (sum_by f) none) in
    let p = h.balanced f in
    omega (arith, a, p) in (
      weighs,
      let a = counted items in
          let b = weighs (λ (l : Lease). 1) in
          let c = ones v.posted in
          let d = mine (λ (u : JobView). u.told) (λ u _ none. none) in
          let p = h.stopped in
          omega (arith, a, b, c, d, p),
    )

pub is_whole : (port : ℕ) (v : JobView) → Learns JobsKept port v (IsJobWhole v)
is_whole port v items views h at all_parts =
    let all : sum_by (λ (u : JobView). u.parts) views ≡ v.parts = h.parts ∙ sym all_parts in
    let mine : (f : JobView → ℕ) → f spent_job_view ≡ 0 → sum_by f views ≡ f v = λ f none.
    alone f (λ (u : JobView). u.parts) views port v at (λ j u there no. ap f ((h.views_are j u there).spent no) ∙ none) all in (
      (λ f.
          let a = mine (λ (u : JobView). sum_by f u.posted) refl in
          let b = mine (λ (u : JobView). sum_by f u.taken) refl in
          let p = h.balanced f in
          omega (arith, a, b, p)),
      (h.views_are port v at).rises,
    )
