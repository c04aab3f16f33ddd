-- The leases that are kept go on to show what there is, each of a session of its own.
use Rattle.std.proofs.Common.{◌≡◌, ◌≤◌, ◌<◌, ℕ, zero, suc, ◌+◌, ◌++◌, ◌||◌, Bool, true, false, Option, None, Some, List, [], ◌∷◌, refl, ◌∙◌, arith, length}
use Rattle.std.specs.Prelude.{◌==◌, ◌&&◌, cond, not, slice_get, filter, sum_by, nat_lt}
use Rattle.std.specs.List.{All, find, fold, list_any}
use Rattle.std.proofs.lemmas.Bool.Decides.{nat_tests}
use Rattle.std.proofs.lemmas.List.Elements.{All-nil, All-cons, All-head, All-tail}
use Rattle.std.proofs.lemmas.List.Folds.{list_any-append}
use Rattle.std.proofs.lemmas.List.Sums.{sum_by-cons}
use Rattle.sc_value.specs.declared.ids.AppId.{AppId}
use Rattle.sc_terms.specs.declared.steps.Step.{Step}
use Rattle.sc_terms.specs.declared.steps.Step.TheVariants as steps
use Rattle.sc_parts.specs.declared.setup.Setup.{Setup}
use Rattle.sc_state.specs.Hosts.{Host}
use Rattle.sc_state.specs.declared.host.Live.{Live}
use Rattle.sc_state.specs.declared.net.Net.{Net}
use Rattle.sc_servlets.specs.declared.lease.Lease.{Lease}
use Rattle.sc_hosts.specs.Inboxes.{is_live}
use Rattle.sc_hosts.specs.Nets.{host_at}
use Rattle.sc_hosts.specs.Runs.{after_step, IsAllowed, live_count}
use Rattle.sc_hosts.specs.Sessions.{Form}
use Rattle.sc_hosts.specs.Steps.{live_of, live_at}
use Rattle.sc_hosts.specs.Transacting.{is_same_app}
use Rattle.sc_runs.specs.Next.{Next, earlier, lowest, next_events}
use Rattle.sc_leases.proofs.LeaseStays.{lease-stays}
use Rattle.sc_leases.specs.Leases.{IsLeaseOf, ShowsOf, is_own, has_number, is_of, is_leased, has_other_number, without_number, is_of_other, without_app, kept_after, AreLeases, next_free}

-- ## Names

same-twice : (a b c d : ℕ) (x : Bool) → (a == b && c == d) ≡ x → (b == a && d == c) ≡ x
same-twice a b c d x is = grind (arith, nat_tests, is)

other-way : (a b : AppId) (x : Bool) → is_same_app a b ≡ x → is_same_app b a ≡ x
other-way a b x is = same-twice a.host b.host a.serial b.serial x is

pub first-not : (a b : Bool) → (a || b) ≡ false → a ≡ false
first-not true b is = is
first-not false b is = refl

pub later-not : (a b : Bool) → (a || b) ≡ false → b ≡ false
later-not true b is = cc
later-not false b is = is

pub neither : (a b : Bool) → a ≡ false → b ≡ false → (a || b) ≡ false
neither a b p q = rw (p, q) refl

not-true : (b : Bool) → not b ≡ true → b ≡ false
not-true true is = cc
not-true false is = refl

-- where none of the list is of the session, none of some of them is
filtered-none-step : (keep : Lease → Bool) (lease : Lease) (kept : List Lease) (app : AppId) (b : Bool) → is_same_app lease.app app ≡ false → list_any (is_of app) (filter keep kept) ≡ false
    → list_any (is_of app) (cond b (lease ∷ filter keep kept) (filter keep kept)) ≡ false
filtered-none-step keep lease kept app true other later = neither (is_same_app lease.app app) (list_any (is_of app) (filter keep kept)) other later
filtered-none-step keep lease kept app false other later = later

filtered-none : (keep : Lease → Bool) (kept : List Lease) (app : AppId) → is_leased kept app ≡ false → is_leased (filter keep kept) app ≡ false
unfolding is_leased
filtered-none keep [] app none = refl
filtered-none keep (lease ∷ kept) app none =
    filtered-none-step keep lease kept app (keep lease) (first-not (is_same_app lease.app app) (list_any (is_of app) kept) none) (filtered-none keep kept app (later-not (is_same_app lease.app app) (list_any (is_of app) kept) none))

-- nor after one more, of another session
none-more : (kept : List Lease) (lease : Lease) (app : AppId) → is_leased kept app ≡ false → is_same_app lease.app app ≡ false → is_leased (kept ++ lease ∷ []) app ≡ false
unfolding is_leased
none-more kept lease app none other =
    list_any-append (is_of app) kept (lease ∷ []) ∙ neither (list_any (is_of app) kept) (is_same_app lease.app app || false) none (neither (is_same_app lease.app app) false other refl)

module _ {S : Type 0} (form : Form S) (setup : Setup) where
  -- one that is kept goes on to show what there is
  abbrev pub Goes : (Lease → Bool) → Net S → Net S → Lease → Type 0
  Goes keep net after lease = keep lease ≡ true → IsLeaseOf form setup net lease → IsLeaseOf form setup after lease

  lower : (net : Net S) (kept : List Lease) (under low last : ℕ) → under ≤ low → AreLeases form setup net kept low last → AreLeases form setup net kept under last
  unfolding AreLeases
  lower net [] under low last below are = omega (arith, below, are)
  lower net (lease ∷ kept) under low last below are = (are.0, omega (arith, below, are.1), are.2, are.3)

  pub within : (net : Net S) (kept : List Lease) (low last : ℕ) → AreLeases form setup net kept low last → low ≤ last
  unfolding AreLeases
  within net [] low last are = are
  within net (lease ∷ kept) low last are = omega (arith, are.1, within net kept lease.number last are.3)

  kept-step : (keep : Lease → Bool) (net : Net S) (lease : Lease) (kept : List Lease) (low last : ℕ) (b : Bool) → (b ≡ true → IsLeaseOf form setup net lease) → low < lease.number → is_leased kept lease.app ≡ false
      → AreLeases form setup net (filter keep kept) lease.number last → AreLeases form setup net (cond b (lease ∷ filter keep kept) (filter keep kept)) low last
  unfolding AreLeases
  kept-step keep net lease kept low last true shows over alone later = (shows refl, over, filtered-none keep kept lease.app alone, later)
  kept-step keep net lease kept low last false shows over alone later = lower net (filter keep kept) low lease.number last (omega (arith, over)) later

  -- some of them, in another net in which these go on to show what there is
  pub kept-of : (keep : Lease → Bool) (net after : Net S) (kept : List Lease) (low last : ℕ) → AreLeases form setup net kept low last
      → All (Goes keep net after) kept → AreLeases form setup after (filter keep kept) low last
  unfolding AreLeases
  kept-of keep net after [] low last are goes = are
  kept-of keep net after (lease ∷ kept) low last are goes =
      kept-step keep after lease kept low last (keep lease)
      (λ kept_it. All-head (Goes keep net after) lease kept goes kept_it are.0) are.1 are.2
      (kept-of keep net after kept lease.number last are.3 (All-tail (Goes keep net after) lease kept goes))

  -- ## Each step

  -- a step that is of no session
  pub kept-stay : (net : Net S) (step : Step) (kept : List Lease) (low last : ℕ) → IsAllowed form setup net step → ((app : AppId) → is_own app step ≡ false) → AreLeases form setup net kept low last
      → AreLeases form setup (after_step form setup net step) kept low last
  unfolding AreLeases
  kept-stay net step [] low last allowed others are = are
  kept-stay net step (lease ∷ kept) low last allowed others are =
      (lease-stays form setup net step lease allowed (others lease.app) are.0, are.1, are.2, kept-stay net step kept lease.number last allowed others are.3)

  -- those of other sessions than the one of a turn or withdrawal
  others-stay : (net : Net S) (step : Step) (app : AppId) (kept : List Lease) → IsAllowed form setup net step → ((other : AppId) → is_own other step ≡ is_same_app app other)
      → All (Goes (is_of_other app) net (after_step form setup net step)) kept
  unfolding is_of_other
  others-stay net step app [] allowed own = All-nil (Goes (is_of_other app) net (after_step form setup net step))
  others-stay net step app (lease ∷ kept) allowed own =
      All-cons (Goes (is_of_other app) net (after_step form setup net step)) lease kept
      (λ other. lease-stays form setup net step lease allowed (own lease.app ∙ other-way lease.app app false (not-true (is_same_app lease.app app) other))) (others-stay net step app kept allowed own)

  kept-own : (net : Net S) (step : Step) (app : AppId) (kept : List Lease) (low last : ℕ) → IsAllowed form setup net step → ((other : AppId) → is_own other step ≡ is_same_app app other)
      → AreLeases form setup net kept low last → AreLeases form setup (after_step form setup net step) (without_app app kept) low last
  unfolding without_app
  kept-own net step app kept low last allowed own are = kept-of (is_of_other app) net _ kept low last are (others-stay net step app kept allowed own)

  -- any step: the lease of its session ends
  pub kept-after : (net : Net S) (step : Step) (kept : List Lease) (low last : ℕ) → IsAllowed form setup net step → AreLeases form setup net kept low last → AreLeases form setup (after_step form setup net step) (kept_after step kept) low last
  unfolding kept_after is_own
  kept-after net (steps.In from message) kept low last allowed are = kept-stay net (steps.In from message) kept low last allowed (λ app. refl) are
  kept-after net (steps.Bad from bad) kept low last allowed are = kept-stay net (steps.Bad from bad) kept low last allowed (λ app. refl) are
  kept-after net (steps.Lost place) kept low last allowed are = kept-stay net (steps.Lost place) kept low last allowed (λ app. refl) are
  kept-after net (steps.Tick now) kept low last allowed are = kept-stay net (steps.Tick now) kept low last allowed (λ app. refl) are
  kept-after net (steps.Turn end app event now made) kept low last allowed are = kept-own net (steps.Turn end app event now made) app kept low last allowed (λ other. refl) are
  kept-after net (steps.Withdraw app) kept low last allowed are = kept-own net (steps.Withdraw app) app kept low last allowed (λ other. refl) are

  -- ## No step

  all-same : (keep : Lease → Bool) (net : Net S) (kept : List Lease) → All (Goes keep net net) kept
  all-same keep net [] = All-nil (Goes keep net net)
  all-same keep net (lease ∷ kept) = All-cons (Goes keep net net) lease kept (λ k shows. shows) (all-same keep net kept)

  -- a lease ends without a step
  pub kept-without : (net : Net S) (kept : List Lease) (low last number : ℕ) → AreLeases form setup net kept low last → AreLeases form setup net (without_number number kept) low last
  unfolding without_number
  kept-without net kept low last number are = kept-of (has_other_number number) net net kept low last are (all-same (has_other_number number) net kept)

  -- a lease is given
  pub kept-given : (net : Net S) (lease : Lease) (kept : List Lease) (low last : ℕ) → AreLeases form setup net kept low last → IsLeaseOf form setup net lease → lease.number ≡ last + 1 → is_leased kept lease.app ≡ false
      → AreLeases form setup net (kept ++ lease ∷ []) low (last + 1)
  unfolding AreLeases is_leased
  kept-given net lease [] low last are shows next alone = (shows, omega (arith, are, next), refl, omega (arith, next))
  kept-given net lease (first ∷ kept) low last are shows next alone = (
    are.0,
    are.1,
    none-more kept lease first.app are.2 (other-way first.app lease.app false (first-not (is_same_app first.app lease.app) (list_any (is_of lease.app) kept) alone)),
    kept-given net lease kept first.number last are.3 shows next (later-not (is_same_app first.app lease.app) (list_any (is_of lease.app) kept) alone),
  )

  -- ## What is kept shows what there is

  found-step : (net : Net S) (first : Lease) (kept : List Lease) (number : ℕ) (lease : Lease) (b : Bool) → IsLeaseOf form setup net first → (find (has_number number) kept ≡ Some lease → IsLeaseOf form setup net lease)
      → cond b (Some first) (find (has_number number) kept) ≡ Some lease → IsLeaseOf form setup net lease
  found-step net first kept number lease true shows later found = let same : first ≡ lease = cc in rw (← same) shows
  found-step net first kept number lease false shows later found = later found

  pub kept-shows : (net : Net S) (kept : List Lease) (low last number : ℕ) (lease : Lease) → AreLeases form setup net kept low last → find (has_number number) kept ≡ Some lease → IsLeaseOf form setup net lease
  unfolding AreLeases
  kept-shows net [] low last number lease are found = cc
  kept-shows net (first ∷ kept) low last number lease are found = found-step net first kept number lease (first.number == number) are.0 (kept-shows net kept first.number last number lease are.3) found

  -- ## Where no session lives

  found-there : (lives : List (Live S)) (p : Live S → Bool) (live : Live S) → find p lives ≡ Some live → 0 < length lives
  found-there [] p live found = cc
  found-there (l ∷ ls) p live found = omega arith

  counted : (hosts : List (Host S)) (place : ℕ) (host : Host S) → slice_get hosts place ≡ Some host → length host.sessions ≤ sum_by (λ (h : Host S). length h.sessions) hosts
  counted [] place host is = cc
  counted (h ∷ hosts) zero host is = let same : h ≡ host = cc in rw (sum_by-cons (λ (h : Host S). length h.sessions) h hosts, same) (omega arith)
  counted (h ∷ hosts) (suc place) host is = let more = counted hosts place host is in rw (sum_by-cons (λ (h : Host S). length h.sessions) h hosts) (omega (arith, more))

  live-there : (app : AppId) (net : Net S) (found : Option (Host S)) (live : Live S) → host_at app.host net ≡ found → live_of app found ≡ Some live → 0 < live_count net
  unfolding live_count
  live-there app net None live is lives = cc
  live-there app net (Some host) live is lives = omega (arith, found-there host.sessions (is_live app.serial) live lives, counted net.hosts app.host host is)

  lease-there : (net : Net S) (lease : Lease) (found : Option (Live S)) → live_at lease.app net ≡ found → ShowsOf form setup net lease found → 0 < live_count net
  unfolding ShowsOf
  lease-there net lease None is shows = absurd shows
  lease-there net lease (Some live) is shows = live-there lease.app net (host_at lease.app.host net) live refl is

  pub kept-none : (net : Net S) (kept : List Lease) (low last : ℕ) → live_count net ≡ 0 → AreLeases form setup net kept low last → kept ≡ []
  unfolding AreLeases IsLeaseOf
  kept-none net [] low last none are = refl
  kept-none net (lease ∷ kept) low last none are = absurd (below (live_count net) none (lease-there net lease (live_at lease.app net) refl are.0))
    where
      below : (n : ℕ) → n ≡ 0 → 0 < n → ⊥
      below n is over = omega (arith, is, over)

-- ## The next free event is of a session without a lease

lowest-kept : (p : Next → Bool) (next : Next) (others : List Next) → p next ≡ true → All (λ n. p n ≡ true) others → p (fold earlier next others) ≡ true
unfolding earlier
lowest-kept p next [] is all = is
lowest-kept p next (n ∷ others) is all =
    lowest-kept p (earlier next n) others (either (nat_lt n.number next.number) n next (All-head (λ n. p n ≡ true) n others all) is) (All-tail (λ n. p n ≡ true) n others all)
  where
    either : (b : Bool) (x y : Next) → p x ≡ true → p y ≡ true → p (cond b x y) ≡ true
    either true x y q r = q
    either false x y q r = r

filtered-step : (p : Next → Bool) (next : Next) (nexts : List Next) (b : Bool) → p next ≡ b → All (λ n. p n ≡ true) (filter p nexts) → All (λ n. p n ≡ true) (cond b (next ∷ filter p nexts) (filter p nexts))
filtered-step p next nexts true is later = All-cons (λ n. p n ≡ true) next (filter p nexts) is later
filtered-step p next nexts false is later = later

filtered-all : (p : Next → Bool) (nexts : List Next) → All (λ n. p n ≡ true) (filter p nexts)
filtered-all p [] = All-nil (λ n. p n ≡ true)
filtered-all p (next ∷ nexts) = filtered-step p next nexts (p next) refl (filtered-all p nexts)

lowest-in : (p : Next → Bool) (nexts : List Next) (next : Next) → All (λ n. p n ≡ true) nexts → lowest nexts ≡ Some next → p next ≡ true
unfolding lowest
lowest-in p [] next all is = cc
lowest-in p (first ∷ others) next all is =
    let same : fold earlier first others ≡ next = cc in
    rw (← same) (lowest-kept p first others (All-head (λ n. p n ≡ true) first others all) (All-tail (λ n. p n ≡ true) first others all))

pub next-alone : {S : Type 0} (net : Net S) (kept : List Lease) (next : Next) → next_free net kept ≡ Some next → is_leased kept next.app ≡ false
unfolding next_free
next-alone net kept next is =
    not-true (is_leased kept next.app) (lowest-in (λ next. not (is_leased kept next.app)) (filter (λ next. not (is_leased kept next.app)) (next_events net)) next (filtered-all (λ next. not (is_leased kept next.app)) (next_events net)) is)
