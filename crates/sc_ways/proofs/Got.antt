-- The events that a step queued: each waits in its session, and is right for it.
use Rattle.std.proofs.Common.{◌≡◌, ◌≤◌, ◌<◌, ℕ, zero, suc, ◌++◌, ◌^◌, Bool, true, false, Option, None, Some, List, [], ◌∷◌, refl, ap, subst, ◌∙◌, arith}
use Rattle.std.specs.Prelude.{cond, filter, length, map, nat_lt, slice_get}
use Rattle.std.specs.List.{find, flat_map}
use Rattle.std.proofs.lemmas.Bool.Decides.{nat_tests}
use Rattle.sc_value.specs.declared.ids.AppId.{AppId}
use Rattle.sc_state.specs.Hosts.{Host}
use Rattle.sc_state.specs.declared.host.Live.{Live}
use Rattle.sc_state.specs.declared.net.Net.{Net}
use Rattle.sc_state.specs.declared.queue.Queued.{Queued}
use Rattle.sc_state.specs.declared.queue.Waiting.{Waiting}
use Rattle.sc_state.specs.declared.session.Session.{Session}
use Rattle.sc_model.specs.Names.{IsOf64}
use Rattle.sc_hosts.specs.EventLists.{live_from}
use Rattle.sc_hosts.specs.Inboxes.{is_live}
use Rattle.sc_hosts.specs.Nets.{host_at}
use Rattle.sc_hosts.specs.Steps.{inbox_of, live_at, live_of}
use Rattle.sc_lasting.specs.Lasting.{All}
use Rattle.sc_lasting.proofs.Parts.{all-flat, all-found, all-map}
use Rattle.sc_reached.specs.Reached.{AllSmall, AreSmall}
use Rattle.sc_reached.proofs.Reaching.{serial-is}
use Rattle.sc_paths.specs.Moments.{Got, Moment, got_in, waiting_at}
use Rattle.sc_ways.proofs.Waits.{IsHeld, events-live}
use Rattle.sc_hops.specs.Hops.{AreFit}

lower : (a b : ℕ) → nat_lt a b ≡ true → a < b
lower a b is = grind (arith, nat_tests, is)

mapped : {A B : Type 0} (P : B → Type 0) (f : A → B) (xs : List A) → All (λ (x : A). P (f x)) xs → All P (map f xs)
unfolding All
mapped P f [] all = tt
mapped P f (x ∷ xs) all = (all.0, mapped P f xs all.1)

if-kept : {A : Type 0} (P : A → Type 0) (test : A → Bool) (b : Bool) (x : A) (xs : List A) → test x ≡ b → P x → All (λ (y : A). P y × (test y ≡ true)) xs
    → All (λ (y : A). P y × (test y ≡ true)) (cond b (x ∷ xs) xs)
unfolding All
if-kept P test true x xs is p all = ((p, is), all)
if-kept P test false x xs is p all = all

-- what a filter leaves passes its test
filtered : {A : Type 0} (P : A → Type 0) (test : A → Bool) (xs : List A) → All P xs → All (λ (y : A). P y × (test y ≡ true)) (filter test xs)
unfolding All
filtered P test [] all = tt
filtered P test (x ∷ xs) all = if-kept P test (test x) x (filter test xs) refl all.0 (filtered P test xs all.1)

-- each item of a list stands between others
record Stands {A : Type 0} (xs : List A) (x : A) : Type 0 where
  first : List A
  rest : List A
  is : xs ≡ first ++ x ∷ rest

later : {A : Type 0} (y : A) (xs : List A) (x : A) → Stands xs x → Stands (y ∷ xs) x
later y xs x stands = record { first = y ∷ stands.first; rest = stands.rest; is = ap (λ zs. y ∷ zs) stands.is }

all-stand : {A : Type 0} (xs : List A) → All (λ (x : A). Stands xs x) xs
unfolding All
all-stand [] = tt
all-stand {A = A} (x ∷ xs) = (record { first = []; rest = xs; is = refl }, all-map (λ (y : A). Stands xs y) (λ (y : A). Stands (x ∷ xs) y) xs (λ y stands. later x xs y stands) (all-stand xs))

all-and : {A : Type 0} (P Q : A → Type 0) (xs : List A) → All P xs → All Q xs → All (λ (x : A). P x × Q x) xs
unfolding All
all-and P Q [] p q = tt
all-and P Q (x ∷ xs) p q = ((p.0, q.0), all-and P Q xs p.1 q.1)

-- ## At a host

pub small-sessions : (hosts : List (Host Session)) (place : ℕ) (host : Host Session) → AllSmall hosts → slice_get hosts place ≡ Some host → AreSmall host.sessions
small-sessions [] place host small at = cc
small-sessions (first ∷ hosts) zero host small at = let same : first ≡ host = cc in subst (λ (h : Host Session). AreSmall h.sessions) same small.0
small-sessions (first ∷ hosts) (suc place) host small at = small-sessions hosts place host small.1 at

pub small-place : (hosts : List (Host Session)) (place : ℕ) (host : Host Session) → slice_get hosts place ≡ Some host → place < length hosts
small-place [] place host at = cc
small-place (first ∷ hosts) zero host at = omega arith
small-place (first ∷ hosts) (suc place) host at = omega (arith, small-place hosts place host at)

pub all-small : (lives : List (Live Session)) → AreSmall lives → All (λ (live : Live Session). live.serial < 2 ^ 64) lives
unfolding All
all-small [] small = tt
all-small (live ∷ lives) small = (small.0, all-small lives small.1)

under : (a n m : ℕ) → a < n → n ≤ m → a < m
under a n m less most = omega (arith, less, most)

-- what is known of an event that a net has
pub record IsGot (Fits : AppId → Queued → Type 0) (epoch base : ℕ) (net : Net Session) (got : Got) : Type 0 where
  pub fits : base < got.waiting.number → Fits got.app got.waiting.event
  pub held : IsHeld got.app got.waiting net
  pub names : IsOf64 epoch got.app 0

module _ (Fits : AppId → Queued → Type 0) (epoch base : ℕ) (small_epoch : epoch < 2 ^ 64) (net : Net Session) (few : length net.hosts ≤ 2 ^ 64) (small : AllSmall net.hosts)
    (good : (number : ℕ) (host : Host Session) → host_at number net ≡ Some host → AreFit Fits base number host.sessions) where
  fits-at : (app : AppId) (serial : ℕ) (waiting : Waiting) → serial ≡ app.serial → (base < waiting.number → Fits (record { host = app.host; serial = serial }) waiting.event)
      → base < waiting.number → Fits app waiting.event
  fits-at app serial waiting same fits above = subst (λ (n : ℕ). Fits (record { host = app.host; serial = n }) waiting.event) same (fits above)

  zero-small : 0 < 2 ^ 64
  zero-small = omega arith

  live-got : (app : AppId) (host : Host Session) (live : Live Session) → host_at app.host net ≡ Some host → find (is_live app.serial) host.sessions ≡ Some live → live_at app net ≡ Some live
      → All (IsGot Fits epoch base net) (map (λ waiting. record { app = app; waiting = waiting }) live.inbox)
  live-got app host live at found lives =
      let serial : live.serial ≡ app.serial = serial-is app.serial host.sessions live found in
      let fits : All (λ (waiting : Waiting). base < waiting.number → Fits (record { host = app.host; serial = live.serial }) waiting.event) live.inbox =
      all-found (λ (live : Live Session). All (λ (waiting : Waiting). base < waiting.number → Fits (record { host = app.host; serial = live.serial }) waiting.event) live.inbox) (is_live app.serial) host.sessions live found (good app.host host at) in
      let less : live.serial < 2 ^ 64 = all-found (λ (live : Live Session). live.serial < 2 ^ 64) (is_live app.serial) host.sessions live found (all-small host.sessions (small-sessions net.hosts app.host host small at)) in
      let named : IsOf64 epoch app 0 = (small_epoch, under app.host _ _ (small-place net.hosts app.host host at) few, subst (λ (n : ℕ). n < 2 ^ 64) serial less, zero-small) in
      mapped (IsGot Fits epoch base net) (λ waiting. record { app = app; waiting = waiting }) live.inbox
      (all-map (λ (waiting : Waiting). (base < waiting.number → Fits (record { host = app.host; serial = live.serial }) waiting.event) × Stands live.inbox waiting) (λ (waiting : Waiting). IsGot Fits epoch base net (record { app = app; waiting = waiting })) live.inbox
      (λ waiting both. record {
        fits = fits-at app live.serial waiting serial both.0;
        held = record { first = both.1.first; rest = both.1.rest; is = events-live app net live lives ∙ both.1.is };
        names = named;
      }) (all-and (λ (waiting : Waiting). base < waiting.number → Fits (record { host = app.host; serial = live.serial }) waiting.event) (λ (waiting : Waiting). Stands live.inbox waiting) live.inbox fits (all-stand live.inbox)))

  found-got : (app : AppId) (found : Option (Host Session)) → host_at app.host net ≡ found → (lives : Option (Live Session)) → live_of app found ≡ lives
      → live_at app net ≡ lives → All (IsGot Fits epoch base net) (map (λ waiting. record { app = app; waiting = waiting }) (inbox_of lives))
  unfolding All inbox_of
  found-got app found at None of is = tt
  found-got app None at (Some live) of is = cc
  found-got app (Some host) at (Some live) of is = live-got app host live at of is

  at-got : (app : AppId) → All (IsGot Fits epoch base net) (waiting_at net app)
  unfolding waiting_at
  at-got app = found-got app (host_at app.host net) refl (live_at app net) refl refl

  -- one that the step queued, found by a test
  pub queued-got : (moment : Moment) (test : Got → Bool) (got : Got) → moment.after ≡ net → moment.before.count ≡ base → find test (got_in moment) ≡ Some got
      → IsGot Fits epoch base net got × (base < got.waiting.number)
  unfolding got_in
  queued-got moment test got after before found =
      let all = filtered (IsGot Fits epoch base net) (λ (got : Got). nat_lt base got.waiting.number) (flat_map (waiting_at net) (live_from 0 net.hosts)) (all-flat (IsGot Fits epoch base net) (live_from 0 net.hosts) (waiting_at net) at-got) in
      let here : find test (filter (λ (got : Got). nat_lt base got.waiting.number) (flat_map (waiting_at net) (live_from 0 net.hosts))) ≡ Some got =
      subst (λ (n : ℕ). find test (filter (λ (got : Got). nat_lt n got.waiting.number) (flat_map (waiting_at net) (live_from 0 net.hosts))) ≡ Some got) before
      (subst (λ (x : Net Session). find test (filter (λ (got : Got). nat_lt moment.before.count got.waiting.number) (flat_map (waiting_at x) (live_from 0 x.hosts))) ≡ Some got) after found) in
      let one = all-found (λ (got : Got). IsGot Fits epoch base net got × (nat_lt base got.waiting.number ≡ true)) test _ got here all in
      (one.0, lower base got.waiting.number one.1)
