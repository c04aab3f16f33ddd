-- What a lease is to a net: it shows what the turn of the first event of its session begins with.
-- This project's own.
use Rattle.std.specs.Prelude.{◌≡◌, ◌≤◌, ◌<◌, ℕ, ◌==◌, List, [], ◌∷◌, Bool, false, not, Option, None, Some, option_map, slice_get, filter}
use Rattle.std.specs.List.{list_any}
use Rattle.sc_value.specs.declared.ids.AppId.{AppId}
use Rattle.sc_terms.specs.declared.steps.Step.{Step}
use Rattle.sc_terms.specs.declared.steps.Step.TheVariants as steps
use Rattle.sc_parts.specs.declared.setup.Setup.{Setup}
use Rattle.sc_state.specs.declared.host.Live.{Live}
use Rattle.sc_state.specs.declared.net.Net.{Net}
use Rattle.sc_state.specs.declared.queue.Waiting.{Waiting}
use Rattle.sc_state.specs.declared.working.Prepared.{Prepared}
use Rattle.sc_servlets.specs.declared.lease.Lease.{Lease}
use Rattle.sc_model.specs.Settings.{app_of}
use Rattle.sc_hosts.specs.Runs.{prepared_turn}
use Rattle.sc_hosts.specs.Sessions.{Form}
use Rattle.sc_hosts.specs.Steps.{live_at}
use Rattle.sc_hosts.specs.Transacting.{is_same_app}
use Rattle.sc_runs.specs.Next.{Next, next_events, lowest}

-- the lease is of this event, at a moment since when it is first
pub record IsTimely {S : Type 0} (setup : Setup) (net : Net S) (lease : Lease) (live : Live S)
    (waiting : Waiting) : Type 0 where
  pub number_is : waiting.number ≡ lease.event_number
  pub kind_is : option_map (λ app. app.kind) (app_of setup.config lease.app.host) ≡ Some lease.kind
  pub since : live.since ≤ lease.shown.now
  pub until : lease.shown.now ≤ net.moment

-- it shows what the turn of the event begins with
unfoldable pub IsShown : Prepared → Lease → Type 0
IsShown prepared lease = (prepared.view ≡ lease.shown) × (prepared.event ≡ lease.event)

-- the same of the event that is first, where one waits
unfoldable pub ShowsFirst : {S : Type 0} → Form S → Setup → Net S → Lease → Live S → Option Waiting
    → Type 0
ShowsFirst form setup net lease live None = ⊥
ShowsFirst form setup net lease live (Some waiting) =
    IsTimely setup net lease live waiting
    × IsShown (prepared_turn form setup net lease.app live waiting lease.shown.now) lease

-- the same of the session, where it lives
unfoldable pub ShowsOf : {S : Type 0} → Form S → Setup → Net S → Lease → Option (Live S) → Type 0
ShowsOf form setup net lease None = ⊥
ShowsOf form setup net lease (Some live) =
    ShowsFirst form setup net lease live (slice_get live.inbox 0)

-- the lease shows the first event of its session, which lives
unfoldable pub IsLeaseOf : {S : Type 0} → Form S → Setup → Net S → Lease → Type 0
IsLeaseOf form setup net lease = ShowsOf form setup net lease (live_at lease.app net)

-- ## Steps of a session

-- the step is a turn, or the withdrawal, of this session
unfoldable pub is_own : AppId → Step → Bool
is_own app (steps.Turn end other event now made) = is_same_app other app
is_own app (steps.Withdraw other) = is_same_app other app
is_own app step = false

-- ## Leases that are kept

-- the lease has this number
abbrev pub has_number : ℕ → Lease → Bool
has_number number lease = lease.number == number

-- the lease is of this session
abbrev pub is_of : AppId → Lease → Bool
is_of app lease = is_same_app lease.app app

-- the session has a live lease
unfoldable pub is_leased : List Lease → AppId → Bool
is_leased kept app = list_any (is_of app) kept

-- the lease has another number
unfoldable pub has_other_number : ℕ → Lease → Bool
has_other_number number lease = not (has_number number lease)

-- without the lease of this number
unfoldable pub without_number : ℕ → List Lease → List Lease
without_number number kept = filter (has_other_number number) kept

-- the lease is of another session
unfoldable pub is_of_other : AppId → Lease → Bool
is_of_other app lease = not (is_of app lease)

-- without the leases of this session
unfoldable pub without_app : AppId → List Lease → List Lease
without_app app kept = filter (is_of_other app) kept

-- the lease of a session ends with its turn, and with its withdrawal
unfoldable pub kept_after : Step → List Lease → List Lease
kept_after (steps.Turn end app event now made) kept = without_app app kept
kept_after (steps.Withdraw app) kept = without_app app kept
kept_after step kept = kept

-- each shows what there is, no two are of one session, and their numbers rise, above the low one
-- and up to the last
unfoldable pub AreLeases : {S : Type 0} → Form S → Setup → Net S → List Lease → ℕ → ℕ → Type 0
AreLeases form setup net [] low last = low ≤ last
AreLeases form setup net (lease ∷ kept) low last =
    IsLeaseOf form setup net lease × (low < lease.number) × (is_leased kept lease.app ≡ false)
    × AreLeases form setup net kept lease.number last

-- the event with the lowest number among the first ones of the sessions without a lease
unfoldable pub next_free : {S : Type 0} → Net S → List Lease → Option Next
next_free net kept = lowest (filter (λ next. not (is_leased kept next.app)) (next_events net))
