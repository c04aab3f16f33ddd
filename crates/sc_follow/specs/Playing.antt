-- The turns that a switch takes. This project's own.
use Rattle.std.specs.Prelude.{◌≡◌, ◌⊎◌, ◌≤◌, ◌<◌, ◌+◌, ℕ, Bool, true, false, List, [], ◌∷◌, Option, None, Some, length}
use Rattle.sc_value.specs.declared.ids.AppId.{AppId}
use Rattle.sc_terms.specs.declared.calls.CallRecord.{CallRecord}
use Rattle.sc_terms.specs.declared.calls.End.{End}
use Rattle.sc_terms.specs.declared.steps.Step.{Step}
use Rattle.sc_terms.specs.declared.steps.Step.TheVariants as steps
use Rattle.sc_servlets.specs.declared.lease.Lease.{Lease}
use Rattle.sc_hosts.specs.Steps.{live_at}
use Rattle.sc_runs.specs.Following.{IsTurnOf, first_number}
use Rattle.sc_runs.specs.Next.{Next, next_event}
use Rattle.sc_switch.specs.declared.refused.StepRefused.{StepRefused}
use Rattle.sc_switch.specs.declared.refused.StepRefused.TheVariants as refused
use Rattle.sc_hosts.specs.Histories.{as_session}
use Rattle.sc_leases.specs.Leases.{IsLeaseOf}
use Rattle.sc_switch.specs.Standing.{Known, net_of}
use Rattle.sc_follow.specs.Moving.{IsDue, IsUntaken, TookStep}

-- a turn of this event at the last moment
abbrev pub turn_at : Known → AppId → ℕ → List CallRecord → End → Step
turn_at known app event calls end = steps.Turn end app event (net_of known).moment calls

-- a turn of this event was taken
unfoldable pub TookTurnOf : Known → Known → AppId → ℕ → Type 0
TookTurnOf old new app event =
    (calls : List CallRecord) × (end : End) × TookStep old new (turn_at old app event calls end)

-- a turn of this event is due that the journal has no room for
unfoldable pub IsTurnDue : Known → AppId → ℕ → Type 0
IsTurnDue known app event =
    (calls : List CallRecord) × (end : End) × IsDue known (turn_at known app event calls end)

-- the run stands as it was
pub record IsSameRun (old new : Known) : Type 0 where
  pub setup_is : new.setup ≡ old.setup
  pub epoch_is : new.epoch ≡ old.epoch
  pub began_is : new.began ≡ old.began
  pub handed_is : new.handed ≡ old.handed
  pub journal_is : new.journal ≡ old.journal
  pub left_is : new.left ≡ old.left

-- why no turn of this event was taken
unfoldable pub IsTurnStopped : Known → AppId → ℕ → StepRefused → Type 0
IsTurnStopped known app event refused.NoMemory = Unit {0}
IsTurnStopped known app event (refused.JournalFull steps bytes) = IsTurnDue known app event

-- the one live lease, of an event at the last moment
pub record IsLent (known : Known) (lease : Lease) : Type 0 where
  pub kept_is : known.kept ≡ lease ∷ []
  pub lease_is : IsLeaseOf as_session known.setup (net_of known) lease
  pub now_is : lease.shown.now ≡ (net_of known).moment
  pub few : known.leases ≤ length known.journal + 1
  pub untaken : IsUntaken known

-- the lowest event that waits is lent out, or none waits
unfoldable pub Lends : Known → Known → Option Lease → Type 0
Lends old new None = (new ≡ old) × (next_event (net_of old) ≡ None)
Lends old new (Some lease) =
    IsSameRun old new × IsLent new lease
    × (next_event (net_of old) ≡ Some (record { app = lease.app; number = lease.event_number }))

-- the first event of this session is lent out, or none waits for it
unfoldable pub LendsOf : AppId → Known → Known → Option Lease → Type 0
LendsOf app old new None = (new ≡ old) × (first_number (live_at app (net_of old)) ≡ None)
LendsOf app old new (Some lease) =
    IsSameRun old new × IsLent new lease × (lease.app ≡ app)
    × (first_number (live_at app (net_of old)) ≡ Some lease.event_number)

-- a turn of the lowest event was taken, or none was due
unfoldable pub TookTurn : Known → Known → Bool → Type 0
TookTurn old new true =
    (next : Next) × (next_event (net_of old) ≡ Some next) × TookTurnOf old new next.app next.number
    × (length old.journal < old.setup.config.journal_steps)
TookTurn old new false = (new ≡ old) × (next_event (net_of old) ≡ None)

-- why no turn could be taken
unfoldable pub IsRunStopped : Known → StepRefused → Type 0
IsRunStopped known refused.NoMemory = Unit {0}
IsRunStopped known (refused.JournalFull steps bytes) =
    (next : Next) × (next_event (net_of known) ≡ Some next) × IsTurnDue known next.app next.number

-- the steps are one turn of the first event of this session, where one waits, or none yet
unfoldable pub TurnsUpto : Known → AppId → List Step → Type 0
TurnsUpto known app taken =
    (taken ≡ [])
    ⊎ IsTurnOf app (net_of known).moment (first_number (live_at app (net_of known))) taken
