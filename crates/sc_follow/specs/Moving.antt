-- What a switch is between the lines of a script, and how far it came in one. This project's own.
use Rattle.std.specs.Prelude.{◌≡◌, ◌≤◌, ◌⊎◌, Bool, true, false, List, [], ◌∷◌, ◌++◌, is_some, length}
use Rattle.sc_value.specs.declared.ids.AppId.{AppId}
use Rattle.sc_value.specs.declared.ids.Place.{Place}
use Rattle.sc_terms.specs.declared.steps.Line.{Line}
use Rattle.sc_terms.specs.declared.steps.Line.TheVariants as lines
use Rattle.sc_terms.specs.declared.steps.Step.{Step}
use Rattle.sc_terms.specs.declared.steps.Step.TheVariants as steps
use Rattle.sc_tokens.specs.Bytes.{Bytes}
use Rattle.sc_model.specs.JournalSizes.{step_size}
use Rattle.sc_hosts.specs.Histories.{as_session}
use Rattle.sc_hosts.specs.Runs.{IsAllowed, all_sent}
use Rattle.sc_hosts.specs.Steps.{live_at}
use Rattle.sc_runs.specs.Following.{Does, DoesPart, Streams}
use Rattle.sc_runs.specs.Hearing.{Hears, HearsPart}
use Rattle.sc_switch.specs.declared.refused.StepRefused.{StepRefused}
use Rattle.sc_switch.specs.declared.refused.StepRefused.TheVariants as refused
use Rattle.sc_switch.specs.Answers.{IsFullFor}
use Rattle.sc_switch.specs.Standing.{Known, net_of}

-- no step was handed on, and nothing that was sent was taken
pub record IsUntaken (known : Known) : Type 0 where
  pub handed_is : known.handed ≡ []
  pub left_is : known.left ≡ all_sent as_session known.setup known.epoch known.began known.journal

-- no lease is live, and no more were given than steps were taken
pub record IsFree (known : Known) : Type 0 where
  pub kept_is : known.kept ≡ []
  pub few : known.leases ≤ length known.journal

-- these steps were taken, and all that was sent is left
pub record Came (old new : Known) (made : List Step) : Type 0 where
  pub setup_is : new.setup ≡ old.setup
  pub epoch_is : new.epoch ≡ old.epoch
  pub began_is : new.began ≡ old.began
  pub handed_is : new.handed ≡ old.handed
  pub journal_is : new.journal ≡ old.journal ++ made
  pub untaken : IsUntaken new

-- this step was taken
pub record TookStep (old new : Known) (step : Step) : Type 0 where
  pub came : Came old new (step ∷ [])
  pub free : IsFree new

-- the journal has no room for this step, which is allowed
pub record IsDue (known : Known) (step : Step) : Type 0 where
  pub allowed : IsAllowed as_session known.setup (net_of known) step
  pub full : IsFullFor known (step_size step)

-- why a step wasn't taken
unfoldable pub IsStopped : Known → Step → StepRefused → Type 0
IsStopped known step refused.NoMemory = Unit {0}
IsStopped known step (refused.JournalFull steps bytes) = IsDue known step

-- how far it came: the steps have this property, and where the journal was full they have it with
-- one more
pub record CameTo (P : List Step → Type 0) (old new : Known) (made : List Step) : Type 0 where
  pub came : Came old new made
  pub good : P made

-- where the journal was full, a step is due that it has no room for, and with it the steps have the
-- property
unfoldable pub HasDue : (List Step → Type 0) → Known → List Step → StepRefused → Type 0
HasDue P new made refused.NoMemory = Unit {0}
HasDue P new made (refused.JournalFull steps bytes) =
    (step : Step) × IsDue new step × P (made ++ step ∷ [])

-- not all was done: it came so far, for this cause
unfoldable pub IsCut : (List Step → Type 0) → Known → Known → StepRefused → Type 0
IsCut P old new cause = (made : List Step) × CameTo P old new made × HasDue P new made cause

-- all was done
unfoldable pub IsDone : (List Step → Type 0) → Known → Known → Type 0
IsDone P old new = (made : List Step) × CameTo P old new made × IsFree new

-- the steps are those that these bytes of a place make, or a beginning of them
unfoldable pub HearsUpto : Place → Bytes → List Step → Type 0
HearsUpto place bytes taken =
    HearsPart place bytes taken ⊎ ((rest : Bytes) × Hears place bytes taken rest)

-- the steps are those of the line, or a beginning of them
unfoldable pub DoesUpto : Known → Streams → Line → List Step → Type 0
DoesUpto known kept line taken =
    DoesPart as_session known.setup (net_of known) kept line taken
    ⊎ ((after : Streams) × Does as_session known.setup (net_of known) kept line taken after)

-- the session was ended, or it didn't live
unfoldable pub Withdrew : Known → Known → AppId → Bool → Type 0
Withdrew old new app true =
    (is_some (live_at app (net_of old)) ≡ true) × TookStep old new (steps.Withdraw app)
Withdrew old new app false = (is_some (live_at app (net_of old)) ≡ false) × (new ≡ old)

-- why it wasn't ended, though it lives
unfoldable pub IsStillThere : Known → AppId → StepRefused → Type 0
IsStillThere known app refused.NoMemory = Unit {0}
IsStillThere known app (refused.JournalFull most bytes) =
    (is_some (live_at app (net_of known)) ≡ true) × IsDue known (steps.Withdraw app)
