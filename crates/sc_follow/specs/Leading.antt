-- How far a switch came in the lines of a script. This project's own.
use Rattle.std.specs.Prelude.{◌≡◌, List, ◌∷◌, [], ◌++◌}
use Rattle.sc_terms.specs.declared.steps.Line.{Line}
use Rattle.sc_terms.specs.declared.steps.Step.{Step}
use Rattle.sc_parts.specs.declared.setup.Setup.{Setup}
use Rattle.sc_model.specs.JournalSizes.{HasNoRoom, step_size}
use Rattle.sc_hosts.specs.Histories.{as_session}
use Rattle.sc_hosts.specs.Runs.{IsLawful}
use Rattle.sc_runs.specs.Following.{Follows, FollowsFrom, Streams, Upto, UptoFrom}
use Rattle.sc_switch.specs.declared.refused.StepRefused.{StepRefused}
use Rattle.sc_switch.specs.declared.refused.StepRefused.TheVariants as refused
use Rattle.sc_switch.specs.Standing.{Known, net_of}
use Rattle.sc_follow.specs.Moving.{IsFree, IsUntaken}

-- a switch that took no step and gave no lease
pub record IsNew (known : Known) : Type 0 where
  pub epoch_is : known.epoch ≡ 0
  pub began_is : known.began ≡ 0
  pub handed_is : known.handed ≡ []
  pub journal_is : known.journal ≡ []
  pub left_is : known.left ≡ []
  pub kept_is : known.kept ≡ []
  pub leases_is : known.leases ≡ 0

-- what follows the lines that are left, behind what was taken, follows all lines
pub record Leads (setup : Setup) (all : List Line) (known : Known) (kept : Streams)
    (later : List Line) : Type 0 where
  pub setup_is : known.setup ≡ setup
  pub epoch_is : known.epoch ≡ 0
  pub began_is : known.began ≡ 0
  pub untaken : IsUntaken known
  pub free : IsFree known
  pub follows : (taken : List Step) → FollowsFrom as_session setup (net_of known) kept later taken
      → Follows as_session setup all (known.journal ++ taken)
  pub upto : (taken : List Step) → UptoFrom as_session setup (net_of known) kept later taken
      → Upto as_session setup all (known.journal ++ taken)

-- the lines ask for a lawful step that the journal has no room for
unfoldable pub IsDueWithoutRoom : Setup → List Line → List Step → Type 0
IsDueWithoutRoom setup lines journal =
    (step : Step)
    × IsLawful as_session setup 0 0 (journal ++ step ∷ [])
    × Upto as_session setup lines (journal ++ step ∷ [])
    × HasNoRoom setup.config.journal_steps setup.config.journal_bytes journal (step_size step)

-- why the lines were not followed to their end
unfoldable pub IsStoppedIn : Setup → List Line → List Step → StepRefused → Type 0
IsStoppedIn setup lines journal refused.NoMemory = Upto as_session setup lines journal
IsStoppedIn setup lines journal (refused.JournalFull steps bytes) =
    Upto as_session setup lines journal × IsDueWithoutRoom setup lines journal

-- where the lines were left
pub record IsLeft (setup : Setup) (lines : List Line) (known : Known)
    (cause : StepRefused) : Type 0 where
  pub setup_is : known.setup ≡ setup
  pub epoch_is : known.epoch ≡ 0
  pub began_is : known.began ≡ 0
  pub untaken : IsUntaken known
  pub stopped : IsLawful as_session setup 0 0 known.journal
      → IsStoppedIn setup lines known.journal cause

-- all lines were followed
pub record IsFollowed (setup : Setup) (lines : List Line) (known : Known) : Type 0 where
  pub setup_is : known.setup ≡ setup
  pub epoch_is : known.epoch ≡ 0
  pub began_is : known.began ≡ 0
  pub untaken : IsUntaken known
  pub follows : Follows as_session setup lines known.journal
