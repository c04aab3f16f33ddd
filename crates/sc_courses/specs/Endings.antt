-- When an epoch ends: once it has as many steps as the settings ask for, and nothing lives. This
-- project's own.
use Rattle.std.specs.Prelude.{◌≡◌, ◌<◌, ◌≤◌, Bool, true, false, List, [], ◌∷◌, ◌++◌, length}
use Rattle.sc_terms.specs.declared.steps.Step.{Step}
use Rattle.sc_terms.specs.declared.steps.Step.TheVariants as steps
use Rattle.sc_parts.specs.declared.setup.Setup.{Setup}
use Rattle.sc_hosts.specs.Histories.{as_session}
use Rattle.sc_hosts.specs.Runs.{Epoch, is_idle, net_of}
use Rattle.sc_courses.specs.Ordering.{Point}

-- the epoch has to end: the settings say after how many steps, which isn't 0, it has so many, no
-- session and no transaction lives, and there is a number for a later epoch
pub record HasToEnd (setup : Setup) (epoch : Epoch) : Type 0 where
  pub asked : 0 < setup.config.epoch_steps
  pub steps : setup.config.epoch_steps ≤ length epoch.journal
  pub idle : is_idle (net_of as_session setup epoch) ≡ true
  pub number : epoch.number < 4294967295

-- an epoch that has to end does so before the step; a turn and a withdrawal are of a session that
-- lives
unfoldable pub waits_for_end : Step → Bool
waits_for_end (steps.In from message) = true
waits_for_end (steps.Bad from bad) = true
waits_for_end (steps.Lost at) = true
waits_for_end (steps.Tick now) = true
waits_for_end (steps.Turn end app event now calls) = false
waits_for_end (steps.Withdraw app) = false

-- no such step was taken where the epoch had to end
unfoldable pub IsInTime : Setup → Epoch → Type 0
IsInTime setup epoch =
    (before : List Step) (step : Step) (later : List Step) → epoch.journal ≡ before ++ step ∷ later
    → waits_for_end step ≡ true → HasToEnd setup (record epoch { journal = before }) → ⊥

-- each of these epochs ended where it had to, and no later
unfoldable pub EndedInTime : Setup → List Epoch → Type 0
EndedInTime setup [] = Unit {0}
EndedInTime setup (epoch ∷ later) =
    HasToEnd setup epoch × IsInTime setup epoch × EndedInTime setup later

-- up to this point each epoch ended where it had to and no later, and the one that runs hadn't to
-- end before
pub record AreInTime (setup : Setup) (point : Point) : Type 0 where
  pub ended : EndedInTime setup point.ended
  pub running : IsInTime setup point.running
