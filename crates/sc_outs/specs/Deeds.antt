-- The steps of a run, with what each sends, and whether it is the loss of a place that failed. This
-- project's own.
use Rattle.std.specs.Prelude.{Bool, true, List}
use Rattle.sc_value.specs.declared.ids.Place.{Place}
use Rattle.sc_value.specs.declared.message.Sent.{Sent}
use Rattle.sc_terms.specs.declared.steps.Step.{Step}
use Rattle.sc_terms.specs.declared.steps.Step.TheVariants as steps

-- a step of a run, what it sends outside, and whether it is the loss of a place that failed
pub record Deed : Type 0 where
  pub step : Step
  pub sent : List Sent
  pub failed : Bool

-- those of a run, in order
abbrev pub Deeds : Type 0
Deeds = List Deed

-- the step of a deed
abbrev pub step_of : Deed → Step
step_of deed = deed.step

-- the loss of a place whose connection failed
abbrev pub loss : Place → List Sent → Deed
loss at sent = record { step = steps.Lost at; sent = sent; failed = true }
