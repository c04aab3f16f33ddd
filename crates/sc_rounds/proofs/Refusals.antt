-- A step that was refused for want of room was due.
use Rattle.std.proofs.Common.{◌≡◌, ℕ, ◌≤◌, ◌<◌, length, true, refl, sym, subst, arith, inl, inr}
use Rattle.std.specs.Prelude.{◌⊎◌, is_some}
use Rattle.sc_value.specs.declared.ids.AppId.{AppId}
use Rattle.sc_value.specs.declared.ids.Place.{Place}
use Rattle.sc_value.specs.declared.message.Message.{Message}
use Rattle.sc_terms.specs.declared.calls.End.TheVariants as ends
use Rattle.sc_terms.specs.declared.steps.Bad.{Bad}
use Rattle.sc_terms.specs.declared.steps.Step.{Step}
use Rattle.sc_terms.specs.declared.steps.Step.TheVariants as steps
use Rattle.sc_grammar.specs.Written.{text_of_message as written}
use Rattle.sc_model.specs.JournalSizes.{HasNoRoom, step_size}
use Rattle.sc_model.specs.Settings.{IsSetup}
use Rattle.sc_hosts.specs.Histories.{as_session}
use Rattle.sc_hosts.specs.Runs.{HasVia, IsAllowed}
use Rattle.sc_hosts.specs.Runs.{net_of as net_after}
use Rattle.sc_hosts.specs.Steps.{live_at}
use Rattle.sc_servlets.specs.declared.done.Done.{Done}
use Rattle.sc_switch.specs.Answers.{RefusesRight, RefusesTurn}
use Rattle.sc_switch.specs.Standing.{AreKept, Known, net_of, step_of}
use Rattle.sc_switch.specs.declared.refused.StepRefused.{StepRefused}
use Rattle.sc_switch.specs.declared.refused.StepRefused.TheVariants as refused
use Rattle.sc_switch.proofs.Fitting.{kept_allowed}
use Rattle.sc_rounds.specs.Dues.{HasDue}

-- want of memory says nothing
pub memory_due : (known : Known) → HasDue known refused.NoMemory
unfolding HasDue
memory_due known = tt

due-at : (old : Known) (step : Step) (size : ℕ) (cause : StepRefused) → size ≡ step_size step → (IsSetup old.setup → IsAllowed as_session old.setup (net_of old) step) → RefusesRight old size cause → HasDue old cause
unfolding HasDue RefusesRight net_of net_after
due-at old step size (refused.JournalFull most bytes) is allowed right = λ set. record {
  step = step;
  allowed = allowed set;
  full = subst (λ (n : ℕ). HasNoRoom old.setup.config.journal_steps old.setup.config.journal_bytes old.journal n) is right.2;
}
due-at old step size refused.NoMemory is allowed right = tt

pub due_of : (old new : Known) (step : Step) (size : ℕ) (cause : StepRefused) → new ≡ old → size ≡ step_size step → (IsSetup old.setup → IsAllowed as_session old.setup (net_of old) step) → RefusesRight old size cause → HasDue new cause
due_of old new step size cause same is allowed right = subst (λ (known : Known). HasDue known cause) (sym same) (due-at old step size cause is allowed right)

pub message_due : (old new : Known) (from : Place) (message : Message) (cause : StepRefused) → new ≡ old → HasVia message → RefusesRight old (length (written message)) cause → HasDue new cause
unfolding step_size IsAllowed
message_due old new from message cause same via right = due_of old new (steps.In from message) (length (written message)) cause same refl (λ set. via) right

pub bad_due : (old new : Known) (from : Place) (bad : Bad) (cause : StepRefused) → new ≡ old → RefusesRight old 0 cause → HasDue new cause
unfolding step_size IsAllowed
bad_due old new from bad cause same right = due_of old new (steps.Bad from bad) 0 cause same refl (λ set. tt) right

pub loss_due : (old new : Known) (at : Place) (cause : StepRefused) → new ≡ old → RefusesRight old 0 cause → HasDue new cause
unfolding step_size IsAllowed
loss_due old new at cause same right = due_of old new (steps.Lost at) 0 cause same refl (λ set. tt) right

pub is-before : (a b : ℕ) → a < b → a ≤ b
is-before a b before = omega arith

pub tick_due : (first old new : Known) (now : ℕ) (cause : StepRefused) → (net_of old).moment ≡ (net_of first).moment → (net_of first).moment ≤ now → now ≤ 9223372036854775808 → new ≡ old → RefusesRight old 0 cause → HasDue new cause
unfolding step_size IsAllowed
tick_due first old new now cause moment later within same right = due_of old new (steps.Tick now) 0 cause same refl (λ set. (rw moment later, within)) right

pub withdrawal_due : (old new : Known) (app : AppId) (cause : StepRefused) → new ≡ old → is_some (live_at app (net_of old)) ≡ true → RefusesRight old 0 cause → HasDue new cause
unfolding step_size IsAllowed
withdrawal_due old new app cause same lives right = due_of old new (steps.Withdraw app) 0 cause same refl (λ set. lives) right

turn-due : (known : Known) (done : Done) (cause : StepRefused) → AreKept known → RefusesTurn known done (step_size (step_of done)) cause → (done.end ≡ ends.Starved → ⊥) → HasDue known cause
unfolding RefusesTurn HasDue
turn-due known done (refused.JournalFull most bytes) are right fed = due_of known known (step_of done) (step_size (step_of done)) (refused.JournalFull most bytes) refl refl (λ set. kept_allowed known done set are right.1 fed) right.0
turn-due known done refused.NoMemory are right fed = tt

-- a turn that didn't starve
pub turn_due : (old new : Known) (done done2 : Done) (cause cause2 : StepRefused) → new ≡ old → AreKept new → done2 ≡ done → RefusesTurn old done (step_size (step_of done)) cause
    → (cause2 ≡ refused.NoMemory) ⊎ ((cause2 ≡ cause) × (done2.end ≡ ends.Starved → ⊥)) → HasDue new cause2
turn_due old new done done2 cause cause2 same are back right (inl is) = subst (λ (c : StepRefused). HasDue new c) (sym is) (memory_due new)
turn_due old new done done2 cause cause2 same are back right (inr (is, fed)) =
    subst (λ (c : StepRefused). HasDue new c) (sym is)
    (turn-due new done cause are (subst (λ (known : Known). RefusesTurn known done (step_size (step_of done)) cause) (sym same) right) (subst (λ (d : Done). d.end ≡ ends.Starved → ⊥) back fed))
