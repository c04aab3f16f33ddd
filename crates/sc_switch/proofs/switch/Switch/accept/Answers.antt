use Rattle.std.proofs.Common.{◌∙◌, ap, subst, refl}
use Rattle.sc_model.specs.JournalSizes.{step_size}
use Rattle.sc_switch.specs.Standing.{Known}
use Rattle.sc_switch.specs.Stepping.{taken_step}
use Rattle.sc_switch.specs.Answers.{RefusesRight, with_step}
use Rattle.sc_switch.proofs.Fitting.{taken_allowed}
use Rattle.sc_switch.proofs.Standings.{IsSwitch-step, known_step, not_full, refuses_right}
use Rattle.sc_switch.proofs.switch.Switch.accept.Goals as goal

pub plan-requires : goal.plan-requires
plan-requires c = record { within = c.self.invariant.within }

pub invariant_of-self : goal.invariant_of-self
invariant_of-self c =
    IsSwitch-step _ _ c.plan.new.journal c.put.new.self _ _ c.set_net.new.net _ _ _ _ c.send_all.new.left.items c.end_own.new.kept (taken_step c.args.taken) c.in-Ok.field-0 c.args.bytes
    c.self.invariant c.in-Ok.ensures.stepped (taken_allowed _ c.args.taken c.self.invariant.right c.self.invariant.leases_are (rw (← c.self.view_is) at c.requires.allowed)) c.plan.ensures.same c.in-Ok.ensures.room c.requires.size
    (rw c.taken_step-step.ensures at c.put.ensures) (rw c.plan.ensures.same_left at c.send_all.ensures) (rw c.taken_step-step.ensures at c.end_own.ensures) c.set_net.ensures refl refl

pub returns-in-Ok-clause-ok : goal.returns-in-Ok-clause-ok
returns-in-Ok-clause-ok c =
    known_step _ _ c.plan.new.journal c.put.new.self _ _ _ _ c.send_all.new.left.items c.end_own.new.kept (taken_step c.args.taken) c.in-Ok.field-0 c.args.bytes
    c.self.invariant c.in-Ok.ensures.stepped c.plan.ensures.same (rw c.taken_step-step.ensures at c.put.ensures) (rw c.plan.ensures.same_left at c.send_all.ensures) (rw c.taken_step-step.ensures at c.end_own.ensures)
    ∙ ap (λ (k : Known). with_step k (taken_step c.args.taken)) c.self.view_is

pub returns-in-Ok-clause-room : goal.returns-in-Ok-clause-room
returns-in-Ok-clause-room c =
    λ full. not_full _ _ c.plan.new.journal _ _ _ _ (taken_step c.args.taken) c.args.bytes c.self.invariant c.plan.ensures.same c.in-Ok.ensures.room c.requires.size (rw (← c.self.view_is) at full)

pub returns-in-Err-clause-refused : goal.returns-in-Err-clause-refused
returns-in-Err-clause-refused c =
    subst (λ (k : Known). RefusesRight k (step_size (taken_step c.args.taken)) c.in-Err.cause) c.self.view_is
    (refuses_right _ _ _ _ _ _ (taken_step c.args.taken) c.args.bytes c.in-Err.cause c.self.invariant c.requires.size c.in-Err.ensures.refused)
