use Rattle.std.proofs.Common.{arith}
use Rattle.sc_recorder.proofs.StepLists.{on_either, steps_next, steps_none, steps_part}
use Rattle.sc_recorder.proofs.writing.put_steps.Goals as goal

pub loop-at-init : goal.loop-at-init
loop-at-init g c = record { later = omega arith; put = steps_none _ c.args.journal.now.items }

pub returns-in_err-put_step-clause-part : goal.returns-in_err-put_step-clause-part
returns-in_err-put_step-clause-part g c =
    on_either c.from_residual.result (steps_part _ _ _ _ c.loop-at.at _ c.step_at.ensures c.loop-at.invariant.put c.in_err-put_step.ensures.part)

pub loop-at-preserved : goal.loop-at-preserved
loop-at-preserved g c = record {
  later = omega (arith, c.loop-at.invariant.later, c.in_ok-put_step.ensures.later);
  put = steps_next _ _ _ _ c.loop-at.at _ c.step_at.ensures c.loop-at.invariant.put c.in_ok-put_step.ensures.ok;
}
