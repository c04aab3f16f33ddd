use Rattle.std.proofs.Common.{[], ◌∷◌}
use Rattle.sc_state.specs.Entries.{timer_entry}
use Rattle.sc_state.proofs.LeastDue.{due_more}
use Rattle.sc_state.proofs.timed.timers_due.Goals as goal

pub loop-timer-preserved : goal.loop-timer-preserved
loop-timer-preserved c =
    due_more c.args.fired.now (λ timer. timer_entry timer ∷ []) c.args.timers.now c.loop-timer.timer-index _ _ _ _ c.loop-timer-test.true c.timer-item.is c.loop-timer.invariant
    c.timer_due.ensures c.lower-least.ensures
