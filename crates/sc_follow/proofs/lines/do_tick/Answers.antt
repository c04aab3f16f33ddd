use Rattle.std.proofs.Common.{sym, ◌∙◌, true, false}
use Rattle.sc_follow.proofs.LineSteps.{may_tick, not_ticked, ticked_err, ticked_ok}
use Rattle.sc_follow.proofs.lines.do_tick.Goals as goal

pub tick-requires-clause-later : goal.tick-requires-clause-later
tick-requires-clause-later c = rw (← c.now.ensures) ((may_tick _ _ (sym c.is_tickable.ensures ∙ c.if-is_tickable.true)).0)

pub tick-requires-clause-within : goal.tick-requires-clause-within
tick-requires-clause-within c = (may_tick _ _ (sym c.is_tickable.ensures ∙ c.if-is_tickable.true)).1

pub returns-then-is_tickable-clause-ok : goal.returns-then-is_tickable-clause-ok
returns-then-is_tickable-clause-ok c = ticked_ok _ _ _ c.tick.result (rw (← c.now.ensures) (sym c.is_tickable.ensures ∙ c.if-is_tickable.true)) c.tick.ensures.ok

pub returns-then-is_tickable-clause-err : goal.returns-then-is_tickable-clause-err
returns-then-is_tickable-clause-err c = ticked_err _ _ _ c.tick.result (rw (← c.now.ensures) (sym c.is_tickable.ensures ∙ c.if-is_tickable.true)) c.tick.ensures.err c.requires.untaken c.tick.ensures.stopped

pub returns-else-is_tickable-clause-ok : goal.returns-else-is_tickable-clause-ok
returns-else-is_tickable-clause-ok c = not_ticked _ _ (rw (← c.now.ensures) (sym c.is_tickable.ensures ∙ c.if-is_tickable.false)) c.requires.untaken c.requires.free
