use Rattle.sc_rounds.proofs.Movings.{any_err, breaks_then, moves_same, moves_then}
use Rattle.sc_lending.proofs.lending.collect_turns.Goals as goal

pub loop-init : goal.loop-init
loop-init g c = moves_same _ _

pub returns-then-not-branch-clause-ok : goal.returns-then-not-branch-clause-ok
returns-then-not-branch-clause-ok g c = moves_then _ _ _ _ _ _ c.loop.invariant c.in_ok-collect_turn.ensures.ok

pub loop-preserved : goal.loop-preserved
loop-preserved g c = moves_then _ _ _ _ _ _ c.loop.invariant c.in_ok-collect_turn.ensures.ok

pub returns-in_err-collect_turn-clause-err : goal.returns-in_err-collect_turn-clause-err
returns-in_err-collect_turn-clause-err g c = any_err _ (breaks_then _ _ _ _ _ _ c.loop.invariant c.in_err-collect_turn.ensures.err)
