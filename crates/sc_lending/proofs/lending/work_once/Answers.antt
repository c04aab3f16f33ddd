use Rattle.sc_rounds.proofs.Movings.{breaks_then, moves_then}
use Rattle.sc_lending.proofs.lending.work_once.Goals as goal

pub returns-then-lent-clause-ok : goal.returns-then-lent-clause-ok
returns-then-lent-clause-ok g c = moves_then _ _ _ _ _ _ c.in-Ok.ensures.ok c.in-Ok-collect_turns.ensures.ok

pub returns-else-lent-clause-ok : goal.returns-else-lent-clause-ok
returns-else-lent-clause-ok g c = moves_then _ _ _ _ _ _ c.in-Ok.ensures.ok c.in-Ok-collect_turns.ensures.ok

pub returns-in-Err-collect_turns-clause-err : goal.returns-in-Err-collect_turns-clause-err
returns-in-Err-collect_turns-clause-err g c = breaks_then _ _ _ _ _ _ c.in-Ok.ensures.ok c.in-Err-collect_turns.ensures.err
