use Rattle.sc_rounds.proofs.Movings.{commit_breaks, commit_moves, moves_same}
use Rattle.sc_lending.proofs.lending.collect_turn.Goals as goal

pub returns-in-Ok-clause-ok : goal.returns-in-Ok-clause-ok
returns-in-Ok-clause-ok g c = commit_moves _ _ _ _ _ _ c.in-Ok.ensures.ok

pub returns-in-Err-clause-err : goal.returns-in-Err-clause-err
returns-in-Err-clause-err g c = commit_breaks _ _ _ _ _ c.in-Err.ensures.err

pub returns-in-None-clause-ok : goal.returns-in-None-clause-ok
returns-in-None-clause-ok g c = moves_same _ _
