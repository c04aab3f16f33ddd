use Rattle.sc_rounds.proofs.Refusals.{memory_due}
use Rattle.sc_rounds.proofs.Movings.{same_moves, stands_breaks}
use Rattle.sc_rounds.proofs.turning.list.Goals as goal

pub returns-in-Ok-clause-ok : goal.returns-in-Ok-clause-ok
returns-in-Ok-clause-ok g c = same_moves _ _ _ _ c.list.ensures

pub returns-in-Err-clause-err : goal.returns-in-Err-clause-err
returns-in-Err-clause-err g c = stands_breaks _ _ _ _ (same_moves _ _ _ _ c.list.ensures)

pub returns-in-Err-clause-due : goal.returns-in-Err-clause-due
returns-in-Err-clause-due g c = memory_due _
