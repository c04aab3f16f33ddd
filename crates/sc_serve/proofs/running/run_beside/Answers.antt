use Rattle.sc_serve.proofs.Roundings.{memory_blames, memory_due, same_halts_on}
use Rattle.sc_serve.proofs.running.run_beside.Goals as goal

pub returns-in-Ok-clause-err : goal.returns-in-Ok-clause-err
returns-in-Ok-clause-err g c = same_halts_on _ _ _ _

pub returns-in-Ok-clause-blames : goal.returns-in-Ok-clause-blames
returns-in-Ok-clause-blames g c = memory_blames _ _

pub returns-clause-err : goal.returns-clause-err
returns-clause-err g c = same_halts_on _ _ _ _

pub returns-clause-blames : goal.returns-clause-blames
returns-clause-blames g c = memory_blames _ _

pub returns-in-Ok-clause-due : goal.returns-in-Ok-clause-due
returns-in-Ok-clause-due g c = memory_due _

pub returns-clause-due : goal.returns-clause-due
returns-clause-due g c = memory_due _
