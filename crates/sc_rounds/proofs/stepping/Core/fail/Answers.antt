use Rattle.std.proofs.Common.{refl}
use Rattle.sc_rounds.proofs.Refusals.{loss_due, memory_due}
use Rattle.sc_rounds.proofs.Steppings.{fell_behind, fell_err, fell_ok, none_taken, settled_runs}
use Rattle.sc_rounds.proofs.stepping.Core.fail.Goals as goal

pub returns-in-Ok-lose-clause-ok : goal.returns-in-Ok-lose-clause-ok
returns-in-Ok-lose-clause-ok g c = fell_ok _ _ _ _ _ _ _ _ _ _ c.make_room.ensures.same c.in-Ok.ensures.ok c.in-Ok-lose.ensures.ok (λ waits. c.make_room.ensures.over) c.settle.ensures.ok

pub returns-in-Ok-lose-clause-err : goal.returns-in-Ok-lose-clause-err
returns-in-Ok-lose-clause-err g c = fell_err _ _ _ _ _ _ _ _ _ _ c.make_room.ensures.same c.in-Ok.ensures.ok (λ waits. c.make_room.ensures.over) c.settle.ensures.err

pub returns-in-Err-lose-clause-err : goal.returns-in-Err-lose-clause-err
returns-in-Err-lose-clause-err g c = fell_behind _ _ _ _ c.lose.new.self _ _ _ _ c.make_room.ensures.same c.in-Ok.ensures.ok (λ waits. c.make_room.ensures.over) (settled_runs (record c.make_room.new.self { switch = c.lost.new.self; outs = c.lose.new.self }) _ _ _ c.steps.result c.step.ensures c.steps.ensures refl)

pub returns-in-Err-clause-err : goal.returns-in-Err-clause-err
returns-in-Err-clause-err g c = none_taken _ _ _ _ _ _ _ c.make_room.ensures.same c.in-Err.ensures.err

pub returns-in-Err-lose-clause-due : goal.returns-in-Err-lose-clause-due
returns-in-Err-lose-clause-due g c = memory_due _

pub returns-in-Err-clause-due : goal.returns-in-Err-clause-due
returns-in-Err-clause-due g c = loss_due _ _ c.args.at _ c.in-Err.ensures.err c.in-Err.ensures.refused
