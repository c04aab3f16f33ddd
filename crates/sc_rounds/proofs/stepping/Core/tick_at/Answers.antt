use Rattle.sc_rounds.proofs.Refusals.{is-before, tick_due}
use Rattle.sc_rounds.proofs.Steppings.{none_taken, took_err, took_ok}
use Rattle.sc_rounds.proofs.stepping.Core.tick_at.Goals as goal

pub returns-in-Ok-clause-ok : goal.returns-in-Ok-clause-ok
returns-in-Ok-clause-ok g c = took_ok _ _ _ _ _ _ _ _ _ c.make_room_at.ensures.same c.in-Ok.ensures.ok (rw c.make_room_at.ensures.moment c.requires.later) c.make_room_at.ensures.young (λ waits. c.make_room_at.ensures.over) c.settle.ensures.ok

pub returns-in-Ok-clause-err : goal.returns-in-Ok-clause-err
returns-in-Ok-clause-err g c = took_err _ _ _ _ _ _ _ _ _ c.make_room_at.ensures.same c.in-Ok.ensures.ok (rw c.make_room_at.ensures.moment c.requires.later) c.make_room_at.ensures.young (λ waits. c.make_room_at.ensures.over) c.settle.ensures.err

pub returns-in-Err-clause-err : goal.returns-in-Err-clause-err
returns-in-Err-clause-err g c = none_taken _ _ _ _ _ _ _ c.make_room_at.ensures.same c.in-Err.ensures.err

pub returns-in-Err-clause-due : goal.returns-in-Err-clause-due
returns-in-Err-clause-due g c = tick_due _ _ _ _ _ c.make_room_at.ensures.moment (is-before _ _ c.requires.later) c.requires.within c.in-Err.ensures.err c.in-Err.ensures.refused
