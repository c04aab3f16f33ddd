use Rattle.std.proofs.Common.{refl}
use Rattle.sc_edge.specs.declared.edge.Got.TheVariants as got
use Rattle.sc_rounds.proofs.OftenGivings.{answer_gives, closed_on, fault_on, not_yet_on}
use Rattle.sc_rounds.proofs.Servings.{comes_of, serves_closed, serves_fault, serves_not_yet}
use Rattle.sc_rounds.proofs.polling.take_got.Goals as goal

pub returns-in-Bytes-clause-ok : goal.returns-in-Bytes-clause-ok
returns-in-Bytes-clause-ok g c from old new s polls = c.take_bytes.ensures.ok from old new s (comes_of old new _ (got.Bytes c.in-Bytes.place c.in-Bytes.count) _ c.in-Bytes.is refl polls)

pub returns-in-Bytes-clause-err : goal.returns-in-Bytes-clause-err
returns-in-Bytes-clause-err g c from old new s polls = c.take_bytes.ensures.err from old new s (comes_of old new _ (got.Bytes c.in-Bytes.place c.in-Bytes.count) _ c.in-Bytes.is refl polls)

pub returns-in-End-clause-ok : goal.returns-in-End-clause-ok
returns-in-End-clause-ok g c from old new s polls = c.take_end.ensures.ok from old new s (comes_of old new _ (got.End c.in-End.place) _ c.in-End.is refl polls)

pub returns-in-End-clause-err : goal.returns-in-End-clause-err
returns-in-End-clause-err g c from old new s polls = c.take_end.ensures.err from old new s (comes_of old new _ (got.End c.in-End.place) _ c.in-End.is refl polls)

pub returns-in-Failed-clause-ok : goal.returns-in-Failed-clause-ok
returns-in-Failed-clause-ok g c from old new s polls = c.take_failure.ensures.ok from old new s (comes_of old new _ (got.Failed c.in-Failed.place) _ c.in-Failed.is refl polls)

pub returns-in-Failed-clause-err : goal.returns-in-Failed-clause-err
returns-in-Failed-clause-err g c from old new s polls = c.take_failure.ensures.err from old new s (comes_of old new _ (got.Failed c.in-Failed.place) _ c.in-Failed.is refl polls)

pub returns-in-Closed-clause-ok : goal.returns-in-Closed-clause-ok
returns-in-Closed-clause-ok g c from old new s polls = serves_closed from old new (g.N.Notice.noted c.args.notice.now) _ _ _ _ c.in-Closed.is s polls

pub returns-in-NotYet-clause-ok : goal.returns-in-NotYet-clause-ok
returns-in-NotYet-clause-ok g c from old new s polls = serves_not_yet from old new (g.N.Notice.noted c.args.notice.now) _ _ _ _ c.in-NotYet.is s polls

pub returns-in-Fault-clause-ok : goal.returns-in-Fault-clause-ok
returns-in-Fault-clause-ok g c from old new s polls = serves_fault from old new (g.N.Notice.noted c.args.notice.now) _ _ _ _ c.in-Fault.is s polls

pub returns-in-Bytes-clause-gave : goal.returns-in-Bytes-clause-gave
returns-in-Bytes-clause-gave g c from old new s polls = c.take_bytes.ensures.gave from old new s (comes_of old new _ (got.Bytes c.in-Bytes.place c.in-Bytes.count) _ c.in-Bytes.is refl polls)

pub returns-in-End-clause-gave : goal.returns-in-End-clause-gave
returns-in-End-clause-gave g c from old new s polls place e = absurd (c.take_end.ensures.none place e)

pub returns-in-Failed-clause-gave : goal.returns-in-Failed-clause-gave
returns-in-Failed-clause-gave g c from old new s polls place e = absurd (c.take_failure.ensures.none place e)

pub returns-in-Closed-clause-gave : goal.returns-in-Closed-clause-gave
returns-in-Closed-clause-gave g c from old new s polls place e = cc

pub returns-in-NotYet-clause-gave : goal.returns-in-NotYet-clause-gave
returns-in-NotYet-clause-gave g c from old new s polls place e = cc

pub returns-in-Fault-clause-gave : goal.returns-in-Fault-clause-gave
returns-in-Fault-clause-gave g c from old new s polls place e = cc

pub returns-in-Bytes-clause-gives : goal.returns-in-Bytes-clause-gives
returns-in-Bytes-clause-gives g c old new polls = answer_gives _ old new _ (got.Bytes c.in-Bytes.place c.in-Bytes.count) _ _ _ c.in-Bytes.is refl polls c.take_bytes.ensures.gives

pub returns-in-End-clause-gives : goal.returns-in-End-clause-gives
returns-in-End-clause-gives g c old new polls = answer_gives _ old new _ (got.End c.in-End.place) _ _ _ c.in-End.is refl polls c.take_end.ensures.gives

pub returns-in-Failed-clause-gives : goal.returns-in-Failed-clause-gives
returns-in-Failed-clause-gives g c old new polls = answer_gives _ old new _ (got.Failed c.in-Failed.place) _ _ _ c.in-Failed.is refl polls c.take_failure.ensures.gives

pub returns-in-Closed-clause-gives : goal.returns-in-Closed-clause-gives
returns-in-Closed-clause-gives g c old new polls = closed_on old new _ _ _ c.in-Closed.is polls

pub returns-in-NotYet-clause-gives : goal.returns-in-NotYet-clause-gives
returns-in-NotYet-clause-gives g c old new polls = not_yet_on old new _ _ _ c.in-NotYet.is polls

pub returns-in-Fault-clause-gives : goal.returns-in-Fault-clause-gives
returns-in-Fault-clause-gives g c old new polls = fault_on old new _ _ _ c.in-Fault.is polls
