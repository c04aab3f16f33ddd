use Rattle.sc_rounds.proofs.Movings.{moves_same, on_breaks, on_moves, same_moves, stands_breaks}
use Rattle.sc_rounds.proofs.Refusals.{memory_due}
use Rattle.sc_lending.proofs.lending.lend_turn.Goals as goal

pub returns-then-not-is_turn_due-clause-ok : goal.returns-then-not-is_turn_due-clause-ok
returns-then-not-is_turn_due-clause-ok g c = moves_same _ _

pub returns-in-Ok-clause-ok : goal.returns-in-Ok-clause-ok
returns-in-Ok-clause-ok g c = same_moves _ _ _ _ (c.lease.ensures _)

pub returns-in-Err-offer-clause-ok : goal.returns-in-Err-offer-clause-ok
returns-in-Err-offer-clause-ok g c = on_moves _ _ _ _ _ _ _ (same_moves _ _ _ _ (c.lease.ensures _)) c.make_turn.ensures.ok

pub returns-in-Err-offer-clause-err : goal.returns-in-Err-offer-clause-err
returns-in-Err-offer-clause-err g c = on_breaks _ _ _ _ _ _ _ (same_moves _ _ _ _ (c.lease.ensures _)) c.make_turn.ensures.err

pub returns-in-Ok-None-clause-ok : goal.returns-in-Ok-None-clause-ok
returns-in-Ok-None-clause-ok g c = same_moves _ _ _ _ (c.lease.ensures _)

pub returns-in-Err-clause-err : goal.returns-in-Err-clause-err
returns-in-Err-clause-err g c = stands_breaks _ _ _ _ (same_moves _ _ _ _ (c.lease.ensures _))

pub returns-in-Err-clause-due : goal.returns-in-Err-clause-due
returns-in-Err-clause-due g c = memory_due _
