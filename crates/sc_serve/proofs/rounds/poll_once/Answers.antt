use Rattle.std.proofs.Common.{refl}
use Rattle.sc_serve.proofs.Roundings.{edge_due, fault_blames, memory_blames, memory_due, no_blames, poll_ends, poll_halts, poll_then, polls_of, remembers_came}
use Rattle.sc_serve.proofs.AllClosings.{added_by}
use Rattle.sc_serve.proofs.rounds.poll_once.Goals as goal

pub returns-then-is_fault-clause-err : goal.returns-then-is_fault-clause-err
returns-then-is_fault-clause-err g c = poll_ends _ _ _ _ _ _ _ _ _ _ c.in-Ok.ensures.ok (polls_of _ _ _ _ c.poll-got.ensures.stands c.poll-got.ensures.told c.poll-got.ensures.ended) c.poll-got.ensures.closes refl

pub returns-then-is_fault-clause-blames : goal.returns-then-is_fault-clause-blames
returns-then-is_fault-clause-blames g c = fault_blames _ _ _ (c.is_fault.ensures c.if-is_fault.true) c.poll-got.ensures.blames

pub returns-in-Ok-note-clause-ok : goal.returns-in-Ok-note-clause-ok
returns-in-Ok-note-clause-ok g c = poll_then _ _ _ _ _ _ _ _ _ _ _ c.in-Ok.ensures.ok (polls_of _ _ _ _ c.poll-got.ensures.stands c.poll-got.ensures.told c.poll-got.ensures.ended) c.poll-got.ensures.closes c.note.ensures.core c.note.ensures.streams
    (remembers_came _ _ _ _ _ _ _ _ _ c.take_got.ensures.gave c.in-Ok.is (polls_of _ _ _ _ c.poll-got.ensures.stands c.poll-got.ensures.told c.poll-got.ensures.ended) c.in-Ok-note.ensures.broken)
    (c.in-Ok.ensures.gives _ _ (polls_of _ _ _ _ c.poll-got.ensures.stands c.poll-got.ensures.told c.poll-got.ensures.ended)) (added_by _ _ _ c.in-Ok-note.ensures.broken)

pub returns-in-Err-note-clause-err : goal.returns-in-Err-note-clause-err
returns-in-Err-note-clause-err g c = poll_ends _ _ _ _ _ _ _ _ _ _ c.in-Ok.ensures.ok (polls_of _ _ _ _ c.poll-got.ensures.stands c.poll-got.ensures.told c.poll-got.ensures.ended) c.poll-got.ensures.closes c.note.ensures.core

pub returns-in-Err-note-clause-blames : goal.returns-in-Err-note-clause-blames
returns-in-Err-note-clause-blames g c = memory_blames _ _

pub returns-in-Err-clause-err : goal.returns-in-Err-clause-err
returns-in-Err-clause-err g c = poll_halts _ _ _ _ _ _ _ _ c.in-Err.ensures.err (polls_of _ _ _ _ c.poll-got.ensures.stands c.poll-got.ensures.told c.poll-got.ensures.ended) c.poll-got.ensures.closes

pub returns-in-Err-clause-blames : goal.returns-in-Err-clause-blames
returns-in-Err-clause-blames g c = no_blames _ _ _ c.stop_of.ensures.cause

pub returns-then-is_fault-clause-due : goal.returns-then-is_fault-clause-due
returns-then-is_fault-clause-due g c = edge_due _

pub returns-in-Err-note-clause-due : goal.returns-in-Err-note-clause-due
returns-in-Err-note-clause-due g c = memory_due _

pub returns-in-Err-clause-due : goal.returns-in-Err-clause-due
returns-in-Err-clause-due g c = c.stop_of.ensures.due _ c.in-Err.ensures.due
