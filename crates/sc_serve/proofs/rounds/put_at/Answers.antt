use Rattle.std.proofs.Common.{refl}
use Rattle.sc_serve.proofs.Roundings.{goes_halts, goes_same, memory_blames, memory_due, no_blames, put_halts, put_then}
use Rattle.sc_serve.proofs.rounds.put_at.Goals as goal

pub returns-in-Ok-note_put-clause-ok : goal.returns-in-Ok-note_put-clause-ok
returns-in-Ok-note_put-clause-ok g c = put_then _ _ _ _ _ _ _ _ c.in-Ok.ensures.ok c.put_place.ensures.tells c.put_place.ensures.gives c.put_place.ensures.closes c.note_put.ensures.core c.note_put.ensures.streams c.note_put.ensures.broken

pub returns-in-Err-note_put-clause-err : goal.returns-in-Err-note_put-clause-err
returns-in-Err-note_put-clause-err g c = goes_halts _ _ _ _ _ _ (put_then _ _ _ _ _ _ _ _ c.in-Ok.ensures.ok c.put_place.ensures.tells c.put_place.ensures.gives c.put_place.ensures.closes c.note_put.ensures.core c.note_put.ensures.streams c.note_put.ensures.broken)

pub returns-in-Err-note_put-clause-blames : goal.returns-in-Err-note_put-clause-blames
returns-in-Err-note_put-clause-blames g c = memory_blames _ _

pub returns-in-Err-clause-err : goal.returns-in-Err-clause-err
returns-in-Err-clause-err g c = put_halts _ _ _ _ _ _ c.in-Err.ensures.err c.put_place.ensures.tells c.put_place.ensures.closes

pub returns-in-Err-clause-blames : goal.returns-in-Err-clause-blames
returns-in-Err-clause-blames g c = no_blames _ _ _ c.stop_of.ensures.cause

pub returns-in-None-clause-ok : goal.returns-in-None-clause-ok
returns-in-None-clause-ok g c = goes_same _ _ _

pub returns-in-Err-note_put-clause-due : goal.returns-in-Err-note_put-clause-due
returns-in-Err-note_put-clause-due g c = memory_due _

pub returns-in-Err-clause-due : goal.returns-in-Err-clause-due
returns-in-Err-clause-due g c = c.stop_of.ensures.due _ c.in-Err.ensures.due

pub returns-in-Ok-note_put-clause-unheard : goal.returns-in-Ok-note_put-clause-unheard
returns-in-Ok-note_put-clause-unheard g c = record { unpolled = c.note_put.ensures.unpolled; polls = c.put_place.ensures.polled.0 }

pub returns-in-Err-note_put-clause-unheard : goal.returns-in-Err-note_put-clause-unheard
returns-in-Err-note_put-clause-unheard g c = record { unpolled = c.note_put.ensures.unpolled; polls = c.put_place.ensures.polled.0 }

pub returns-in-Err-clause-unheard : goal.returns-in-Err-clause-unheard
returns-in-Err-clause-unheard g c = record { unpolled = refl; polls = c.put_place.ensures.polled.0 }

pub returns-in-None-clause-unheard : goal.returns-in-None-clause-unheard
returns-in-None-clause-unheard g c = record { unpolled = refl; polls = refl }
