use Rattle.std.proofs.Common.{refl}
use Rattle.sc_serve.proofs.Roundings.{blames_after, counts_then, goes_on_goes, goes_on_halts, heard_halts, work_goes, work_halts}
use Rattle.sc_serve.proofs.rounds.round.Goals as goal

pub returns-in-Ok-tell_once-clause-ok : goal.returns-in-Ok-tell_once-clause-ok
returns-in-Ok-tell_once-clause-ok g c = goes_on_goes _ _ _ _ _ _ _ _ _ _ _ (goes_on_goes _ _ _ _ _ _ _ _ _ _ _ (work_goes _ _ _ _ _ _ _ _ _ _ c.in-Ok.ensures.ok c.in-Ok.ensures.hears (c.in-Ok-step_once.ensures.ok _) c.step_once.ensures.unpolled) c.in-Ok-put_once.ensures.ok c.put_once.ensures.unheard) (c.in-Ok-tell_once.ensures.ok _) (record { unpolled = c.tell_once.ensures.unpolled; polls = refl })

pub returns-in-Err-tell_once-clause-err : goal.returns-in-Err-tell_once-clause-err
returns-in-Err-tell_once-clause-err g c = goes_on_halts _ _ _ _ _ _ _ _ _ _ _ (goes_on_goes _ _ _ _ _ _ _ _ _ _ _ (work_goes _ _ _ _ _ _ _ _ _ _ c.in-Ok.ensures.ok c.in-Ok.ensures.hears (c.in-Ok-step_once.ensures.ok _) c.step_once.ensures.unpolled) c.in-Ok-put_once.ensures.ok c.put_once.ensures.unheard) (c.in-Err-tell_once.ensures.err _) (record { unpolled = c.tell_once.ensures.unpolled; polls = refl })

pub returns-in-Err-tell_once-clause-blames : goal.returns-in-Err-tell_once-clause-blames
returns-in-Err-tell_once-clause-blames g c = blames_after _ _ _ _ (counts_then (g.E.Edge.state c.args.edge.now) (g.E.Edge.state c.hear_once.new.edge) (g.E.Edge.state c.put_once.new.edge) c.hear_once.ensures.later c.put_once.ensures.later) (c.in-Err-tell_once.ensures.blames _)

pub returns-in-Err-put_once-clause-err : goal.returns-in-Err-put_once-clause-err
returns-in-Err-put_once-clause-err g c = goes_on_halts _ _ _ _ _ _ _ _ _ _ _ (work_goes _ _ _ _ _ _ _ _ _ _ c.in-Ok.ensures.ok c.in-Ok.ensures.hears (c.in-Ok-step_once.ensures.ok _) c.step_once.ensures.unpolled) c.in-Err-put_once.ensures.err c.put_once.ensures.unheard

pub returns-in-Err-put_once-clause-blames : goal.returns-in-Err-put_once-clause-blames
returns-in-Err-put_once-clause-blames g c = blames_after _ _ _ _ c.hear_once.ensures.later c.in-Err-put_once.ensures.blames

pub returns-in-Err-step_once-clause-err : goal.returns-in-Err-step_once-clause-err
returns-in-Err-step_once-clause-err g c = work_halts _ _ _ _ _ _ _ _ _ _ c.in-Ok.ensures.ok c.in-Ok.ensures.hears (c.in-Err-step_once.ensures.err _) c.step_once.ensures.unpolled

pub returns-in-Err-step_once-clause-blames : goal.returns-in-Err-step_once-clause-blames
returns-in-Err-step_once-clause-blames g c = blames_after _ _ _ _ c.hear_once.ensures.later (c.in-Err-step_once.ensures.blames _)

pub returns-in-Err-clause-err : goal.returns-in-Err-clause-err
returns-in-Err-clause-err g c = heard_halts _ _ _ _ _ _ _ c.in-Err.ensures.err c.in-Err.ensures.polled
