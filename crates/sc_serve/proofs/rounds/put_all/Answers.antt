use Rattle.sc_serve.proofs.Roundings.{blames_after, counts_none, counts_then, goes_same, goes_then, halts_then, unheard_none, unheard_then}
use Rattle.sc_serve.proofs.rounds.put_all.Goals as goal

pub loop-done-init : goal.loop-done-init
loop-done-init g c = record { goes = goes_same _ _ _; later = counts_none (g.E.Edge.state c.args.edge.now); unheard = unheard_none _ _ }

pub loop-done-preserved : goal.loop-done-preserved
loop-done-preserved g c = record { goes = goes_then _ _ _ _ _ _ _ _ _ c.loop-done.invariant.goes c.in-Ok.ensures.ok; later = counts_then (g.E.Edge.state c.args.edge.now) (g.E.Edge.state c.loop-done.edge) (g.E.Edge.state c.put_at.new.edge) c.loop-done.invariant.later c.put_at.ensures.later; unheard = unheard_then _ _ _ _ _ _ c.loop-done.invariant.unheard c.put_at.ensures.unheard }

pub returns-in-Err-clause-err : goal.returns-in-Err-clause-err
returns-in-Err-clause-err g c = halts_then _ _ _ _ _ _ _ _ _ c.loop-done.invariant.goes c.in-Err.ensures.err

pub returns-in-Err-clause-later : goal.returns-in-Err-clause-later
returns-in-Err-clause-later g c = counts_then (g.E.Edge.state c.args.edge.now) (g.E.Edge.state c.loop-done.edge) (g.E.Edge.state c.put_at.new.edge) c.loop-done.invariant.later c.put_at.ensures.later

pub returns-in-Err-clause-blames : goal.returns-in-Err-clause-blames
returns-in-Err-clause-blames g c = blames_after _ _ _ _ c.loop-done.invariant.later c.in-Err.ensures.blames

pub returns-in-Err-clause-unheard : goal.returns-in-Err-clause-unheard
returns-in-Err-clause-unheard g c = unheard_then _ _ _ _ _ _ c.loop-done.invariant.unheard c.put_at.ensures.unheard
