use Rattle.std.proofs.Common.{refl}
use Rattle.sc_serve.proofs.Roundings.{blames_after, counts_none, counts_then, goes_on_none, goes_on_then, halts_on_then, over_on, rest_counts, rest_goes_on}
use Rattle.sc_serve.proofs.running.run.Goals as goal

pub loop-init : goal.loop-init
loop-init g c = record { goes = goes_on_none _ _ _ _; later = counts_none (g.E.Edge.state c.args.edge.now) }

pub loop-preserved-in-Ok-true : goal.loop-preserved-in-Ok-true
loop-preserved-in-Ok-true g c = record { goes = goes_on_then _ _ _ _ _ _ _ _ _ _ _ _ c.loop.invariant.goes c.in-Ok-true.ensures.ok; later = counts_then (g.E.Edge.state c.args.edge.now) (g.E.Edge.state c.loop.edge) (g.E.Edge.state c.round.new.edge) c.loop.invariant.later c.round.ensures.later }

pub loop-preserved : goal.loop-preserved
loop-preserved g c = record { goes = rest_goes_on _ _ (g.E.Edge.state c.args.edge.now) (g.E.Edge.state c.round.new.edge) (g.E.Edge.state c.rest.new.edge) _ _ _ _ c.rest.ensures (goes_on_then _ _ _ _ _ _ _ _ _ _ _ _ c.loop.invariant.goes c.in-Ok-false.ensures.ok); later = rest_counts (g.E.Edge.state c.args.edge.now) (g.E.Edge.state c.round.new.edge) (g.E.Edge.state c.rest.new.edge) c.rest.ensures (counts_then (g.E.Edge.state c.args.edge.now) (g.E.Edge.state c.loop.edge) (g.E.Edge.state c.round.new.edge) c.loop.invariant.later c.round.ensures.later) }

pub returns-then-is_done-clause-ok : goal.returns-then-is_done-clause-ok
returns-then-is_done-clause-ok g c = over_on _ c.round.new.server _ _ _ _ _ _ _ _ (goes_on_then _ _ _ _ _ _ _ _ _ _ _ _ c.loop.invariant.goes c.in-Ok-false.ensures.ok) refl refl refl c.end_epoch.ensures.moves c.end_epoch.ensures.outs (c.is_done.ensures.left c.if-is_done.true) (c.is_done.ensures.closed c.if-is_done.true) c.end_epoch.ensures.unlisted (c.is_done.ensures.listed c.if-is_done.true) c.end_epoch.ensures.over

pub returns-then-is_done-clause-later : goal.returns-then-is_done-clause-later
returns-then-is_done-clause-later g c = counts_then (g.E.Edge.state c.args.edge.now) (g.E.Edge.state c.loop.edge) (g.E.Edge.state c.round.new.edge) c.loop.invariant.later c.round.ensures.later

pub returns-in-Err-clause-err : goal.returns-in-Err-clause-err
returns-in-Err-clause-err g c = halts_on_then _ _ _ _ _ _ _ _ _ _ _ _ c.loop.invariant.goes c.in-Err.ensures.err

pub returns-in-Err-clause-later : goal.returns-in-Err-clause-later
returns-in-Err-clause-later g c = counts_then (g.E.Edge.state c.args.edge.now) (g.E.Edge.state c.loop.edge) (g.E.Edge.state c.round.new.edge) c.loop.invariant.later c.round.ensures.later

pub returns-in-Err-clause-blames : goal.returns-in-Err-clause-blames
returns-in-Err-clause-blames g c = blames_after _ _ _ _ c.loop.invariant.later c.in-Err.ensures.blames
