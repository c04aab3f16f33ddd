use Rattle.sc_serve.proofs.Roundings.{counts_none, counts_then, rests_none, rests_then}
use Rattle.sc_serve.proofs.closing.close_broken.Goals as goal

pub loop-back-init : goal.loop-back-init
loop-back-init g c = record { rests = rests_none (g.E.Edge.state c.args.edge.now); later = counts_none (g.E.Edge.state c.args.edge.now); closes = λ first s. s; closes_all = λ first streams s. s }

pub loop-back-preserved : goal.loop-back-preserved
loop-back-preserved g c = record { rests = rests_then (g.E.Edge.state c.args.edge.now) (g.E.Edge.state c.loop-back.edge) (g.E.Edge.state c.close_at.new.edge) c.loop-back.invariant.rests c.close_at.ensures.rests; later = counts_then (g.E.Edge.state c.args.edge.now) (g.E.Edge.state c.loop-back.edge) (g.E.Edge.state c.close_at.new.edge) c.loop-back.invariant.later c.close_at.ensures.later; closes = λ first s. c.close_at.ensures.closes first (c.loop-back.invariant.closes first s); closes_all = λ first streams s. c.close_at.ensures.closes_all first streams (c.loop-back.invariant.closes_all first streams s) }
