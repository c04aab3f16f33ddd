use Rattle.sc_edge.specs.Edges.{CountsOn, EdgeState}
use Rattle.sc_runs.specs.Following.{Streams}
use Rattle.sc_serve.specs.Closing.{Closes, ClosesAll, Rests}
use Rattle.sc_serve.proofs.closing.close_broken.Given as goal

abbrev pub invariant-loop-back : goal.invariant-loop-back
invariant-loop-back g l = record {
  rests : Rests (g.E.Edge.state l.fn.edge) (g.E.Edge.state l.edge);
  later : CountsOn (g.E.Edge.state l.fn.edge) (g.E.Edge.state l.edge);
  closes : (first : EdgeState) → Closes first (g.E.Edge.state l.fn.edge) l.fn.broken → Closes first (g.E.Edge.state l.edge) l.broken;
  closes_all : (first : EdgeState) (streams : Streams) → ClosesAll first (g.E.Edge.state l.fn.edge) streams l.fn.broken → ClosesAll first (g.E.Edge.state l.edge) streams l.broken;
}
