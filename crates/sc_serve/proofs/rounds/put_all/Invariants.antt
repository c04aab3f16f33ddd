use Rattle.sc_edge.specs.Edges.{CountsOn}
use Rattle.sc_serve.specs.Running.{Goes, IsUnheard}
use Rattle.sc_serve.proofs.rounds.put_all.Given as goal

abbrev pub invariant-loop-done : goal.invariant-loop-done
invariant-loop-done g l = record {
  goes : Goes l.fn.server l.server (g.E.Edge.state l.fn.edge) (g.E.Edge.state l.edge) (g.N.Notice.noted l.fn.notice) (g.N.Notice.noted l.notice);
  later : CountsOn (g.E.Edge.state l.fn.edge) (g.E.Edge.state l.edge);
  unheard : IsUnheard l.fn.server l.server (g.E.Edge.state l.fn.edge) (g.E.Edge.state l.edge);
}
