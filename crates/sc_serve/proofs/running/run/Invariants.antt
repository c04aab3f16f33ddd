use Rattle.sc_edge.specs.Edges.{CountsOn}
use Rattle.sc_serve.specs.Running.{GoesOn}
use Rattle.sc_serve.proofs.running.run.Given as goal

abbrev pub invariant-loop : goal.invariant-loop
invariant-loop g l = record {
  goes : GoesOn l.fn.server l.server (g.E.Edge.state l.fn.edge) (g.E.Edge.state l.edge) (g.N.Notice.noted l.fn.notice) (g.N.Notice.noted l.notice) ((g.T.Clock.asked l.fn.clock, g.T.Clock.comes l.fn.clock), (g.O.Orders.asked l.fn.orders, g.O.Orders.comes l.fn.orders)) ((g.T.Clock.asked l.clock, g.T.Clock.comes l.clock), (g.O.Orders.asked l.orders, g.O.Orders.comes l.orders));
  later : CountsOn (g.E.Edge.state l.fn.edge) (g.E.Edge.state l.edge);
}
