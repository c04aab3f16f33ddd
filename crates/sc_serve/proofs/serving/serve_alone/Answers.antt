use Rattle.sc_serve.proofs.Endings.{asked_serves}
use Rattle.sc_serve.proofs.Leavings.{ran_served}
use Rattle.sc_serve.proofs.serving.serve_alone.Goals as goal

pub returns-in-Ok-clause-serves : goal.returns-in-Ok-clause-serves
returns-in-Ok-clause-serves g c = asked_serves _ _ _ _ _ (g.E.Edge.state c.args.edge.now) (g.E.Edge.state c.run-ended.new.edge) (g.N.Notice.noted c.args.notice.now) (g.N.Notice.noted c.run-ended.new.notice) ((g.T.Clock.asked c.args.clock.now, g.T.Clock.comes c.args.clock.now), (g.O.Orders.asked c.args.orders.now, g.O.Orders.comes c.args.orders.now)) ((g.T.Clock.asked c.run-ended.new.clock, g.T.Clock.comes c.run-ended.new.clock), (g.O.Orders.asked c.run-ended.new.orders, g.O.Orders.comes c.run-ended.new.orders)) c.finish.result _ c.in-Ok.ensures.asked
    (ran_served c.run-ended.result _ c.run-ended.new.server (g.E.Edge.state c.args.edge.now) (g.E.Edge.state c.run-ended.new.edge) (g.N.Notice.noted c.args.notice.now) (g.N.Notice.noted c.run-ended.new.notice) ((g.T.Clock.asked c.args.clock.now, g.T.Clock.comes c.args.clock.now), (g.O.Orders.asked c.args.orders.now, g.O.Orders.comes c.args.orders.now)) ((g.T.Clock.asked c.run-ended.new.clock, g.T.Clock.comes c.run-ended.new.clock), (g.O.Orders.asked c.run-ended.new.orders, g.O.Orders.comes c.run-ended.new.orders)) c.status_after.result c.finish.result c.in-Ok.ensures.new c.run-ended.ensures.ok c.run-ended.ensures.err c.run-ended.ensures.blames c.in-Ok.ensures.right c.run-ended.ensures.due c.status_after.ensures.done c.status_after.ensures.stopped c.finish.ensures.status c.finish.ensures.epoch c.finish.ensures.began c.finish.ensures.journal c.finish.ensures.lawful)

pub returns-in-Err-clause-serves : goal.returns-in-Err-clause-serves
returns-in-Err-clause-serves g c = c.in-Err.ensures.unserved (g.E.Edge.state c.args.edge.now) (g.N.Notice.noted c.args.notice.now) ((g.T.Clock.asked c.args.clock.now, g.T.Clock.comes c.args.clock.now), (g.O.Orders.asked c.args.orders.now, g.O.Orders.comes c.args.orders.now))
