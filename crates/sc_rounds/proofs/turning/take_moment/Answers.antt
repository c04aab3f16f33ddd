use Rattle.sc_courses.proofs.AskingLaws.{answered_one}
use Rattle.sc_rounds.proofs.Movings.{tick_err, tick_ok}
use Rattle.sc_rounds.proofs.turning.take_moment.Goals as goal

pub returns-clause-ok : goal.returns-clause-ok
returns-clause-ok g c = tick_ok c.now.result c.tick.result _ _ (g.N.Notice.noted c.args.notice.now) (g.N.Notice.noted c.tick.new.notice) (g.T.Clock.asked c.args.clock.now, g.T.Clock.comes c.args.clock.now) (g.T.Clock.asked c.now.new.self, g.T.Clock.comes c.now.new.self) c.now.ensures.bound
    (answered_one (g.T.Clock.asked c.args.clock.now, g.T.Clock.comes c.args.clock.now) (g.T.Clock.asked c.now.new.self, g.T.Clock.comes c.now.new.self) c.now.result c.now.ensures.asked c.now.ensures.told c.now.ensures.comes) c.tick.ensures.ok

pub returns-clause-err : goal.returns-clause-err
returns-clause-err g c = tick_err c.now.result c.tick.result _ _ (g.N.Notice.noted c.args.notice.now) (g.N.Notice.noted c.tick.new.notice) (g.T.Clock.asked c.args.clock.now, g.T.Clock.comes c.args.clock.now) (g.T.Clock.asked c.now.new.self, g.T.Clock.comes c.now.new.self)
    (answered_one (g.T.Clock.asked c.args.clock.now, g.T.Clock.comes c.args.clock.now) (g.T.Clock.asked c.now.new.self, g.T.Clock.comes c.now.new.self) c.now.result c.now.ensures.asked c.now.ensures.told c.now.ensures.comes) c.tick.ensures.err
