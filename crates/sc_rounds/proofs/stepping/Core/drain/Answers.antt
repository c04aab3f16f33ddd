use Rattle.sc_rounds.proofs.Steppings.{owed_on, tail_same}
use Rattle.sc_rounds.proofs.stepping.Core.drain.Goals as goal

pub loop-sent-preserved : goal.loop-sent-preserved
loop-sent-preserved c = (tail_same c.args.self.now.switch c.loop-sent.self.switch c.take_sent.new.self c.loop-sent.invariant.0 c.take_sent.ensures.same, (λ first now deeds puts. owed_on _ _ _ _ _ c.in-Some.ensures.some c.in_ok-owe.ensures.ok first now deeds (c.loop-sent.invariant.1 first now deeds puts)), c.loop-sent.invariant.2, c.loop-sent.invariant.3, c.loop-sent.invariant.4, c.loop-sent.invariant.5)
