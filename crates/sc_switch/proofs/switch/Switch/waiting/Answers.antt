use Rattle.sc_switch.proofs.switch.Switch.waiting.Goals as goal

pub returns : goal.returns
returns c = rw (← c.self.view_is) c.self.invariant.net_is.waiting_is
