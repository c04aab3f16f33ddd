use Rattle.sc_switch.proofs.switch.Switch.live.Goals as goal

pub returns : goal.returns
returns c = rw (← c.self.view_is) c.self.invariant.net_is.live_is
