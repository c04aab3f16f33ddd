use Rattle.sc_switch.proofs.readied.Readied.begin_epoch.Goals as goal

pub returns : goal.returns
returns c = rw (← c.self.view_is) c.quiet_net.ensures
