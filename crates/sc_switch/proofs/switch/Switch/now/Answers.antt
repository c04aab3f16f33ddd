use Rattle.std.proofs.Common.{◌∙◌, ap}
use Rattle.sc_switch.proofs.switch.Switch.now.Goals as goal

pub returns : goal.returns
returns c = rw (← c.self.view_is) (c.moment.ensures ∙ ap (λ n. n.moment) c.self.invariant.net_is.net_is)
