use Rattle.sc_switch.proofs.Standings.{IsSwitch-taken}
use Rattle.sc_switch.proofs.switch.Switch.take_sent.Goals as goal

pub invariant_of-self : goal.invariant_of-self
invariant_of-self c = IsSwitch-taken _ _ _ _ _ _ _ c.pop_front.result c.self.invariant c.pop_front.ensures.items
