use Rattle.sc_switch.proofs.Sames.{next_on}
use Rattle.sc_switch.proofs.switch.Switch.next.Goals as goal

pub returns : goal.returns
returns c = rw (← c.self.view_is) (next_on _ _ _ c.next_free.result c.self.invariant.net_is.net_is (rw c.as_slice.ensures at c.next_free.ensures))
