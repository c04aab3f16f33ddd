use Rattle.std.proofs.Common.{refl}
use Rattle.sc_switch.proofs.Listings.{listed}
use Rattle.sc_switch.proofs.switch.Switch.listing.Goals as goal

pub returns : goal.returns
returns c = rw (← c.self.view_is) (listed _ c.self.inside.journal _ _ _ _ _ c.self.invariant refl (rw c.len.ensures at c.saturating_add.ensures) c.in_ok-live.ensures refl)
