use Rattle.std.proofs.Common.{refl}
use Rattle.sc_switch.proofs.Standings.{IsSwitch-given}
use Rattle.sc_switch.proofs.switch.Switch.lend.Goals as goal

pub invariant_of-self : goal.invariant_of-self
invariant_of-self c =
    IsSwitch-given _ _ _ _ _ _ c.args.lease c.keep_copy.new.kept _ c.self.invariant (rw (← c.self.view_is) at c.requires.shows) (rw (← c.self.view_is) at c.requires.number) (rw (← c.self.view_is) at c.requires.free) c.in-Ok.ensures.ok refl
