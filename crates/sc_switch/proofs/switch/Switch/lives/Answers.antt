use Rattle.std.proofs.Common.{◌∙◌}
use Rattle.sc_switch.proofs.Sames.{lives_on}
use Rattle.sc_switch.proofs.switch.Switch.lives.Goals as goal

pub returns : goal.returns
returns c = rw (← c.self.view_is) (c.lives_in.ensures ∙ lives_on _ _ _ _ c.args.app c.self.invariant.net_is)
