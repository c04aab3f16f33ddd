use Rattle.sc_outs.proofs.Numbers.{found_in}
use Rattle.sc_outs.proofs.gone.Gone.has_number.Goals as goal

pub returns : goal.returns
returns c = found_in _ _ _ _ c.self.view_is c.contains.ensures
