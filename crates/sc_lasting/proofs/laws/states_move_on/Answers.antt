use Rattle.sc_lasting.proofs.Onward.{states-move-on}
use Rattle.sc_lasting.proofs.laws.states_move_on.Goals as goal

pub returns : goal.returns
returns c = states-move-on
