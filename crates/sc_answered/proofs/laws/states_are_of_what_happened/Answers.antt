use Rattle.sc_answered.proofs.Whole.{histories-stand}
use Rattle.sc_answered.proofs.laws.states_are_of_what_happened.Goals as goal

pub returns : goal.returns
returns c = histories-stand
