use Rattle.sc_answered.proofs.Caused.{histories-caused}
use Rattle.sc_answered.proofs.laws.what_comes_of_others_has_its_cause.Goals as goal

pub returns : goal.returns
returns c = histories-caused
