use Rattle.sc_early.proofs.Clear.{histories-unknown}
use Rattle.sc_early.proofs.laws.nothing_is_remembered_early.Goals as goal

pub returns : goal.returns
returns c = histories-unknown
