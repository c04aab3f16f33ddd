use Rattle.sc_hops.proofs.OneTurn.{turn-passes}
use Rattle.sc_hops.proofs.laws.turns_pass_on_what_came.Goals as goal

pub returns : goal.returns
returns c = turn-passes
