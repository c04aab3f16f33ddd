use Rattle.sc_answered.proofs.StateAfter.{responses-join}
use Rattle.sc_answered.proofs.laws.states_go_with_responses.Goals as goal

pub returns : goal.returns
returns c = responses-join
