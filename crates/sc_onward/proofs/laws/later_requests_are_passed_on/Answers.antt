use Rattle.sc_onward.proofs.Ends.{turn-passes, turn-spends}
use Rattle.sc_onward.proofs.laws.later_requests_are_passed_on.Goals as goal

pub returns-clause-onward : goal.returns-clause-onward
returns-clause-onward c = turn-passes

pub returns-clause-spent : goal.returns-clause-spent
returns-clause-spent c = turn-spends
