use Rattle.sc_remembered.proofs.Ended.{outcome-kept}
use Rattle.sc_remembered.proofs.Shown.{shown-kept}
use Rattle.sc_remembered.proofs.laws.attributes_are_of_calls.Goals as goal

pub returns-clause-shown : goal.returns-clause-shown
returns-clause-shown c = shown-kept

pub returns-clause-left : goal.returns-clause-left
returns-clause-left c = outcome-kept
