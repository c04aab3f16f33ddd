use Rattle.sc_remembered.proofs.Chains.{acts-are-traces}
use Rattle.sc_remembered.proofs.laws.acts_are_chained.Goals as goal

pub returns : goal.returns
returns c = acts-are-traces
