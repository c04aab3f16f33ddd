use Rattle.sc_timed.proofs.TimedChains.{acts-are-chains}
use Rattle.sc_timed.proofs.laws.timed_acts_are_chained.Goals as goal

pub returns : goal.returns
returns c = acts-are-chains
