use Rattle.sc_moments.proofs.RunMoments.{chained-moment}
use Rattle.sc_moments.proofs.laws.moments_are_of_ticks.Goals as goal

pub returns-clause-session : goal.returns-clause-session
returns-clause-session c = chained-moment

pub returns-clause-history : goal.returns-clause-history
returns-clause-history c = chained-moment
