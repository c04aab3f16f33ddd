use Rattle.sc_moments.proofs.FollowTicks.{follows-ticks}
use Rattle.sc_moments.proofs.UptoTicks.{upto-ticks}
use Rattle.sc_moments.proofs.laws.ticks_are_taken.Goals as goal

pub returns-clause-session : goal.returns-clause-session
returns-clause-session c = follows-ticks

pub returns-clause-history : goal.returns-clause-history
returns-clause-history c = follows-ticks

pub returns-clause-session_upto : goal.returns-clause-session_upto
returns-clause-session_upto c = upto-ticks

pub returns-clause-history_upto : goal.returns-clause-history_upto
returns-clause-history_upto c = upto-ticks
