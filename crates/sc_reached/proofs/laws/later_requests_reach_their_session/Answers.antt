use Rattle.sc_reached.proofs.Reaching.{reaches}
use Rattle.sc_reached.proofs.laws.later_requests_reach_their_session.Goals as goal

pub returns-clause-session : goal.returns-clause-session
returns-clause-session c = reaches

pub returns-clause-history : goal.returns-clause-history
returns-clause-history c = reaches
