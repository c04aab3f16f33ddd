use Rattle.sc_reached.proofs.Delivering.{delivers}
use Rattle.sc_reached.proofs.laws.delivered_requests_reach_their_session.Goals as goal

pub returns-clause-session : goal.returns-clause-session
returns-clause-session c = delivers

pub returns-clause-history : goal.returns-clause-history
returns-clause-history c = delivers
