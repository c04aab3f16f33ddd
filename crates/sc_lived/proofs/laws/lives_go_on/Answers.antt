use Rattle.sc_lived.proofs.Sayings.{goes-on, session-goes-on}
use Rattle.sc_lived.proofs.laws.lives_go_on.Goals as goal

pub returns-clause-history : goal.returns-clause-history
returns-clause-history c = goes-on

pub returns-clause-session : goal.returns-clause-session
returns-clause-session c = session-goes-on
