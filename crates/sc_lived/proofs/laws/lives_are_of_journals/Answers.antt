use Rattle.sc_lived.proofs.Sayings.{has-lived, session-lived}
use Rattle.sc_lived.proofs.laws.lives_are_of_journals.Goals as goal

pub returns-clause-history : goal.returns-clause-history
returns-clause-history c = has-lived

pub returns-clause-session : goal.returns-clause-session
returns-clause-session c = session-lived
