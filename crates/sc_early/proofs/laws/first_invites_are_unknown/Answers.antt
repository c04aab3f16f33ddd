use Rattle.sc_early.proofs.Live.{live-unknown, session-unknown}
use Rattle.sc_early.proofs.laws.first_invites_are_unknown.Goals as goal

pub returns-clause-history : goal.returns-clause-history
returns-clause-history c = live-unknown

pub returns-clause-session : goal.returns-clause-session
returns-clause-session c = session-unknown
