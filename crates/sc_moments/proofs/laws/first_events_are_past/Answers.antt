use Rattle.sc_moments.proofs.PastRuns.{first-is-past}
use Rattle.sc_moments.proofs.laws.first_events_are_past.Goals as goal

pub returns-clause-session : goal.returns-clause-session
returns-clause-session c = first-is-past

pub returns-clause-history : goal.returns-clause-history
returns-clause-history c = first-is-past
