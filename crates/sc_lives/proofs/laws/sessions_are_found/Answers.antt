use Rattle.sc_lives.proofs.NumberedRuns.{chained-found}
use Rattle.sc_lives.proofs.laws.sessions_are_found.Goals as goal

pub returns-clause-session : goal.returns-clause-session
returns-clause-session c = chained-found

pub returns-clause-history : goal.returns-clause-history
returns-clause-history c = chained-found
