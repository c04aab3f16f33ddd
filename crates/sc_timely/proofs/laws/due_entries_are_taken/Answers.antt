use Rattle.sc_timely.proofs.Taken.{step-takes}
use Rattle.sc_timely.proofs.laws.due_entries_are_taken.Goals as goal

pub returns-clause-session : goal.returns-clause-session
returns-clause-session c = step-takes

pub returns-clause-history : goal.returns-clause-history
returns-clause-history c = step-takes
