use Rattle.sc_timely.proofs.NoneLeft.{history-none-left, session-none-left}
use Rattle.sc_timely.proofs.laws.nothing_is_due.Goals as goal

pub returns-clause-session : goal.returns-clause-session
returns-clause-session c = session-none-left

pub returns-clause-history : goal.returns-clause-history
returns-clause-history c = history-none-left
