use Rattle.sc_waits.proofs.Steps.{step-grows, turn-follows}
use Rattle.sc_waits.proofs.laws.events_wait_in_order.Goals as goal

pub returns-clause-session : goal.returns-clause-session
returns-clause-session c = step-grows

pub returns-clause-history : goal.returns-clause-history
returns-clause-history c = step-grows

pub returns-clause-turn_session : goal.returns-clause-turn_session
returns-clause-turn_session c = turn-follows

pub returns-clause-turn_history : goal.returns-clause-turn_history
returns-clause-turn_history c = turn-follows
