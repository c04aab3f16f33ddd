use Rattle.sc_timely.proofs.Once.{due-once}
use Rattle.sc_timely.proofs.laws.due_items_are_once.Goals as goal

pub returns-clause-session : goal.returns-clause-session
returns-clause-session c = due-once

pub returns-clause-history : goal.returns-clause-history
returns-clause-history c = due-once
