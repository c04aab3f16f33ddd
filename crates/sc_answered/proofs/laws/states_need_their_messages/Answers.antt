use Rattle.sc_answered.proofs.Needs.{confirmed-needs, early-needs, hung-terminates, initial-else, taken-settles, terminated-needs}
use Rattle.sc_answered.proofs.laws.states_need_their_messages.Goals as goal

pub returns-clause-early : goal.returns-clause-early
returns-clause-early c = early-needs

pub returns-clause-confirmed : goal.returns-clause-confirmed
returns-clause-confirmed c = confirmed-needs

pub returns-clause-terminated : goal.returns-clause-terminated
returns-clause-terminated c = terminated-needs

pub returns-clause-initial : goal.returns-clause-initial
returns-clause-initial c = initial-else

pub returns-clause-taken : goal.returns-clause-taken
returns-clause-taken c = taken-settles

pub returns-clause-hung_up : goal.returns-clause-hung_up
returns-clause-hung_up c = hung-terminates
