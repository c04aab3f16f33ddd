use Rattle.sc_stopped.proofs.Stops.{full-back, gone-back}
use Rattle.sc_stopped.proofs.laws.delivered_requests_are_answered_where_they_stop.Goals as goal

pub returns-clause-gone_session : goal.returns-clause-gone_session
returns-clause-gone_session c = λ form setup entry request net app to none. gone-back form setup entry request net app to none

pub returns-clause-gone_history : goal.returns-clause-gone_history
returns-clause-gone_history c = λ form setup entry request net app to none. gone-back form setup entry request net app to none

pub returns-clause-full_session : goal.returns-clause-full_session
returns-clause-full_session c = λ form setup entry request net app live to lives is. full-back form setup entry request net app live to lives is

pub returns-clause-full_history : goal.returns-clause-full_history
returns-clause-full_history c = λ form setup entry request net app live to lives is. full-back form setup entry request net app live to lives is
