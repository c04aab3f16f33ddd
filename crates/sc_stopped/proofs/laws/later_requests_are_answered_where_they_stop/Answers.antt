use Rattle.sc_stopped.proofs.Stops.{full, gone, unled}
use Rattle.sc_stopped.proofs.laws.later_requests_are_answered_where_they_stop.Goals as goal

pub returns-clause-unled_session : goal.returns-clause-unled_session
returns-clause-unled_session c = λ form setup from request net later none. unled form setup from request net later none

pub returns-clause-unled_history : goal.returns-clause-unled_history
returns-clause-unled_history c = λ form setup from request net later none. unled form setup from request net later none

pub returns-clause-gone_session : goal.returns-clause-gone_session
returns-clause-gone_session c = λ form setup from request net app to none. gone form setup from request net app to none

pub returns-clause-gone_history : goal.returns-clause-gone_history
returns-clause-gone_history c = λ form setup from request net app to none. gone form setup from request net app to none

pub returns-clause-full_session : goal.returns-clause-full_session
returns-clause-full_session c = λ form setup from request net app live to lives is. full form setup from request net app live to lives is

pub returns-clause-full_history : goal.returns-clause-full_history
returns-clause-full_history c = λ form setup from request net app live to lives is. full form setup from request net app live to lives is
