use Rattle.sc_forms.proofs.HistoryLaws.{lawful-histories}
use Rattle.sc_ways.proofs.Staying.{left-unvisited, stays}
use Rattle.sc_ways.proofs.laws.later_requests_pass_by_who_left.Goals as goal

pub returns-clause-staying_session : goal.returns-clause-staying_session
returns-clause-staying_session c = stays

pub returns-clause-staying_history : goal.returns-clause-staying_history
returns-clause-staying_history c = λ setup epoch began journal dialog direction piece occurrence lawful is apart small own carried.
    stays setup epoch began journal dialog direction piece occurrence (lawful-histories setup epoch began journal lawful) is apart small own carried

pub returns-clause-left_session : goal.returns-clause-left_session
returns-clause-left_session c = left-unvisited

pub returns-clause-left_history : goal.returns-clause-left_history
returns-clause-left_history c = λ setup epoch began journal dialog direction piece occurrence app how lawful is apart small own carried with left other.
    left-unvisited setup epoch began journal dialog direction piece occurrence app how (lawful-histories setup epoch began journal lawful) is apart small own carried with left other
