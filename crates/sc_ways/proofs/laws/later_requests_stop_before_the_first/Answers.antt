use Rattle.sc_forms.proofs.HistoryLaws.{lawful-histories}
use Rattle.sc_ways.proofs.FirstStop.{stops-first}
use Rattle.sc_ways.proofs.laws.later_requests_stop_before_the_first.Goals as goal

pub returns-clause-session : goal.returns-clause-session
returns-clause-session c = λ setup epoch began journal dialog direction piece occurrence lawful is small carried.
    stops-first setup epoch began journal dialog direction piece occurrence lawful small is carried

pub returns-clause-history : goal.returns-clause-history
returns-clause-history c = λ setup epoch began journal dialog direction piece occurrence lawful is small carried.
    stops-first setup epoch began journal dialog direction piece occurrence (lawful-histories setup epoch began journal lawful) small is carried
