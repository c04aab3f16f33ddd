use Rattle.sc_forms.proofs.HistoryLaws.{lawful-histories}
use Rattle.sc_journeys.proofs.Law.{journey-ends}
use Rattle.sc_journeys.proofs.laws.later_requests_go_all_the_way_or_stop.Goals as goal

pub returns-clause-session : goal.returns-clause-session
returns-clause-session c = journey-ends

pub returns-clause-history : goal.returns-clause-history
returns-clause-history c = λ setup epoch began journal dialog direction piece occurrence lawful is apart small drawn carried.
    journey-ends setup epoch began journal dialog direction piece occurrence (lawful-histories setup epoch began journal lawful) is apart small drawn carried
