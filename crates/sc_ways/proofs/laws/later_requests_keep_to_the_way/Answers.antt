use Rattle.sc_forms.proofs.HistoryLaws.{lawful-histories}
use Rattle.sc_ways.proofs.Law.{prefix}
use Rattle.sc_ways.proofs.laws.later_requests_keep_to_the_way.Goals as goal

pub returns-clause-session : goal.returns-clause-session
returns-clause-session c = prefix

pub returns-clause-history : goal.returns-clause-history
returns-clause-history c = λ setup epoch began journal dialog direction piece occurrence lawful is apart small own carried.
    prefix setup epoch began journal dialog direction piece occurrence (lawful-histories setup epoch began journal lawful) is apart small own carried
