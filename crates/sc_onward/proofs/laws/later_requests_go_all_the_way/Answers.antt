use Rattle.sc_forms.proofs.HistoryLaws.{lawful-histories}
use Rattle.sc_onward.proofs.Whole.{whole}
use Rattle.sc_onward.proofs.laws.later_requests_go_all_the_way.Goals as goal

pub returns-clause-session : goal.returns-clause-session
returns-clause-session c = whole

pub returns-clause-history : goal.returns-clause-history
returns-clause-history c = λ setup epoch began journal dialog direction piece occurrence lawful is apart small drawn carried n count goes.
    whole setup epoch began journal dialog direction piece occurrence (lawful-histories setup epoch began journal lawful) is apart small drawn carried n count goes
