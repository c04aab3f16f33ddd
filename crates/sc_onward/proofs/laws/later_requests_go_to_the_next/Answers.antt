use Rattle.sc_forms.proofs.HistoryLaws.{lawful-histories}
use Rattle.sc_onward.proofs.Whole.{hop}
use Rattle.sc_onward.proofs.laws.later_requests_go_to_the_next.Goals as goal

pub returns-clause-session : goal.returns-clause-session
returns-clause-session c = λ setup epoch began journal lawful numbers drawn place moment got at unstopped.
    hop setup epoch began journal lawful numbers drawn place moment got at unstopped

pub returns-clause-history : goal.returns-clause-history
returns-clause-history c = λ setup epoch began journal lawful numbers drawn place moment got at unstopped.
    hop setup epoch began journal (lawful-histories setup epoch began journal lawful) numbers drawn place moment got at unstopped
