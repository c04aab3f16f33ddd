use Rattle.sc_forms.proofs.HistoryLaws.{lawful-histories}
use Rattle.sc_onward.proofs.Stopping.{goes-on-or-stops}
use Rattle.sc_onward.proofs.laws.later_requests_go_on_or_stop.Goals as goal

pub returns-clause-session : goal.returns-clause-session
returns-clause-session c = goes-on-or-stops

pub returns-clause-history : goal.returns-clause-history
returns-clause-history c = λ setup epoch began journal lawful numbers drawn place moment got to at turn.
    goes-on-or-stops setup epoch began journal (lawful-histories setup epoch began journal lawful) numbers drawn place moment got to at turn
