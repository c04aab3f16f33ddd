use Rattle.sc_forms.proofs.HistoryLaws.{lawful-histories}
use Rattle.sc_ways.proofs.FirstWhole.{followed}
use Rattle.sc_ways.proofs.laws.later_requests_come_first_or_are_answered.Goals as goal

pub returns-clause-session : goal.returns-clause-session
returns-clause-session c = λ setup epoch began journal dialog direction piece occurrence lawful is apart small drawn carried out place set sender.
    followed setup epoch began journal dialog direction piece occurrence lawful small is apart drawn carried out place set sender

pub returns-clause-history : goal.returns-clause-history
returns-clause-history c = λ setup epoch began journal dialog direction piece occurrence lawful is apart small drawn carried out place set sender.
    followed setup epoch began journal dialog direction piece occurrence (lawful-histories setup epoch began journal lawful) small is apart drawn carried out place set sender
