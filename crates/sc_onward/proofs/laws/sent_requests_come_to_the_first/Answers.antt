use Rattle.sc_forms.proofs.HistoryLaws.{lawful-histories}
use Rattle.sc_onward.proofs.Sent.{sent-first}
use Rattle.sc_onward.proofs.laws.sent_requests_come_to_the_first.Goals as goal

pub returns-clause-session : goal.returns-clause-session
returns-clause-session c = λ setup epoch began journal dialog direction piece occurrence lawful is apart small drawn carried.
    sent-first setup epoch began journal dialog direction piece occurrence lawful small drawn is apart carried

pub returns-clause-history : goal.returns-clause-history
returns-clause-history c = λ setup epoch began journal dialog direction piece occurrence lawful is apart small drawn carried.
    sent-first setup epoch began journal dialog direction piece occurrence (lawful-histories setup epoch began journal lawful) small drawn is apart carried
