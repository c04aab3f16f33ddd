use Rattle.sc_forms.proofs.HistoryLaws.{lawful-histories}
use Rattle.sc_onward.proofs.Whole.{run-new}
use Rattle.sc_onward.proofs.laws.requests_have_new_branches.Goals as goal

pub returns-clause-session : goal.returns-clause-session
returns-clause-session c = run-new

pub returns-clause-history : goal.returns-clause-history
returns-clause-history c = λ setup epoch began journal lawful numbers drawn. run-new setup epoch began journal (lawful-histories setup epoch began journal lawful) numbers drawn
