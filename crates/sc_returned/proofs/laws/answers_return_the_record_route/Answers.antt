use Rattle.sc_forms.proofs.HistoryLaws.{lawful-histories}
use Rattle.sc_returned.proofs.Answers.{returned-run}
use Rattle.sc_returned.proofs.laws.answers_return_the_record_route.Goals as goal

pub returns-clause-session : goal.returns-clause-session
returns-clause-session c = returned-run

pub returns-clause-history : goal.returns-clause-history
returns-clause-history c = λ setup epoch began journal dialog piece lawful is small. returned-run setup epoch began journal dialog piece (lawful-histories setup epoch began journal lawful) is small
