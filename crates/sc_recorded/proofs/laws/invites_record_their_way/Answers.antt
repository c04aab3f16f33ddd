use Rattle.sc_forms.proofs.HistoryLaws.{lawful-histories}
use Rattle.sc_recorded.proofs.Whole.{recorded-run}
use Rattle.sc_recorded.proofs.laws.invites_record_their_way.Goals as goal

pub returns-clause-session : goal.returns-clause-session
returns-clause-session c = λ setup epoch began journal dialog piece lawful is small. recorded-run setup epoch began journal lawful dialog piece is small

pub returns-clause-history : goal.returns-clause-history
returns-clause-history c = λ setup epoch began journal dialog piece lawful is small.
    recorded-run setup epoch began journal (lawful-histories setup epoch began journal lawful) dialog piece is small
