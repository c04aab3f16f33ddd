use Rattle.sc_forms.proofs.HistoryLaws.{lawful-histories}
use Rattle.sc_halted.proofs.Halting.{goes-on-or-halts}
use Rattle.sc_halted.proofs.laws.later_requests_go_on_or_are_answered.Goals as goal

pub returns-clause-session : goal.returns-clause-session
returns-clause-session c = goes-on-or-halts

pub returns-clause-history : goal.returns-clause-history
returns-clause-history c = λ setup epoch began journal lawful numbers drawn place moment got to at within turn.
    goes-on-or-halts setup epoch began journal (lawful-histories setup epoch began journal lawful) numbers drawn place moment got to at within turn
