use Rattle.sc_state.specs.declared.session.Session.{Session}
use Rattle.sc_lasting.specs.Lasting.{Continues, IsOnward}
use Rattle.sc_lasting.proofs.Onward.{states-move-on}
use Rattle.sc_lived.specs.Lived.{turns_in as told}
use Rattle.sc_lived.proofs.Accepted.{any-accepted}
use Rattle.sc_lived.proofs.Since.{histories-relate, sessions-relate}
use Rattle.sc_lived.proofs.laws.live_states_move_on.Goals as goal

abbrev MovesOn : Session → Session → Type 0
MovesOn x y = Continues IsOnward x.view.sessions y.view.sessions

pub returns-clause-history : goal.returns-clause-history
returns-clause-history c = λ setup epoch began before later app first live lawful was is.
    histories-relate setup app (λ call. Unit {0}) MovesOn (λ history more earlier since. states-move-on setup.config history more earlier) epoch began before later first live lawful was is (any-accepted (told app later))

pub returns-clause-session : goal.returns-clause-session
returns-clause-session c = λ setup epoch began before later app first live lawful was is.
    sessions-relate setup app (λ call. Unit {0}) MovesOn (λ history more earlier since. states-move-on setup.config history more earlier) epoch began before later first live lawful was is (any-accepted (told app later))
