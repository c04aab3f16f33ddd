use Rattle.sc_state.specs.declared.session.Session.{Session}
use Rattle.sc_lasting.specs.Lasting.{Continues, Directly, IsHeld, IsSteady}
use Rattle.sc_lasting.proofs.Held.{sessions-last, roles-last}
use Rattle.sc_lived.specs.Lived.{turns_in as told}
use Rattle.sc_lived.proofs.Accepted.{any-accepted}
use Rattle.sc_lived.proofs.Since.{histories-relate, sessions-relate}
use Rattle.sc_lived.proofs.laws.live_sessions_last.Goals as goal

abbrev Holds : Session → Session → Type 0
Holds x y = Continues IsHeld x.view.sessions y.view.sessions

abbrev Stays : Session → Session → Type 0
Stays x y = Continues IsSteady x.view.sessions y.view.sessions

pub returns-clause-any_history : goal.returns-clause-any_history
returns-clause-any_history c = λ setup epoch began before later app first live lawful was is.
    histories-relate setup app (λ call. Unit {0}) Holds (λ history more earlier since. sessions-last setup.config history more earlier) epoch began before later first live lawful was is (any-accepted (told app later))

pub returns-clause-any_session : goal.returns-clause-any_session
returns-clause-any_session c = λ setup epoch began before later app first live lawful was is.
    sessions-relate setup app (λ call. Unit {0}) Holds (λ history more earlier since. sessions-last setup.config history more earlier) epoch began before later first live lawful was is (any-accepted (told app later))

pub returns-clause-direct_history : goal.returns-clause-direct_history
returns-clause-direct_history c = λ setup epoch began before later app first live lawful was is.
    histories-relate setup app Directly Stays (roles-last setup.config) epoch began before later first live lawful was is

pub returns-clause-direct_session : goal.returns-clause-direct_session
returns-clause-direct_session c = λ setup epoch began before later app first live lawful was is.
    sessions-relate setup app Directly Stays (roles-last setup.config) epoch began before later first live lawful was is
