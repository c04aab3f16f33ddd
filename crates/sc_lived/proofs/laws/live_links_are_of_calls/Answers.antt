use Rattle.std.proofs.Common.{◌≡◌, Some, false}
use Rattle.sc_value.specs.declared.ids.SessId.{SessId}
use Rattle.sc_state.specs.declared.session.Session.{Session}
use Rattle.sc_hosts.specs.Looking.{is_gone_in, partner}
use Rattle.sc_lasting.specs.Lasting.{LeavesApart, LeavesLinked}
use Rattle.sc_lasting.proofs.LinkChanges.{links-last}
use Rattle.sc_lasting.proofs.LinksMade.{links-made}
use Rattle.sc_lived.proofs.Since.{histories-relate, sessions-relate}
use Rattle.sc_lived.proofs.laws.live_links_are_of_calls.Goals as goal

abbrev Makes : SessId → SessId → Session → Session → Type 0
Makes a b x y = is_gone_in x.view a ≡ false → is_gone_in x.view b ≡ false → partner y.view a ≡ Some b → partner x.view a ≡ Some b

abbrev Keeps : SessId → SessId → Session → Session → Type 0
Keeps a b x y = partner x.view a ≡ Some b → is_gone_in y.view a ≡ false → is_gone_in y.view b ≡ false → partner y.view a ≡ Some b

pub returns-clause-made_history : goal.returns-clause-made_history
returns-clause-made_history c = λ setup epoch began before later app a b first live lawful was is.
    histories-relate setup app (LeavesApart a b) (Makes a b) (λ history more earlier since. links-made setup.config history more earlier a b since) epoch began before later first live lawful was is

pub returns-clause-made_session : goal.returns-clause-made_session
returns-clause-made_session c = λ setup epoch began before later app a b first live lawful was is.
    sessions-relate setup app (LeavesApart a b) (Makes a b) (λ history more earlier since. links-made setup.config history more earlier a b since) epoch began before later first live lawful was is

pub returns-clause-kept_history : goal.returns-clause-kept_history
returns-clause-kept_history c = λ setup epoch began before later app a b first live lawful was is.
    histories-relate setup app (LeavesLinked a b) (Keeps a b) (λ history more earlier since. links-last setup.config history more earlier a b since) epoch began before later first live lawful was is

pub returns-clause-kept_session : goal.returns-clause-kept_session
returns-clause-kept_session c = λ setup epoch began before later app a b first live lawful was is.
    sessions-relate setup app (LeavesLinked a b) (Keeps a b) (λ history more earlier since. links-last setup.config history more earlier a b since) epoch began before later first live lawful was is
