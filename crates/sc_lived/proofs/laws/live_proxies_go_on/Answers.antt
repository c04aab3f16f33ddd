use Rattle.sc_state.specs.declared.session.Session.{Session}
use Rattle.sc_lasting.specs.Lasting.{GoOn}
use Rattle.sc_lasting.proofs.Proxied.{proxies-go-on}
use Rattle.sc_lived.specs.Lived.{turns_in as told}
use Rattle.sc_lived.proofs.Accepted.{any-accepted}
use Rattle.sc_lived.proofs.Since.{histories-relate, sessions-relate}
use Rattle.sc_lived.proofs.laws.live_proxies_go_on.Goals as goal

abbrev Goes : Session → Session → Type 0
Goes x y = GoOn x.known.proxies y.known.proxies

pub returns-clause-history : goal.returns-clause-history
returns-clause-history c = λ setup epoch began before later app first live lawful was is.
    histories-relate setup app (λ call. Unit {0}) Goes (λ history more earlier since. proxies-go-on setup.config history more earlier) epoch began before later first live lawful was is (any-accepted (told app later))

pub returns-clause-session : goal.returns-clause-session
returns-clause-session c = λ setup epoch began before later app first live lawful was is.
    sessions-relate setup app (λ call. Unit {0}) Goes (λ history more earlier since. proxies-go-on setup.config history more earlier) epoch began before later first live lawful was is (any-accepted (told app later))
