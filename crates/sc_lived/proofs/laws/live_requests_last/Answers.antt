use Rattle.sc_lasting.specs.Lasting.{AreDirect, Directly}
use Rattle.sc_lasting.proofs.Direct.{nothing-proxied}
use Rattle.sc_lived.specs.Lived.{turns_in as told}
use Rattle.sc_lived.proofs.Sayings.{has-lived}
use Rattle.sc_lived.proofs.Since.{history-holds, lived-proxies, session-holds, session-proxies}
use Rattle.sc_lived.proofs.laws.live_requests_last.Goals as goal

pub returns-clause-began_history : goal.returns-clause-began_history
returns-clause-began_history c = λ setup epoch began journal app live lawful is.
    lived-proxies setup app (told app journal) live.session live.inbox (has-lived setup epoch began journal app live lawful is)

pub returns-clause-began_session : goal.returns-clause-began_session
returns-clause-began_session c = λ setup app journal live lived. session-proxies setup app (told app journal) live.session live.inbox lived

pub returns-clause-direct_history : goal.returns-clause-direct_history
returns-clause-direct_history c = λ setup epoch began journal app live lawful is.
    history-holds setup app Directly AreDirect (nothing-proxied setup.config) epoch began journal live lawful is

pub returns-clause-direct_session : goal.returns-clause-direct_session
returns-clause-direct_session c = λ setup epoch began journal app live lawful is.
    session-holds setup app Directly AreDirect (nothing-proxied setup.config) epoch began journal live lawful is
