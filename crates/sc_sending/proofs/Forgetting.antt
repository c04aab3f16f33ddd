-- A draft may be forgotten before it is sent: what is sent doesn't read the drafts.
use Rattle.std.proofs.Common.{◌≡◌, ℕ, Option, Some, None, refl}
use Rattle.sc_value.specs.declared.ids.SessId.{SessId}
use Rattle.sc_terms.specs.declared.inside.Inside.{Inside}
use Rattle.sc_terms.specs.declared.settings.Config.{Config}
use Rattle.sc_state.specs.declared.working.Asked.{Asked}
use Rattle.sc_state.specs.declared.working.Asked.TheVariants as asked
use Rattle.sc_state.specs.declared.working.Working.{Working}
use Rattle.sc_state.specs.declared.working.Written.{Written}
use Rattle.sc_model.specs.Dialogs.{DialogState}
use Rattle.sc_hosts.specs.Giving.{forgets}
use Rattle.sc_hosts.specs.Working.{sends_written, sends_initial, sends_in, sends_later, keeps_sent, dialog_in}

forgets_in : (config : Config) (sess : SessId) (ask : Inside) (dialog : Option DialogState) (number : ℕ) (working : Working) → forgets number (sends_in config sess ask dialog working) ≡ sends_in config sess ask dialog (forgets number working)
unfolding forgets sends_in sends_later keeps_sent
forgets_in config sess ask None number working = refl
forgets_in config sess ask (Some dialog) number working = refl

pub forgets_sent : (config : Config) (draft : Written) (sess : SessId) (a : Asked) (number : ℕ) (working : Working) → forgets number (sends_written config draft sess a working) ≡ sends_written config draft sess a (forgets number working)
unfolding forgets sends_written sends_initial keeps_sent
forgets_sent config draft sess (asked.Initial request) number working = refl
forgets_sent config draft sess (asked.Later ask) number working = forgets_in config sess ask (dialog_in working.known sess) number working
