-- What the end of SipSessions sends, piece by piece (RFC 3261 section 9.1, JSR 289 section 6).
use Rattle.std.specs.Prelude.{ℕ, List, [], Bool, true, ◌&&◌, Option, None, Some, if◌then◌else◌, map}
use Rattle.sc_value.specs.declared.ids.SessId.{SessId}
use Rattle.sc_tokens.specs.Names.{same_bytes}
use Rattle.sc_terms.specs.declared.settings.Config.{Config}
use Rattle.sc_terms.specs.declared.views.RequestView.{RequestView}
use Rattle.sc_terms.specs.declared.views.View.{View}
use Rattle.sc_state.specs.declared.orders.Order.{Order}
use Rattle.sc_state.specs.declared.orders.Order.TheVariants as orders
use Rattle.sc_state.specs.declared.proxy.Proxy.{Proxy}
use Rattle.sc_state.specs.declared.session.Kept.{Kept}
use Rattle.sc_state.specs.declared.session.Known.{Known}
use Rattle.sc_model.specs.SessionStates.{invite}
use Rattle.sc_hosts.specs.Branches.{is_invite}
use Rattle.sc_hosts.specs.Looking.{same_session}
use Rattle.sc_hosts.specs.ViewChanges.{is_owed}
use Rattle.sc_hosts.specs.Working.{branch_of, owed_answer}

-- the SipSession is this one; None stands for all
unfoldable pub is_whose : Option SessId → SessId → Bool
is_whose None other = true
is_whose (Some sess) other = same_session sess other

-- 500 to a request that waits in these SipSessions
unfoldable pub owed_by : Config → View → Known → Option SessId → RequestView → List Order
owed_by config view known whose request =
    if is_whose whose request.sess && is_owed request then owed_answer config view known request
    else []

-- the branch of an INVITE that was sent in them
unfoldable pub kept_branches : Option SessId → Kept → List ℕ
kept_branches whose kept =
    if is_whose whose kept.sess && same_bytes kept.request.method invite then branch_of kept.way
    else []

-- the branches of an INVITE that was proxied in them
unfoldable pub proxy_branches : Option SessId → Proxy → List ℕ
proxy_branches whose proxy =
    if is_whose whose proxy.sess && is_invite proxy
    then map (λ branch. branch.number) proxy.branches
    else []

-- a CANCEL on this branch, where it may go at once
unfoldable pub cancel_now : ℕ → Order
cancel_now branch = orders.CancelNow branch
