-- Looking up in the view of an application session, and changing one thing of it. States and roles
-- are those of JSR 289 section 6.2.1.
use Rattle.std.specs.Prelude.{ℕ, ◌==◌, Bool, true, false, not, ◌||◌, Option, None, Some, option_and_then, length, filter}
use Rattle.std.specs.List.{find}
use Rattle.sc_value.specs.declared.ids.ReqId.{ReqId}
use Rattle.sc_value.specs.declared.ids.SessId.{SessId}
use Rattle.sc_value.specs.declared.ids.TimerId.{TimerId}
use Rattle.sc_value.specs.Lists.{change_first}
use Rattle.sc_terms.specs.declared.views.View.{View}
use Rattle.sc_terms.specs.declared.views.RequestView.{RequestView}
use Rattle.sc_terms.specs.declared.views.SessionView.{SessionView}
use Rattle.sc_terms.specs.declared.views.TimerView.{TimerView}
use Rattle.sc_terms.specs.declared.views.State.{State}
use Rattle.sc_terms.specs.declared.views.State.TheVariants.{Initial, Early, Confirmed, Terminated}
use Rattle.sc_terms.specs.declared.views.Role.{Role}
use Rattle.sc_terms.specs.declared.views.Role.TheVariants.{Uac, Uas, Proxy}

-- ## By number

-- the two name the same request
abbrev pub same_request : ReqId → ReqId → Bool
same_request a b = a.0 == b.0

-- the two name the same SipSession
abbrev pub same_session : SessId → SessId → Bool
same_session a b = a.0 == b.0

-- the request has this number
abbrev pub is_request : ReqId → RequestView → Bool
is_request req request = same_request request.id req

-- the SipSession has this number
abbrev pub is_session : SessId → SessionView → Bool
is_session sess session = same_session session.id sess

-- the timer has this number
abbrev pub is_timer : TimerId → TimerView → Bool
is_timer id timer = timer.id.0 == id.0

-- the request of this number, if the view shows it
abbrev pub request_in : View → ReqId → Option RequestView
request_in view req = find (is_request req) view.requests

-- the SipSession of this number, a gone one too
abbrev pub session_in : View → SessId → Option SessionView
session_in view sess = find (is_session sess) view.sessions

-- the timer of this number, if it is active
abbrev pub timer_in : View → TimerId → Option TimerView
timer_in view id = find (is_timer id) view.timers

-- ## States and roles

-- INITIAL: no dialog yet
unfoldable pub is_initial_state : State → Bool
is_initial_state Initial = true
is_initial_state Early = false
is_initial_state Confirmed = false
is_initial_state Terminated = false

-- EARLY: a dialog made by a provisional response
unfoldable pub is_early : State → Bool
is_early Initial = false
is_early Early = true
is_early Confirmed = false
is_early Terminated = false

-- CONFIRMED: a dialog made or confirmed by a 2xx
unfoldable pub is_confirmed : State → Bool
is_confirmed Initial = false
is_confirmed Early = false
is_confirmed Confirmed = true
is_confirmed Terminated = false

-- TERMINATED: the dialog has ended, or none came
unfoldable pub is_terminated : State → Bool
is_terminated Initial = false
is_terminated Early = false
is_terminated Confirmed = false
is_terminated Terminated = true

-- the state is that of a dialog
abbrev pub is_open_state : State → Bool
is_open_state state = is_early state || is_confirmed state

-- the application sent the request that began the SipSession
unfoldable pub is_uac : Role → Bool
is_uac Uac = true
is_uac Uas = false
is_uac Proxy = false

-- the application proxies the request that began the SipSession
unfoldable pub is_proxy : Role → Bool
is_proxy Uac = false
is_proxy Uas = false
is_proxy Proxy = true

-- ## What is gone

-- the SipSession is there no more
unfoldable pub is_gone : Option SessionView → Bool
is_gone None = true
is_gone (Some session) = session.gone

-- the SipSession of this number is there no more, or never was
abbrev pub is_gone_in : View → SessId → Bool
is_gone_in view sess = is_gone (session_in view sess)

-- how many SipSessions there are
unfoldable pub session_count : View → ℕ
session_count view = length (filter (λ session. not session.gone) view.sessions)

-- ## Changes of one thing

-- a change of the request of this number
abbrev pub change_request : ReqId → (RequestView → RequestView) → View → View
change_request req change view =
    record view { requests = change_first (is_request req) change view.requests }

-- a change of the SipSession of this number
abbrev pub change_session : SessId → (SessionView → SessionView) → View → View
change_session sess change view =
    record view { sessions = change_first (is_session sess) change view.sessions }

-- the SipSession in this state
unfoldable pub in_state : State → SessionView → SessionView
in_state state session = record session { state = state }

-- the SipSession linked to this one, or to none (JSR 289 section 12)
unfoldable pub linked_to : Option SessId → SessionView → SessionView
linked_to other session = record session { linked = other }

-- the SipSession to which this one is linked
unfoldable pub partner : View → SessId → Option SessId
partner view sess = option_and_then (λ session. session.linked) (session_in view sess)

-- the view where the other SipSession has no link any more
unfoldable pub unlinked_from : Option SessId → View → View
unlinked_from None view = view
unlinked_from (Some other) view = change_session other (linked_to None) view

-- the link of a SipSession taken away, on both sides
unfoldable pub without_link : SessId → View → View
without_link sess view =
    change_session sess (linked_to None) (unlinked_from (partner view sess) view)

-- the SipSession gone, with its link
unfoldable pub without_sip_session : SessId → View → View
without_sip_session sess view =
    change_session sess (λ session. record session { gone = true }) (without_link sess view)
