-- A turn begins: what its event makes of the application session, what the container answers by
-- itself, and what is shown (JSR 289 section 6, RFC 3261 sections 12.2.2 and 9.2).
use Rattle.std.specs.Prelude.{ℕ, ◌+◌, ◌==◌, List, [], ◌∷◌, Bool, true, false, not, ◌&&◌, Option, None, Some, is_none, nat_le, if◌then◌else◌}
use Rattle.std.specs.List.{find, list_any}
use Rattle.std.specs.Option.{option_map_or}
use Rattle.sc_value.specs.declared.ids.ReqId.{ReqId}
use Rattle.sc_value.specs.declared.ids.SessId.{SessId}
use Rattle.sc_value.specs.Lists.{change_first, remove_first}
use Rattle.sc_terms.specs.declared.settings.Config.{Config}
use Rattle.sc_terms.specs.declared.events.Event.TheVariants as events
use Rattle.sc_terms.specs.declared.views.View.{View}
use Rattle.sc_terms.specs.declared.views.Period.{Period}
use Rattle.sc_terms.specs.declared.views.Period.TheVariants.{Once, Rate, Delay}
use Rattle.sc_terms.specs.declared.views.RequestView.{RequestView}
use Rattle.sc_terms.specs.declared.views.TimerView.{TimerView}
use Rattle.sc_state.specs.declared.orders.Order.TheVariants as orders
use Rattle.sc_state.specs.declared.proxy.Proxy.{Proxy}
use Rattle.sc_state.specs.declared.queue.Queued.{Queued}
use Rattle.sc_state.specs.declared.queue.Queued.TheVariants as queued
use Rattle.sc_state.specs.declared.queue.Waiting.{Waiting}
use Rattle.sc_state.specs.declared.session.Invited.{Invited}
use Rattle.sc_state.specs.declared.session.Kept.{Kept}
use Rattle.sc_state.specs.declared.session.Known.{Known}
use Rattle.sc_state.specs.declared.session.Session.{Session}
use Rattle.sc_state.specs.declared.working.Prepared.{Prepared}
use Rattle.sc_tokens.specs.Bytes.{Bytes}
use Rattle.sc_model.specs.Names.{edge_tag}
use Rattle.sc_hosts.specs.Branches.{ended_by, has_branch, is_invite, is_supervised, is_timed_out, to_cancel, without_search}
use Rattle.sc_hosts.specs.ViewChanges.{view_with_answer}
use Rattle.sc_hosts.specs.Legs.{FIRST_SESSION, session_for}
use Rattle.sc_hosts.specs.Looking.{is_timer, request_in, same_request, session_in, timer_in}
use Rattle.sc_hosts.specs.Messages.{own_response}
use Rattle.sc_hosts.specs.Words.{request_terminated, request_timeout}
use Rattle.sc_hosts.specs.PreparingRequests.{next_id, prepared_request, showing, showing_in, silent, with_received_request}
use Rattle.sc_hosts.specs.PreparingResponses.{change_proxy, is_invalid, is_sent_on, prepared_response}

-- ## CANCEL

-- the INVITE that came under this event
abbrev pub is_invited : ℕ → Invited → Bool
is_invited event invited = invited.event == event

-- the received request, as it is kept
abbrev pub kept_of : Known → ReqId → Option Kept
kept_of known req = find (λ kept. same_request kept.id req) known.kept

-- the own tag of a SipSession
unfoldable pub own_tag_of : View → SessId → Bytes
own_tag_of view sess = option_map_or (λ s. s.own_tag) (session_in view sess) []

-- a CANCEL that came for this INVITE is shown, and nothing else is done
abbrev pub showing_cancel : Session → Invited → Prepared
showing_cancel session invited =
    showing_in session invited.sess (events.Cancelled invited.req invited.sess) (Some invited.req)
    []

-- 487 to an INVITE without final response that isn't proxied (RFC 3261 section 9.2)
unfoldable pub prepared_end : Session → Invited → RequestView → Option Kept → Prepared
prepared_end session invited request None = showing_cancel session invited
prepared_end session invited request (Some kept) =
    showing_in (record session { view = view_with_answer (Some request) 487 session.view })
    invited.sess
    (events.Cancelled invited.req invited.sess) (Some invited.req)
    (orders.Respond invited.event
    (own_response (own_tag_of session.view invited.sess) 487 request_terminated kept.request)
    ∷ [])

-- the CANCEL of a proxied INVITE: no further target, and a CANCEL to each open branch (RFC 3261
-- section 16.10)
unfoldable pub cancelled_proxy : Session → Invited → Option Proxy → Prepared
cancelled_proxy session invited None = showing_cancel session invited
cancelled_proxy session invited (Some proxy) =
    let after : Session =
    record session { known = change_proxy proxy.req without_search session.known } in
    if is_supervised proxy then showing_cancel after invited else silent after []

-- the proxy of this request, if it is proxied
unfoldable pub proxy_of : Known → ReqId → Option Proxy
proxy_of known req = find (λ proxy. same_request proxy.req req) known.proxies

-- by what the view shows of the INVITE: proxied, waiting for its answer, or neither, which changes
-- nothing
unfoldable pub cancelled_request : Session → Invited → Option RequestView → Prepared
cancelled_request session invited None =
    showing_in session invited.sess (events.Cancelled invited.req invited.sess) None []
cancelled_request session invited (Some request) =
    if request.proxied then cancelled_proxy session invited (proxy_of session.known invited.req)
    else
    (if is_none request.answered
    then prepared_end session invited request (kept_of session.known invited.req)
    else showing_cancel session invited)

-- a CANCEL that came for an INVITE
unfoldable pub prepared_cancel : Session → Option Invited → Prepared
prepared_cancel session None = silent session []
prepared_cancel session (Some invited) =
    cancelled_request session invited (request_in session.view invited.req)

-- ## Timers

-- a timer that fires once ends; another is due this long after its last moment, or after this turn
unfoldable pub next_firing : ℕ → TimerView → Option ℕ
next_firing now timer = next_due now timer.due timer.period
  where
    next_due : ℕ → ℕ → Period → Option ℕ
    next_due now due Once = None
    next_due now due (Rate n) = Some (due + n)
    next_due now due (Delay n) = Some (now + n)

-- the view after a timer has fired, by when it is due again
unfoldable pub after_timer : View → TimerView → Option ℕ → View
after_timer view timer None = record view { timers = remove_first (is_timer timer.id) view.timers }
after_timer view timer (Some due) =
    record view {
      timers = change_first (is_timer timer.id) (λ t. record t { due = due }) view.timers;
    }

-- a servlet timer fires; one that isn't active any more is passed over
unfoldable pub prepared_timer : Session → Option TimerView → Prepared
prepared_timer session None = silent session []
prepared_timer session (Some timer) =
    showing
    (record session {
      view = after_timer session.view timer (next_firing session.view.now timer);
    })
    (events.Timer timer.id timer.info) None []

-- the expiry that has come and wasn't moved
unfoldable pub has_expired : View → Bool
has_expired view = option_map_or (λ due. nat_le due view.now) view.expires false

-- the application session's expiry; one that was moved meanwhile is passed over (JSR 289 section
-- 6.1.2)
unfoldable pub prepared_expiry : Session → Prepared
prepared_expiry session =
    if has_expired session.view then showing session events.Expired None [] else silent session []

-- a branch whose time is up: an INVITE with a provisional response is cancelled, every other ends
-- as 408
unfoldable pub timed_out : Config → Session → Proxy → ℕ → Bool → Session
timed_out config session proxy branch provisional =
    if is_invite proxy && provisional
    then record session { known = change_proxy proxy.req (to_cancel branch) session.known }
    else
    record session {
      known = change_proxy proxy.req
          (ended_by branch proxy.sess
          (own_response (edge_tag config.salt) 408 request_timeout proxy.request))
          session.known;
    }

-- a branch's timer; nothing follows where the branch has ended, or the timer was begun again
unfoldable pub prepared_branch_timer : Config → List ℕ → Session → ℕ → ℕ → Option Proxy → Prepared
prepared_branch_timer config ringing session branch due None = silent session []
prepared_branch_timer config ringing session branch due (Some proxy) =
    if is_timed_out branch due proxy && not (is_invalid session.known proxy.sess)
    then silent (timed_out config session proxy branch (list_any (λ k. k == branch) ringing)) []
    else silent session []

-- ## Each event

-- what each event makes of the session, under the number of the event
unfoldable pub prepared_for : Config → List ℕ → Session → ℕ → Queued → Prepared
prepared_for config ringing session number (queued.Initial region subscriber popped request) =
    showing (with_received_request session number FIRST_SESSION true false request)
    (events.Initial (next_id session) FIRST_SESSION region subscriber popped request)
    (Some (next_id session)) []
prepared_for config ringing session number (queued.Request request) =
    prepared_request session number request (session_for session request)
prepared_for config ringing session number (queued.Response branch response) =
    prepared_response session branch response (find (is_sent_on branch) session.known.kept)
    (find (has_branch branch) session.known.proxies)
prepared_for config ringing session number (queued.Cancelled event) =
    prepared_cancel session (find (is_invited event) session.known.invited)
prepared_for config ringing session number (queued.Timer id) =
    prepared_timer session (timer_in session.view id)
prepared_for config ringing session number (queued.BranchTimer branch due) =
    prepared_branch_timer config ringing session branch due
    (find (has_branch branch) session.known.proxies)
prepared_for config ringing session number queued.Expired = prepared_expiry session
prepared_for config ringing session number queued.Ready = showing session events.Ready None []

-- the session as a turn at this moment shows it. The branches are given whose INVITE has had a
-- provisional response
unfoldable pub prepared_session : Config → List ℕ → Session → Waiting → ℕ → Prepared
prepared_session config ringing session waiting now =
    prepared_for config ringing (record session { view = record session.view { now = now } })
    waiting.number waiting.event
