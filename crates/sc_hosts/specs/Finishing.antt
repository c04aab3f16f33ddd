-- A turn ends: what the container does after its calls, in this order: drafts that were left, the
-- answer to a fault, proxies, a later request that is passed on, and the end of what is ready (JSR
-- 289 sections 6.1.2 and 6.2.4, RFC 3261 section 16).
use Rattle.std.specs.Prelude.{ℕ, ◌==◌, List, [], ◌∷◌, ◌++◌, Bool, true, false, not, ◌&&◌, ◌||◌, Option, is_some, is_none, if◌then◌else◌, length, filter}
use Rattle.std.specs.List.{list_any, list_all, flat_map, fold}
use Rattle.std.specs.Option.{option_map_or}
use Rattle.sc_value.specs.declared.ids.ReqId.{ReqId}
use Rattle.sc_value.specs.declared.ids.SessId.{SessId}
use Rattle.sc_tokens.specs.Names.{same_bytes}
use Rattle.sc_terms.specs.declared.settings.Config.{Config}
use Rattle.sc_terms.specs.declared.views.View.{View}
use Rattle.sc_terms.specs.declared.views.RequestView.{RequestView}
use Rattle.sc_terms.specs.declared.views.SessionView.{SessionView}
use Rattle.sc_terms.specs.declared.calls.CallRecord.{CallRecord}
use Rattle.sc_terms.specs.declared.calls.End.{End}
use Rattle.sc_state.specs.declared.orders.Order.{Order}
use Rattle.sc_state.specs.declared.orders.Order.TheVariants as orders
use Rattle.sc_state.specs.declared.orders.Outcome.{Outcome}
use Rattle.sc_state.specs.declared.queue.Queued.{Queued}
use Rattle.sc_state.specs.declared.queue.Queued.TheVariants as queued
use Rattle.sc_state.specs.declared.queue.Waiting.{Waiting}
use Rattle.sc_state.specs.declared.session.Kept.{Kept}
use Rattle.sc_state.specs.declared.session.Known.{Known}
use Rattle.sc_state.specs.declared.session.Leg.{Leg}
use Rattle.sc_state.specs.declared.session.Session.{Session}
use Rattle.sc_state.specs.declared.session.Way.{Way}
use Rattle.sc_state.specs.declared.session.Way.TheVariants.{Received, Sent}
use Rattle.sc_state.specs.declared.working.Prepared.{Prepared}
use Rattle.sc_state.specs.declared.working.Working.{Working}
use Rattle.sc_tokens.specs.Bytes.{Bytes}
use Rattle.sc_model.specs.SessionStates.{invite, ack}
use Rattle.sc_hosts.specs.Branches.{records_route}
use Rattle.sc_hosts.specs.ViewChanges.{tidy}
use Rattle.sc_hosts.specs.Legs.{FIRST_SESSION, leg_of}
use Rattle.sc_hosts.specs.Looking.{is_confirmed, is_gone, is_initial_state, is_proxy, is_terminated, is_uac, request_in, same_request, same_session, session_in, without_sip_session}
use Rattle.sc_hosts.specs.Messages.{own_response}
use Rattle.sc_hosts.specs.Preparing.{has_expired, own_tag_of, prepared_session, proxy_of}
use Rattle.sc_hosts.specs.Working.{goodbyes, worked_all}
use Rattle.sc_hosts.specs.Words.{does_not_exist}
use Rattle.sc_hosts.specs.Acting.{after_fault, all_act, drafts_ended, passes_later}

-- ## Readiness (JSR 289 sections 6.1.2.2 and 6.2.4)

-- the request lacks its final response
unfoldable pub lacks_final : RequestView → Bool
lacks_final request = is_none request.answered && not (same_bytes request.method ack)

-- a request of this SipSession lacks its final response
unfoldable pub is_open_in : SessId → RequestView → Bool
is_open_in sess request = same_session request.sess sess && lacks_final request

-- the application left the path of later requests
unfoldable pub has_left : Known → SessId → Bool
has_left known sess =
    option_map_or
    (λ leg.
    option_map_or
    (λ req. option_map_or (λ proxy. not (records_route proxy)) (proxy_of known req) false)
    leg.first false) (leg_of known sess) false

-- ended, or a proxy that left the path of its dialog, or a UAC whose request failed
unfoldable pub is_idle : Known → SessionView → Bool
is_idle known session =
    is_terminated session.state
    || (is_proxy session.role && is_confirmed session.state && has_left known session.id)
    || (is_uac session.role && is_initial_state session.state)

-- the SipSession is ready to go away (JSR 289 section 6.2.4): it is idle, and none of its requests
-- is open
unfoldable pub is_session_ready : Known → View → SessionView → Bool
is_session_ready known view session =
    is_idle known session && not (list_any (is_open_in session.id) view.requests)

-- it is gone, or ready to go
unfoldable pub is_session_done : Known → View → SessionView → Bool
is_session_done known view session = session.gone || is_session_ready known view session

-- the application session is ready to go away
unfoldable pub is_ready : Session → Bool
is_ready session =
    list_all (is_session_done session.known session.view) session.view.sessions
    && length session.view.timers == 0

-- ## What goes away

-- the view without this SipSession, where it goes away by itself
unfoldable pub swept_one : Known → View → View → SessionView → View
swept_one known before view session =
    if session.ready_flag && not session.gone && is_session_ready known before session
    then without_sip_session session.id view
    else view

-- each ready SipSession with its flag set
unfoldable pub swept : Session → Session
swept session =
    record session {
      view = tidy (fold (swept_one session.known session.view) session.view session.view.sessions);
    }

-- a received ACK stands in its own turn alone
unfoldable pub without_acks : View → View
without_acks view =
    record view {
      requests = filter (λ request. not (request.received && same_bytes request.method ack))
          view.requests;
    }

-- the request began the SipSession of this leg, which the application didn't end
unfoldable pub can_derive : Kept → Option Leg → Bool
can_derive kept leg =
    option_map_or (λ l. option_map_or (same_request kept.id) l.first false && not l.invalidated) leg
    false

-- a 2xx can still come to the INVITE: its SipSession takes it, or a further one is derived for it
unfoldable pub can_succeed : View → Option Leg → Kept → Bool
can_succeed view leg kept =
    same_bytes kept.request.method invite
    && (not (is_gone (session_in view kept.sess)) || can_derive kept leg)

-- what can still be needed of a request
unfoldable pub is_needed : View → Option Leg → Kept → Way → Bool
is_needed view leg kept (Received event) = option_map_or lacks_final (request_in view kept.id) false
is_needed view leg kept (Sent branch) =
    is_some (request_in view kept.id) || can_succeed view leg kept

-- the session without the requests that aren't needed any more
unfoldable pub without_unneeded : Session → Session
without_unneeded session = record session {
  known =
      record session.known {
        kept = filter
            (λ kept. is_needed session.view (leg_of session.known kept.sess) kept kept.way)
            session.known.kept;
      };
}

-- ## The whole turn

-- the event is the session's expiry
unfoldable pub is_expiry : Queued → Bool
is_expiry queued.Expired = true
is_expiry event = false

-- the event is the session's readiness
unfoldable pub is_ready_event : Queued → Bool
is_ready_event queued.Ready = true
is_ready_event event = false

-- what the session is after the calls and what followed them
unfoldable pub session_in_play : Working → Session
session_in_play working = record { view = without_acks working.play.view; known = working.known }

-- the application session is invalidated: by a call, by its expiry, or as it is still ready
unfoldable pub is_ended : Queued → Working → Bool
is_ended event working =
    working.play.ended
    || (is_expiry event && has_expired working.play.view)
    || (is_ready_event event && is_ready (session_in_play working) && working.play.view.ready_flag)

-- what follows the calls
unfoldable pub after_all_calls : Config → Queued → Option ReqId → End → Working → Working
after_all_calls config event req end working =
    passes_later config event req
    (all_act config (after_fault config req end (drafts_ended working)))

-- what a turn leaves: the session, what it sends, and whether it ends
unfoldable pub outcome_of : Queued → Working → Outcome
outcome_of event working = record {
  session =
      without_unneeded
      (if is_ended event working then session_in_play working else swept (session_in_play working));
  orders = working.orders;
  ends = is_ended event working;
}

-- the outcome of a turn
unfoldable pub outcome : Config → List ℕ → Session → Waiting → ℕ → List CallRecord → End → Outcome
outcome config heard session waiting now made end =
    let shown : Prepared = prepared_session config heard session waiting now in
    outcome_of waiting.event
    (after_all_calls config waiting.event shown.req end (worked_all config shown made))

-- ## Goodbye: what invalidation sends

-- 481 to a request that waits; its SipSession has drawn its tag where it begins one
unfoldable pub waiting_answer : Bytes → Waiting → List Order
waiting_answer tag waiting = unanswered waiting.event
  where
    unanswered : Queued → List Order
    unanswered (queued.Initial region subscriber popped request) =
        orders.Respond waiting.number (own_response tag 481 does_not_exist request) ∷ []
    unanswered (queued.Request request) =
        if same_bytes request.method ack then []
        else orders.Respond waiting.number (own_response [] 481 does_not_exist request) ∷ []
    unanswered event = []

-- 500 to what was handled, 481 to what waits, and then the CANCELs
unfoldable pub goodbye : Config → Session → List Waiting → List Order
goodbye config session inbox =
    filter is_answer (goodbyes config session.view session.known (λ sess. true))
    ++ flat_map (waiting_answer (own_tag_of session.view FIRST_SESSION)) inbox
    ++ filter (λ order. not (is_answer order))
    (goodbyes config session.view session.known (λ sess. true))
  where
    is_answer : Order → Bool
    is_answer (orders.Respond event response) = true
    is_answer order = false
