-- What happened in the SipSessions of an application session, as its history tells it: the
-- responses that the events of its turns brought, that accepted calls gave, and that the container
-- gave or a proxy forwarded; and what came of those in other SipSessions of their request. Lists
-- have the newest first. An item holds what the message or the call says, and no state; in which
-- SipSession it happened, and that a call was accepted, is by what the application session was
-- then. This project's own.
use Rattle.std.specs.Prelude.{◌≡◌, ℕ, ◌==◌, List, [], ◌∷◌, ◌++◌, Bool, true, false, not, ◌&&◌, ◌||◌, Option, None, Some, is_none, is_some, option_and_then, if◌then◌else◌, map, filter}
use Rattle.std.specs.List.{find, fold}
use Rattle.sc_value.specs.declared.ids.ReqId.{ReqId}
use Rattle.sc_value.specs.declared.ids.SessId.{SessId}
use Rattle.sc_value.specs.declared.message.Request.{Request}
use Rattle.sc_value.specs.declared.message.Response.{Response}
use Rattle.sc_terms.specs.declared.calls.Call.{Call}
use Rattle.sc_terms.specs.declared.calls.Call.TheVariants as calls
use Rattle.sc_terms.specs.declared.calls.CallRecord.{CallRecord}
use Rattle.sc_terms.specs.declared.calls.End.{End}
use Rattle.sc_terms.specs.declared.calls.End.TheVariants as ends
use Rattle.sc_terms.specs.declared.calls.Refusal.{Refusal}
use Rattle.sc_terms.specs.declared.settings.Config.{Config}
use Rattle.sc_terms.specs.declared.views.RequestView.{RequestView}
use Rattle.sc_terms.specs.declared.views.SessionView.{SessionView}
use Rattle.sc_terms.specs.declared.views.View.{View}
use Rattle.sc_state.specs.declared.proxy.Passing.{Passing}
use Rattle.sc_state.specs.declared.proxy.Proxy.{Proxy}
use Rattle.sc_state.specs.declared.queue.Queued.{Queued}
use Rattle.sc_state.specs.declared.queue.Queued.TheVariants as queued
use Rattle.sc_state.specs.declared.session.Invited.{Invited}
use Rattle.sc_state.specs.declared.session.Kept.{Kept}
use Rattle.sc_state.specs.declared.session.Known.{Known}
use Rattle.sc_state.specs.declared.session.Session.{Session}
use Rattle.sc_state.specs.declared.working.Play.{Play}
use Rattle.sc_state.specs.declared.working.Prepared.{Prepared}
use Rattle.sc_state.specs.declared.working.Working.{Working}
use Rattle.sc_model.specs.BestResponses.{best_response}
use Rattle.sc_model.specs.Dialogs.{tag_of}
use Rattle.sc_model.specs.Transactions.{is_failure}
use Rattle.sc_hosts.specs.Acting.{acts, after_fault, after_start, all_act, chooses, drafts_ended, is_request_event, passes, proxy_now, sends_cancels}
use Rattle.sc_hosts.specs.Branches.{can_choose, can_pass, is_exhausted, starting}
use Rattle.sc_hosts.specs.DerivedSessions.{is_of}
use Rattle.sc_hosts.specs.Effects.{after_listed, first_play}
use Rattle.sc_hosts.specs.Histories.{History, session_after}
use Rattle.sc_hosts.specs.Legs.{is_low, leg_of, session_for}
use Rattle.sc_hosts.specs.Looking.{is_gone_in, request_in, same_session, session_in}
use Rattle.sc_hosts.specs.Preparing.{is_invited, kept_of, prepared_session}
use Rattle.sc_hosts.specs.PreparingRequests.{next_id, with_received_request}
use Rattle.sc_hosts.specs.PreparingResponses.{accepts_invite, is_first_success, is_invalid, is_sent_on, session_of_response, shown_again}
use Rattle.sc_hosts.specs.Refusals.{begun_by, refusal}
use Rattle.sc_hosts.specs.Sessions.{Turn}
use Rattle.sc_hosts.specs.ViewChanges.{is_owed}
use Rattle.sc_hosts.specs.Working.{worked_all}
use Rattle.sc_lasting.specs.Lasting.{All}
use Rattle.sc_answered.specs.StateOf.{Asked, Exhausted, Happening, Overtaken, Response as Responded, Undone, state_of}

-- what happened in which SipSession
pub record Happened : Type 0 where
  pub sess : SessId
  pub what : Happening

-- what of it happened in this one
unfoldable pub happened_in : SessId → List Happened → List Happening
happened_in sess [] = []
happened_in sess (one ∷ earlier) =
    if same_session one.sess sess then one.what ∷ happened_in sess earlier
    else happened_in sess earlier

-- each SipSession has the state that what happened in it makes
abbrev pub HaveStates : List Happened → List SessionView → Type 0
HaveStates happened sessions =
    All (λ (session : SessionView). session.state ≡ state_of (happened_in session.id happened))
    sessions

-- ## Responses

-- a request of which a view tells
abbrev pub asked_of : RequestView → Asked
asked_of request = record {
  req = request.id;
  method = request.method;
  initial = request.initial;
  ends = request.ends;
}

-- a proxied request that began a SipSession and that no view shows any more
abbrev pub initial_of : Proxy → Asked
initial_of proxy =
    record { req = proxy.req; method = proxy.request.method; initial = true; ends = false }

-- a response in this SipSession
unfoldable pub response_in : Option SessionView → Asked → Bool → ℕ → List Happened
response_in None asked tagged code = []
response_in (Some session) asked tagged code =
    record { sess = session.id; what = Responded session.role asked tagged code } ∷ []

-- a response that came from outside or from another host, by its To tag
abbrev pub came_in : View → SessId → Asked → Response → List Happened
came_in view sess asked response =
    response_in (session_in view sess) asked (is_some (tag_of response.head.to)) response.code

-- an answer of this code that the application or the container gave, which has a tag
unfoldable pub answer_to : View → Option RequestView → ℕ → List Happened
answer_to view None code = []
answer_to view (Some request) code =
    response_in (session_in view request.sess) (asked_of request) true code

-- ## A response to a request of one's own

-- in each SipSession that passes this test
unfoldable pub in_each : (SessionView → Bool) → (SessionView → Happening) → List SessionView
    → List Happened
in_each test what sessions =
    map (λ (session : SessionView). record { sess = session.id; what = what session })
    (filter test sessions)

-- the other SipSessions of an INVITE that are there, when its first 2xx comes in this one
unfoldable pub overtaken_by : ReqId → SessId → Session → List Happened
overtaken_by req sess session =
    in_each
    (λ other. is_of session.known req other && not other.gone && not (same_session other.id sess))
    (λ other. Overtaken) session.view.sessions

-- the other SipSessions of a request, when it failed
unfoldable pub undone_by : ReqId → SessId → Session → List Happened
undone_by req original session =
    in_each (λ other. is_of session.known req other && not (same_session other.id original))
    (λ other. Undone) session.view.sessions

-- what a response in one SipSession of a request is to the others
unfoldable pub settled_by : RequestView → SessId → Response → Session → List Happened
settled_by request sess response session =
    if is_first_success request response then overtaken_by request.id sess session
    else
    (if request.initial && is_failure response.code then undone_by request.id request.sess session
    else [])

-- a response that came in this SipSession; in one that is gone it counts for nothing
unfoldable pub got_in : RequestView → Response → SessId × Session → List Happened
got_in request response (sess, session) =
    if is_gone_in session.view sess then []
    else came_in session.view sess (asked_of request) response
    ++ settled_by request sess response session

-- a response to a request by whether the view shows it still; where it doesn't only a 2xx to an
-- INVITE counts
unfoldable pub got_own : Session → Kept → Response → Option RequestView → List Happened
got_own session kept response None =
    if accepts_invite kept response
    then got_in (shown_again session.known kept response.code) response
    (session_of_response session kept (shown_again session.known kept response.code) response
    (session_in session.view kept.sess))
    else []
got_own session kept response (Some request) =
    got_in request response
    (session_of_response session kept request response (session_in session.view request.sess))

-- a response to a request that was sent, if it is kept; one on a proxy's branch counts once it is
-- forwarded
unfoldable pub by_response : Session → Response → Option Kept → List Happened
by_response session response None = []
by_response session response (Some kept) =
    got_own session kept response (request_in session.view kept.id)

-- ## Answers that the container gives before anyone is called

-- 500 to a later request whose number is too low (RFC 3261 section 12.2.2)
unfoldable pub too_low_in : Session → ℕ → SessId → Option SessionView → Request → List Happened
too_low_in session number sess None request = []
too_low_in session number sess (Some found) request =
    if is_low (leg_of session.known sess) request
    then answer_to (with_received_request session number sess false false request).view
    (request_in (with_received_request session number sess false false request).view
    (next_id session)) 500
    else []

-- the same, where a SipSession has its dialog
unfoldable pub too_low : Session → ℕ → Request → Option SessId → List Happened
too_low session number request None = []
too_low session number request (Some sess) =
    too_low_in session number sess (session_in session.view sess) request

-- 487 to an INVITE whose CANCEL came, unless it is proxied or answered (RFC 3261 section 9.2)
unfoldable pub cancelled_in : Session → Option Kept → Option RequestView → List Happened
cancelled_in session None request = []
cancelled_in session (Some kept) None = []
cancelled_in session (Some kept) (Some request) =
    if request.proxied then []
    else (if is_none request.answered then answer_to session.view (Some request) 487 else [])

-- the same, of the INVITE that came under the event that the CANCEL names
unfoldable pub by_cancel : Session → Option Invited → List Happened
by_cancel session None = []
by_cancel session (Some invited) =
    cancelled_in session (kept_of session.known invited.req) (request_in session.view invited.req)

-- what an event brings
unfoldable pub by_event : Session → ℕ → Queued → List Happened
by_event session number (queued.Request request) =
    too_low session number request (session_for session request)
by_event session number (queued.Response branch response) =
    by_response session response (find (is_sent_on branch) session.known.kept)
by_event session number (queued.Cancelled event) =
    by_cancel session (find (is_invited event) session.known.invited)
by_event session number event = []

-- ## Answers that the application gives

-- by an accepted call
unfoldable pub given_by : Play → Call → List Happened
given_by play (calls.Respond req answer) =
    answer_to play.view (request_in play.view req) answer.code
given_by play (calls.B2bRespond sess answer) =
    answer_to play.view (begun_by play.view sess) answer.code
given_by play call = []

-- by a call, accepted or refused
unfoldable pub given_if : Play → Call → Option Refusal → List Happened
given_if play call None = given_by play call
given_if play call (Some refused) = []

-- by these calls, one after the other
unfoldable pub by_calls : Play → List CallRecord → List Happened
by_calls play [] = []
by_calls play (made ∷ later) =
    by_calls (after_listed play made.call) later ++ given_if play made.call (refusal play made.call)

-- ## What follows the calls

-- 500 to the request of the turn, where the application failed and neither answered nor proxied it
unfoldable pub failed_at : View → Option RequestView → List Happened
failed_at view None = []
failed_at view (Some request) =
    if is_owed request && not request.proxied then answer_to view (Some request) 500 else []

-- by how the turn ended
unfoldable pub by_turn_end : Option ReqId → End → View → List Happened
by_turn_end req ends.Fine view = []
by_turn_end req ends.Fault view = failed_at view (option_and_then (request_in view) req)
by_turn_end req ends.Starved view = []

-- a response that a proxy forwards in this SipSession, by whether the view shows the request still;
-- where it doesn't only one to the request that began the SipSession counts
unfoldable pub forwarded_to : Proxy → SessId → Option RequestView → Response → View → List Happened
forwarded_to proxy sess None response view =
    if is_some proxy.options then came_in view sess (initial_of proxy) response else []
forwarded_to proxy sess (Some request) response view = came_in view sess (asked_of request) response

-- the same, within a turn
abbrev pub by_forwarding : Proxy → SessId → Response → Working → List Happened
by_forwarding proxy sess response working =
    forwarded_to proxy sess (request_in working.play.view proxy.req) response working.play.view

-- the response that waits to be forwarded as it came, where it can go still
unfoldable pub by_passing : Proxy → Option Passing → Working → List Happened
by_passing proxy None working = []
by_passing proxy (Some passing) working =
    if can_pass proxy passing.response
    then by_forwarding proxy passing.sess passing.response working
    else []

-- the best response
unfoldable pub best_passed : Proxy → Option Response → Working → List Happened
best_passed proxy None working = []
best_passed proxy (Some response) working = by_forwarding proxy proxy.sess response working

-- once it can go
unfoldable pub by_choice : Proxy → Working → List Happened
by_choice proxy working =
    if can_choose proxy then best_passed proxy (best_response proxy.candidates) working else []

-- the SipSessions of a request, when its search is over
unfoldable pub exhausted_by : Known → ReqId → SessId → List SessionView → List Happened
exhausted_by known req original sessions =
    in_each (is_of known req) (λ session. Exhausted (not (same_session session.id original)))
    sessions

-- once no branch is open and no target is left
unfoldable pub by_exhaustion : Proxy → Working → List Happened
by_exhaustion proxy working =
    if is_exhausted proxy && is_some proxy.options
    then exhausted_by working.known proxy.req proxy.sess working.play.view.sessions
    else []

-- once the best response went: its search may be over
unfoldable pub acted_last : Proxy → Working → List Happened
acted_last proxy working = by_exhaustion (proxy_now proxy working) (sends_cancels proxy working)

-- once what waited was forwarded: the best response goes
unfoldable pub acted_next : Proxy → Working → List Happened
acted_next proxy working =
    acted_last proxy (chooses (proxy_now proxy working) working)
    ++ by_choice (proxy_now proxy working) working

-- once its branches were started: what waits is forwarded
unfoldable pub acted_from : Proxy → Working → List Happened
acted_from proxy working =
    acted_next proxy (passes (proxy_now proxy working) proxy.passing working)
    ++ by_passing (proxy_now proxy working) proxy.passing working

-- what a proxy does after a turn
unfoldable pub by_proxy : Config → Proxy → Working → List Happened
by_proxy config proxy working =
    acted_from proxy (fold (after_start config proxy) working (starting proxy))

-- unless the application ended its SipSession
unfoldable pub acted_by : Config → Proxy → Working → List Happened
acted_by config proxy working =
    if is_invalid working.known proxy.sess then [] else by_proxy config proxy working

-- what these proxies do, one after the other
unfoldable pub all_acted : Config → List Proxy → Working → List Happened
all_acted config [] working = []
all_acted config (proxy ∷ proxies) working =
    all_acted config proxies (acts config working proxy) ++ acted_by config proxy working

-- 483 to a later request that is to be passed on and may go no further (RFC 3261 section 16.3)
unfoldable pub stopped_at : Working → RequestView → Option Kept → List Happened
stopped_at working request None = []
stopped_at working request (Some kept) =
    if request.initial || not request.proxied || is_invalid working.known request.sess then []
    else
    (if request.hops == 0
    then (if is_owed request then answer_to working.play.view (Some request) 483 else [])
    else [])

-- the same, of a request that the view shows
unfoldable pub stopped_of : Working → Option RequestView → List Happened
stopped_of working None = []
stopped_of working (Some request) = stopped_at working request (kept_of working.known request.id)

-- the same, of the event's request
unfoldable pub by_stop : Queued → Option ReqId → Working → List Happened
by_stop event req working =
    if is_request_event event
    then stopped_of working (option_and_then (request_in working.play.view) req)
    else []

-- ## Turns

-- the session at this moment
abbrev pub at_moment : ℕ → Session → Session
at_moment now session = record session { view = record session.view { now = now } }

-- once the container has answered what a fault left: what proxies do, and what goes no further
unfoldable pub ended_by : Config → Queued → Option ReqId → Working → List Happened
ended_by config event req working =
    by_stop event req (all_act config working) ++ all_acted config working.known.proxies working

-- after the calls, by how the turn ended
unfoldable pub called_by : Config → Queued → Option ReqId → End → Working → List Happened
called_by config event req end working =
    ended_by config event req (after_fault config req end working)
    ++ by_turn_end req end working.play.view

-- the calls, at what the event shows, and what follows them
unfoldable pub shown_by : Config → Turn → Prepared → List Happened
shown_by config turn shown =
    called_by config turn.waiting.event shown.req turn.end
    (drafts_ended (worked_all config shown turn.calls))
    ++ by_calls (first_play shown.view) turn.calls

-- what a turn of the session tells: what its event brought, what its calls gave, and what followed
-- them
unfoldable pub happened_by : Config → Session → Turn → List Happened
happened_by config session turn =
    shown_by config turn (prepared_session config turn.ringing session turn.waiting turn.now)
    ++ by_event (at_moment turn.now session) turn.waiting.number turn.waiting.event

-- what these turns of a history tell
unfoldable pub happened_after : Config → History → List Turn → List Happened
happened_after config history [] = []
happened_after config history (turn ∷ earlier) =
    happened_by config (session_after config history earlier) turn
    ++ happened_after config history earlier

-- what the history tells
abbrev pub happened_of : Config → History → List Happened
happened_of config history = happened_after config history history.turns
