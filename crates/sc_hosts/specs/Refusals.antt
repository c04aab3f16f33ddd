-- Which refusal each call of a turn gets: the first that holds, in the order written. A call is
-- judged by the view, by the drafts of its turn, and by how many calls were made. What is refused
-- is of JSR 289, sections 6, 10 and 12; the order is this project's own.
use Rattle.std.specs.Prelude.{ℕ, ◌+◌, ◌==◌, List, [], ◌∷◌, Bool, true, false, not, ◌||◌, ◌&&◌, Option, None, Some, is_some, is_none, option_map, nat_lt, nat_le, if◌then◌else◌, length, filter, sum_by}
use Rattle.std.specs.List.{find, list_any}
use Rattle.std.specs.Option.{option_or, option_map_or}
use Rattle.sc_value.specs.declared.ids.ReqId.{ReqId}
use Rattle.sc_value.specs.declared.ids.SessId.{SessId}
use Rattle.sc_value.specs.declared.ids.Directive.{Directive}
use Rattle.sc_value.specs.declared.ids.Directive.TheVariants.{New, Continue, Reverse}
use Rattle.sc_value.specs.declared.parts.Field.{Field}
use Rattle.sc_tokens.specs.Names.{same_bytes}
use Rattle.sc_terms.specs.declared.views.View.{View}
use Rattle.sc_terms.specs.declared.views.RequestView.{RequestView}
use Rattle.sc_terms.specs.declared.views.SessionView.{SessionView}
use Rattle.sc_terms.specs.declared.views.Period.{Period}
use Rattle.sc_terms.specs.declared.views.Period.TheVariants.{Once, Rate, Delay}
use Rattle.sc_terms.specs.declared.views.State.TheVariants.{Terminated}
use Rattle.sc_terms.specs.declared.calls.Answer.{Answer}
use Rattle.sc_terms.specs.declared.calls.Ask.{Ask}
use Rattle.sc_terms.specs.declared.calls.Call.{Call}
use Rattle.sc_terms.specs.declared.calls.Call.TheVariants as calls
use Rattle.sc_terms.specs.declared.calls.ProxyOptions.{ProxyOptions}
use Rattle.sc_terms.specs.declared.calls.Refusal.{Refusal}
use Rattle.sc_terms.specs.declared.calls.Refusal.TheVariants.{NotYours, AlreadyAnswered, NotInitial, WrongState, AlreadyProxy, AlreadyLinked, NotLinked, Invalidated, Limit, SystemHeader, BadText, NoHops, NotSent}
use Rattle.sc_terms.specs.declared.inside.Inside.{Inside}
use Rattle.sc_state.specs.declared.working.Draft.{Draft}
use Rattle.sc_state.specs.declared.working.Play.{Play}
use Rattle.sc_tokens.specs.Bytes.{Bytes}
use Rattle.sc_model.specs.SessionStates.{invite, ack}
use Rattle.sc_hosts.specs.Looking.{is_initial_state, is_open_state, is_proxy, is_terminated, partner, request_in, same_session, session_count, session_in, timer_in}
use Rattle.sc_hosts.specs.RefusalParts.{MOST_ATTRIBUTE_BYTES, MOST_BRANCHES, MOST_CALLS, MOST_SESSIONS, MOST_TIMERS, answer_text, asked_text, draft_in, first_of, has_system_answer, has_system_ask, has_system_name, name_refusal, sessions_in_call}

-- what `respond` refuses of a request
unfoldable pub respond_refusal : RequestView → Answer → Option Refusal
respond_refusal request answer =
    option_or (first_of (
    (not request.received || same_bytes request.method ack, NotYours)
    ∷ (request.proxied, AlreadyProxy)
    ∷ (is_some request.answered, AlreadyAnswered)
    ∷ (has_system_answer request.method answer, SystemHeader)
    ∷ [])) (answer_text answer)

-- the router begins anew, and so needs no origin (JSR 289 section 15)
unfoldable pub is_new : Directive → Bool
is_new New = true
is_new Continue = false
is_new Reverse = false

-- the origin is a request that came and began its SipSession
unfoldable pub is_origin : Play → Option ReqId → Bool
is_origin play origin =
    option_map_or
    (λ req.
    option_map_or (λ request. request.received && request.initial) (request_in play.view req)
    false) origin false

-- the origin is a request that was sent
unfoldable pub is_sent_origin : Play → Option ReqId → Bool
is_sent_origin play origin =
    option_map_or
    (λ req. option_map_or (λ request. not request.received) (request_in play.view req) false) origin
    false

-- what `create_request` refuses
unfoldable pub create_refusal : Play → Ask → Option Refusal
create_refusal play ask =
    option_or (first_of (
    (nat_le MOST_SESSIONS (session_count play.view), Limit MOST_SESSIONS)
    ∷ (is_sent_origin play ask.origin, NotYours)
    ∷ (not (is_new ask.directive) && not (is_origin play ask.origin), NotInitial)
    ∷ (has_system_ask ask, SystemHeader)
    ∷ [])) (asked_text ask.method ask.fields)

-- what `create_in_dialog` refuses: outside of an open dialog, and as a proxy; then headers and
-- texts
unfoldable pub dialog_refusal : Option SessionView → Inside → Option Refusal
dialog_refusal None ask = Some NotYours
dialog_refusal (Some session) ask =
    option_or (first_of (
    (not (is_open_state session.state) || is_proxy session.role, WrongState session.state)
    ∷ (has_system_name ask.fields, SystemHeader)
    ∷ [])) (asked_text ask.method ask.fields)

-- the refusal where a SipSession is linked to another one
unfoldable pub linked_refusal : Option SessId → Option Refusal
linked_refusal other = option_map (λ sess. AlreadyLinked sess) other

-- what `b2b_create` refuses: its request has to be initial, unanswered, and able to go further
unfoldable pub b2b_refusal : Play → Option RequestView → Option Refusal
b2b_refusal play None = Some NotYours
b2b_refusal play (Some request) =
    option_or (first_of (
    (not request.received, NotYours)
    ∷ (not request.initial, NotInitial)
    ∷ (request.proxied, AlreadyProxy)
    ∷ (is_some request.answered, AlreadyAnswered)
    ∷ [])) (option_or (linked_refusal (partner play.view request.sess)) (first_of (
    (request.hops == 0, NoHops)
    ∷ (nat_le MOST_SESSIONS (session_count play.view), Limit MOST_SESSIONS)
    ∷ [])))

-- what `set_directive` refuses: the draft has to be initial
unfoldable pub directive_refusal : Play → Option Draft → Directive → Option ReqId → Option Refusal
directive_refusal play None directive origin = Some NotYours
directive_refusal play (Some draft) directive origin =
    first_of
    ((not draft.initial || (not (is_new directive) && not (is_origin play origin)), NotInitial)
    ∷ [])

-- the SipSession is TERMINATED
unfoldable pub is_ended_session : Option SessionView → Bool
is_ended_session session = option_map_or (λ s. is_terminated s.state) session false

-- what `send` refuses: a later request in a dialog that has ended
unfoldable pub send_refusal : Play → Option Draft → Option Refusal
send_refusal play None = Some NotYours
send_refusal play (Some draft) =
    first_of
    ((
      not draft.initial && is_ended_session (session_in play.view draft.sess),
      WrongState Terminated,
    ) ∷ [])

-- the sent INVITE whose 2xx in this SipSession has no ACK
abbrev pub awaits_ack : SessId → RequestView → Bool
awaits_ack sess request = list_any (same_session sess) request.unacked

-- what `cancel` refuses: other than a sent INVITE that waits for its final response (RFC 3261
-- section 9.1)
unfoldable pub cancel_refusal : View → Option RequestView → Option Refusal
cancel_refusal view None = Some NotYours
cancel_refusal view (Some request) =
    option_or
    (first_of ((request.received || not (same_bytes request.method invite), NotSent) ∷ []))
    (if is_some request.answered
    then option_map (λ session. WrongState session.state) (session_in view request.sess)
    else None)

-- the SipSession isn't INITIAL any more
unfoldable pub is_begun : Option SessionView → Bool
is_begun session = option_map_or (λ s. not (is_initial_state s.state)) session false

-- the refusal that names the SipSession's state
unfoldable pub state_refusal : Option SessionView → Option Refusal
state_refusal session = option_map (λ s. WrongState s.state) session

-- the branches that the application session has had
unfoldable pub branch_count : View → ℕ
branch_count view = sum_by (λ request. request.branches) view.requests

-- what `proxy_to` refuses: its request has to be initial, unanswered, and able to go further; a
-- timeout is 1 to 3,600 s
unfoldable pub proxy_refusal : Play → Option RequestView → ℕ → ProxyOptions → Option Refusal
proxy_refusal play None count how = Some NotYours
proxy_refusal play (Some request) count how =
    option_or (first_of (
    (not request.received, NotYours)
    ∷ (not request.initial, NotInitial)
    ∷ (is_some request.answered && not request.proxied, AlreadyAnswered)
    ∷ (is_some request.answered, AlreadyProxy)
    ∷ [])) (option_or (if not request.proxied && is_begun (session_in play.view request.sess) then
    state_refusal (session_in play.view request.sess) else None)
    (first_of (
    (request.hops == 0, NoHops)
    ∷ (count == 0, BadText 0)
    ∷ (how.timeout == 0 || nat_lt 3600 how.timeout, BadText 1)
    ∷ (nat_lt MOST_BRANCHES (branch_count play.view + count), Limit MOST_BRANCHES)
    ∷ [])))

-- what `proxy_cancel` refuses: other than a proxied request that waits for its final response
unfoldable pub proxy_cancel_refusal : Option RequestView → Option Refusal
proxy_cancel_refusal None = Some NotYours
proxy_cancel_refusal (Some request) =
    first_of ((not request.proxied, NotSent) ∷ (is_some request.answered, AlreadyAnswered) ∷ [])

-- the received request that began the SipSession
unfoldable pub begun_by : View → SessId → Option RequestView
begun_by view sess =
    find (λ request. request.received && request.initial && same_session request.sess sess)
    view.requests

-- what `b2b_respond` refuses: an unlinked SipSession, and what `respond` refuses of its initial
-- request
unfoldable pub b2b_respond_refusal : View → SessId → Answer → Option Refusal
b2b_respond_refusal view sess answer =
    if is_none (partner view sess) then Some NotLinked
    else option_map_or (λ request. respond_refusal request answer) (begun_by view sess)
    (Some NotYours)

-- what `link` refuses: itself, an ended SipSession, and one that is linked (JSR 289 section 12)
unfoldable pub link_refusal : View → SessId → SessId → Option Refusal
link_refusal view a b =
    option_or (first_of (
    (same_session a b, AlreadyLinked a)
    ∷ (
      is_ended_session (session_in view a) || is_ended_session (session_in view b),
      WrongState Terminated,
    )
    ∷ [])) (option_or (linked_refusal (partner view a)) (linked_refusal (partner view b)))

-- a timer that is due again after no time
unfoldable pub is_zero_period : Period → Bool
is_zero_period Once = false
is_zero_period (Rate n) = n == 0
is_zero_period (Delay n) = n == 0

-- the bytes of the attributes, without one of this name
unfoldable pub attribute_bytes : Bytes → List Field → ℕ
attribute_bytes name fields =
    sum_by (λ field. length field.name + length field.value)
    (filter (λ field. not (same_bytes field.name name)) fields)

-- there is an attribute of this name
unfoldable pub is_set : Bytes → List Field → Bool
is_set name fields = list_any (λ field. same_bytes field.name name) fields

-- the call's own refusal
unfoldable pub own_refusal : Play → Call → Option Refusal
own_refusal play (calls.Respond req answer) =
    option_map_or (λ request. respond_refusal request answer) (request_in play.view req)
    (Some NotYours)
own_refusal play (calls.CreateRequest ask) = create_refusal play ask
own_refusal play (calls.CreateInDialog sess ask) = dialog_refusal (session_in play.view sess) ask
own_refusal play (calls.B2bCreate req uri) = b2b_refusal play (request_in play.view req)
own_refusal play (calls.SetDirective draft directive origin) =
    directive_refusal play (draft_in play draft) directive origin
own_refusal play (calls.Send draft) = send_refusal play (draft_in play draft)
own_refusal play (calls.Discard draft) = None
own_refusal play (calls.Ack sess body) =
    first_of ((not (list_any (awaits_ack sess) play.view.requests), NotSent) ∷ [])
own_refusal play (calls.Cancel req) = cancel_refusal play.view (request_in play.view req)
own_refusal play (calls.ProxyTo req uris how) =
    proxy_refusal play (request_in play.view req) (length uris) how
own_refusal play (calls.ProxyCancel req) = proxy_cancel_refusal (request_in play.view req)
own_refusal play (calls.B2bRespond sess answer) = b2b_respond_refusal play.view sess answer
own_refusal play (calls.Link a b) = link_refusal play.view a b
own_refusal play (calls.Unlink a) = first_of ((is_none (partner play.view a), NotLinked) ∷ [])
own_refusal play (calls.StartTimer delay period info) =
    first_of
    ((is_zero_period period, BadText 1)
    ∷ (nat_le MOST_TIMERS (length play.view.timers), Limit MOST_TIMERS) ∷ [])
own_refusal play (calls.CancelTimer id) =
    first_of ((is_none (timer_in play.view id), NotYours) ∷ [])
own_refusal play (calls.SetAttribute name value) =
    first_of
    ((
      nat_lt MOST_ATTRIBUTE_BYTES
          (attribute_bytes name play.view.attributes + length name + length value),
      Limit MOST_ATTRIBUTE_BYTES,
    ) ∷ [])
own_refusal play (calls.RemoveAttribute name) =
    first_of ((not (is_set name play.view.attributes), NotYours) ∷ [])
own_refusal play (calls.SetExpires minutes) = None
own_refusal play (calls.SetReadyFlag target flag) = None
own_refusal play (calls.InvalidateSession sess) = None
own_refusal play calls.InvalidateApplication = None

-- the refusal of a call, none where it is accepted
unfoldable pub refusal : Play → Call → Option Refusal
refusal play call =
    option_or
    (first_of
    ((nat_le MOST_CALLS play.listed, Limit MOST_CALLS) ∷ (play.ended, Invalidated) ∷ []))
    (option_or (name_refusal play.view (sessions_in_call play call)) (own_refusal play call))
