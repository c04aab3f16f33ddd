-- What answers and new SipSessions change in the view of a turn (JSR 289 sections 6.2 and 12).
use Rattle.std.specs.Prelude.{ℕ, ◌+◌, ◌==◌, List, [], ◌∷◌, ◌++◌, Bool, true, false, not, ◌||◌, ◌&&◌, Option, None, Some, is_none, if◌then◌else◌, length, map, filter}
use Rattle.sc_value.specs.declared.ids.SessId.{SessId}
use Rattle.sc_terms.specs.declared.views.View.{View}
use Rattle.sc_terms.specs.declared.views.RequestView.{RequestView}
use Rattle.sc_terms.specs.declared.views.SessionView.{SessionView}
use Rattle.sc_terms.specs.declared.views.State.TheVariants.{Initial}
use Rattle.sc_terms.specs.declared.views.Role.TheVariants as roles
use Rattle.sc_tokens.specs.Bytes.{Bytes}
use Rattle.sc_model.specs.Names.{tag_text, call_id_text}
use Rattle.sc_model.specs.Records.{ip_text}
use Rattle.sc_tokens.specs.Names.{same_bytes}
use Rattle.sc_model.specs.SessionStates.{ack, is_final}
use Rattle.sc_hosts.specs.Looking.{change_request, change_session, is_gone_in, linked_to, same_session, without_sip_session}
use Rattle.sc_hosts.specs.States.{after_response}

-- ## Which requests the view shows

-- the SipSessions of a list that are there
unfoldable pub there : View → List SessId → List SessId
there view sessions = filter (λ sess. not (is_gone_in view sess)) sessions

-- a request that waits for ACKs of such SipSessions alone
unfoldable pub with_there : View → RequestView → RequestView
with_there view request = record request { unacked = there view request.unacked }

-- an initial request stands as long as its SipSession, or one that waits for an ACK, is there;
-- every other until its final response, and a sent INVITE until each 2xx has its ACK
unfoldable pub stands : View → RequestView → Bool
stands view request =
    if request.initial then not (is_gone_in view request.sess) || not (length request.unacked == 0)
    else is_none request.answered || not (length request.unacked == 0)

-- the view with the requests that it shows
unfoldable pub tidy : View → View
tidy view = record view { requests = filter (stands view) (map (with_there view) view.requests) }

-- ## Answers

-- the first final code stays
unfoldable pub with_answer : ℕ → RequestView → RequestView
with_answer code request =
    if is_final code && is_none request.answered then record request { answered = Some code }
    else request

-- the SipSession after a response of this code to a request
unfoldable pub with_response : RequestView → Bool → ℕ → SessionView → SessionView
with_response request tagged code session =
    record session { state = after_response session.role request tagged session.state code }

-- the view after a response of this code to a request, sent, handled or forwarded in this
-- SipSession
unfoldable pub answered_in : SessId → RequestView → Bool → ℕ → View → View
answered_in sess request tagged code view =
    change_session sess (with_response request tagged code)
    (change_request request.id (with_answer code) view)

-- after an answer that the application or the container gave
unfoldable pub view_with_answer : Option RequestView → ℕ → View → View
view_with_answer None code view = view
view_with_answer (Some request) code view = tidy (answered_in request.sess request true code view)

-- ## What an application ends

-- the request was received and waits for its final response; an ACK has none
unfoldable pub is_owed : RequestView → Bool
is_owed request =
    request.received && is_none request.answered && not (same_bytes request.method ack)

-- the requests of this SipSession that wait are answered
unfoldable pub settled_request : SessId → ℕ → RequestView → RequestView
settled_request sess code request =
    if same_session request.sess sess && is_owed request
    then record request { answered = Some code }
    else request

-- the view with them answered
unfoldable pub settled_requests : SessId → ℕ → View → View
settled_requests sess code view =
    record view { requests = map (settled_request sess code) view.requests }

-- a SipSession that is invalidated: what waits in it is answered 500, and it is gone
unfoldable pub view_without : SessId → View → View
view_without sess view = tidy (without_sip_session sess (settled_requests sess 500 view))

-- ## SipSessions that calls make

-- the names that a request of one's own draws, in this order: its Call-ID and its From tag
unfoldable pub new_call_id : View → Bytes
new_call_id view = call_id_text view.salt view.epoch (ip_text view.ip) view.app (view.counter + 1)

-- its From tag
unfoldable pub new_tag : View → Bytes
new_tag view = tag_text view.salt view.epoch view.app (view.counter + 2)

-- the number of the next SipSession
abbrev pub new_session : View → SessId
new_session view = record { 0 = length view.sessions + 1 }

-- the SipSession of a request of one's own, without a peer's tag yet
unfoldable pub own_session : View → SessionView
own_session view = record {
  id = new_session view;
  state = Initial;
  role = roles.Uac;
  call_id = new_call_id view;
  own_tag = new_tag view;
  peer_tag = None;
  linked = None;
  ready_flag = true;
  gone = false;
}

-- the view with that SipSession; two names are drawn
unfoldable pub with_own_session : View → View
with_own_session view =
    record view { sessions = view.sessions ++ own_session view ∷ []; counter = view.counter + 2 }

-- two SipSessions linked
unfoldable pub with_link : SessId → SessId → View → View
with_link a b view =
    change_session a (linked_to (Some b)) (change_session b (linked_to (Some a)) view)
