-- What a turn shows of a request that came: what an application session becomes before its servlet
-- is called (RFC 3261 section 12.2.2, JSR 289 section 6).
use Rattle.std.specs.Prelude.{ℕ, ◌+◌, List, [], ◌∷◌, ◌++◌, Bool, true, false, Option, None, Some, if◌then◌else◌}
use Rattle.sc_value.specs.declared.ids.ReqId.{ReqId}
use Rattle.sc_value.specs.declared.ids.SessId.{SessId}
use Rattle.sc_value.specs.declared.message.Request.{Request}
use Rattle.sc_tokens.specs.Names.{same_bytes}
use Rattle.sc_terms.specs.declared.events.Event.{Event}
use Rattle.sc_terms.specs.declared.events.Event.TheVariants as events
use Rattle.sc_terms.specs.declared.views.RequestView.{RequestView}
use Rattle.sc_terms.specs.declared.views.SessionView.{SessionView}
use Rattle.sc_state.specs.declared.orders.Order.{Order}
use Rattle.sc_state.specs.declared.orders.Order.TheVariants as orders
use Rattle.sc_state.specs.declared.session.Known.{Known}
use Rattle.sc_state.specs.declared.session.Session.{Session}
use Rattle.sc_state.specs.declared.session.Way.TheVariants.{Received}
use Rattle.sc_state.specs.declared.working.Prepared.{Prepared}
use Rattle.sc_tokens.specs.Bytes.{Bytes}
use Rattle.sc_model.specs.SessionStates.{invite, ack}
use Rattle.sc_hosts.specs.ViewChanges.{view_with_answer}
use Rattle.sc_hosts.specs.Legs.{change_leg, is_low, leg_of, with_request}
use Rattle.sc_hosts.specs.Looking.{is_gone_in, is_proxy, request_in, session_in}
use Rattle.sc_hosts.specs.Messages.{own_response}
use Rattle.sc_hosts.specs.States.{ends_subscription}
use Rattle.sc_hosts.specs.Words.{does_not_exist}
use Rattle.sc_model.specs.BestResponses.{server_error}

-- ## What nobody is called for

-- nobody is called
unfoldable pub silent : Session → List Order → Prepared
silent session given =
    record { view = session.view; known = session.known; event = None; req = None; orders = given }

-- this event is shown, with the number of the request that it is about
unfoldable pub showing : Session → Event → Option ReqId → List Order → Prepared
showing session event req given =
    record {
      view = session.view;
      known = session.known;
      event = Some event;
      req = req;
      orders = given;
    }

-- shown where the SipSession is there
unfoldable pub showing_in : Session → SessId → Event → Option ReqId → List Order → Prepared
showing_in session sess event req given =
    record {
      view = session.view;
      known = session.known;
      event = if is_gone_in session.view sess then None else Some event;
      req = req;
      orders = given;
    }

-- ## Requests

-- the next request gets its number
abbrev pub next_id : Session → ReqId
next_id session = record { 0 = session.view.next_request }

-- a received request as it is shown, without an answer yet
unfoldable pub request_view : ReqId → SessId → Bool → Bool → Request → RequestView
request_view req sess initial passed request = record {
  id = req;
  sess = sess;
  method = request.method;
  received = true;
  initial = initial;
  hops = request.hops;
  answered = None;
  proxied = passed;
  branches = 0;
  unacked = [];
  ends = ends_subscription request.method request.head.others;
}

-- a number for a request is used up
abbrev pub with_number_used : Session → Session
with_number_used session =
    record session { view = record session.view { next_request = session.view.next_request + 1 } }

-- an INVITE is noted, as it can be cancelled
unfoldable pub with_invited : ℕ → ReqId → SessId → Request → Known → Known
with_invited number req sess request known =
    if same_bytes request.method invite
    then record known {
      invited = known.invited ++ record { event = number; req = req; sess = sess } ∷ [];
    }
    else known

-- the request is there, with its number
unfoldable pub with_received_request : Session → ℕ → SessId → Bool → Bool → Request → Session
with_received_request session number sess initial passed request = record {
  view =
      record (with_number_used session).view {
        requests = session.view.requests
            ++ request_view (next_id session) sess initial passed request ∷ [];
      };
  known = with_invited number (next_id session) sess request (record session.known {
    kept =
        session.known.kept
        ++ record { id = next_id session; sess = sess; way = Received number; request = request }
        ∷ [];
  });
}

-- ## A later request

-- an answer of the container to a request that has a To tag; an ACK has none
unfoldable pub refusal_orders : ℕ → ℕ → Bytes → Request → List Order
refusal_orders number code reason request =
    if same_bytes request.method ack then []
    else orders.Respond number (own_response [] code reason request) ∷ []

-- a number that is too low: the answer counts in the SipSession like any other
unfoldable pub too_low : Session → ℕ → SessId → Request → Prepared
too_low session number sess request =
    let after : Session = record (with_received_request session number sess false false request) {
      view =
          view_with_answer
          (request_in (with_received_request session number sess false false request).view
          (next_id session)) 500
          (with_received_request session number sess false false request).view;
    } in silent after (refusal_orders number 500 server_error request)

-- a request of the dialog is shown; in a proxied dialog it is one that is passed on
unfoldable pub prepared_for_request : Session → ℕ → SessionView → Request → Prepared
prepared_for_request session number found request =
    let after : Session = with_received_request session number found.id false (is_proxy found.role)
    request in
    showing (record after { known = change_leg found.id (with_request request) after.known })
    (events.Request (next_id session) found.id request) (Some (next_id session)) []

-- a later request in its SipSession, by its sequence number (RFC 3261 section 12.2.2)
unfoldable pub taken_in : Session → ℕ → SessId → Option SessionView → Request → Prepared
taken_in session number sess None request = silent (with_number_used session) []
taken_in session number sess (Some found) request =
    if is_low (leg_of session.known sess) request then too_low session number sess request
    else prepared_for_request session number found request

-- a later request; where no SipSession has its dialog it is answered 481, and nobody is called
unfoldable pub prepared_request : Session → ℕ → Request → Option SessId → Prepared
prepared_request session number request None =
    silent (with_number_used session) (refusal_orders number 481 does_not_exist request)
prepared_request session number request (Some sess) =
    taken_in session number sess (session_in session.view sess) request
