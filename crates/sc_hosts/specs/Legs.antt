-- What an application session knows beside its view: how it begins, in which SipSession a message
-- is handled, and what a message makes of the SipSession (RFC 3261 sections 12 and 13, JSR 289
-- section 6).
use Rattle.std.specs.Prelude.{ℕ, List, [], ◌∷◌, ◌++◌, Bool, true, false, not, ◌&&◌, ◌||◌, Option, None, Some, is_some, option_map, option_and_then, unwrap_or, nat_lt, max, if◌then◌else◌}
use Rattle.std.specs.List.{find, list_any}
use Rattle.std.specs.Option.{option_map_or}
use Rattle.sc_value.specs.declared.ids.AppId.{AppId}
use Rattle.sc_value.specs.declared.ids.ReqId.{ReqId}
use Rattle.sc_value.specs.declared.ids.SessId.{SessId}
use Rattle.sc_value.specs.declared.message.Message.TheVariants as messages
use Rattle.sc_value.specs.declared.message.Request.{Request}
use Rattle.sc_value.specs.declared.message.Response.{Response}
use Rattle.sc_value.specs.Lists.{change_first}
use Rattle.sc_tokens.specs.Names.{same_bytes}
use Rattle.sc_terms.specs.declared.settings.Config.{Config}
use Rattle.sc_terms.specs.declared.views.View.{View}
use Rattle.sc_terms.specs.declared.views.SessionView.{SessionView}
use Rattle.sc_terms.specs.declared.views.State.TheVariants.{Initial}
use Rattle.sc_terms.specs.declared.views.Role.TheVariants as roles
use Rattle.sc_state.specs.declared.net.Note.{Note}
use Rattle.sc_state.specs.declared.session.Got.{Got}
use Rattle.sc_state.specs.declared.session.Known.{Known}
use Rattle.sc_state.specs.declared.session.Leg.{Leg}
use Rattle.sc_state.specs.declared.session.Session.{Session}
use Rattle.sc_tokens.specs.Bytes.{Bytes}
use Rattle.sc_model.specs.Dialogs.{Called, Calling, Passed, By_peer, By_self, DialogState, dialog_of, tag_of, request_target, response_target, subscribe}
use Rattle.sc_model.specs.Names.{tag_text}
use Rattle.sc_model.specs.SessionStates.{invite, ack}
use Rattle.sc_model.specs.Settings.{app_of, params_in, expiry_in}
use Rattle.sc_model.specs.Transactions.{is_success}
use Rattle.sc_hosts.specs.Looking.{is_open_state, is_proxy, same_session}
use Rattle.sc_hosts.specs.Messages.{makes_dialog}

-- ## Legs

-- the leg is that of the SipSession of this number
abbrev pub is_leg_of : SessId → Leg → Bool
is_leg_of sess leg = same_session leg.id sess

-- what a SipSession knows of its dialog
unfoldable pub leg_of : Known → SessId → Option Leg
leg_of known sess = find (is_leg_of sess) known.legs

-- a change of what a SipSession knows of its dialog
unfoldable pub change_leg : SessId → (Leg → Leg) → Known → Known
change_leg sess change known =
    record known { legs = change_first (is_leg_of sess) change known.legs }

-- the leg of a SipSession that knows nothing of its dialog yet, with the request that began it
unfoldable pub new_leg : SessId → Option ReqId → Leg
new_leg sess first =
    record {
      id = sess;
      first = first;
      caller = None;
      dialog = None;
      got = [];
      invalidated = false;
      overtaken = false;
    }

-- ## How an application session begins

-- the SipSession of the request that begins an application session
abbrev pub FIRST_SESSION : SessId
FIRST_SESSION = record { 0 = 1 }

-- that request
abbrev pub FIRST_REQUEST : ReqId
FIRST_REQUEST = record { 0 = 1 }

-- the SipSession of the request that begins it draws its tag at once
unfoldable pub first_session : Bytes → Request → SessionView
first_session tag request = record {
  id = FIRST_SESSION;
  state = Initial;
  role = roles.Uas;
  call_id = request.head.call_id;
  own_tag = tag;
  peer_tag = tag_of request.head.from;
  linked = None;
  ready_flag = true;
  gone = false;
}

-- the view as an application session begins at this moment, with the parameters of its application
unfoldable pub first_view : Config → AppId → ℕ → ℕ → Request → View
first_view config app epoch began request = record {
  app = app;
  epoch = epoch;
  salt = config.salt;
  ip = config.listen.0;
  params = params_in (app_of config app.host);
  now = began;
  expires = expiry_in (app_of config app.host) began;
  ready_flag = true;
  counter = 1;
  next_request = 1;
  next_timer = 1;
  attributes = [];
  sessions = first_session (tag_text config.salt epoch app 1) request ∷ [];
  requests = [];
  timers = [];
}

-- the number of the request that begins a SipSession, by its sender's tag
unfoldable pub first_got : Request → List Got
first_got request =
    record { tag = tag_of request.head.from; number = request.head.cseq.number } ∷ []

-- the leg of the first SipSession: the dialog on the called side, in case it answers, and the
-- caller's tag, in case it proxies
unfoldable pub first_leg : Bytes → Request → Leg
first_leg tag request = record {
  id = FIRST_SESSION;
  first = Some FIRST_REQUEST;
  caller = tag_of request.head.from;
  dialog = Some (dialog_of (Called tag request) []);
  got = first_got request;
  invalidated = false;
  overtaken = false;
}

-- what a session knows as it begins: where the router chose it, and its first leg
unfoldable pub first_known : Bytes → Note → Request → Known
first_known tag noted request = record {
  region = noted.region;
  order = noted.order;
  legs = first_leg tag request ∷ [];
  kept = [];
  invited = [];
  proxies = [];
}

-- the application session that the request begins at this moment
unfoldable pub fresh : Config → AppId → ℕ → ℕ → Note → Request → Session
fresh config app epoch began noted request = record {
  view = first_view config app epoch began request;
  known = first_known (tag_text config.salt epoch app 1) noted request;
}

-- ## The SipSession of a later request (RFC 3261 section 12.2.2)

-- the two tags are the same; that there is none is a value of its own
unfoldable pub same_tag : Option Bytes → Option Bytes → Bool
same_tag None None = true
same_tag None (Some b) = false
same_tag (Some a) None = false
same_tag (Some a) (Some b) = same_bytes a b

-- the tags of its From and To
abbrev pub from_tag : Request → Option Bytes
from_tag request = tag_of request.head.from

-- the tag of its To
abbrev pub to_tag : Request → Option Bytes
to_tag request = tag_of request.head.to

-- a proxied dialog has two peers, whose requests come in both directions
unfoldable pub between_peers : Option Bytes → Option Bytes → Request → Bool
between_peers caller callee request =
    (same_tag caller (from_tag request) && same_tag callee (to_tag request))
    || (same_tag callee (from_tag request) && same_tag caller (to_tag request))

-- the request is one of the SipSession's dialog: between the two peers of a proxied one, else from
-- the peer to the own side
unfoldable pub in_dialog_by : SessionView → Option Bytes → Request → Bool
in_dialog_by session caller request =
    if is_proxy session.role then between_peers caller session.peer_tag request
    else same_tag (Some session.own_tag) (to_tag request)
    && same_tag session.peer_tag (from_tag request)

-- an open dialog of this Call-ID and these tags
unfoldable pub takes_request : Known → Request → SessionView → Bool
takes_request known request session =
    is_open_state session.state && not session.gone
    && same_bytes session.call_id request.head.call_id
    && in_dialog_by session (option_and_then (λ leg. leg.caller) (leg_of known session.id)) request

-- the SipSession in whose dialog a later request came
unfoldable pub session_for : Session → Request → Option SessId
session_for session request =
    option_map (λ s. s.id) (find (takes_request session.known request) session.view.sessions)

-- the greatest number that came before from this tag
unfoldable pub greatest_got : Option Bytes → List Got → ℕ
greatest_got tag got = option_map_or (λ g. g.number) (find (λ g. same_tag g.tag tag) got) 0

-- the greatest number from each tag, with this one
unfoldable pub with_got : Option Bytes → ℕ → List Got → List Got
with_got tag number got =
    if list_any (λ g. same_tag g.tag tag) got
    then change_first (λ g. same_tag g.tag tag) (λ g. record g { number = max g.number number }) got
    else got ++ record { tag = tag; number = number } ∷ []

-- the number is lower than one that came before (RFC 3261 section 12.2.2). An ACK may have a lower
-- one
unfoldable pub is_low : Option Leg → Request → Bool
is_low leg request =
    not (same_bytes request.method ack)
    && option_map_or
    (λ l. nat_lt request.head.cseq.number (greatest_got (from_tag request) l.got)) leg false

-- ## The dialog after a message

-- the peer's last word on the target
unfoldable pub with_target : DialogState → Passed → DialogState
with_target dialog (By_peer (messages.Request request)) = record dialog {
  target = unwrap_or (request_target request) dialog.target;
  received = max dialog.received request.head.cseq.number;
}
with_target dialog (By_peer (messages.Response response)) =
    record dialog { target = unwrap_or (response_target dialog.begun_by response) dialog.target }
with_target dialog (By_self (messages.Request request)) =
    record dialog { sent = max dialog.sent request.head.cseq.number }
with_target dialog (By_self (messages.Response response)) = dialog

-- the dialog of the leg after a message
unfoldable pub in_dialog : Passed → Leg → Leg
in_dialog passed leg =
    record leg { dialog = option_map (λ dialog. with_target dialog passed) leg.dialog }

-- the leg after a request of the peer
unfoldable pub with_request : Request → Leg → Leg
with_request request leg =
    in_dialog (By_peer (messages.Request request))
    (record leg { got = with_got (from_tag request) request.head.cseq.number leg.got })

-- the response makes the dialog of the request: a 101 to 299 to INVITE, a 2xx to SUBSCRIBE
unfoldable pub makes_dialog_of : Request → Response → Bool
makes_dialog_of request response =
    if same_bytes request.method invite
    then is_success response.code
    || (makes_dialog response.code && is_some (tag_of response.head.to))
    else same_bytes request.method subscribe && is_success response.code

-- a response is one to the request on whose branch it came, whatever number its CSeq has (RFC 3261
-- section 17.1.3)
unfoldable pub as_answer : Request → Response → Response
as_answer request response =
    record response {
      head =
          record response.head {
            cseq = record response.head.cseq { number = request.head.cseq.number };
          };
    }

-- the dialog is that of the response that made it
unfoldable pub answered_leg : Request → Response → Leg → Leg
answered_leg request response leg =
    if is_some leg.dialog then in_dialog (By_peer (messages.Response response)) leg
    else
    (if makes_dialog_of request response
    then record leg { dialog = Some (dialog_of (Calling request response) []) }
    else leg)

-- the leg after a response to this request
unfoldable pub with_answer : Request → Response → Leg → Leg
with_answer request response leg = answered_leg request (as_answer request response) leg
