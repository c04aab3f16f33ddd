-- What a later request gets that comes to no session, or that its session shows to nobody: the
-- container answers it by itself (RFC 3261 sections 8.2, 12.2.2 and 21.5.4).
use Rattle.std.specs.Prelude.{◌≡◌, ◌⊎◌, ◌≤◌, ◌^◌, ℕ, List, [], ◌∷◌, ◌++◌, true, false, None, Some, is_some, if◌then◌else◌, length, slice_get, drop}
use Rattle.sc_value.specs.declared.ids.AppId.{AppId}
use Rattle.sc_value.specs.declared.ids.Place.{Place}
use Rattle.sc_value.specs.declared.ids.SessId.{SessId}
use Rattle.sc_value.specs.declared.message.Message.TheVariants as messages
use Rattle.sc_value.specs.declared.message.Request.{Request}
use Rattle.sc_value.specs.declared.message.Sent.{Sent}
use Rattle.sc_value.specs.declared.parts.Uri.{Uri}
use Rattle.sc_tokens.specs.Names.{same_bytes}
use Rattle.sc_terms.specs.declared.calls.CallRecord.{CallRecord}
use Rattle.sc_terms.specs.declared.calls.End.{End}
use Rattle.sc_terms.specs.declared.settings.Config.{Config}
use Rattle.sc_terms.specs.declared.views.SessionView.{SessionView}
use Rattle.sc_parts.specs.declared.setup.Setup.{Setup}
use Rattle.sc_state.specs.Hosts.{Host}
use Rattle.sc_state.specs.declared.host.Peer.TheVariants as peers
use Rattle.sc_state.specs.declared.net.Entry.{Entry}
use Rattle.sc_state.specs.declared.net.Net.{Net}
use Rattle.sc_state.specs.declared.orders.Order.{Order}
use Rattle.sc_state.specs.declared.orders.Order.TheVariants as orders
use Rattle.sc_state.specs.declared.queue.Waiting.{Waiting}
use Rattle.sc_state.specs.declared.session.Session.{Session}
use Rattle.sc_tokens.specs.Bytes.{Bytes}
use Rattle.sc_model.specs.DialogRequests.{cancel}
use Rattle.sc_model.specs.Dialogs.{tag_of}
use Rattle.sc_model.specs.Names.{IsOf64, edge_tag}
use Rattle.sc_model.specs.SessionStates.{ack}
use Rattle.sc_hosts.specs.Finishing.{outcome}
use Rattle.sc_hosts.specs.Legs.{is_low, leg_of, session_for}
use Rattle.sc_hosts.specs.Looking.{session_in}
use Rattle.sc_hosts.specs.Messages.{own_response}
use Rattle.sc_hosts.specs.Nets.{host_at}
use Rattle.sc_hosts.specs.Taking.{names, own_uri, server_for}
use Rattle.sc_hosts.specs.Transacting.{method_of}
use Rattle.sc_hosts.specs.Preparing.{prepared_session}
use Rattle.sc_hosts.specs.Words.{does_not_exist}
use Rattle.sc_model.specs.BestResponses.{server_error}
use Rattle.sc_lasting.specs.Lasting.{All}
use Rattle.sc_reached.specs.Reached.{AllSmall, AreSmall, IsLater}

-- its own URI, the top Route or the Request-URI, names this session; and names have 64 bits
pub record IsLaterTo {S : Type 0} (setup : Setup) (from : Place) (request : Request) (net : Net S)
    (app : AppId) : Type 0 where
  pub later : IsLater from request net
  pub uri : Uri
  pub by : own_uri setup.config request ≡ Some uri
  pub named : names net.epoch app uri ≡ true
  pub within : IsOf64 net.epoch app 0
  pub count : length net.hosts ≤ 2 ^ 64
  pub small : AllSmall net.hosts

-- what is sent back to where it came from: this answer of the container by itself; nothing to an
-- ACK
unfoldable pub answer_to : Config → Place → ℕ → Bytes → Request → List Sent
answer_to config from code reason request =
    if same_bytes (method_of request) ack then []
    else
    record {
      place = from;
      message = messages.Response (own_response (edge_tag config.salt) code reason request);
    } ∷ []

-- the net with that sent, and else as it was
abbrev pub net_with_answer : {S : Type 0} → Config → Place → ℕ → Bytes → Request → Net S → Net S
net_with_answer config from code reason request net =
    record net { sent = net.sent ++ answer_to config from code reason request }

-- ## Between hosts

-- the first of the wire is a request, no CANCEL, with a To tag and of no transaction of the host
-- that it comes to; its own URI names this session of that host; and names have 64 bits
pub record IsFirstTo {S : Type 0} (setup : Setup) (entry : Entry) (request : Request) (net : Net S)
    (app : AppId) : Type 0 where
  pub first : slice_get net.wire 0 ≡ Some entry
  pub message : entry.message ≡ messages.Request request
  pub receiver : entry.receiver ≡ app.host
  pub no_cancel : same_bytes (method_of request) cancel ≡ false
  pub tagged : is_some (tag_of request.head.to) ≡ true
  pub host : Host S
  pub there : host_at app.host net ≡ Some host
  pub unclaimed : is_some (server_for (peers.Inside entry.sender) request host) ≡ false
  pub uri : Uri
  pub by : own_uri setup.config request ≡ Some uri
  pub named : names net.epoch app uri ≡ true
  pub within : IsOf64 net.epoch app 0
  pub small : AreSmall host.sessions

-- what is put on the wire: this answer of the container by itself, to the host that sent the
-- request; nothing to an ACK
unfoldable pub answer_back : Config → Entry → ℕ → Bytes → Request → List Entry
answer_back config entry code reason request =
    if same_bytes (method_of request) ack then []
    else
    record {
      sender = entry.receiver;
      receiver = entry.sender;
      message = messages.Response (own_response (edge_tag config.salt) code reason request);
      note = None;
    } ∷ []

-- the net without the first of the wire and with that behind the others, and else as it was
abbrev pub net_with_return : {S : Type 0} → Config → Entry → ℕ → Bytes → Request → Net S → Net S
net_with_return config entry code reason request net =
    record net { wire = drop 1 net.wire ++ answer_back config entry code reason request }

-- ## In the turn of its session

-- a later request that no turn shows: no SipSession of the session is of its dialog, or its
-- sequence number is lower than one that came there before; with the code and reason of the answer
-- (RFC 3261 section 12.2.2)
unfoldable pub IsRefusedThere : Session → Request → ℕ → Bytes → Type 0
IsRefusedThere session request code reason =
    ((session_for session request ≡ None) × (code ≡ 481) × (reason ≡ does_not_exist))
    ⊎ ((sess : SessId) × (found : SessionView) × (session_for session request ≡ Some sess)
    × (session_in session.view sess ≡ Some found)
    × (is_low (leg_of session.known sess) request ≡ true)
    × (code ≡ 500) × (reason ≡ server_error))

-- the order sends no request in a dialog
unfoldable pub IsNoLater : Order → Type 0
IsNoLater (orders.Send branch request) = ⊥
IsNoLater (orders.Acknowledge request) = ⊥
IsNoLater order = Unit {0}

-- nobody is called in the turn; it gives these orders first, and behind them none that sends a
-- request in a dialog
pub record RefusesFirst (config : Config) (ringing : List ℕ) (session : Session) (waiting : Waiting)
    (now : ℕ) (made : List CallRecord) (end : End) (first : List Order) : Type 0 where
  pub event : (prepared_session config ringing session waiting now).event ≡ None
  pub more : List Order
  pub given : (outcome config ringing session waiting now made end).orders ≡ first ++ more
  pub none : All IsNoLater more
