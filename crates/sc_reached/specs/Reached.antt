-- A later request that comes from outside, or from another host, by the own URI of a live session,
-- and what is queued then (RFC 3261 sections 12.2.2 and 16.4).
use Rattle.std.specs.Prelude.{◌≡◌, ◌≤◌, ◌<◌, ◌+◌, ◌^◌, List, [], ◌∷◌, ◌++◌, true, false, None, Some, is_some, if◌then◌else◌, length, slice_get, drop}
use Rattle.sc_value.specs.declared.ids.AppId.{AppId}
use Rattle.sc_value.specs.declared.ids.Place.{Place}
use Rattle.sc_value.specs.declared.message.Message.TheVariants as messages
use Rattle.sc_value.specs.declared.message.Request.{Request}
use Rattle.sc_value.specs.declared.parts.Uri.{Uri}
use Rattle.sc_tokens.specs.Names.{same_bytes}
use Rattle.sc_parts.specs.declared.setup.Setup.{Setup}
use Rattle.sc_state.specs.Hosts.{Host}
use Rattle.sc_state.specs.declared.host.Live.{Live}
use Rattle.sc_state.specs.declared.host.Peer.TheVariants as peers
use Rattle.sc_state.specs.declared.net.Entry.{Entry}
use Rattle.sc_state.specs.declared.net.Net.{Net}
use Rattle.sc_state.specs.declared.queue.Queued.{Queued}
use Rattle.sc_model.specs.DialogRequests.{cancel}
use Rattle.sc_model.specs.Dialogs.{tag_of}
use Rattle.sc_model.specs.Names.{IsOf64}
use Rattle.sc_model.specs.SessionStates.{invite}
use Rattle.sc_hosts.specs.Arrivals.{first_host}
use Rattle.sc_hosts.specs.Inboxes.{is_full}
use Rattle.sc_hosts.specs.Messages.{trying_response}
use Rattle.sc_hosts.specs.Nets.{host_at}
use Rattle.sc_hosts.specs.Steps.{live_at}
use Rattle.sc_hosts.specs.Taking.{names, own_uri, server_for}
use Rattle.sc_hosts.specs.Transacting.{is_same_app, method_of}
use Rattle.sc_hosts.specs.Words.{trying}

-- every serial has 64 bits
abbrev pub AreSmall : {S : Type 0} → List (Live S) → Type 0
AreSmall [] = Unit {0}
AreSmall (live ∷ lives) = (live.serial < 2 ^ 64) × AreSmall lives

-- and that of each host
abbrev pub AllSmall : {S : Type 0} → List (Host S) → Type 0
AllSmall [] = Unit {0}
AllSmall (host ∷ hosts) = AreSmall host.sessions × AllSmall hosts

-- no CANCEL, with a To tag, and of no transaction
pub record IsLater {S : Type 0} (from : Place) (request : Request) (net : Net S) : Type 0 where
  pub no_cancel : same_bytes (method_of request) cancel ≡ false
  pub tagged : is_some (tag_of request.head.to) ≡ true
  pub unclaimed : first_host (λ host. is_some (server_for (peers.Outside from) request host)) 0
      net.hosts ≡ None

-- its own URI, the top Route or the Request-URI, names this session, which lives and has room; and
-- names have 64 bits
pub record IsLaterFor {S : Type 0} (setup : Setup) (from : Place) (request : Request) (net : Net S)
    (app : AppId) (live : Live S) : Type 0 where
  pub later : IsLater from request net
  pub uri : Uri
  pub by : own_uri setup.config request ≡ Some uri
  pub named : names net.epoch app uri ≡ true
  pub lives : live_at app net ≡ Some live
  pub room : is_full live ≡ false
  pub within : IsOf64 net.epoch app 0
  pub count : length net.hosts ≤ 2 ^ 64
  pub small : AllSmall net.hosts

-- the event is the last that waits in this session, which is what it was; no other session changes,
-- and nothing is put on the wire
pub record IsQueuedAlone {S : Type 0} (app : AppId) (live : Live S) (event : Queued)
    (net changed : Net S) : Type 0 where
  pub later : Live S
  pub lives : live_at app changed ≡ Some later
  pub inbox : later.inbox ≡ live.inbox ++ record { number = net.count + 1; event = event } ∷ []
  pub same : later.session ≡ live.session
  pub others : (other : AppId) → is_same_app other app ≡ false
      → live_at other changed ≡ live_at other net
  pub wire : changed.wire ≡ net.wire

-- what the host answers at once: an INVITE's 100, to the host that sent it
unfoldable pub answered_at_once : Entry → Request → List Entry
answered_at_once entry request =
    if same_bytes (method_of request) invite
    then
    record {
      sender = entry.receiver;
      receiver = entry.sender;
      message = messages.Response (trying_response trying request);
      note = None;
    } ∷ []
    else []

-- the first of the wire is a request, no CANCEL, with a To tag and of no transaction of the host
-- that it comes to; its own URI names this session of that host, which lives and has room; and
-- names have 64 bits
pub record IsFirstFor {S : Type 0} (setup : Setup) (entry : Entry) (request : Request) (net : Net S)
    (app : AppId) (live : Live S) : Type 0 where
  pub first : slice_get net.wire 0 ≡ Some entry
  pub message : entry.message ≡ messages.Request request
  pub receiver : entry.receiver ≡ app.host
  pub no_cancel : same_bytes (method_of request) cancel ≡ false
  pub tagged : is_some (tag_of request.head.to) ≡ true
  pub host : Host S
  pub there : host_at app.host net ≡ Some host
  pub unclaimed : is_some (server_for (peers.Inside entry.sender) request host) ≡ false
  pub uri : Uri
  pub by : own_uri setup.config request ≡ Some uri
  pub named : names net.epoch app uri ≡ true
  pub lives : live_at app net ≡ Some live
  pub room : is_full live ≡ false
  pub within : IsOf64 net.epoch app 0
  pub small : AreSmall host.sessions

-- the event is the last that waits in this session, which is what it was; no other session changes;
-- and the wire is what was behind the first, and then these
pub record IsDeliveredAlone {S : Type 0} (app : AppId) (live : Live S) (event : Queued)
    (answers : List Entry) (net changed : Net S) : Type 0 where
  pub later : Live S
  pub lives : live_at app changed ≡ Some later
  pub inbox : later.inbox ≡ live.inbox ++ record { number = net.count + 1; event = event } ∷ []
  pub same : later.session ≡ live.session
  pub others : (other : AppId) → is_same_app other app ≡ false
      → live_at other changed ≡ live_at other net
  pub wire : changed.wire ≡ drop 1 net.wire ++ answers
