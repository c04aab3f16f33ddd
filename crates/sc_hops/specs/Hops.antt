-- Of the later requests that a step queues: which request on its way each of them was, and where it
-- is queued (RFC 3261 sections 12.2.1.1, 16.6 and 16.12).
use Rattle.std.specs.Prelude.{◌≡◌, ◌≤◌, ◌<◌, ℕ, zero, suc, List, [], ◌∷◌, true, false, Option, None, Some, is_some, length, slice_get}
use Rattle.sc_value.specs.declared.ids.AppId.{AppId}
use Rattle.sc_value.specs.declared.ids.SessId.{SessId}
use Rattle.sc_value.specs.declared.message.Message.{Message}
use Rattle.sc_value.specs.declared.message.Message.TheVariants as messages
use Rattle.sc_value.specs.declared.message.Request.{Request}
use Rattle.sc_value.specs.declared.parts.Address.{Address}
use Rattle.sc_value.specs.declared.parts.Uri.{Uri}
use Rattle.sc_tokens.specs.Names.{same_bytes}
use Rattle.sc_terms.specs.declared.calls.CallRecord.{CallRecord}
use Rattle.sc_terms.specs.declared.calls.End.{End}
use Rattle.sc_terms.specs.declared.settings.Config.{Config}
use Rattle.sc_terms.specs.declared.views.SessionView.{SessionView}
use Rattle.sc_terms.specs.declared.views.View.{View}
use Rattle.sc_parts.specs.declared.setup.Setup.{Setup}
use Rattle.sc_state.specs.Hosts.{Host}
use Rattle.sc_state.specs.declared.host.Client.{Client}
use Rattle.sc_state.specs.declared.host.Live.{Live}
use Rattle.sc_state.specs.declared.host.Reply.{Reply}
use Rattle.sc_state.specs.declared.net.Net.{Net}
use Rattle.sc_state.specs.declared.orders.Order.{Order}
use Rattle.sc_state.specs.declared.orders.Order.TheVariants as orders
use Rattle.sc_state.specs.declared.queue.Queued.{Queued}
use Rattle.sc_state.specs.declared.queue.Queued.TheVariants as queued
use Rattle.sc_state.specs.declared.queue.Waiting.{Waiting}
use Rattle.sc_state.specs.declared.session.Session.{Session}
use Rattle.sc_tokens.specs.Bytes.{Bytes}
use Rattle.sc_model.specs.Dialogs.{tag_of}
use Rattle.sc_model.specs.OwnHosts.{is_own}
use Rattle.sc_model.specs.DialogRequests.{cancel}
use Rattle.sc_hosts.specs.Destinations.{next_uri}
use Rattle.sc_hosts.specs.EventLists.{waiting_in}
use Rattle.sc_hosts.specs.Histories.{as_session}
use Rattle.sc_hosts.specs.Legs.{session_for}
use Rattle.sc_hosts.specs.Looking.{is_proxy, session_in}
use Rattle.sc_hosts.specs.Messages.{kin, on_branch, passed_request}
use Rattle.sc_hosts.specs.Nets.{host_at, with_routes}
use Rattle.sc_hosts.specs.Steps.{live_at, outcome_by, turn_of}
use Rattle.sc_hosts.specs.Taking.{names, own_uri, without_own_route}
use Rattle.sc_hosts.specs.Transacting.{same_top, method_of}
use Rattle.sc_lives.specs.Numbers.{AreNumbered}
use Rattle.sc_once.specs.Growing.{IsBetween}
use Rattle.sc_lasting.specs.Lasting.{All, Numbered}

-- other Vias stand below its first
abbrev pub HasMoreVias : Request → Type 0
HasMoreVias request = 2 ≤ length request.head.via

-- any request
abbrev pub IsAny : Request → Type 0
IsAny request = Unit {0}

-- ## What is queued

-- it is one of these requests as it came to the session: by an own URI that names the session, the
-- top Route or the Request-URI, and without that Route. It has a To tag and is no CANCEL
pub record IsBrought (Sent : Request → Type 0) (config : Config) (epoch : ℕ) (app : AppId)
    (request : Request) : Type 0 where
  pub sent : Request
  pub is : Sent sent
  pub popped : request ≡ without_own_route config sent
  pub uri : Uri
  pub by : own_uri config sent ≡ Some uri
  pub named : names epoch app uri ≡ true
  pub tagged : is_some (tag_of sent.head.to) ≡ true
  pub no_cancel : same_bytes (method_of sent) cancel ≡ false

-- where it is a later request of a kind, it is one of these as it came to the session
unfoldable pub IsFit : (Request → Type 0) → (Request → Type 0) → Config → ℕ → AppId → Queued
    → Type 0
IsFit Told Sent config epoch app (queued.Request request) =
    Told request → IsBrought Sent config epoch app request
IsFit Told Sent config epoch app event = Unit {0}

-- any event but a later request
unfoldable pub IsPlain : Queued → Type 0
IsPlain (queued.Request request) = ⊥
IsPlain event = Unit {0}

-- each event of these sessions of a host that has a number above the first
abbrev pub AreFit : {S : Type 0} → (AppId → Queued → Type 0) → ℕ → ℕ → List (Live S) → Type 0
AreFit {S = S} Fits base number lives =
    All
    (λ (live : Live S).
    All
    (λ (waiting : Waiting).
    base < waiting.number
    → Fits (record { host = number; serial = live.serial }) waiting.event) live.inbox)
    lives

-- ## What is on its way

-- where it is a request, it is of this kind
unfoldable pub IsOnWay : (Request → Type 0) → Message → Type 0
IsOnWay Way (messages.Request request) = Way request
IsOnWay Way (messages.Response response) = Unit {0}

-- the reply is such, where there is one
unfoldable pub IsReplied : (Request → Type 0) → Option Reply → Type 0
IsReplied Way None = Unit {0}
IsReplied Way (Some reply) = IsOnWay Way reply.message

-- what the order puts on its way to a host is of the first kind, and a request that gets a client
-- transaction of the second: a later request goes to a host by an own URI alone, and an initial one
-- that leaves may get Routes
unfoldable pub IsOrdered : Config → (Request → Type 0) → (Request → Type 0) → Order → Type 0
IsOrdered config Way Sound (orders.Begin branch directive region state request) =
    Way request × ((routes : List Address) → Sound (with_routes routes request))
IsOrdered config Way Sound (orders.Send branch request) =
    Sound request × (is_own config (next_uri request) ≡ true → Way request)
IsOrdered config Way Sound (orders.Acknowledge request) =
    is_own config (next_uri request) ≡ true → Way request
IsOrdered config Way Sound order = Unit {0}

-- kinds of requests: those that may be on their way between hosts, those of client transactions,
-- those spoken of as they come to a session, and what they are to be
pub record AreKinds (Way Sound Told Sent : Request → Type 0) : Type 0 where
  pub kin_way : (method : Bytes) (to : Address) (request : Request) → Sound request
      → Way (kin method to request)
  pub kin_sound : (method : Bytes) (to : Address) (request : Request) → Sound request
      → Sound (kin method to request)
  pub way_sound : (request : Request) → Way request → Sound request
  pub sent : (config : Config) (request : Request) → Way request
      → is_some (tag_of request.head.to) ≡ true → Told (without_own_route config request)
      → Sent request

-- ## What a turn gives to send

-- a later request has no Via but the session's own
unfoldable pub IsShort : Order → Type 0
IsShort (orders.Send branch request) = ◌≡◌ {A = ℕ} (length request.head.via) 1
IsShort (orders.Acknowledge request) = ◌≡◌ {A = ℕ} (length request.head.via) 1
IsShort order = Unit {0}

-- so it is for each order
unfoldable pub AreShort : List Order → Type 0
AreShort [] = Unit {0}
AreShort (order ∷ given) = IsShort order × AreShort given

-- an initial request has no To tag
unfoldable pub IsUntagged : Order → Type 0
IsUntagged (orders.Begin branch directive region state request) =
    is_some (tag_of request.head.to) ≡ false
IsUntagged order = Unit {0}

-- it is this request as a session passes it on, on a branch of its own and by an own URI; the
-- SipSession to which it came is that of a proxy
pub record IsPassedBy (config : Config) (session : Session) (request sent : Request) : Type 0 where
  pub view : View
  pub branch : ℕ
  pub is : sent ≡ on_branch config view branch (passed_request request)
  pub own : is_own config (next_uri sent) ≡ true
  pub sess : SessId
  pub for : session_for session request ≡ Some sess
  pub found : SessionView
  pub there : session_in session.view sess ≡ Some found
  pub proxy : is_proxy found.role ≡ true

-- ## Where it is so

-- a net between two steps of a lawful journal: nothing is on its way, serials rise, and the numbers
-- of events that wait rise up to the count
pub record IsSettled (net : Net Session) : Type 0 where
  pub quiet : net.wire ≡ []
  pub numbered : AreNumbered net
  pub within : (app : AppId) → IsBetween (waiting_in app net) 0 net.count

-- a live session turns to a later request, its first event: its numbers of requests are below the
-- next one, and no initial request that it gives to send has a To tag
pub record TakesLater (setup : Setup) (net : Net Session) (app : AppId) (number : ℕ)
    (request : Request) (now : ℕ) (made : List CallRecord) (end : End) : Type 0 where
  pub live : Live Session
  pub lives : live_at app net ≡ Some live
  pub first : slice_get live.inbox 0
      ≡ Some (record { number = number; event = queued.Request request })
  pub below : Numbered live.session
  pub untagged : All IsUntagged
      (outcome_by as_session setup.config live.session
      (turn_of (record net { sent = [] }) app
      (record { number = number; event = queued.Request request }) now made end)).orders

-- where other Vias stand below the first of a later request, it is that one as it was passed on
abbrev pub IsPassedWay : Config → Session → Request → Request → Type 0
IsPassedWay config session request sent =
    HasMoreVias sent → is_some (tag_of sent.head.to) ≡ true → IsPassedBy config session request sent

-- ## A later request on a branch of its own

-- its top Via is that of the other
abbrev pub HasBranchOf : Request → Request → Type 0
HasBranchOf request other = same_top request.head.via other.head.via ≡ true

-- it goes the way of the other, in its dialog
pub record GoesAs (request other : Request) : Type 0 where
  pub route : other.head.route ≡ request.head.route
  pub uri : other.uri ≡ request.uri
  pub call_id : other.head.call_id ≡ request.head.call_id

-- where it has the branch of this request it goes its way
abbrev pub GoesAsBranch : Request → Request → Type 0
GoesAsBranch request other = HasBranchOf request other → GoesAs request other

-- the order sends no request on the branch of this one
unfoldable pub IsOtherBranch : Request → Order → Type 0
IsOtherBranch request (orders.Begin branch directive region state other) =
    HasBranchOf request other → ⊥
IsOtherBranch request (orders.Send branch other) = HasBranchOf request other → ⊥
IsOtherBranch request (orders.Acknowledge other) = HasBranchOf request other → ⊥
IsOtherBranch request order = Unit {0}

-- none of the orders does but that at this place
unfoldable pub AreOtherBranches : Request → List Order → ℕ → Type 0
AreOtherBranches request [] place = Unit {0}
AreOtherBranches request (order ∷ given) zero = All (IsOtherBranch request) given
AreOtherBranches request (order ∷ given) (suc place) =
    IsOtherBranch request order × AreOtherBranches request given place

-- no client transaction of the net has its branch
unfoldable pub HasNoClient : Request → Net Session → Type 0
HasNoClient request net =
    (number : ℕ) (host : Host Session) → host_at number net ≡ Some host
    → All (λ (client : Client). HasBranchOf request client.request → ⊥) host.clients

-- the order sends this later request
pub data Sends (request : Request) (order : Order) : Type 0 where
  Is_send : (branch : ℕ) → order ≡ orders.Send branch request → Sends request order
  Is_ack : order ≡ orders.Acknowledge request → Sends request order

-- a live session turns to its first event, and the order at this place sends this later request on
-- a branch of its own
pub record SendsLater (setup : Setup) (net : Net Session) (app : AppId) (now : ℕ)
    (made : List CallRecord) (end : End) (place : ℕ) (request : Request) : Type 0 where
  pub live : Live Session
  pub lives : live_at app net ≡ Some live
  pub waiting : Waiting
  pub first : slice_get live.inbox 0 ≡ Some waiting
  pub order : Order
  pub at : slice_get
      (outcome_by as_session setup.config live.session
      (turn_of (record net { sent = [] }) app waiting now made end)).orders
      place ≡ Some order
  pub sends : Sends request order
  pub others : AreOtherBranches request
      (outcome_by as_session setup.config live.session
      (turn_of (record net { sent = [] }) app waiting now made end)).orders
      place
  pub clients : HasNoClient request net
