-- The state of a dialog, read from the list of its messages (RFC 3261 section 12). A Route is
-- always taken as loose (RFC 3261 section 16.12).
use Rattle.std.specs.Prelude.{◌≡◌, ℕ, ◌==◌, List, [], ◌∷◌, ◌++◌, Bool, false, ◌||◌, ◌&&◌, Option, None, Some, unwrap_or, nat_lt, if◌then◌else◌, codes, max, reverse}
use Rattle.std.specs.List.{filter_map, slice_get}
use Rattle.sc_value.specs.declared.parts.Uri.{Uri}
use Rattle.sc_value.specs.declared.parts.Address.{Address}
use Rattle.sc_value.specs.declared.parts.Contact.{Contact}
use Rattle.sc_value.specs.declared.parts.Contact.TheVariants.{Star, At}
use Rattle.sc_value.specs.declared.parts.CSeq.{CSeq}
use Rattle.sc_value.specs.declared.parts.Param.{Param}
use Rattle.sc_value.specs.declared.message.Request.{Request}
use Rattle.sc_value.specs.declared.message.Response.{Response}
use Rattle.sc_value.specs.declared.message.Message.{Message}
use Rattle.sc_value.specs.declared.message.Message.TheVariants as messages
use Rattle.sc_tokens.specs.Names.{same_bytes}
use Rattle.sc_value.specs.Params.{param_value, tag_name}
use Rattle.sc_tokens.specs.Bytes.{Bytes}
use Rattle.sc_model.specs.Responses.{tag_param}
use Rattle.sc_model.specs.SessionStates.{invite}

-- ## The messages of a dialog

-- how a dialog begins: on the called side with the peer's request, on which the own side puts a
-- tag, and on the calling side with the own request and the response that gives the peer's tag (RFC
-- 3261 sections 12.1.1 and 12.1.2)
pub data Beginning : Type 0 where
  Called : (tag : Bytes) → (first : Request) → Beginning
  Calling : (first : Request) → (made : Response) → Beginning

-- a message of the dialog, by who gave it
pub data Passed : Type 0 where
  By_peer : (message : Message) → Passed
  By_self : (message : Message) → Passed

-- the messages with which the dialog begins, the newest first
abbrev pub first_messages : Beginning → List Passed
first_messages (Called tag first) = By_peer (messages.Request first) ∷ []
first_messages (Calling first made) =
    By_peer (messages.Response made) ∷ By_self (messages.Request first) ∷ []

-- all messages of the dialog, the newest first
abbrev pub messages_of : Beginning → List Passed → List Passed
messages_of beginning later = later ++ first_messages beginning

-- the request with which the dialog begins
abbrev pub first_request : Beginning → Request
first_request (Called tag first) = first
first_request (Calling first made) = first

-- the sequence number and method of the own request with which the dialog begins, none on the
-- called side
abbrev pub begun_by : Beginning → Option CSeq
begun_by (Called tag first) = None
begun_by (Calling first made) = Some first.head.cseq

-- ## The remote target (RFC 3261 sections 12.1, 12.2.1.2 and 12.2.2)

-- the method that changes a session within an early dialog too (RFC 3311)
unfoldable pub update : Bytes
update = codes "UPDATE"

-- the method that asks for a subscription (RFC 6665 section 4.1)
unfoldable pub subscribe : Bytes
subscribe = codes "SUBSCRIBE"

-- the method that tells a subscriber of an event (RFC 6665 section 4.2)
unfoldable pub notify : Bytes
notify = codes "NOTIFY"

-- the method that asks for a request to another place (RFC 3515)
unfoldable pub refer : Bytes
refer = codes "REFER"

-- a request of this method, and a 2xx to it, set the target anew (RFC 3261 section 12.2, RFC 3311,
-- RFC 6665 and RFC 3515)
unfoldable pub sets_target : Bytes → Bool
sets_target method =
    same_bytes method invite || same_bytes method update || same_bytes method subscribe
    || same_bytes method notify || same_bytes method refer

-- the URI of a Contact; `*` has none
abbrev pub contact_uri : Contact → Option Uri
contact_uri Star = None
contact_uri (At address) = Some address.uri

-- the URI of the last Contact other than `*`
unfoldable pub last_uri : List Contact → Option Uri
last_uri contacts = slice_get (reverse (filter_map contact_uri contacts)) 0

-- the target that a request of the peer gives
unfoldable pub request_target : Request → Option Uri
request_target request = if sets_target request.method then last_uri request.head.contact else None

-- the response is one to the request with which the dialog began
unfoldable pub answers_first : Option CSeq → CSeq → Bool
answers_first None cseq = false
answers_first (Some first) cseq = cseq.number == first.number && same_bytes cseq.method first.method

-- a 2xx to a request that sets the target, or a 101 to 199 to the request with which the dialog
-- began
unfoldable pub may_set_target : Option CSeq → Response → Bool
may_set_target begun response =
    (nat_lt 199 response.code && nat_lt response.code 300 && sets_target response.head.cseq.method)
    || (nat_lt 100 response.code && nat_lt response.code 200
    && answers_first begun response.head.cseq)

-- the target that a response of the peer gives
unfoldable pub response_target : Option CSeq → Response → Option Uri
response_target begun response =
    if may_set_target begun response then last_uri response.head.contact else None

-- the target that a message gives: the own ones give none
unfoldable pub given_target : Option CSeq → Passed → Option Uri
given_target begun (By_peer (messages.Request request)) = request_target request
given_target begun (By_peer (messages.Response response)) = response_target begun response
given_target begun (By_self message) = None

-- the target where the peer gave none: where the call came from, or where it was sent
abbrev pub first_target : Beginning → Uri
first_target (Called tag first) = first.head.from.uri
first_target (Calling first made) = first.uri

-- the target that the peer gave last
unfoldable pub target_of : Beginning → List Passed → Uri
target_of beginning passed =
    unwrap_or (slice_get (filter_map (given_target (begun_by beginning)) passed) 0)
    (first_target beginning)

-- ## Sequence numbers (RFC 3261 sections 12.1 and 12.2.1.1)

-- the sequence number of an own request; responses and the peer's messages give none
abbrev pub sent_number : Passed → Option ℕ
sent_number (By_peer message) = None
sent_number (By_self (messages.Request request)) = Some request.head.cseq.number
sent_number (By_self (messages.Response response)) = None

-- the sequence number of a request of the peer; responses and the own messages give none
abbrev pub received_number : Passed → Option ℕ
received_number (By_peer (messages.Request request)) = Some request.head.cseq.number
received_number (By_peer (messages.Response response)) = None
received_number (By_self message) = None

-- the greatest of the numbers, 0 where there is none
unfoldable pub greatest : List ℕ → ℕ
greatest [] = 0
greatest (n ∷ ns) = max n (greatest ns)

-- ## The two sides and the route set

-- the tag of From or To: the value of the first parameter `tag`, none where it has none
abbrev pub tag_of : Address → Option Bytes
tag_of address = param_value tag_name address.params

-- the parameters of a side with this tag, or with none
unfoldable pub tag_params : Option Bytes → List Param
tag_params None = []
tag_params (Some tag) = tag_param tag ∷ []

-- a side as later requests write it, `<URI>;tag=..`: no display, and no parameter but the tag. That
-- there is no tag is a value of its own (RFC 3261 sections 12.1.1 and 12.2.1.1)
unfoldable pub bare : Uri → Option Bytes → Address
bare uri tag = record { display = None; uri = uri; params = tag_params tag }

-- the own side
unfoldable pub local_of : Beginning → Address
local_of (Called tag first) = bare first.head.to.uri (Some tag)
local_of (Calling first made) = bare first.head.from.uri (tag_of first.head.from)

-- the peer's side
unfoldable pub remote_of : Beginning → Address
remote_of (Called tag first) = bare first.head.from.uri (tag_of first.head.from)
remote_of (Calling first made) = bare first.head.to.uri (tag_of made.head.to)

-- the called side takes the Record-Route list of the request in order, the calling side that of the
-- response reversed (RFC 3261 sections 12.1.1 and 12.1.2)
unfoldable pub route_set_of : Beginning → List Address
route_set_of (Called tag first) = first.head.record_route
route_set_of (Calling first made) = reverse made.head.record_route

-- ## The state (RFC 3261 section 12)

-- what later requests of a dialog are made of and judged by
pub record DialogState : Type 0 where
  pub call_id : Bytes
  -- the two sides, with URI and tag alone
  pub local : Address
  pub remote : Address
  pub route_set : List Address
  pub target : Uri
  -- the greatest numbers of the requests that were sent and received, 0 where there was none
  pub sent : ℕ
  pub received : ℕ
  -- of the own request that began it: by it the responses to that request are known
  pub begun_by : Option CSeq

-- the state of a dialog that began so, after these later messages, the newest first
unfoldable pub dialog_of : Beginning → List Passed → DialogState
dialog_of beginning later = record {
  call_id = (first_request beginning).head.call_id;
  local = local_of beginning;
  remote = remote_of beginning;
  route_set = route_set_of beginning;
  target = target_of beginning (messages_of beginning later);
  sent = greatest (filter_map sent_number (messages_of beginning later));
  received = greatest (filter_map received_number (messages_of beginning later));
  begun_by = begun_by beginning;
}

-- of each list of messages that the old state stands for, the new one stands for the list with this
-- message as its newest
unfoldable pub Follows : DialogState → Passed → DialogState → Type 0
Follows old message new =
    (beginning : Beginning) (later : List Passed) → old ≡ dialog_of beginning later
    → new ≡ dialog_of beginning (message ∷ later)
