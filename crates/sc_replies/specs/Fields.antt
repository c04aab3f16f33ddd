-- The fields of an answer: they are those of the request that came with the event by whose number
-- it goes (RFC 3261 sections 8.2.6.2 and 12.1.1).
use Rattle.std.specs.Prelude.{◌≡◌, ◌⊎◌, ℕ, ◌==◌, List, [], ◌∷◌, Bool, true, false, ◌&&◌, Option, None, Some, if◌then◌else◌}
use Rattle.std.specs.List.{find}
use Rattle.sc_value.specs.declared.ids.AppId.{AppId}
use Rattle.sc_value.specs.declared.message.Request.{Request}
use Rattle.sc_value.specs.declared.message.Response.{Response}
use Rattle.sc_value.specs.declared.parts.Address.{Address}
use Rattle.sc_terms.specs.declared.settings.Config.{Config}
use Rattle.sc_parts.specs.declared.setup.Setup.{Setup}
use Rattle.sc_state.specs.declared.orders.Order.{Order}
use Rattle.sc_state.specs.declared.orders.Order.TheVariants as orders
use Rattle.sc_state.specs.declared.proxy.Proxy.{Proxy}
use Rattle.sc_state.specs.declared.queue.Queued.{Queued}
use Rattle.sc_state.specs.declared.queue.Queued.TheVariants as queued
use Rattle.sc_state.specs.declared.queue.Waiting.{Waiting}
use Rattle.sc_state.specs.declared.session.Session.{Session}
use Rattle.sc_tokens.specs.Bytes.{Bytes}
use Rattle.sc_model.specs.Responses.{with_tag}
use Rattle.sc_hosts.specs.Histories.{History, session_after}
use Rattle.sc_hosts.specs.Messages.{begins_dialog, makes_dialog}
use Rattle.sc_hosts.specs.Sessions.{Turn}
use Rattle.sc_lasting.specs.Lasting.{All}
use Rattle.sc_lived.specs.Lived.{HasLived, Told, turned_events}
use Rattle.sc_replies.specs.Replies.{orders_of}

-- ## The request that an event brings

-- a request that came, and whether it is an initial one, which begins its session, or a later one
pub record Incoming : Type 0 where
  pub initial : Bool
  pub request : Request

-- the request that an event brings, if it brings one
unfoldable pub incoming : Queued → Option Incoming
incoming (queued.Initial region subscriber popped request) =
    Some (record { initial = true; request = request })
incoming (queued.Request request) = Some (record { initial = false; request = request })
incoming event = None

-- one of these events has this number, and brings this request
unfoldable pub WasBrought : List Waiting → ℕ → Incoming → Type 0
WasBrought [] number came = ⊥
WasBrought (waiting ∷ more) number came =
    ((waiting.number ≡ number) × (incoming waiting.event ≡ Some came))
    ⊎ WasBrought more number came

-- ## The fields of its answer

-- Via, From, Call-ID and CSeq are those of the request, and so is the To, but that it has a tag
-- more where that of the request has none (RFC 3261 section 8.2.6.2)
pub record HasFieldsOf (request : Request) (response : Response) : Type 0 where
  pub via : response.head.via ≡ request.head.via
  pub from : response.head.from ≡ request.head.from
  pub call_id : response.head.call_id ≡ request.head.call_id
  pub cseq : response.head.cseq ≡ request.head.cseq
  pub tag : Bytes
  pub to : response.head.to ≡ with_tag tag request.head.to

-- the Record-Route of an answer of this code: that of the request where this is an initial INVITE
-- or SUBSCRIBE and the answer makes a dialog or may, else none (RFC 3261 section 12.1.1)
unfoldable pub answer_routes : Incoming → ℕ → List Address
answer_routes came code =
    if came.initial && begins_dialog came.request && makes_dialog code
    then came.request.head.record_route else []

-- the response answers the request that came
pub record IsAnswerTo (came : Incoming) (response : Response) : Type 0 where
  pub fields : HasFieldsOf came.request response
  pub routes : response.head.record_route ≡ answer_routes came response.code

-- ## The answers of a turn

-- the response answers the request that the event of this number, one of these, brought
pub record IsAnswer (events : List Waiting) (number : ℕ) (response : Response) : Type 0 where
  pub came : Incoming
  pub brought : WasBrought events number came
  pub answers : IsAnswerTo came response

-- the session proxies the request that the event of this number, one of these, brought
pub record IsProxied (events : List Waiting) (session : Session) (number : ℕ) : Type 0 where
  pub proxy : Proxy
  pub found : find (λ (proxy : Proxy). proxy.event == number) session.known.proxies ≡ Some proxy
  pub initial : Bool
  pub brought : WasBrought events number (record { initial = initial; request = proxy.request })

-- what the order responds answers the request of its event, or the session proxies that request
unfoldable pub Answers : List Waiting → Session → Order → Type 0
Answers events session (orders.Respond number response) =
    IsAnswer events number response ⊎ IsProxied events session number
Answers events session order = Unit {0}

-- what the order responds answers the request of its event
unfoldable pub AnswersAlone : List Waiting → Order → Type 0
AnswersAlone events (orders.Respond number response) = IsAnswer events number response
AnswersAlone events order = Unit {0}

-- ## A life

-- so it is of each order of these turns of a history, by the events that came until then and by
-- what the session is then
unfoldable pub AnswersAll : Config → History → List Turn → Type 0
AnswersAll config history [] = Unit {0}
AnswersAll config history (turn ∷ earlier) =
    All
    (Answers (turned_events (turn ∷ earlier)) (session_after config history (turn ∷ earlier)))
    (orders_of config (session_after config history earlier) turn)
    × AnswersAll config history earlier

-- the session comes of a history with these turns, whose orders are so
pub record HasAnsweredAll (setup : Setup) (app : AppId) (given : List Told) (session : Session)
    (inbox : List Waiting) : Type 0 where
  pub lived : HasLived setup app given session inbox
  pub answers : AnswersAll setup.config lived.history lived.history.turns
