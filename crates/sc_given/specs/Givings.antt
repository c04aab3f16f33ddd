-- What all orders of a turn have in common (JSR 289 section 6): the facts about a kind of orders
-- from which a walk over its event, its calls and its end shows it of all that the turn gives.
use Rattle.std.specs.Prelude.{◌≡◌, ◌⊎◌, ℕ, List, [], ◌∷◌, ◌++◌, true, Option, Some, option_and_then}
use Rattle.sc_value.specs.declared.ids.AppId.{AppId}
use Rattle.sc_value.specs.declared.ids.Directive.{Directive}
use Rattle.sc_value.specs.declared.ids.Region.{Region}
use Rattle.sc_value.specs.declared.ids.ReqId.{ReqId}
use Rattle.sc_value.specs.declared.message.Request.{Request}
use Rattle.sc_value.specs.declared.message.Response.{Response}
use Rattle.sc_value.specs.declared.parts.Contact.{Contact}
use Rattle.sc_value.specs.declared.parts.Uri.{Uri}
use Rattle.sc_terms.specs.declared.calls.Ask.{Ask}
use Rattle.sc_terms.specs.declared.inside.Inside.{Inside}
use Rattle.sc_terms.specs.declared.settings.Config.{Config}
use Rattle.sc_terms.specs.declared.views.RequestView.{RequestView}
use Rattle.sc_terms.specs.declared.views.View.{View}
use Rattle.sc_state.specs.declared.orders.Order.{Order}
use Rattle.sc_state.specs.declared.orders.Order.TheVariants as orders
use Rattle.sc_state.specs.declared.proxy.Proxy.{Proxy}
use Rattle.sc_state.specs.declared.queue.Queued.{Queued}
use Rattle.sc_state.specs.declared.session.Kept.{Kept}
use Rattle.sc_state.specs.declared.working.Asked.{Asked}
use Rattle.sc_state.specs.declared.working.Asked.TheVariants as asked
use Rattle.sc_state.specs.declared.working.Working.{Working}
use Rattle.sc_tokens.specs.Bytes.{Bytes}
use Rattle.sc_model.specs.DialogRequests.{ack_request, next_request}
use Rattle.sc_model.specs.Dialogs.{DialogState}
use Rattle.sc_hosts.specs.Acting.{is_request_event}
use Rattle.sc_hosts.specs.Branches.{records_route}
use Rattle.sc_hosts.specs.Looking.{request_in}
use Rattle.sc_hosts.specs.Messages.{asked_request, leg_request, on_branch, passed_request, proxied_request, with_contact}
use Rattle.sc_hosts.specs.Preparing.{kept_of}
use Rattle.sc_hosts.specs.Working.{next_branch}
use Rattle.sc_lasting.specs.Lasting.{All}

-- ## What is given

-- what was given stays what it is said to be, as orders of the kind are added; answers and CANCELs
-- are of the kind
pub record GivingLaws (Kind : Order → Type 0) (Given : List Order → Type 0) : Type 0 where
  pub more : (given new : List Order) → All Kind new → Given given → Given (given ++ new)
  pub responds : (event : ℕ) (response : Response) → Kind (orders.Respond event response)
  pub cancels : (branch : ℕ) → Kind (orders.Cancel branch)
  pub cancels_now : (branch : ℕ) → Kind (orders.CancelNow branch)

-- ## What the calls send

-- an initial request is drafted with the first property, a later one and an ACK are made with the
-- second, a Contact of one's own leaves them both, and so what is sent is of the kind
pub record DraftLaws (Kind : Order → Type 0) (First Later : Request → Type 0) : Type 0 where
  pub asked : (call_id tag : Bytes) (ask : Ask) → First (asked_request call_id tag ask)
  pub leg : (call_id tag : Bytes) (uri : Option Uri) (request : Request)
      → First (leg_request call_id tag uri request)
  pub next : (dialog : DialogState) (ask : Inside) → Later (next_request dialog ask)
  pub ack : (dialog : DialogState) (number : ℕ) (body : Bytes)
      → Later (ack_request dialog number body)
  pub first_contact : (contacts : List Contact) (request : Request) → First request
      → First (with_contact contacts request)
  pub later_contact : (contacts : List Contact) (request : Request) → Later request
      → Later (with_contact contacts request)
  pub begins : (config : Config) (view : View) (branch : ℕ) (directive : Directive)
      (region : Region) (state : Option ℕ) (request : Request) → First request
      → Kind (orders.Begin branch directive region state (on_branch config view branch request))
  pub sends : (config : Config) (view : View) (branch : ℕ) (request : Request) → Later request
      → Kind (orders.Send branch (on_branch config view branch request))
  pub acknowledges : (config : Config) (view : View) (branch : ℕ) (request : Request)
      → Later request → Kind (orders.Acknowledge (on_branch config view branch request))

-- an initial request that is drafted has this property
unfoldable pub IsDrafted : (Request → Type 0) → Asked → Type 0
IsDrafted First (asked.Initial request) = First request
IsDrafted First (asked.Later ask) = Unit {0}

-- ## What proxies send

-- the view is that of a session of this name
abbrev pub IsNamed : ℕ → AppId → View → Type 0
IsNamed epoch app view = (view.epoch ≡ epoch) × (view.app ≡ app)

-- the proxy is such, or has no target to which its request could go
unfoldable pub MayStart : (Proxy → Type 0) → Proxy → Type 0
MayStart Such proxy = Such proxy ⊎ (proxy.targets ≡ [])

-- what such a proxy of a session of this name sends to a target is of the kind
abbrev pub Starts : Config → ℕ → AppId → (Order → Type 0) → (Proxy → Type 0) → Type 0
Starts config epoch app Kind Such =
    (view : View) → IsNamed epoch app view → (proxy : Proxy) → Such proxy
    → (branch : ℕ) (directive : Directive) (region : Region) (state : Option ℕ) (uri : Uri)
    → Kind
    (orders.Begin branch directive region state
    (on_branch config view branch
    (proxied_request config view (records_route proxy) uri proxy.request)))

-- ## The request that is passed on

-- a later request is of the kind as it is passed on
abbrev pub Passes : Config → (Order → Type 0) → Request → Type 0
Passes config Kind request =
    (view : View) (branch : ℕ)
    → Kind (orders.Send branch (on_branch config view branch (passed_request request)))
    × Kind (orders.Acknowledge (on_branch config view branch (passed_request request)))

-- the request that was kept as it is passed on, on the next branch
abbrev pub passed_now : Config → Kept → Working → Request
passed_now config kept working =
    on_branch config working.play.view (next_branch working) (passed_request kept.request)

-- the order passes it on; an ACK goes without a transaction
unfoldable pub IsPassed : Config → Kept → Working → Order → Type 0
IsPassed config kept working order =
    (◌≡◌ {A = Order} order (orders.Send (next_branch working) (passed_now config kept working)))
    ⊎ (◌≡◌ {A = Order} order (orders.Acknowledge (passed_now config kept working)))

-- as the turn ends what was given is what it is said to be, or behind that stands the event's later
-- request as it is passed on: it is shown as proxied
pub data Ends (Given : List Order → Type 0) (config : Config) (event : Queued) (req : Option ReqId)
    (working after : Working) : Type 0 where
  Given_end : Given after.orders → Ends Given config event req working after
  Passed_end : (request : RequestView) (kept : Kept) (order : Order)
      → is_request_event event ≡ true
      → option_and_then (request_in working.play.view) req ≡ Some request
      → kept_of working.known request.id ≡ Some kept → request.proxied ≡ true
      → IsPassed config kept working order → after.orders ≡ working.orders ++ order ∷ []
      → Ends Given config event req working after

-- what was kept of the event's later request is of the kind as it is passed on
abbrev pub MayPass : Config → (Order → Type 0) → Queued → Option ReqId → Working → Type 0
MayPass config Kind event req working =
    is_request_event event ≡ true → (request : RequestView) (kept : Kept)
    → option_and_then (request_in working.play.view) req ≡ Some request
    → kept_of working.known request.id ≡ Some kept → Passes config Kind kept.request
