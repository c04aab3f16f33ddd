-- A later request of a proxied dialog in the turn of its session: it is passed on, and what stops
-- it instead; and how it goes from one session of its way to the next (RFC 3261 sections 12.2.2,
-- 16.3, 16.6 and 16.12).
use Rattle.std.specs.Prelude.{◌≡◌, ◌⊎◌, ◌≤◌, ◌<◌, ◌+◌, ◌^◌, ℕ, zero, suc, List, [], ◌∷◌, ◌++◌, true, false, Option, None, Some, drop, is_some, length, slice_get}
use Rattle.std.specs.List.{find}
use Rattle.sc_value.specs.declared.ids.AppId.{AppId}
use Rattle.sc_value.specs.declared.ids.SessId.{SessId}
use Rattle.sc_value.specs.declared.message.Request.{Request}
use Rattle.sc_value.specs.declared.message.Response.{Response}
use Rattle.sc_terms.specs.declared.calls.Call.TheVariants as calls
use Rattle.sc_terms.specs.declared.calls.CallRecord.{CallRecord}
use Rattle.sc_terms.specs.declared.calls.End.{End}
use Rattle.sc_terms.specs.declared.settings.Config.{Config}
use Rattle.sc_terms.specs.declared.views.SessionView.{SessionView}
use Rattle.sc_terms.specs.declared.views.View.{View}
use Rattle.sc_terms.specs.declared.steps.Step.TheVariants as steps
use Rattle.sc_parts.specs.declared.setup.Setup.{Setup}
use Rattle.sc_state.specs.Hosts.{Host}
use Rattle.sc_state.specs.declared.host.Live.{Live}
use Rattle.sc_state.specs.declared.host.Server.{Server}
use Rattle.sc_state.specs.declared.net.Net.{Net}
use Rattle.sc_state.specs.declared.orders.Order.{Order}
use Rattle.sc_state.specs.declared.orders.Order.TheVariants as orders
use Rattle.sc_state.specs.declared.proxy.Proxy.{Proxy}
use Rattle.sc_state.specs.declared.queue.Queued.TheVariants as queued
use Rattle.sc_state.specs.declared.session.Session.{Session}
use Rattle.sc_tokens.specs.Names.{same_bytes}
use Rattle.sc_model.specs.DialogRequests.{cancel}
use Rattle.sc_model.specs.Dialogs.{tag_of}
use Rattle.sc_model.specs.OwnHosts.{is_own}
use Rattle.sc_model.specs.SessionStates.{ack}
use Rattle.sc_hosts.specs.Destinations.{next_uri}
use Rattle.sc_hosts.specs.Inboxes.{is_full}
use Rattle.sc_hosts.specs.Legs.{is_low, leg_of, session_for}
use Rattle.sc_hosts.specs.Looking.{is_proxy, session_in}
use Rattle.sc_hosts.specs.Messages.{on_branch, passed_request}
use Rattle.sc_hosts.specs.Preparing.{prepared_session}
use Rattle.sc_hosts.specs.PreparingResponses.{is_invalid}
use Rattle.sc_hosts.specs.Nets.{host_at}
use Rattle.sc_hosts.specs.Steps.{live_at, ringing_at}
use Rattle.sc_hosts.specs.Taking.{names}
use Rattle.sc_hosts.specs.Transacting.{method_of}
use Rattle.sc_hosts.specs.Working.{worked_all}
use Rattle.sc_lasting.specs.Lasting.{All, Numbered}
use Rattle.sc_keyed.specs.Keyed.{IsIn}
use Rattle.sc_hops.specs.Hops.{HasBranchOf, Sends}
use Rattle.sc_paths.specs.LaterRequests.{Occurrence, SetOut, has_vias, is_passed_on, is_turn_of, set_out}
use Rattle.sc_paths.specs.Moments.{Got, Moment, given_in, got_in}
use Rattle.sc_recorded.specs.Recorded.{IsInner}

-- the numbers of its requests, those that it proxies too, are below the next one
pub record AreCounted (session : Session) : Type 0 where
  pub numbered : Numbered session
  pub proxied : All (λ (proxy : Proxy). proxy.req.0 < session.view.next_request)
      session.known.proxies

-- a later request comes to the SipSession of a proxy in its dialog, with a sequence number that
-- isn't too low
pub record ComesToProxy (session : Session) (request : Request) : Type 0 where
  pub sess : SessId
  pub for : session_for session request ≡ Some sess
  pub found : SessionView
  pub there : session_in session.view sess ≡ Some found
  pub proxy : is_proxy found.role ≡ true
  pub high : is_low (leg_of session.known sess) request ≡ false

-- no call of the turn ends this SipSession, and none has ended it by the end of the calls
pub record IsLeftAlone (config : Config) (ringing : List ℕ) (session : Session) (number : ℕ)
    (request : Request) (now : ℕ) (made : List CallRecord) (sess : SessId) : Type 0 where
  pub calls : All (λ (one : CallRecord). one.call ≡ calls.InvalidateSession sess → ⊥) made
  pub valid : is_invalid
      (worked_all config
      (prepared_session config ringing session
      (record { number = number; event = queued.Request request }) now) made).known
      sess ≡ false

-- the last order passes the request on, on a branch of its own
pub record PassesLast (config : Config) (request : Request) (given : List Order) : Type 0 where
  pub before : List Order
  pub order : Order
  pub is : given ≡ before ++ order ∷ []
  pub view : View
  pub branch : ℕ
  pub sends : Sends (on_branch config view branch (passed_request request)) order

-- the last order answers the request of this event with this code; an ACK gets no answer
unfoldable pub AnswersLast : ℕ → ℕ → Request → List Order → Type 0
AnswersLast number code request given =
    (same_bytes request.method ack ≡ true)
    ⊎ ((before : List Order) × (response : Response) × (response.code ≡ code)
    × (given ≡ before ++ orders.Respond number response ∷ []))

-- ## From one session to the next

-- the numbers in names have 64 bits: the epoch, the hosts, and as many as events were counted up to
-- this net
pub record AreSmallNumbers (setup : Setup) (epoch : ℕ) (net : Net Session) : Type 0 where
  pub within : epoch < 2 ^ 64
  pub hosts : length setup.config.app ≤ 2 ^ 64
  pub events : net.count < 2 ^ 64

-- no server transaction of a request over an inner hop has the branch of this one
unfoldable pub HasNoServer : Request → Net Session → Type 0
HasNoServer request net =
    (number : ℕ) (host : Host Session) → host_at number net ≡ Some host
    → All (λ (server : Server). IsInner server.peer → HasBranchOf request server.request → ⊥)
    host.servers

-- the request that an order sends: an initial one, a later one, or the ACK to a 2xx
unfoldable pub sent_in : Order → Option Request
sent_in (orders.Begin branch directive region state request) = Some request
sent_in (orders.Send branch request) = Some request
sent_in (orders.Acknowledge request) = Some request
sent_in order = None

-- the branch of each request that the turn of the moment sends is new to all hosts
abbrev pub HasNewBranches : Setup → Moment → Type 0
HasNewBranches setup moment =
    (place : ℕ) (order : Order) (request : Request)
    → slice_get (given_in setup moment) place ≡ Some order → sent_in order ≡ Some request
    → HasNoServer request moment.before

-- the moment is the turn of this event, a later request, and nothing stops it there: it comes to
-- the SipSession of a proxy in its dialog (else it is answered 481, or by the application), with a
-- sequence number that isn't too low (500); no call of the turn ends that SipSession (500); it may
-- go a hop further (483); and the session that its next own URI names lives, before the step and
-- after it (481), and has room after it (503)
pub record IsUnstopped (setup : Setup) (moment : Moment) (got : Got) : Type 0 where
  pub event : ℕ
  pub now : ℕ
  pub made : List CallRecord
  pub end : End
  pub step : moment.step ≡ steps.Turn end got.app event now made
  pub request : Request
  pub is : got.waiting.event ≡ queued.Request request
  pub no_cancel : same_bytes (method_of request) cancel ≡ false
  pub tagged : is_some (tag_of request.head.to) ≡ true
  pub live : Live Session
  pub lives : live_at got.app moment.before ≡ Some live
  pub first : slice_get live.inbox 0 ≡ Some got.waiting
  pub comes : ComesToProxy live.session request
  pub alone : IsLeftAlone setup.config
      (ringing_at got.app (host_at got.app.host moment.before))
      live.session got.waiting.number request now made comes.found.id
  pub hops : ℕ
  pub some : request.hops ≡ suc hops
  pub to : AppId
  pub own : is_own setup.config (next_uri request) ≡ true
  pub named : names moment.before.epoch to (next_uri request) ≡ true
  pub was : Live Session
  pub there : live_at to moment.before ≡ Some was
  pub last : Live Session
  pub ends : live_at to moment.after ≡ Some last
  pub room : is_full last ≡ false

-- the step queues the request of this event, as it was passed on, in this session
unfoldable pub ComesNext : Moment → Got → AppId → Type 0
ComesNext moment got to =
    (next : Got) × (next.app ≡ to) × IsIn next (got_in moment) × (is_passed_on got next ≡ true)

-- in so many sessions, one after the other, its turn comes and nothing stops it
unfoldable pub IsCarriedOn : Setup → ℕ → Got → List Moment → Type 0
IsCarriedOn setup zero got later = Unit {0}
IsCarriedOn setup (suc n) got [] = ⊥
IsCarriedOn setup (suc n) got (moment ∷ later) =
    (is_turn_of got moment.step ≡ true
    → IsUnstopped setup moment got
    × ((next : Got) → find (is_passed_on got) (got_in moment) ≡ Some next
    → IsCarriedOn setup n next later))
    × (is_turn_of got moment.step ≡ false → IsCarriedOn setup (suc n) got later)

-- the request is queued where it sets out, and in so many of the sessions that it visits then, one
-- after the other, its turn comes and nothing stops it
unfoldable pub GoesAllTheWay : Setup → List Moment → Occurrence → ℕ → Type 0
GoesAllTheWay setup run occurrence n =
    (out : SetOut) × (set_out setup run occurrence ≡ Some out)
    × (got : Got) × (find (has_vias 0 out.request.head.via) (got_in out.moment) ≡ Some got)
    × IsCarriedOn setup n got (drop (occurrence.step + 1) run)

-- ## What stops it

-- a call of the turn ends this SipSession
unfoldable pub EndsIn : SessId → List CallRecord → Type 0
EndsIn sess [] = ⊥
EndsIn sess (one ∷ made) = (one.call ≡ calls.InvalidateSession sess) ⊎ EndsIn sess made

-- the moment is the turn of this event, a later request whose next own URI names this session
pub record TurnsTo (setup : Setup) (moment : Moment) (got : Got) (to : AppId) : Type 0 where
  pub event : ℕ
  pub now : ℕ
  pub made : List CallRecord
  pub end : End
  pub step : moment.step ≡ steps.Turn end got.app event now made
  pub request : Request
  pub is : got.waiting.event ≡ queued.Request request
  pub no_cancel : same_bytes (method_of request) cancel ≡ false
  pub tagged : is_some (tag_of request.head.to) ≡ true
  pub live : Live Session
  pub lives : live_at got.app moment.before ≡ Some live
  pub first : slice_get live.inbox 0 ≡ Some got.waiting
  pub own : is_own setup.config (next_uri request) ≡ true
  pub named : names moment.before.epoch to (next_uri request) ≡ true

-- what the session's turn stops it by: no SipSession of it has the dialog (the request is answered
-- 481); its sequence number is too low (500); it comes to a SipSession that isn't a proxy's (the
-- application answers it); a call of the turn ends that SipSession, or one did (500); it may go no
-- hop further (483). And what stops it behind that: the session that it is to go to doesn't live
-- before the step or after it (481), or is full after it (503)
pub data Stops (setup : Setup) (moment : Moment) (got : Got) (to : AppId)
    (turn : TurnsTo setup moment got to) : Type 0 where
  No_dialog : session_for turn.live.session turn.request ≡ None → Stops setup moment got to turn
  Too_low : (sess : SessId) → session_for turn.live.session turn.request ≡ Some sess
      → is_low (leg_of turn.live.session.known sess) turn.request ≡ true
      → Stops setup moment got to turn
  Not_proxied : (sess : SessId) (found : SessionView)
      → session_for turn.live.session turn.request ≡ Some sess
      → session_in turn.live.session.view sess ≡ Some found → is_proxy found.role ≡ false
      → Stops setup moment got to turn
  Ended : (sess : SessId) → session_for turn.live.session turn.request ≡ Some sess
      → EndsIn sess turn.made → Stops setup moment got to turn
  Has_ended : (sess : SessId) → session_for turn.live.session turn.request ≡ Some sess
      → is_invalid
      (worked_all setup.config
      (prepared_session setup.config (ringing_at got.app (host_at got.app.host moment.before))
      turn.live.session
      (record { number = got.waiting.number; event = queued.Request turn.request }) turn.now)
      turn.made).known
      sess ≡ true
      → Stops setup moment got to turn
  No_hops : turn.request.hops ≡ zero → Stops setup moment got to turn
  Not_living : live_at to moment.before ≡ None → Stops setup moment got to turn
  Gone : live_at to moment.after ≡ None → Stops setup moment got to turn
  Full : (last : Live Session) → live_at to moment.after ≡ Some last → is_full last ≡ true
      → Stops setup moment got to turn
