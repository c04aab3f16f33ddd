-- The answer at each stop of a later request of a proxied dialog: what its turn gives where it
-- isn't passed on, and what comes back where it is and the next session doesn't get it (RFC 3261
-- sections 8.1.3, 12.2.2, 16.3, 21.4.19 and 21.5).
use Rattle.std.specs.Option.{option_map_or}
use Rattle.std.specs.Prelude.{◌++◌, ◌∷◌, ◌≡◌, ◌⊎◌, Bool, List, None, Some, [], false, slice_get, suc, true, zero, ℕ}
use Rattle.sc_value.specs.declared.ids.AppId.{AppId}
use Rattle.sc_value.specs.declared.ids.SessId.{SessId}
use Rattle.sc_value.specs.declared.message.Message.TheVariants as messages
use Rattle.sc_value.specs.declared.message.Request.{Request}
use Rattle.sc_value.specs.declared.message.Response.{Response}
use Rattle.sc_tokens.specs.Names.{same_bytes}
use Rattle.sc_terms.specs.declared.calls.Call.TheVariants as calls
use Rattle.sc_terms.specs.declared.calls.CallRecord.{CallRecord}
use Rattle.sc_terms.specs.declared.calls.End.{End}
use Rattle.sc_terms.specs.declared.events.Event.TheVariants as events
use Rattle.sc_terms.specs.declared.settings.Config.{Config}
use Rattle.sc_terms.specs.declared.views.SessionView.{SessionView}
use Rattle.sc_parts.specs.declared.setup.Setup.{Setup}
use Rattle.sc_state.specs.Hosts.{Host}
use Rattle.sc_state.specs.declared.host.Live.{Live}
use Rattle.sc_state.specs.declared.host.Server.{Server}
use Rattle.sc_state.specs.declared.net.Entry.{Entry}
use Rattle.sc_state.specs.declared.net.Net.{Net}
use Rattle.sc_state.specs.declared.orders.Order.{Order}
use Rattle.sc_state.specs.declared.orders.Order.TheVariants as orders
use Rattle.sc_state.specs.declared.queue.Queued.TheVariants as queued
use Rattle.sc_state.specs.declared.session.Session.{Session}
use Rattle.sc_state.specs.declared.working.Play.{Play}
use Rattle.sc_state.specs.declared.working.Prepared.{Prepared}
use Rattle.sc_tokens.specs.Bytes.{Bytes}
use Rattle.sc_model.specs.BestResponses.{server_error}
use Rattle.sc_model.specs.SessionStates.{ack}
use Rattle.sc_hosts.specs.Effects.{after_listed, first_play}
use Rattle.sc_hosts.specs.Finishing.{outcome}
use Rattle.sc_hosts.specs.Histories.{as_session}
use Rattle.sc_hosts.specs.Inboxes.{is_full}
use Rattle.sc_hosts.specs.Legs.{is_low, leg_of, session_for}
use Rattle.sc_hosts.specs.Looking.{is_proxy, session_in}
use Rattle.sc_hosts.specs.Messages.{on_branch, passed_request}
use Rattle.sc_hosts.specs.Nets.{deliver_first, host_at}
use Rattle.sc_hosts.specs.Preparing.{prepared_session}
use Rattle.sc_hosts.specs.PreparingRequests.{next_id, refusal_orders}
use Rattle.sc_hosts.specs.Refusals.{refusal}
use Rattle.sc_hosts.specs.Steps.{before_delivery, live_at, ringing_at}
use Rattle.sc_hosts.specs.Transacting.{branch_of, method_of, top_via}
use Rattle.sc_hosts.specs.Words.{does_not_exist, unavailable}
use Rattle.sc_paths.specs.Moments.{Got, Moment, given_in, got_in}
use Rattle.sc_lasting.specs.Lasting.{All}
use Rattle.sc_keyed.specs.Keyed.{IsIn}
use Rattle.sc_stopped.specs.Stopped.{RefusesFirst, net_with_return}
use Rattle.sc_onward.specs.Onward.{AnswersLast, ComesToProxy, PassesLast, TurnsTo}

-- ## In the turn of its session

-- among the orders is an answer of this code to the request of this event; an ACK gets no answer
unfoldable pub AnswersIn : ℕ → ℕ → Request → List Order → Type 0
AnswersIn number code request given =
    (same_bytes request.method ack ≡ true)
    ⊎ ((before : List Order) × (later : List Order) × (response : Response)
    × (response.code ≡ code) × (given ≡ before ++ orders.Respond number response ∷ later))

-- one of these calls ends this SipSession, and is accepted as they are made one after the other
unfoldable pub EndsThere : SessId → Play → List CallRecord → Type 0
EndsThere sess play [] = ⊥
EndsThere sess play (one ∷ made) =
    ((one.call ≡ calls.InvalidateSession sess) × (refusal play one.call ≡ None))
    ⊎ EndsThere sess (after_listed play one.call) made

-- what a turn at this moment shows of a later request that came with this event
abbrev pub shown_of : Config → List ℕ → Session → ℕ → Request → ℕ → Prepared
shown_of config ringing session number request now =
    prepared_session config ringing session
    (record { number = number; event = queued.Request request }) now

-- what the session's turn gives for it
abbrev pub given_for : Config → List ℕ → Session → ℕ → Request → ℕ → List CallRecord → End
    → List Order
given_for config ringing session number request now made end =
    (outcome config ringing session
    (record { number = number; event = queued.Request request }) now made end).orders

-- ## Behind its turn

-- the net after so many messages of the wire were delivered
unfoldable pub after_deliveries : Setup → ℕ → Net Session → Net Session
after_deliveries setup zero net = net
after_deliveries setup (suc n) net = after_deliveries setup n (deliver_first as_session setup net)

-- the request on its way between two hosts
abbrev pub entry_of : ℕ → ℕ → Request → Entry
entry_of sender receiver request =
    record {
      sender = sender;
      receiver = receiver;
      message = messages.Request request;
      note = None;
    }

-- as the wire of this net is delivered, the request comes first on it, and the host that it comes
-- to answers it so: the answer goes onto the wire to the host that sent it, nothing else changes,
-- and an ACK gets none
pub record IsAnsweredBack (setup : Setup) (net : Net Session) (entry : Entry) (request : Request)
    (code : ℕ) (reason : Bytes) : Type 0 where
  pub count : ℕ
  pub first : slice_get (after_deliveries setup count net).wire 0 ≡ Some entry
  pub answered : deliver_first as_session setup (after_deliveries setup count net)
      ≡ net_with_return setup.config entry code reason request (after_deliveries setup count net)

-- as the wire of this net is delivered, the request of this session comes to the host of that one
-- when as many events wait for that one as may, and is answered 503
pub record IsFoundFull (setup : Setup) (net : Net Session) (app to : AppId) (request : Request)
    : Type 0 where
  pub back : IsAnsweredBack setup net (entry_of app.host to.host request) request 503 unavailable
  pub live : Live Session
  pub lives : live_at to (after_deliveries setup back.count net) ≡ Some live
  pub full : is_full live ≡ true

-- the session has a response of this code on this branch among the events that the step queued; no
-- session is told that has ended with the step
unfoldable pub IsTold : Moment → AppId → ℕ → ℕ → Type 0
IsTold moment app branch code =
    (live_at app moment.after ≡ None)
    ⊎ ((told : Got) × (response : Response) × (told.app ≡ app) × IsIn told (got_in moment)
    × (told.waiting.event ≡ queued.Response branch response) × (response.code ≡ code))

-- the response stands under the branch of the request: their top Vias have the same one
unfoldable pub is_under : Request → Response → Bool
is_under request response =
    option_map_or
    (λ via.
    option_map_or (λ own. same_bytes (branch_of via) (branch_of own)) (top_via request.head.via)
    false) (top_via response.head.via) false

-- nobody guessed the branch of the request: no response stands under it, neither one that a server
-- transaction gave last before the moment nor one that its turn gives
pub record IsUnguessed (setup : Setup) (moment : Moment) (request : Request) : Type 0 where
  pub before : (number : ℕ) (host : Host Session) → host_at number moment.before ≡ Some host
      → All
      (λ (server : Server).
      (response : Response) → server.last ≡ Some response → is_under request response ≡ false)
      host.servers
  pub given : All
      (λ (order : Order).
      (event : ℕ) (response : Response) → order ≡ orders.Respond event response
      → is_under request response ≡ false)
      (given_in setup moment)

-- where a session sent the request by this order and nobody guessed its branch, the answer of this
-- code comes back to the session in the same step; an ACK gets none
unfoldable pub ComesBack : Setup → Moment → AppId → Request → Order → ℕ → Type 0
ComesBack setup moment app request order code =
    (branch : ℕ) → order ≡ orders.Send branch request → same_bytes (method_of request) ack ≡ false
    → IsUnguessed setup moment request → IsTold moment app branch code

-- the net of the moment as the wire begins to be delivered
abbrev pub put_out : Setup → Moment → Net Session
put_out setup moment =
    before_delivery as_session setup moment.step (record moment.before { sent = [] })

-- what comes of a request that a session sends by this order, by an own URI that names this
-- session, and that isn't queued there. That session doesn't live before the step: the container
-- answers it 481 at once, an ACK not at all. It names the session that sends it, which its turn
-- ended: as it comes back to its host it is answered 481, and nobody is told. As many events wait
-- for that session, as the request comes to its host, as may: the host answers 503, and that answer
-- comes back to the session that sent the request
pub data IsReturned (setup : Setup) (moment : Moment) (app to : AppId) (request : Request)
    (order : Order) : Type 0 where
  At_once : (branch : ℕ) → live_at to moment.before ≡ None → order ≡ orders.Send branch request
      → IsTold moment app branch 481
      → IsReturned setup moment app to request order
  Dropped : live_at to moment.before ≡ None → order ≡ orders.Acknowledge request
      → IsReturned setup moment app to request order
  Ended_itself : to ≡ app → live_at app moment.after ≡ None
      → IsAnsweredBack setup (put_out setup moment) (entry_of app.host to.host request) request
      481 does_not_exist
      → IsReturned setup moment app to request order
  Full_there : IsFoundFull setup (put_out setup moment) app to request
      → ComesBack setup moment app request order 503
      → IsReturned setup moment app to request order

-- ## Each stop with its answer

-- what the turn of the moment shows of the request
abbrev pub shown_at : (setup : Setup) (moment : Moment) (got : Got) (to : AppId)
    → TurnsTo setup moment got to → Prepared
shown_at setup moment got to turn =
    shown_of setup.config (ringing_at got.app (host_at got.app.host moment.before))
    turn.live.session got.waiting.number turn.request turn.now

-- the orders of the turn of the moment
abbrev pub given_at : (setup : Setup) (moment : Moment) (got : Got) (to : AppId)
    → TurnsTo setup moment got to → List Order
given_at setup moment got to turn =
    given_for setup.config (ringing_at got.app (host_at got.app.host moment.before))
    turn.live.session got.waiting.number turn.request turn.now turn.made turn.end

-- nobody is called in the turn of the moment; it answers the request so first, an ACK not at all,
-- and sends no request in a dialog
abbrev pub IsRefusedFirst : (setup : Setup) (moment : Moment) (got : Got) (to : AppId)
    → TurnsTo setup moment got to → ℕ → Bytes → Type 0
IsRefusedFirst setup moment got to turn code reason =
    RefusesFirst setup.config (ringing_at got.app (host_at got.app.host moment.before))
    turn.live.session
    (record { number = got.waiting.number; event = queued.Request turn.request }) turn.now
    turn.made turn.end (refusal_orders got.waiting.number code reason turn.request)

-- a call of the turn of the moment that is accepted ends this SipSession
abbrev pub IsEndedIn : (setup : Setup) (moment : Moment) (got : Got) (to : AppId)
    → TurnsTo setup moment got to → SessId → Type 0
IsEndedIn setup moment got to turn sess =
    EndsThere sess (first_play (shown_at setup moment got to turn).view) turn.made

-- what stops a later request on its way, and the answer there. No SipSession of the session has its
-- dialog: the turn answers 481. Its number is too low: 500. Its SipSession isn't a proxy's: the
-- application is shown it. An accepted call of the turn ends that SipSession: 500. It may go no hop
-- further: 483. It is passed on by the last order, and what comes of it is told by `IsReturned`
pub data IsHalted (setup : Setup) (moment : Moment) (got : Got) (to : AppId)
    (turn : TurnsTo setup moment got to) : Type 0 where
  Of_no_dialog : session_for turn.live.session turn.request ≡ None
      → IsRefusedFirst setup moment got to turn 481 does_not_exist
      → IsHalted setup moment got to turn
  Of_low_number : (sess : SessId) → session_for turn.live.session turn.request ≡ Some sess
      → is_low (leg_of turn.live.session.known sess) turn.request ≡ true
      → IsRefusedFirst setup moment got to turn 500 server_error
      → IsHalted setup moment got to turn
  Of_own_session : (sess : SessId) (found : SessionView)
      → session_for turn.live.session turn.request ≡ Some sess
      → session_in turn.live.session.view sess ≡ Some found → is_proxy found.role ≡ false
      → (shown_at setup moment got to turn).event
      ≡ Some (events.Request (next_id turn.live.session) found.id turn.request)
      → IsHalted setup moment got to turn
  Ended_by_call : (comes : ComesToProxy turn.live.session turn.request)
      → IsEndedIn setup moment got to turn comes.found.id
      → AnswersIn got.waiting.number 500 turn.request (given_at setup moment got to turn)
      → IsHalted setup moment got to turn
  Of_no_hops : turn.request.hops ≡ zero
      → AnswersLast got.waiting.number 483 turn.request (given_at setup moment got to turn)
      → IsHalted setup moment got to turn
  Passed_on : (passes : PassesLast setup.config turn.request (given_at setup moment got to turn))
      → IsReturned setup moment got.app to
      (on_branch setup.config passes.view passes.branch (passed_request turn.request))
      passes.order
      → IsHalted setup moment got to turn
