-- The answers that the turns of an application session tell of, and the orders that they are (RFC
-- 3261 sections 8.2.6 and 16.7).
use Rattle.std.specs.Prelude.{◌≡◌, ℕ, List, [], ◌∷◌, ◌++◌, Bool, Option, None, Some, is_some}
use Rattle.std.specs.List.{filter_map, find}
use Rattle.sc_value.specs.declared.ids.AppId.{AppId}
use Rattle.sc_value.specs.declared.ids.ReqId.{ReqId}
use Rattle.sc_value.specs.declared.message.Response.{Response}
use Rattle.sc_terms.specs.declared.settings.Config.{Config}
use Rattle.sc_parts.specs.declared.setup.Setup.{Setup}
use Rattle.sc_state.specs.declared.orders.Order.{Order}
use Rattle.sc_state.specs.declared.orders.Order.TheVariants as orders
use Rattle.sc_state.specs.declared.queue.Queued.{Queued}
use Rattle.sc_state.specs.declared.queue.Queued.TheVariants as queued
use Rattle.sc_state.specs.declared.queue.Waiting.{Waiting}
use Rattle.sc_state.specs.declared.session.Session.{Session}
use Rattle.sc_model.specs.Dialogs.{tag_of}
use Rattle.sc_hosts.specs.Finishing.{outcome}
use Rattle.sc_hosts.specs.Histories.{History, session_after}
use Rattle.sc_hosts.specs.Legs.{session_for}
use Rattle.sc_hosts.specs.Preparing.{is_invited, prepared_session}
use Rattle.sc_hosts.specs.PreparingResponses.{is_sent_on}
use Rattle.sc_hosts.specs.Sessions.{Turn}
use Rattle.sc_lived.specs.Lived.{HasLived, Told}
use Rattle.sc_answered.specs.StateOf.{Exhausted, Happening, Overtaken, Response as Responded, Undone}
use Rattle.sc_answered.specs.Happened.{Happened, at_moment, by_cancel, by_response, shown_by, too_low}
use Rattle.sc_replies.specs.Came.{Came, brought_by, came_of}

-- ## What a turn tells, by where it comes from

-- what came with the event of a turn: the response that it brings to a request of one's own, and
-- what comes of that in other SipSessions
unfoldable pub came : Session → Queued → List Happened
came session (queued.Response branch response) =
    by_response session response (find (is_sent_on branch) session.known.kept)
came session event = []

-- what the container answers before anyone is called: 500 to a request whose number is too low, 487
-- to an INVITE whose CANCEL came
unfoldable pub answered_first : Session → ℕ → Queued → List Happened
answered_first session number (queued.Request request) =
    too_low session number request (session_for session request)
answered_first session number (queued.Cancelled event) =
    by_cancel session (find (is_invited event) session.known.invited)
answered_first session number event = []

-- what a turn gave: what the container answered first, what its calls answered, and what followed
-- them
unfoldable pub gave : Config → Session → Turn → List Happened
gave config session turn =
    shown_by config turn (prepared_session config turn.ringing session turn.waiting turn.now)
    ++ answered_first (at_moment turn.now session) turn.waiting.number turn.waiting.event

-- ## Answers and orders

-- an answer: the request that it is to, by the number under which the session knows it, its code,
-- and whether it has a To tag
pub record Reply : Type 0 where
  pub req : ReqId
  pub code : ℕ
  pub tagged : Bool

-- the answer that is told; what comes of other SipSessions is none
unfoldable pub reply_in : Happening → Option Reply
reply_in (Responded role asked tagged code) =
    Some (record { req = asked.req; code = code; tagged = tagged })
reply_in Overtaken = None
reply_in Undone = None
reply_in (Exhausted derived) = None

-- the answers of a list
abbrev pub replies : List Happened → List Reply
replies happened = filter_map (λ (one : Happened). reply_in one.what) happened

-- the order is this answer, by the server transaction of the event that brought its request, as
-- what came by then tells it
pub record IsReply (requests : List Came) (reply : Reply) (order : Order) : Type 0 where
  pub event : ℕ
  pub response : Response
  pub is : order ≡ orders.Respond event response
  pub brought : brought_by requests reply.req ≡ Some event
  pub code : response.code ≡ reply.code
  pub tagged : is_some (tag_of response.head.to) ≡ reply.tagged

-- the answer is one of these orders, behind some and before others
pub record HasOrder (requests : List Came) (reply : Reply) (given : List Order) : Type 0 where
  pub before : List Order
  pub order : Order
  pub later : List Order
  pub is : given ≡ before ++ order ∷ later
  pub answers : IsReply requests reply order

-- each answer of a list, the newest first, is an order of its own among these, which stand in the
-- order in which they are given: what was answered earlier is given before it
unfoldable pub AreGiven : List Came → List Reply → List Order → Type 0
AreGiven requests [] given = Unit {0}
AreGiven requests (reply ∷ earlier) given =
    (place : HasOrder requests reply given) × AreGiven requests earlier place.before

-- ## A life

-- what a turn of the session gives to its host to send
abbrev pub orders_of : Config → Session → Turn → List Order
orders_of config session turn =
    (outcome config turn.ringing session turn.waiting turn.now turn.calls turn.end).orders

-- what each of these turns of a history answered, it gave to send, by what had come until then
unfoldable pub GaveAll : Config → History → List Turn → Type 0
GaveAll config history [] = Unit {0}
GaveAll config history (turn ∷ earlier) =
    AreGiven (came_of config history (turn ∷ earlier))
    (replies (gave config (session_after config history earlier) turn))
    (orders_of config (session_after config history earlier) turn)
    × GaveAll config history earlier

-- the session comes of a history with these turns, each of which gave to send what it answered
pub record HasGivenAll (setup : Setup) (app : AppId) (given : List Told) (session : Session)
    (inbox : List Waiting) : Type 0 where
  pub lived : HasLived setup app given session inbox
  pub gave : GaveAll setup.config lived.history lived.history.turns
