-- What any list of the calls of event notification makes of a SipSession's subscription (RFC 6665
-- sections 4.1.2 and 4.2).
use Rattle.std.specs.Prelude.{◌≡◌, ◌≤◌, ◌<◌, ◌+◌, ◌^◌, ◌==◌, List, [], ◌∷◌, Bool, true, false, Option, None, Some, if◌then◌else◌, is_some}
use Rattle.std.specs.List.{find, fold}
use Rattle.sc_value.specs.Lists.{remove_first}
use Rattle.sc_value.specs.declared.ids.ReqId.{ReqId}
use Rattle.sc_value.specs.declared.ids.SessId.{SessId}
use Rattle.sc_value.specs.declared.ids.TimerId.{TimerId}
use Rattle.sc_value.specs.declared.message.Request.{Request}
use Rattle.sc_value.specs.declared.parts.Field.{Field}
use Rattle.sc_tokens.specs.Names.{same_bytes}
use Rattle.sc_terms.specs.declared.views.View.{View}
use Rattle.sc_state.specs.declared.working.Play.{Play}
use Rattle.sc_tokens.specs.Bytes.{Bytes}
use Rattle.sc_hosts.specs.Scripting.{Done, Script, where_some}
use Rattle.sc_hosts.specs.Subscriptions.{NamedSub, Rule, Subscription, changes, ended_sub, failed_sub, sub_name, subscription_of}
use Rattle.sc_turn.specs.Working.{Working, play_of}
use Rattle.sc_promised.specs.Reliable.{play_after}
use Rattle.sc_promised.specs.Refreshing.{IsAccepted}
use Rattle.sc_notifies.specs.Notifying.{accepted_by, activates, asked_of, begins_active, ends, fired_of, read_of}
use Rattle.sc_notifies.specs.declared.accepting.Grant.{Grant}
use Rattle.sc_notifies.specs.declared.refused.Asked.{Asked}
use Rattle.sc_notifies.specs.declared.refused.Asked.TheVariants as asked

-- ## Any list of calls

-- one of the calls for a SipSession's subscription: a SUBSCRIBE is accepted, a new state told, a
-- pending one made active, one ended for a reason, a timer fired, a NOTIFY failed
pub data Act : Type 0 where
  Accepts : Rule → ReqId → Request → Grant → Act
  Changes : Bytes → Act
  Activates : Bytes → Act
  Ends : Bytes → Act
  Fires : TimerId → Act
  Fails : Act

-- a pending subscription is made active; for one that is active no call is made
unfoldable pub activates_by : Bool → Script → Script
activates_by true script = Done
activates_by false script = script

-- the calls of the turn that an act makes
unfoldable pub script_of : View → SessId → Act → Script
script_of view sess (Accepts rule req request grant) =
    accepted_by rule req sess (asked_of rule request)
    (read_of view sess request (asked_of rule request) grant)
script_of view sess (Changes body) =
    where_some (subscription_of view sess) (changes view sess body)
script_of view sess (Activates body) =
    where_some (subscription_of view sess)
    (λ sub. activates_by sub.active (activates view sess body sub))
script_of view sess (Ends reason) = where_some (subscription_of view sess) (ends view sess reason)
script_of view sess (Fires id) = where_some (fired_of view id) (ended_sub view)
script_of view sess Fails = where_some (subscription_of view sess) (failed_sub view sess)

-- an act, with what the turn was where it began
pub record Happened : Type 0 where
  pub play : Play
  pub act : Act

-- what the turn was after the act
unfoldable pub view_after : SessId → Happened → View
view_after sess happened =
    (play_after happened.play (script_of happened.play.view sess happened.act)).view

-- the turn made the calls of an act, and refused none
unfoldable pub IsActed : SessId → Act → Working → Working → Type 0
IsActed sess act old new =
    IsAccepted (play_of old) (script_of (play_of old).view sess act)
    × (play_of new ≡ play_after (play_of old) (script_of (play_of old).view sess act))

-- ## The table

-- there is no subscription, or it is pending or active (RFC 6665 section 4.1.2)
pub data State : Type 0 where
  Absent : State
  Pending : State
  Active : State

-- by whether it is active
unfoldable pub state_by : Bool → State
state_by true = Active
state_by false = Pending

-- that of a subscription, if there is one
unfoldable pub state_of : Option Subscription → State
state_of None = Absent
state_of (Some sub) = state_by sub.active

-- that of a SipSession
unfoldable pub state_at : View → SessId → State
state_at view sess = state_of (subscription_of view sess)

-- a new subscription is pending or active as it is granted; one that is there stays what it is
unfoldable pub state_after_renewal : Grant → State → State
state_after_renewal grant Absent = state_by (begins_active grant)
state_after_renewal grant Pending = Pending
state_after_renewal grant Active = Active

-- a SUBSCRIBE for some seconds begins or renews one, for 0 it ends one; one that was answered 489
-- or 423 changes nothing
unfoldable pub state_after_subscribe : Grant → Asked → State → State
state_after_subscribe grant asked.BadEvent state = state
state_after_subscribe grant asked.Brief state = state
state_after_subscribe grant (asked.For seconds) state =
    if seconds == 0 then Absent else state_after_renewal grant state

-- a pending subscription becomes active
unfoldable pub state_after_activation : State → State
state_after_activation Absent = Absent
state_after_activation Pending = Active
state_after_activation Active = Active

-- a subscription ends where its timer fired
unfoldable pub over : Option NamedSub → State → State
over None state = state
over (Some named) state = Absent

-- the state after an act
unfoldable pub next_state : View → Act → State → State
next_state view (Accepts rule req request grant) state =
    state_after_subscribe grant (asked_of rule request) state
next_state view (Changes body) state = state
next_state view (Activates body) state = state_after_activation state
next_state view (Ends reason) state = Absent
next_state view (Fires id) state = over (fired_of view id) state
next_state view Fails state = Absent

-- the state after a list of acts, by the table
unfoldable pub table_state : State → List Happened → State
table_state state acts =
    fold (λ state happened. next_state happened.play.view happened.act state) state acts

-- the state that the last of them left
unfoldable pub last_state : SessId → State → List Happened → State
last_state sess state acts =
    fold (λ state happened. state_at (view_after sess happened) sess) state acts

-- the SUBSCRIBE ends a subscription, as it is one for 0 s (RFC 6665 section 4.1.2.3)
unfoldable pub unsubscribes : Asked → Bool
unsubscribes asked.BadEvent = false
unsubscribes asked.Brief = false
unsubscribes (asked.For seconds) = seconds == 0

-- the act makes a pending subscription active, or ends it
unfoldable pub settles : Happened → Bool
settles happened = settles_by happened.play.view happened.act
  where
    settles_by : View → Act → Bool
    settles_by view (Accepts rule req request grant) = unsubscribes (asked_of rule request)
    settles_by view (Changes body) = false
    settles_by view (Activates body) = true
    settles_by view (Ends reason) = true
    settles_by view (Fires id) = is_some (fired_of view id)
    settles_by view Fails = true

-- ## What is premised

-- no other attribute has the name of the first one that has it
unfoldable pub IsOnce : Bytes → List Field → Type 0
IsOnce name fields =
    find (λ field. same_bytes field.name name)
    (remove_first (λ field. same_bytes field.name name) fields) ≡ None

-- the act is of this SipSession: the timer that fires is that of its subscription, or of none; and
-- a rule's longest time is 4,000,000 s at most
unfoldable pub IsOf : SessId → View → Act → Type 0
IsOf sess view (Accepts rule req request grant) = rule.longest ≤ 4000000
IsOf sess view (Changes body) = Unit {0}
IsOf sess view (Activates body) = Unit {0}
IsOf sess view (Ends reason) = Unit {0}
IsOf sess view (Fires id) = (named : NamedSub) → fired_of view id ≡ Some named → named.sess ≡ sess
IsOf sess view Fails = Unit {0}

-- none of the act's calls is refused, and moments and timers have numbers of 64 bits
pub record IsSound (sess : SessId) (happened : Happened) : Type 0 where
  pub own : IsOf sess happened.play.view happened.act
  pub accepted : IsAccepted happened.play (script_of happened.play.view sess happened.act)
  pub once : IsOnce (sub_name sess) happened.play.view.attributes
  pub moment : happened.play.view.now + 4000000000 < 2 ^ 64
  pub timer : happened.play.view.next_timer < 2 ^ 64

-- acts of a SipSession, of which each begins with what the one before left: nothing else writes
unfoldable pub IsTrace : SessId → State → List Happened → Type 0
IsTrace sess state [] = Unit {0}
IsTrace sess state (h ∷ acts) =
    IsSound sess h × (state_at h.play.view sess ≡ state)
    × IsTrace sess (state_at (view_after sess h) sess) acts
