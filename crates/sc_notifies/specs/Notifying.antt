-- What the calls of event notification answer, and what they leave (RFC 6665).
use Rattle.std.specs.Prelude.{◌≡◌, ◌≤◌, ◌⊎◌, ◌++◌, ◌+◌, ◌*◌, ◌&&◌, ◌||◌, ℕ, [], ◌∷◌, Bool, true, false, not, min, nat_lt, Option, None, Some, Result, Ok, Err, if◌then◌else◌, option_map, codes, decimal, slice_get, filter_map}
use Rattle.sc_value.specs.declared.ids.ReqId.{ReqId}
use Rattle.sc_value.specs.declared.ids.SessId.{SessId}
use Rattle.sc_value.specs.declared.ids.TimerId.{TimerId}
use Rattle.sc_value.specs.declared.message.Request.{Request}
use Rattle.sc_value.specs.declared.no_memory.NoMemory as no
use Rattle.sc_terms.specs.declared.views.View.{View}
use Rattle.sc_terms.specs.declared.calls.Call.TheVariants as calls
use Rattle.sc_terms.specs.declared.calls.Refusal.TheVariants.{NoMemory}
use Rattle.sc_tokens.specs.Bytes.{Bytes}
use Rattle.sc_hosts.specs.HelperParts.{accepted_then, answer_with, cancel_then, field, remove_then}
use Rattle.sc_hosts.specs.Scripting.{Script, only}
use Rattle.sc_hosts.specs.Subscriptions.{NamedSub, Rule, Subscription, asked_seconds, ev_name, event_of, named_sub, names_package, notified_event, notifies, seconds_left, state_word, sub_name, sub_text, subscription_of, timeout_state}
use Rattle.sc_hosts.specs.Words.{ok}
use Rattle.sc_turn.specs.Working.{Working}
use Rattle.sc_helpers.specs.Stopping.{GoesThrough, IsHeard, StopsAfter}
use Rattle.sc_notifies.specs.SubScripts.{standing_of, subscribed_by, without_subscription}
use Rattle.sc_notifies.specs.declared.accepting.Grant.{Grant}
use Rattle.sc_notifies.specs.declared.accepting.Grant.TheVariants as grants
use Rattle.sc_notifies.specs.declared.accepting.Read.{Read}
use Rattle.sc_notifies.specs.declared.ending.Over.{Over}
use Rattle.sc_notifies.specs.declared.refused.Asked.{Asked}
use Rattle.sc_notifies.specs.declared.refused.Asked.TheVariants as asked
use Rattle.sc_notifies.specs.declared.refused.NotifyRefused.{NotifyRefused}
use Rattle.sc_notifies.specs.declared.refused.NotifyRefused.TheVariants as refused
use Rattle.sc_notifies.specs.declared.refused.RuleRefused.{RuleRefused}
use Rattle.sc_notifies.specs.declared.refused.RuleRefused.TheVariants as rules
use Rattle.sc_notifies.specs.declared.standing.Live.{Live}

-- ## How a call ends

-- the turn refused a call of the script, or memory was wanting
unfoldable pub IsTurned : Script → Working → NotifyRefused → Working → Type 0
IsTurned script old refused.NotSubscribed new = ⊥
IsTurned script old refused.NotPending new = ⊥
IsTurned script old (refused.Turn refusal made) new = StopsAfter made script old refusal new

-- the calls of the script went through and this was answered, or they stopped
unfoldable pub IsCarriedOut : {X : Type 0} → Script → X → Working → Result X NotifyRefused → Working
    → Type 0
IsCarriedOut script answer old (Ok given) new = (given ≡ answer) × GoesThrough script old new
IsCarriedOut script answer old (Err refusal) new = IsTurned script old refusal new

-- no call was made: it is refused so, or memory was wanting
unfoldable pub IsRefusedAs : {X : Type 0} → NotifyRefused → Working → Result X NotifyRefused
    → Working → Type 0
IsRefusedAs refusal old result new =
    ((result ≡ Err refusal) ⊎ (result ≡ Err (refused.Turn NoMemory 0))) × (new ≡ old)

-- a call for a SipSession's subscription is refused where there is none
unfoldable pub IsOfSubscription : {X : Type 0} → Option Subscription → (Subscription → Script) → X
    → Working → Result X NotifyRefused → Working → Type 0
IsOfSubscription None script answer old result new =
    IsRefusedAs refused.NotSubscribed old result new
IsOfSubscription (Some sub) script answer old result new =
    IsCarriedOut (script sub) answer old result new

-- one that is active is refused, and the calls of a pending one are made
unfoldable pub IsByState : {X : Type 0} → Bool → Script → X → Working → Result X NotifyRefused
    → Working → Type 0
IsByState true script answer old result new = IsRefusedAs refused.NotPending old result new
IsByState false script answer old result new = IsCarriedOut script answer old result new

-- and a call for a pending one where it is active
unfoldable pub IsOfPending : {X : Type 0} → Option Subscription → (Subscription → Script) → X
    → Working → Result X NotifyRefused → Working → Type 0
IsOfPending None script answer old result new = IsRefusedAs refused.NotSubscribed old result new
IsOfPending (Some sub) script answer old result new =
    IsByState sub.active (script sub) answer old result new

-- the same where nothing is answered
unfoldable pub IsEnded : Script → Working → Result (Unit {0}) NotifyRefused → Working → Type 0
IsEnded script old (Ok x) new = GoesThrough script old new
IsEnded script old (Err refusal) new = IsTurned script old refusal new

-- a call that ends a subscription is refused where there is none
unfoldable pub IsFailed : Option Subscription → (Subscription → Script) → Working
    → Result (Unit {0}) NotifyRefused → Working → Type 0
IsFailed None script old result new = IsRefusedAs refused.NotSubscribed old result new
IsFailed (Some sub) script old result new = IsEnded (script sub) old result new

-- ## The calls of each (RFC 6665 sections 4.1.3 and 4.2)

-- the number that the next request has
unfoldable pub next_of : View → ReqId
next_of view = record { 0 = view.next_request }

-- a pending subscription becomes active, and a NOTIFY says so with the seconds that are left
unfoldable pub activates : View → SessId → Bytes → Subscription → Script
activates view sess body sub =
    accepted_then (calls.SetAttribute (sub_name sess) (sub_text true sub.due sub.timer))
    (notifies sess (event_of view sess)
    (state_word true ++ codes ";expires=" ++ decimal (seconds_left sub.due view.now)) body)

-- a subscription ends: its timer and its attributes go, and a NOTIFY gives the reason
unfoldable pub ends : View → SessId → Bytes → Subscription → Script
ends view sess reason sub =
    cancel_then sub.timer view (remove_then (sub_name sess) view (remove_then (ev_name sess) view
    (notifies sess (event_of view sess) (codes "terminated;reason=" ++ reason) [])))

-- the subscription whose timer this is, with its SipSession
unfoldable pub fired_of : View → TimerId → Option NamedSub
fired_of view id = slice_get (filter_map (named_sub id) view.attributes) 0

-- ## A SUBSCRIBE (RFC 6665 section 4.2.1)

-- a rule, where its least time is 1 s to an hour, and its longest no shorter and 4,000,000 s at
-- most; or which of the two isn't so (RFC 6665 section 4.2.1.1)
unfoldable pub rule_of : Bytes → ℕ → ℕ → Bytes → Result Rule RuleRefused
rule_of event_package least longest body =
    if nat_lt least 1 || nat_lt 3600 least then Err rules.Least
    else (if nat_lt longest least || nat_lt 4000000 longest then Err rules.Longest
    else Ok
    (record { event_package = event_package; least = least; longest = longest; body = body }))

-- what it asks for, by a rule
unfoldable pub asked_of : Rule → Request → Asked
asked_of rule request =
    if not (names_package rule request) then asked.BadEvent
    else
    (if nat_lt 0 (asked_seconds rule request) && nat_lt (asked_seconds rule request) rule.least
    then asked.Brief
    else asked.For (min (asked_seconds rule request) rule.longest))

-- for no more than so many seconds
unfoldable pub IsAtMost : ℕ → Asked → Type 0
IsAtMost most asked.BadEvent = Unit {0}
IsAtMost most asked.Brief = Unit {0}
IsAtMost most (asked.For seconds) = seconds ≤ most

-- its seconds
unfoldable pub seconds_in : Asked → ℕ
seconds_in asked.BadEvent = 0
seconds_in asked.Brief = 0
seconds_in (asked.For seconds) = seconds

-- a new subscription is active, unless it is granted as a pending one
unfoldable pub begins_active : Grant → Bool
begins_active grants.Active = true
begins_active grants.Pending = false

-- a subscription that is there stays what it is, active or pending; a new one is what is granted
unfoldable pub is_active : Grant → Option Subscription → Bool
is_active grant None = begins_active grant
is_active grant (Some old) = old.active

-- how the subscription goes on from this moment
unfoldable pub read_by : View → SessId → Request → ℕ → Grant → Option Subscription → Read
read_by view sess request seconds grant old = record {
  standing = standing_of view sess old;
  event = notified_event view sess request seconds old;
  term = record {
    seconds = seconds;
    due = view.now + seconds * 1000;
    active = is_active grant old;
  };
}

-- that of a SipSession's subscription
unfoldable pub read_of : View → SessId → Request → Asked → Grant → Read
read_of view sess request asks grant =
    read_by view sess request (seconds_in asks) grant (subscription_of view sess)

-- 489 for another package, 423 for too short a time, and else 200 and what follows it
unfoldable pub accepted_by : Rule → ReqId → SessId → Asked → Read → Script
accepted_by rule req sess asked.BadEvent read =
    only
    (answer_with req 489 (codes "Bad Event") (field (codes "Allow-Events") rule.event_package ∷ []))
accepted_by rule req sess asked.Brief read =
    only
    (answer_with req 423 (codes "Interval Too Brief")
    (field (codes "Min-Expires") (decimal rule.least) ∷ []))
accepted_by rule req sess (asked.For seconds) read =
    accepted_then (answer_with req 200 ok (field (codes "Expires") (decimal seconds) ∷ []))
    (subscribed_by read.standing read.term sess read.event rule.body)

-- ## By what was read

-- a subscription with what its calls need
unfoldable pub live_by : View → SessId → Subscription → Live
live_by view sess sub = record {
  sub = sub;
  event = event_of view sess;
  left = seconds_left sub.due view.now;
  standing = standing_of view sess (Some sub);
  next = next_of view;
}

-- that of a SipSession
unfoldable pub live_of : View → SessId → Option Live
live_of view sess = option_map (live_by view sess) (subscription_of view sess)

-- its state is told
unfoldable pub live_told : SessId → Bytes → Live → Script
live_told sess body live =
    notifies sess live.event (state_word live.sub.active ++ codes ";expires=" ++ decimal live.left)
    (if live.sub.active then body else [])

-- it becomes active, and that is told
unfoldable pub live_activated : SessId → Bytes → Live → Script
live_activated sess body live =
    accepted_then (calls.SetAttribute (sub_name sess) (sub_text true live.sub.due live.sub.timer))
    (notifies sess live.event (state_word true ++ codes ";expires=" ++ decimal live.left) body)

-- it ends, and that is told with this state
unfoldable pub live_ended : SessId → Bytes → Live → Script
live_ended sess state live =
    without_subscription live.standing sess (notifies sess live.event state [])

-- it ends with its SipSession
unfoldable pub live_failed : SessId → Live → Script
live_failed sess live =
    without_subscription live.standing sess (only (calls.InvalidateSession sess))

-- a subscription whose timer fired, with what its calls need
unfoldable pub over_by : View → NamedSub → Over
over_by view named = record { sess = named.sess; live = live_by view named.sess named.sub }

-- it ends, and that is told
unfoldable pub over_script : Over → Script
over_script over = live_ended over.sess timeout_state over.live

-- a pending one becomes active; one that is active is refused
unfoldable pub IsActivated : Script → Live → Working → Result ReqId NotifyRefused → Working → Type 0
IsActivated script live old result new = IsByState live.sub.active script live.next old result new

-- ## A servlet

-- a servlet goes on where a turn refused its helper's call, unless memory was wanting
unfoldable pub IsTold : NotifyRefused → Result (Unit {0}) no.NoMemory → Type 0
IsTold refused.NotSubscribed out = Unit {0}
IsTold refused.NotPending out = Unit {0}
IsTold (refused.Turn refusal made) out = IsHeard (record { refusal = refusal; made = made }) out
