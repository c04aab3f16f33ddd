-- The charter of a servlet for event notification (RFC 6665), as the calls that it makes. What it
-- remembers stands in attributes.
use Rattle.std.specs.Prelude.{ℕ, ◌+◌, ◌-◌, ◌*◌, ◌/◌, ◌==◌, List, [], ◌∷◌, ◌++◌, Bool, true, false, not, ◌&&◌, ◌||◌, Option, None, Some, is_some, option_map, option_and_then, unwrap_or, if◌then◌else◌, codes, decimal, min, nat_lt, nat_le, slice_get}
use Rattle.std.specs.List.{find, filter_map}
use Rattle.std.specs.Option.{option_map_or}
use Rattle.sc_value.specs.declared.ids.ReqId.{ReqId}
use Rattle.sc_value.specs.declared.ids.SessId.{SessId}
use Rattle.sc_value.specs.declared.ids.TimerId.{TimerId}
use Rattle.sc_value.specs.declared.parts.Field.{Field}
use Rattle.sc_value.specs.declared.message.Request.{Request}
use Rattle.sc_tokens.specs.Names.{same_bytes, same_name}
use Rattle.sc_terms.specs.declared.views.View.{View}
use Rattle.sc_terms.specs.declared.views.Period.TheVariants.{Once}
use Rattle.sc_terms.specs.declared.events.Event.{Event}
use Rattle.sc_terms.specs.declared.events.Event.TheVariants as events
use Rattle.sc_terms.specs.declared.calls.Call.{Call}
use Rattle.sc_terms.specs.declared.calls.Call.TheVariants as calls
use Rattle.sc_tokens.specs.Bytes.{Bytes}
use Rattle.sc_tokens.specs.Blanks.{without_blanks}
use Rattle.sc_tokens.specs.Cuts.{before, pieces}
use Rattle.sc_tokens.specs.Numbers.{number_of}
use Rattle.sc_model.specs.Dialogs.{subscribe, notify}
use Rattle.sc_model.specs.Transactions.{is_failure}
use Rattle.sc_hosts.specs.Scripting.{Done, Make, Script, attribute, only, reply, small_number, then_make, where_some, with_number}
use Rattle.sc_hosts.specs.Charters.{reply_ok}
use Rattle.sc_hosts.specs.Words.{ok}
use Rattle.sc_hosts.specs.HelperParts.{strict_number, field_of, answer_with, field, accepted_then, send_in, remove_then, cancel_then, session_number}
use Rattle.sc_hosts.specs.Offers.{after_word}
use Rattle.sc_model.specs.BestResponses.{server_error}
use Rattle.sc_tokens.specs.Signs.{semicolon, space}

-- a package, with the least and the longest time of a subscription in seconds, and the state's body
pub record Rule : Type 0 where
  pub event_package : Bytes
  pub least : ℕ
  pub longest : ℕ
  pub body : Bytes

-- a rule, where its least time is 1 s to an hour, and its longest no shorter and 4,000,000 s at
-- most (RFC 6665 section 4.2.1.1)
unfoldable pub rule_with : Bytes → Option ℕ → Option ℕ → Bytes → Option Rule
rule_with event_package (Some least) (Some longest) body =
    if nat_le 1 least && nat_le least 3600 && nat_le least longest && nat_le longest 4000000
    then Some
    (record { event_package = event_package; least = least; longest = longest; body = body }) else
    None
rule_with event_package (Some least) None body = None
rule_with event_package None longest body = None

-- the rule that the parameters say: package, least time, longest time, and a body if there is one
unfoldable pub rule_in : List Bytes → Option Rule
rule_in (event_package ∷ least ∷ longest ∷ []) =
    rule_with event_package (small_number least) (small_number longest) []
rule_in (event_package ∷ least ∷ longest ∷ body ∷ more) =
    rule_with event_package (small_number least) (small_number longest) body
rule_in params = None

-- the field is an Event, by its name or by the compact one `o` (RFC 6665 section 8.2.1)
unfoldable pub is_event : Field → Bool
is_event field = same_name field.name (codes "Event") || same_name field.name (codes "o")

-- the value of the first Event
unfoldable pub event_value : Request → Option Bytes
event_value request = option_map (λ field. field.value) (find is_event request.head.others)

-- the request is for the rule's package, whatever the parameters behind it
unfoldable pub names_package : Rule → Request → Bool
names_package rule request =
    option_map_or
    (λ value. same_bytes (without_blanks (before semicolon value)) rule.event_package)
    (event_value request) false

-- for how many seconds a subscription is asked
unfoldable pub asked_seconds : Rule → Request → ℕ
asked_seconds rule request =
    unwrap_or (option_and_then number_of (field_of (codes "Expires") request)) rule.longest

-- a subscription: whether it is active or pending, when it ends, and the timer of its end
pub record Subscription : Type 0 where
  pub active : Bool
  pub due : ℕ
  pub timer : ℕ

-- `A` for active, `P` for pending
unfoldable pub letter_of : Bytes → Option Bool
letter_of word =
    if same_bytes word (codes "A") then Some true
    else (if same_bytes word (codes "P") then Some false else None)

-- a subscription, read from the words of an attribute: letter, moment and timer
unfoldable pub subscription_in : List Bytes → Option Subscription
subscription_in (letter ∷ d ∷ t ∷ []) =
    option_and_then
    (λ active.
    option_and_then
    (λ due.
    option_map (λ timer. record { active = active; due = due; timer = timer })
    (strict_number t)) (strict_number d)) (letter_of letter)
subscription_in words = None

-- the attribute of a SipSession's subscription
unfoldable pub sub_name : SessId → Bytes
sub_name sess = codes "sub" ++ decimal sess.0

-- the attribute with the Event of that subscription
unfoldable pub ev_name : SessId → Bytes
ev_name sess = codes "ev" ++ decimal sess.0

-- the subscription of a SipSession, if there is one
unfoldable pub subscription_of : View → SessId → Option Subscription
subscription_of view sess =
    option_and_then (λ text. subscription_in (pieces space text)) (attribute (sub_name sess) view)

-- the letter of an active subscription, and that of a pending one
unfoldable pub letter_word : Bool → Bytes
letter_word true = codes "A "
letter_word false = codes "P "

-- a subscription, written: its letter, the moment at which it ends, and its timer
unfoldable pub sub_text : Bool → ℕ → ℕ → Bytes
sub_text active due timer = letter_word active ++ decimal due ++ codes " " ++ decimal timer

-- the state as a NOTIFY says it (RFC 6665 section 4.1.3)
unfoldable pub state_word : Bool → Bytes
state_word true = codes "active"
state_word false = codes "pending"

-- the state of a subscription whose time is over (RFC 6665 section 4.1.3)
unfoldable pub timeout_state : Bytes
timeout_state = codes "terminated;reason=timeout"

-- a NOTIFY with this event and this state
unfoldable pub notifies : SessId → Bytes → Bytes → Bytes → Script
notifies sess event state body =
    send_in sess notify
    (field (codes "Event") event ∷ field (codes "Subscription-State") state ∷ []) body Done

-- the old timer is cancelled
unfoldable pub without_timer : View → Option Subscription → Script → Script
without_timer view None script = script
without_timer view (Some old) script = cancel_then old.timer view script

-- the subscription is there and pending
unfoldable pub is_pending : Option Subscription → Bool
is_pending None = false
is_pending (Some old) = not old.active

-- what follows a 200 to SUBSCRIBE for so many seconds: a timer and a NOTIFY, or for 0 the end, with
-- a NOTIFY that says so; a new subscription is active, and one that is there stays what it was
unfoldable pub subscribed_for : View → Rule → SessId → Bytes → ℕ → Option Subscription → Script
subscribed_for view rule sess event seconds old =
    if seconds == 0
    then without_timer view old
    (remove_then (sub_name sess) view
    (remove_then (ev_name sess) view (notifies sess event timeout_state [])))
    else without_timer view old
    (Make (calls.StartTimer (seconds * 1000) Once (sub_name sess)) (with_number (λ t.
    accepted_then
    (calls.SetAttribute (sub_name sess)
    (sub_text (not (is_pending old)) (view.now + seconds * 1000) t))
    (accepted_then (calls.SetAttribute (ev_name sess) event)
    (notifies sess event (state_word (not (is_pending old)) ++ codes ";expires=" ++ decimal seconds)
    (if is_pending old then [] else rule.body))))))

-- the Event with which a subscription was made
unfoldable pub event_of : View → SessId → Bytes
event_of view sess = unwrap_or (attribute (ev_name sess) view) []

-- the Event of the NOTIFY that follows the answer: where the request ends a subscription, as it was
-- made (RFC 6665 section 4.1.3)
unfoldable pub notified_event : View → SessId → Request → ℕ → Option Subscription → Bytes
notified_event view sess request seconds old =
    if seconds == 0 && is_some old then event_of view sess else unwrap_or (event_value request) []

-- the answer to a SUBSCRIBE: 489 for another package, 423 for too short a time, else 200 (RFC 6665
-- section 4.2.1)
unfoldable pub accepts : View → Rule → ReqId → SessId → Request → Script
accepts view rule req sess request =
    if not (names_package rule request)
    then only
    (answer_with req 489 (codes "Bad Event")
    (field (codes "Allow-Events") rule.event_package ∷ []))
    else (if nat_lt 0 (asked_seconds rule request) && nat_lt (asked_seconds rule request) rule.least
    then only
    (answer_with req 423 (codes "Interval Too Brief")
    (field (codes "Min-Expires") (decimal rule.least) ∷ []))
    else accepted_then
    (answer_with req 200 ok
    (field (codes "Expires") (decimal (min (asked_seconds rule request) rule.longest)) ∷ []))
    (subscribed_for view rule sess
    (notified_event view sess request (min (asked_seconds rule request) rule.longest)
    (subscription_of view sess))
    (min (asked_seconds rule request) rule.longest) (subscription_of view sess)))

-- how many seconds are left, rounded up
unfoldable pub seconds_left : ℕ → ℕ → ℕ
seconds_left due now = ((due - now) + 999) / 1000

-- a NOTIFY of a new state, which only an active subscription is shown
unfoldable pub changes : View → SessId → Bytes → Subscription → Script
changes view sess body sub =
    notifies sess (event_of view sess)
    (state_word sub.active ++ codes ";expires=" ++ decimal (seconds_left sub.due view.now))
    (if sub.active then body else [])

-- a subscription with its SipSession
pub record NamedSub : Type 0 where
  pub sess : SessId
  pub sub : Subscription

-- what an attribute remembers, where it names this timer
unfoldable pub named_sub : TimerId → Field → Option NamedSub
named_sub id field =
    option_and_then
    (λ sess.
    option_and_then
    (λ sub. if sub.timer == id.0 then Some (record { sess = sess; sub = sub }) else None)
    (subscription_in (pieces space field.value)))
    (option_and_then session_number (after_word (codes "sub") field.name))

-- the time of a subscription is over: a NOTIFY says so
unfoldable pub ended_sub : View → NamedSub → Script
ended_sub view named =
    cancel_then named.sub.timer view
    (remove_then (sub_name named.sess) view (remove_then (ev_name named.sess) view
    (notifies named.sess (event_of view named.sess) timeout_state [])))

-- a NOTIFY failed: the subscription ends with its SipSession
unfoldable pub failed_sub : View → SessId → Subscription → Script
failed_sub view sess sub =
    cancel_then sub.timer view
    (remove_then (sub_name sess) view
    (remove_then (ev_name sess) view (only (calls.InvalidateSession sess))))

-- the answer where the parameters make no rule
unfoldable pub accepts_by : View → Option Rule → Call → ReqId → SessId → Request → Script
accepts_by view None otherwise req sess request = only otherwise
accepts_by view (Some rule) otherwise req sess request =
    if same_bytes request.method subscribe then accepts view rule req sess request
    else only (reply req 200 ok)

-- the method that brings a new state, in a request of the dialog (RFC 6086)
unfoldable pub info_word : Bytes
info_word = codes "INFO"

-- a later request: a SUBSCRIBE renews, an INFO brings a new state
unfoldable pub notify_request : View → Option Rule → ReqId → SessId → Request → Script
notify_request view rule req sess request =
    if same_bytes request.method subscribe
    then accepts_by view rule (reply req 200 ok) req sess request
    else (if same_bytes request.method info_word
    then then_make (reply req 200 ok)
    (where_some (subscription_of view sess) (changes view sess request.head.body))
    else reply_ok req request)

-- `notify`: a notifier of the package that its parameters say
unfoldable pub notify_script : View → Event → Script
notify_script view (events.Initial req sess region subscriber popped request) =
    accepts_by view (rule_in view.params) (reply req 500 server_error) req sess request
notify_script view (events.Request req sess request) =
    notify_request view (rule_in view.params) req sess request
notify_script view (events.Response req sess response) =
    if same_bytes response.head.cseq.method notify && is_failure response.code
    then where_some (subscription_of view sess) (failed_sub view sess)
    else Done
notify_script view (events.Branch req sess response) = Done
notify_script view (events.Cancelled req sess) = Done
notify_script view (events.Timer id info) =
    where_some (slice_get (filter_map (named_sub id) view.attributes) 0) (ended_sub view)
notify_script view events.Expired = Done
notify_script view events.Ready = Done
