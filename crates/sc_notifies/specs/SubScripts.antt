-- The scripts of subscriptions, by what an application read before its first call (RFC 6665).
use Rattle.std.specs.Prelude.{ℕ, ◌*◌, ◌==◌, ◌++◌, [], Option, None, Some, is_some, if◌then◌else◌, codes, decimal}
use Rattle.sc_value.specs.declared.ids.SessId.{SessId}
use Rattle.sc_value.specs.declared.ids.TimerId.{TimerId}
use Rattle.sc_terms.specs.declared.views.View.{View}
use Rattle.sc_terms.specs.declared.views.Period.TheVariants.{Once}
use Rattle.sc_terms.specs.declared.calls.Call.TheVariants as calls
use Rattle.sc_tokens.specs.Bytes.{Bytes}
use Rattle.sc_hosts.specs.HelperParts.{accepted_then}
use Rattle.sc_hosts.specs.Scripting.{Make, Script, attribute, with_number}
use Rattle.sc_hosts.specs.Subscriptions.{Subscription, ev_name, notifies, state_word, sub_name, sub_text, timeout_state}
use Rattle.sc_helpers.specs.Leading.{cancel_some, remove_if, timer_named}
use Rattle.sc_notifies.specs.declared.standing.Standing.{Standing}
use Rattle.sc_notifies.specs.declared.subscribing.Term.{Term}

-- the timer of a subscription's end, where it runs
unfoldable pub timer_of_sub : View → Option Subscription → Option TimerId
timer_of_sub view None = None
timer_of_sub view (Some sub) = timer_named view sub.timer

-- how a SipSession's subscription stands
unfoldable pub standing_of : View → SessId → Option Subscription → Standing
standing_of view sess old = record {
  running = timer_of_sub view old;
  told = is_some (attribute (sub_name sess) view);
  named = is_some (attribute (ev_name sess) view);
}

-- both its attributes are taken away
unfoldable pub without_attributes : Standing → SessId → Script → Script
without_attributes standing sess =
    λ script.
    remove_if standing.told (sub_name sess) (remove_if standing.named (ev_name sess) script)

-- its timer and both attributes
unfoldable pub without_subscription : Standing → SessId → Script → Script
without_subscription standing sess =
    λ script. cancel_some standing.running (without_attributes standing sess script)

-- ## A subscription that begins or goes on

-- the state is told, with the body where the subscription is active
unfoldable pub begun_told : Term → SessId → Bytes → Bytes → Script
begun_told term sess event body =
    notifies sess event (state_word term.active ++ codes ";expires=" ++ decimal term.seconds)
    (if term.active then body else [])

-- the subscription is remembered with its timer, and its state is told
unfoldable pub begun_noted : Term → SessId → Bytes → Bytes → ℕ → Script
begun_noted term sess event body t =
    accepted_then (calls.SetAttribute (sub_name sess) (sub_text term.active term.due t))
    (accepted_then (calls.SetAttribute (ev_name sess) event) (begun_told term sess event body))

-- its timer begins, then the same
unfoldable pub begun_timed : Term → SessId → Bytes → Bytes → Script
begun_timed term sess event body =
    Make (calls.StartTimer (term.seconds * 1000) Once (sub_name sess))
    (with_number (begun_noted term sess event body))

-- what follows a 200 to SUBSCRIBE, where the old subscription stands so
unfoldable pub subscribed_by : Standing → Term → SessId → Bytes → Bytes → Script
subscribed_by standing term sess event body =
    if term.seconds == 0
    then without_subscription standing sess (notifies sess event timeout_state [])
    else cancel_some standing.running (begun_timed term sess event body)
