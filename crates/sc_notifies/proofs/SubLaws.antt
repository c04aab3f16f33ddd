-- The scripts of subscriptions, by what was read before the first call.
use Rattle.std.proofs.Common.{◌≡◌, ℕ, ◌+◌, ◌*◌, ◌==◌, Bool, true, false, not, if◌then◌else◌, Option, None, Some, [], refl, ap, ◌∙◌}
use Rattle.std.specs.Prelude.{◌++◌, codes, decimal, is_some}
use Rattle.sc_value.specs.declared.ids.SessId.{SessId}
use Rattle.sc_terms.specs.declared.views.View.{View}
use Rattle.sc_terms.specs.declared.calls.Call.TheVariants as calls
use Rattle.sc_terms.specs.declared.views.Period.TheVariants.{Once}
use Rattle.sc_tokens.specs.Bytes.{Bytes}
use Rattle.sc_hosts.specs.HelperParts.{accepted_then, cancel_then, remove_then}
use Rattle.sc_hosts.specs.Scripting.{Script, Make, attribute, with_number}
use Rattle.sc_hosts.specs.Subscriptions.{Rule, Subscription, ev_name, is_pending, notifies, state_word, sub_name, sub_text, subscribed_for, timeout_state, without_timer}
use Rattle.sc_helpers.specs.Leading.{cancel_some, remove_if, timer_named}
use Rattle.sc_notifies.specs.Notifying.{begins_active, is_active}
use Rattle.sc_notifies.specs.SubScripts.{begun_noted, begun_timed, begun_told, without_subscription as cleared, standing_of, subscribed_by, timer_of_sub, without_attributes as unnamed}
use Rattle.sc_notifies.specs.declared.accepting.Grant.TheVariants as grants
use Rattle.sc_helpers.proofs.FoundLaws.{cancel_is, remove_is}

without_is : (view : View) (old : Option Subscription) (script : Script) → without_timer view old script ≡ cancel_some (timer_of_sub view old) script
unfolding without_timer timer_of_sub cancel_some
without_is view None script = refl
without_is view (Some old) script = cancel_is old.timer view script

removed_is : (view : View) (sess : SessId) (script : Script)
    → remove_then (sub_name sess) view (remove_then (ev_name sess) view script) ≡ remove_if (is_some (attribute (sub_name sess) view)) (sub_name sess) (remove_if (is_some (attribute (ev_name sess) view)) (ev_name sess) script)
removed_is view sess script =
    remove_is (sub_name sess) view (remove_then (ev_name sess) view script) ∙ ap (remove_if (is_some (attribute (sub_name sess) view)) (sub_name sess)) (remove_is (ev_name sess) view script)

cleared_is : (view : View) (sess : SessId) (old : Option Subscription) (script : Script)
    → without_timer view old (remove_then (sub_name sess) view (remove_then (ev_name sess) view script)) ≡ cleared (standing_of view sess old) sess script
unfolding cleared unnamed standing_of
cleared_is view sess old script = without_is view old _ ∙ ap (cancel_some (timer_of_sub view old)) (removed_is view sess script)

pub ended_is : (view : View) (sess : SessId) (sub : Subscription) (script : Script)
    → cancel_then sub.timer view (remove_then (sub_name sess) view (remove_then (ev_name sess) view script)) ≡ cleared (standing_of view sess (Some sub)) sess script
unfolding cleared unnamed standing_of timer_of_sub
ended_is view sess sub script = cancel_is sub.timer view _ ∙ ap (cancel_some (timer_named view sub.timer)) (removed_is view sess script)

actives : (o : Option Subscription) → is_active grants.Active o ≡ not (is_pending o)
unfolding is_active begins_active is_pending
actives None = refl
actives (Some old) = twice old.active
  where
    twice : (b : Bool) → b ≡ not (not b)
    twice true = refl
    twice false = refl

-- a timer, both attributes, and a NOTIFY, of a subscription that is active or pending
abbrev told : SessId → Bytes → ℕ → ℕ → Bool → Bytes → Script
told sess event seconds due active body =
    Make (calls.StartTimer (seconds * 1000) Once (sub_name sess)) (with_number (λ t. accepted_then (calls.SetAttribute (sub_name sess) (sub_text active due t)) (accepted_then (calls.SetAttribute (ev_name sess) event)
    (notifies sess event (state_word active ++ codes ";expires=" ++ decimal seconds) body))))

told_is : (sess : SessId) (event : Bytes) (seconds due : ℕ) (body : Bytes) (pending active : Bool) → active ≡ not pending
    → told sess event seconds due (not pending) (if pending then [] else body) ≡ told sess event seconds due active (if active then body else [])
told_is sess event seconds due body true true is = cc
told_is sess event seconds due body true false is = refl
told_is sess event seconds due body false true is = refl
told_is sess event seconds due body false false is = cc

-- the charter's script: a new subscription is active, one that is there stays what it is
pub subscribed_is : (view : View) (rule : Rule) (sess : SessId) (event : Bytes) (seconds : ℕ) (o : Option Subscription)
    → subscribed_for view rule sess event seconds o
    ≡ subscribed_by (standing_of view sess o) (record { seconds = seconds; due = view.now + seconds * 1000; active = is_active grants.Active o }) sess event rule.body
unfolding subscribed_for subscribed_by begun_timed begun_noted begun_told standing_of
subscribed_is view rule sess event seconds o =
    both (seconds == 0) (cleared_is view sess o (notifies sess event timeout_state []))
    (without_is view o _ ∙ ap (cancel_some (timer_of_sub view o)) (told_is sess event seconds (view.now + seconds * 1000) rule.body (is_pending o) (is_active grants.Active o) (actives o)))
  where
    both : (over : Bool) {a b c d : Script} → a ≡ b → c ≡ d → (if over then a else c) ≡ (if over then b else d)
    both true one other = one
    both false one other = other
