-- What is found has the number that was looked for, and what follows from it.
use Rattle.std.proofs.Common.{◌≡◌, ℕ, ◌==◌, Bool, true, false, cond, Option, None, Some, List, [], ◌∷◌, option_map, refl, sym, ap, ◌∙◌, arith}
use Rattle.std.specs.Prelude.{is_some}
use Rattle.std.specs.List.{find}
use Rattle.std.proofs.lemmas.Bool.Decides.{nat_tests}
use Rattle.sc_value.specs.declared.ids.ReqId.{ReqId}
use Rattle.sc_value.specs.declared.ids.TimerId.{TimerId}
use Rattle.sc_terms.specs.declared.views.View.{View}
use Rattle.sc_terms.specs.declared.views.TimerView.{TimerView}
use Rattle.sc_terms.specs.declared.calls.Call.TheVariants as calls
use Rattle.sc_tokens.specs.Bytes.{Bytes}
use Rattle.sc_syntax.proofs.CutLaws.{none_some, some_same}
use Rattle.sc_hosts.specs.HelperParts.{accepted_then, cancel_then, remove_then}
use Rattle.sc_hosts.specs.Looking.{is_timer, timer_in}
use Rattle.sc_hosts.specs.Scripting.{Script, attribute}
use Rattle.sc_turn.specs.Working.{Working}
use Rattle.sc_apps.specs.Scripted.{IsPlayed}
use Rattle.sc_helpers.specs.Leading.{cancel_some, remove_if, timer_named}

found_by : {A : Type 0} (p : A → Bool) (x y : A) (xs : List A) (t : Bool) → p x ≡ t → (find p xs ≡ Some y → p y ≡ true) → cond t (Some x) (find p xs) ≡ Some y → p y ≡ true
found_by p x y xs true e later is = sym (ap p (some_same x y is)) ∙ e
found_by p x y xs false e later is = later is

pub found : {A : Type 0} (p : A → Bool) (xs : List A) (y : A) → find p xs ≡ Some y → p y ≡ true
found p [] y is = absurd (none_some y is)
found p (x ∷ xs) y is = found_by p x y xs (p x) refl (found p xs y) is

same_number : (a b : ℕ) → (a == b) ≡ true → a ≡ b
same_number a b e = grind (arith, nat_tests, e)

pub timer_is : (id : TimerId) (n : ℕ) → (id.0 == n) ≡ true → id ≡ record { 0 = n }
timer_is id n e = ap (λ m. named m) (same_number id.0 n e)
  where
    named : ℕ → TimerId
    named m = record { 0 = m }

pub request_is : (id : ReqId) (n : ℕ) → (id.0 == n) ≡ true → id ≡ record { 0 = n }
request_is id n e = ap (λ m. named m) (same_number id.0 n e)
  where
    named : ℕ → ReqId
    named m = record { 0 = m }

-- ## Timers and attributes

cancel_by : (timer : ℕ) (view : View) (script : Script) (o : Option TimerView) → timer_in view (record { 0 = timer }) ≡ o → cancel_then timer view script ≡ cancel_some (option_map (λ timer. timer.id) o) script
unfolding cancel_then cancel_some
cancel_by timer view script None e = rw e refl
cancel_by timer view script (Some running) e =
    rw e (ap (λ id. accepted_then (calls.CancelTimer id) script) (sym (timer_is running.id timer (found (is_timer (record { 0 = timer })) view.timers running e))))

pub cancel_is : (timer : ℕ) (view : View) (script : Script) → cancel_then timer view script ≡ cancel_some (timer_named view timer) script
unfolding timer_named
cancel_is timer view script = cancel_by timer view script (timer_in view (record { 0 = timer })) refl

remove_by : (name : Bytes) (view : View) (script : Script) (o : Option Bytes) → attribute name view ≡ o → remove_then name view script ≡ remove_if (is_some o) name script
unfolding remove_then remove_if
remove_by name view script None e = rw e refl
remove_by name view script (Some value) e = rw e refl

pub remove_is : (name : Bytes) (view : View) (script : Script) → remove_then name view script ≡ remove_if (is_some (attribute name view)) name script
remove_is name view script = remove_by name view script (attribute name view) refl

-- a script in place of one that is the same
pub as_is : (a b : Script) (old new : Working) → a ≡ b → IsPlayed b old new → IsPlayed a old new
as_is a b old new e is = rw e is
