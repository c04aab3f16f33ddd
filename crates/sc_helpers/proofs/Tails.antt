-- What follows the calls of a helper that went through, or that stopped.
use Rattle.std.proofs.Common.{◌≡◌, ℕ, zero, suc, if◌then◌else◌, Option, None, Some, List, inl, inr, refl, subst, sym}
use Rattle.sc_value.specs.declared.ids.ReqId.{ReqId}
use Rattle.sc_value.specs.declared.ids.TimerId.{TimerId}
use Rattle.sc_terms.specs.declared.calls.Answer.{Answer}
use Rattle.sc_terms.specs.declared.calls.Call.{Call}
use Rattle.sc_terms.specs.declared.calls.Call.TheVariants as calls
use Rattle.sc_terms.specs.declared.calls.CallAnswer.{CallAnswer}
use Rattle.sc_terms.specs.declared.calls.CallAnswer.TheVariants as answers
use Rattle.sc_terms.specs.declared.calls.Refusal.{Refusal}
use Rattle.sc_state.specs.declared.working.Play.{Play}
use Rattle.sc_hosts.specs.Effects.{answer_to_call as accepted}
use Rattle.sc_hosts.specs.HelperParts.{accepted_then}
use Rattle.sc_hosts.specs.Scripting.{Script, Done, is_refused}
use Rattle.sc_turn.specs.Working.{Working, play_of, after_made}
use Rattle.sc_apps.specs.Scripted.{IsMade, IsPlayed}
use Rattle.sc_apps.proofs.Playing.{accepted_made, played_make}
use Rattle.sc_helpers.specs.Leading.{cancel_some}
use Rattle.sc_helpers.specs.Stopping.{GoesThrough, IsFirstRefused, StopsAfter}

-- the call answers nothing but that it was accepted
abbrev pub IsFine : Call → Type 0
IsFine call = (play : Play) → accepted play call ≡ answers.Fine

pub respond_fine : (req : ReqId) (answer : Answer) → IsFine (calls.Respond req answer)
unfolding accepted
respond_fine req answer play = refl

pub set_fine : (name value : List ℕ) → IsFine (calls.SetAttribute name value)
unfolding accepted
set_fine name value play = refl

pub cancel_fine : (id : TimerId) → IsFine (calls.CancelTimer id)
unfolding accepted
cancel_fine id play = refl

-- ## Calls that went through

pub fine_then : (call : Call) → IsFine call → (script rest : Script) (old mid new : Working) → GoesThrough (accepted_then call script) old mid
    → (GoesThrough script (after_made call old) mid → IsPlayed rest (after_made call old) new) → IsPlayed (accepted_then call rest) old new
unfolding GoesThrough accepted_then is_refused
fine_then call fine script rest old mid new (is, through) go =
    played_make call _ old (after_made call old) new answers.Fine
    (subst (λ (a : CallAnswer). IsMade call old a (after_made call old)) (fine (play_of old)) (accepted_made call old (after_made call old) (accepted (play_of old) call) is))
    (go (subst (λ (a : CallAnswer). GoesThrough (if is_refused a then Done else script) (after_made call old) mid) (fine (play_of old)) through))

pub cancel_then_on : (id : Option TimerId) (script : Script) (old mid new : Working) → GoesThrough (cancel_some id Done) old mid → IsPlayed script mid new → IsPlayed (cancel_some id script) old new
unfolding GoesThrough cancel_some
cancel_then_on None script old mid new is rest = subst (λ (w : Working). IsPlayed script w new) is rest
cancel_then_on (Some id) script old mid new through rest =
    fine_then (calls.CancelTimer id) (cancel_fine id) Done script old mid new through (λ is. subst (λ (w : Working). IsPlayed script w new) is rest)

-- ## Calls that stopped

pub stops_done : (count : ℕ) (script : Script) (old new : Working) (refused : Refusal) → StopsAfter count Done old refused new → StopsAfter count script old refused new
unfolding StopsAfter IsFirstRefused
stops_done zero script old new refused (inl wants) = inl wants
stops_done zero script old new refused (inr is) = absurd is
stops_done (suc count) script old new refused stops = absurd stops

pub stops_then : (call : Call) → IsFine call → (script rest : Script) (count : ℕ) (old new : Working) (refused : Refusal) → StopsAfter count (accepted_then call script) old refused new
    → ((n : ℕ) → StopsAfter n script (after_made call old) refused new → StopsAfter n rest (after_made call old) refused new) → StopsAfter count (accepted_then call rest) old refused new
unfolding StopsAfter IsFirstRefused accepted_then is_refused
stops_then call fine script rest zero old new refused (inl wants) go = inl wants
stops_then call fine script rest zero old new refused (inr is) go = inr is
stops_then call fine script rest (suc count) old new refused (is, stops) go = (
  is,
  subst (λ (a : CallAnswer). StopsAfter count (if is_refused a then Done else rest) (after_made call old) refused new) (sym (fine (play_of old)))
      (go count (subst (λ (a : CallAnswer). StopsAfter count (if is_refused a then Done else script) (after_made call old) refused new) (fine (play_of old)) stops)),
)

pub cancel_stops : (id : Option TimerId) (script : Script) (count : ℕ) (old new : Working) (refused : Refusal) → StopsAfter count (cancel_some id Done) old refused new → StopsAfter count (cancel_some id script) old refused new
unfolding cancel_some
cancel_stops None script count old new refused stops = stops_done count script old new refused stops
cancel_stops (Some id) script count old new refused stops =
    stops_then (calls.CancelTimer id) (cancel_fine id) Done script count old new refused stops (λ n more. stops_done n script (after_made (calls.CancelTimer id) old) new refused more)
