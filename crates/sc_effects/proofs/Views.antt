-- The view with the requests that it shows, by its SipSessions alone.
use Rattle.std.proofs.Common.{◌≡◌, ◌==◌, ◌||◌, Bool, true, false, not, cond, T, List, [], ◌∷◌, length, ap, sym, subst, ◌∙◌, refl, arith}
use Rattle.std.specs.List.{filter}
use Rattle.std.proofs.lemmas.Bool.Decides.{nat_tests}
use Rattle.std.specs.Prelude.{is_none}
use Rattle.sc_value.specs.declared.ids.SessId.{SessId}
use Rattle.sc_terms.specs.declared.views.RequestView.{RequestView}
use Rattle.sc_terms.specs.declared.views.SessionView.{SessionView}
use Rattle.sc_terms.specs.Resting.{is_resting}
use Rattle.sc_terms.proofs.RestLaws.{rests, unacked_busy}
use Rattle.sc_terms.specs.declared.views.View.{View}
use Rattle.sc_hosts.specs.ViewChanges.{tidy, stands, with_there, there}
use Rattle.sc_effects.specs.Tidied.{is_there, with_there_in, stands_in, visible_requests as tidied}

true_false : true ≡ false → ⊥
true_false e = subst T e tt

some : {A : Type 0} (x : A) (xs : List A) → (length (x ∷ xs) == 0) ≡ false
some x xs = grind (arith, nat_tests)

unnot : (b : Bool) → not b ≡ true → b ≡ false
unnot false e = refl
unnot true e = absurd (true_false (sym e))

pub tidied_is : (view : View) → record view { requests = tidied view.sessions view.requests } ≡ tidy view
unfolding tidy stands with_there there is_there with_there_in stands_in tidied
tidied_is view = refl

-- a request of which no 2xx waits for its ACK
pub none_waiting : (sessions : List SessionView) (request : RequestView) → not (length request.unacked == 0) ≡ false → with_there_in sessions request ≡ request
unfolding with_there_in
none_waiting sessions request none = ap (λ l. record request { unacked = l }) (nothing request.unacked none)
  where
    nothing : (items : List SessId) → not (length items == 0) ≡ false → filter (is_there sessions) items ≡ items
    nothing [] e = refl
    nothing (x ∷ xs) e = absurd (true_false (sym (ap not (some x xs)) ∙ e))

pub waiting_busy : (request : RequestView) → not (length request.unacked == 0) ≡ true → not (is_resting request) ≡ true
waiting_busy request some = unacked_busy request (unnot (length request.unacked == 0) some)

-- a request that goes
pub going_busy : (sessions : List SessionView) (request : RequestView) → stands_in sessions request ≡ false → not (is_resting request) ≡ true
unfolding stands_in
going_busy sessions request goes = by (is_resting request) refl
  where
    by : (b : Bool) → is_resting request ≡ b → not b ≡ true
    by false is = refl
    by true is = let it = rests request is in
        absurd (true_false (sym (ap (λ b. b || not (length request.unacked == 0)) it.unanswered) ∙ sym (ap (λ b. cond b (is_there sessions request.sess || not (length request.unacked == 0)) (is_none request.answered || not (length request.unacked == 0))) it.later) ∙ goes))
