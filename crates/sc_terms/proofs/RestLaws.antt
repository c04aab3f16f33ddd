-- Requests that don't rest.
use Rattle.std.proofs.Common.{◌≡◌, ◌&&◌, ◌==◌, Bool, true, false, not, List, [], ◌∷◌, length, T, ap, sym, subst, refl, arith}
use Rattle.std.specs.List.{list_any}
use Rattle.std.specs.Prelude.{is_none}
use Rattle.std.proofs.lemmas.Bool.Decides.{nat_tests}
use Rattle.sc_value.specs.declared.ids.SessId.{SessId}
use Rattle.sc_tokens.specs.Names.{same_bytes}
use Rattle.sc_terms.specs.declared.views.RequestView.{RequestView}
use Rattle.sc_terms.specs.Resting.{ack_word, is_resting}

false_true : false ≡ true → ⊥
false_true e = subst T (sym e) tt

fourth : (a b c d e : Bool) → d ≡ false → not (a && b && c && d && e) ≡ true
fourth false b c d e is = refl
fourth true false c d e is = refl
fourth true true false d e is = refl
fourth true true true d e is = ap (λ z. not (z && e)) is

fifth : (a b c d e : Bool) → e ≡ false → not (a && b && c && d && e) ≡ true
fifth false b c d e is = refl
fifth true false c d e is = refl
fifth true true false d e is = refl
fifth true true true false e is = refl
fifth true true true true e is = ap not is

some : {A : Type 0} (x : A) (xs : List A) → (length (x ∷ xs) == 0) ≡ false
some x xs = grind (arith, nat_tests)

waiting : {A : Type 0} (test : A → Bool) (items : List A) → list_any test items ≡ true → (length items == 0) ≡ false
waiting test [] e = absurd (false_true e)
waiting test (x ∷ xs) e = some x xs

-- one that began its SipSession
pub initial_busy : (request : RequestView) → request.initial ≡ true → not (is_resting request) ≡ true
unfolding is_resting
initial_busy request e =
    ap (λ b. not (not b && is_none request.answered && (request.branches == 0) && (length request.unacked == 0) && not (same_bytes request.method ack_word))) e

-- one of which a 2xx waits for its ACK
pub unacked_busy : (request : RequestView) → (length request.unacked == 0) ≡ false → not (is_resting request) ≡ true
unfolding is_resting
unacked_busy request e =
    fourth (not request.initial) (is_none request.answered) (request.branches == 0) (length request.unacked == 0) (not (same_bytes request.method ack_word)) e

pub awaiting_busy : (test : SessId → Bool) (request : RequestView) → list_any test request.unacked ≡ true → not (is_resting request) ≡ true
awaiting_busy test request e = unacked_busy request (waiting test request.unacked e)

-- an ACK
pub ack_busy : (request : RequestView) → same_bytes request.method ack_word ≡ true → not (is_resting request) ≡ true
unfolding is_resting
ack_busy request e =
    fifth (not request.initial) (is_none request.answered) (request.branches == 0) (length request.unacked == 0) (not (same_bytes request.method ack_word)) (ap not e)

-- what one that rests tells
pub record Rests (request : RequestView) : Type 0 where
  pub later : request.initial ≡ false
  pub unanswered : is_none request.answered ≡ true
  pub acked : (length request.unacked == 0) ≡ true
  pub waits : same_bytes request.method ack_word ≡ false

parts : (a b c d e : Bool) → (not a && b && c && d && not e) ≡ true → (a ≡ false) × (b ≡ true) × (d ≡ true) × (e ≡ false)
parts true b c d e is = absurd (false_true is)
parts false false c d e is = absurd (false_true is)
parts false true false d e is = absurd (false_true is)
parts false true true false e is = absurd (false_true is)
parts false true true true true is = absurd (false_true is)
parts false true true true false is = (refl, refl, refl, refl)

pub rests : (request : RequestView) → is_resting request ≡ true → Rests request
unfolding is_resting
rests request is =
    let all = parts request.initial (is_none request.answered) (request.branches == 0) (length request.unacked == 0) (same_bytes request.method ack_word) is in
    record { later = all.0; unanswered = all.1; acked = all.2; waits = all.3 }
