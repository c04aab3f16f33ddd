-- The SipSession of a request that has a tag.
use Rattle.std.proofs.Common.{arith, ◌≡◌, Bool, true, false, ◌&&◌, cond, Option, Some, None, List, [], ◌∷◌, refl}
use Rattle.std.specs.List.{find}
use Rattle.std.specs.Prelude.{filter}
use Rattle.std.specs.Option.{option_map}
use Rattle.sc_value.specs.declared.ids.ReqId.{ReqId}
use Rattle.sc_value.specs.declared.ids.SessId.{SessId}
use Rattle.sc_value.specs.declared.message.Request.{Request}
use Rattle.sc_terms.specs.declared.views.SessionView.{SessionView}
use Rattle.sc_state.specs.declared.session.Known.{Known}
use Rattle.sc_state.specs.declared.session.Session.{Session}
use Rattle.sc_tokens.specs.Bytes.{Bytes}
use Rattle.sc_hosts.specs.DerivedSessions.{claims, handled_in, handling_of, is_of}
use Rattle.sc_derived.specs.Claims.{claims_of}

found_at : {A : Type 0} (p q : A → Bool) (x : A) (xs : List A) (a b : Bool) → p x ≡ a → q x ≡ b → find p (filter q xs) ≡ find (λ y. q y && p y) xs
    → find p (cond b (x ∷ filter q xs) (filter q xs)) ≡ cond (b && a) (Some x) (find (λ y. q y && p y) xs)
found_at p q x xs true true e f later = rw e refl
found_at p q x xs false true e f later = rw e later
found_at p q x xs a false e f later = later

pub found_among : {A : Type 0} (p q : A → Bool) (xs : List A) → find p (filter q xs) ≡ find (λ y. q y && p y) xs
found_among p q [] = refl
found_among p q (x ∷ xs) = found_at p q x xs (p x) (q x) refl refl (found_among p q xs)

pub claimer_found : (known : Known) (req : ReqId) (tag : Bytes) (sessions : List SessionView) → find (claims known tag) (filter (is_of known req) sessions) ≡ find (claims_of known req tag) sessions
unfolding claims_of
claimer_found known req tag sessions = found_among (claims known tag) (is_of known req) sessions

pub handled_claimed : (session : Session) (req : ReqId) (original : SessionView) (came : Option Request) (tag : Bytes) (claimer : Option SessionView) (sess : SessId)
    → option_map (λ (s : SessionView). s.id) claimer ≡ Some sess → handled_in session req original came (handling_of session original tag claimer) ≡ (sess, session)
unfolding handling_of handled_in
handled_claimed session req original came tag None sess e = grind arith
handled_claimed session req original came tag (Some claimer) sess e = grind arith

pub handling_unclaimed : (session : Session) (original : SessionView) (tag : Bytes) (claimer : Option SessionView)
    → option_map (λ (s : SessionView). s.id) claimer ≡ None → handling_of session original tag claimer ≡ handling_of session original tag None
handling_unclaimed session original tag None e = refl
handling_unclaimed session original tag (Some claimer) e = grind arith
