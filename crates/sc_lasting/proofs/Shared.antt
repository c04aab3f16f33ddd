-- What the laws of lives have in common: lists of which all items are so, what is found behind
-- another one, and the Via that an ACK or a CANCEL has of its request (RFC 3261 sections 9.1 and 17.1.1.3).
use Rattle.std.proofs.Common.{◌≡◌, ◌++◌, ℕ, zero, suc, Option, None, Some, List, [], ◌∷◌, drop, refl}
use Rattle.std.specs.Prelude.{option_and_then, option_map, slice_get, unwrap_or}
use Rattle.sc_value.specs.declared.parts.Via.{Via}
use Rattle.sc_hosts.specs.Transacting.{top_via}
use Rattle.sc_lasting.specs.Lasting.{All}

-- ## All items of a list

-- the items in front
pub all-front : {A : Type 0} (P : A → Type 0) (xs ys : List A) → All P (xs ++ ys) → All P xs
unfolding All
all-front P [] ys all = tt
all-front P (x ∷ xs) ys all = (all.0, all-front P xs ys all.1)

-- those before the last one, and the last one
pub all-last : {A : Type 0} (P : A → Type 0) (xs : List A) (x : A) → All P (xs ++ x ∷ []) → All P xs × P x
unfolding All
all-last P [] x all = (tt, all.0)
all-last P (y ∷ xs) x all = let rest = all-last P xs x all.1 in ((all.0, rest.0), rest.1)

-- those behind the first one
pub all-rest : {A : Type 0} (P : A → Type 0) (xs : List A) → All P xs → All P (drop 1 xs)
unfolding All
all-rest P [] all = tt
all-rest P (x ∷ xs) all = all.1

-- the one at a place
pub all-at : {A : Type 0} (P : A → Type 0) (xs : List A) (place : ℕ) (x : A) → slice_get xs place ≡ Some x → All P xs → P x
unfolding All
all-at P [] place x at all = cc
all-at P (y ∷ xs) zero x at all = subst-some P y x at all.0
  where
    subst-some : {A : Type 0} (P : A → Type 0) (y x : A) → Some y ≡ Some x → P y → P x
    subst-some P y x is p = let same : y ≡ x = cc in rw (← same) p
all-at P (y ∷ xs) (suc place) x at all = all-at P xs place x at all.1

-- what two facts of each item give
pub all-two : {A : Type 0} (P R S : A → Type 0) (xs : List A) → ((x : A) → P x → R x → S x) → All P xs → All R xs → All S xs
unfolding All
all-two P R S [] each p r = tt
all-two P R S (x ∷ xs) each p r = (each x p.0 r.0, all-two P R S xs each p.1 r.1)

-- ## What is found

-- what is found behind another one
pub found-behind : {A B : Type 0} (next : A → Option B) (found : Option A) (b : B) → option_and_then next found ≡ Some b
    → (a : A) × (found ≡ Some a) × (next a ≡ Some b)
found-behind next None b is = cc
found-behind next (Some a) b is = (a, refl, is)

-- an ACK or a CANCEL has the top Via of its request alone
pub kin-top : (vias : List Via) → top_via (unwrap_or (option_map (λ via. via ∷ []) (slice_get vias 0)) []) ≡ top_via vias
kin-top [] = refl
kin-top (via ∷ vias) = refl
