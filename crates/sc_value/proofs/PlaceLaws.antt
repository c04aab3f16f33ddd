-- Places that test as one are one.
use Rattle.std.proofs.Common.{◌≡◌, ℕ, ◌==◌, List, [], ◌∷◌, Bool, true, false, ◌&&◌, refl, ap, arith}
use Rattle.std.proofs.lemmas.Bool.Decides.{nat_tests}
use Rattle.sc_tokens.specs.Names.{same_bytes}
use Rattle.sc_value.specs.declared.ids.Place.{Place}
use Rattle.sc_value.specs.declared.ids.Place.TheVariants.{Back, To}
use Rattle.sc_value.specs.Places.{same_place}

both : (a b : Bool) → (a && b) ≡ true → (a ≡ true) × (b ≡ true)
both true true e = (refl, refl)
both true false e = cc
both false b e = cc

same-number : (a b : ℕ) → (a == b) ≡ true → a ≡ b
same-number a b e = grind (arith, nat_tests)

self-number : (a : ℕ) → (a == a) ≡ true
self-number a = grind (arith, nat_tests)

bytes-are : (xs ys : List ℕ) → same_bytes xs ys ≡ true → xs ≡ ys
bytes-are [] [] e = refl
bytes-are [] (y ∷ ys) e = cc
bytes-are (x ∷ xs) [] e = cc
bytes-are (x ∷ xs) (y ∷ ys) e = let (first, later) = both (x == y) (same_bytes xs ys) e in rw (same-number x y first, bytes-are xs ys later) refl

self-bytes : (xs : List ℕ) → same_bytes xs xs ≡ true
self-bytes [] = refl
self-bytes (x ∷ xs) = rw (self-number x) (self-bytes xs)

pub same_place-is : (a b : Place) → same_place a b ≡ true → a ≡ b
unfolding same_place
same_place-is (Back a) (Back b) e = ap (λ n. Back n) (same-number a b e)
same_place-is (Back a) (To ip port) e = cc
same_place-is (To ip port) (Back b) e = cc
same_place-is (To ip port) (To other other_port) e =
    let (first, later) = both (same_bytes ip other) (port == other_port) e in rw (bytes-are ip other first, same-number port other_port later) refl

pub same_place-self : (a : Place) → same_place a a ≡ true
unfolding same_place
same_place-self (Back a) = self-number a
same_place-self (To ip port) = rw (self-bytes ip) (self-number port)
