-- The first item that a test gives something for.
use Rattle.std.proofs.Common.{◌≡◌, ℕ, zero, suc, ◌+◌, ◌<◌, Option, None, Some, List, [], ◌∷◌, length, drop, get_or, slice_get, refl, arith}
use Rattle.std.specs.List.{filter_map}

pub first_found : {A B : Type 0} (f : A → Option B) (xs : List A) (i : ℕ) (d : A) (b : B) → i < length xs → f (get_or xs i d) ≡ Some b → slice_get (filter_map f (drop i xs)) 0 ≡ Some b
first_found f [] i d b below e = absurd (omega (arith, below))
first_found f (x ∷ xs) zero d b below e = rw e refl
first_found f (x ∷ xs) (suc i) d b below e = first_found f xs i d b (omega (arith, below)) e

pub first_later : {A B : Type 0} (f : A → Option B) (xs : List A) (i : ℕ) (d : A) → i < length xs → f (get_or xs i d) ≡ None → filter_map f (drop (i + 1) xs) ≡ filter_map f (drop i xs)
first_later f [] i d below e = absurd (omega (arith, below))
first_later f (x ∷ xs) zero d below e = rw e refl
first_later f (x ∷ xs) (suc i) d below e =
    let one : ◌≡◌ {A = ℕ} (suc i + 1) (suc (i + 1)) = omega arith in rw one (first_later f xs i d (omega (arith, below)) e)
