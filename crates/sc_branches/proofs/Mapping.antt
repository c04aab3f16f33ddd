-- A list that is changed item by item, in place.
use Rattle.std.proofs.Common.{◌≡◌, ℕ, zero, suc, ◌+◌, ◌<◌, List, [], ◌∷◌, ◌++◌, length, refl, ap, map, take, drop, get_or, arith, add-one}
use Rattle.std.proofs.Math.ListN.{set}

-- one item more
mapped : {A : Type 0} (f : A → A) (xs : List A) (i : ℕ) (d : A) → i < length xs
    → set (map f (take i xs) ++ drop i xs) i (f (get_or (map f (take i xs) ++ drop i xs) i d)) ≡ map f (take (suc i) xs) ++ drop (suc i) xs
mapped f [] i d below = absurd (omega (arith, below))
mapped f (x ∷ xs) zero d below = refl
mapped f (x ∷ xs) (suc i) d below = ap (λ ys. f x ∷ ys) (mapped f xs i d (omega (arith, below)))

pub mapped_next : {A : Type 0} (f : A → A) (xs ys : List A) (i : ℕ) (d y : A) → i < length xs → ys ≡ map f (take i xs) ++ drop i xs → y ≡ f (get_or ys i d)
    → set ys i y ≡ map f (take (i + 1) xs) ++ drop (i + 1) xs
mapped_next f xs ys i d y below so changed = rw (add-one, changed, so) (mapped f xs i d below)
