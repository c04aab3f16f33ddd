-- Steps of loops over lists.
use Rattle.std.proofs.Common.{◌≡◌, ℕ, zero, suc, ◌+◌, ◌<◌, List, [], ◌∷◌, ◌++◌, length, refl, ap, map, take, drop, get_or, arith, add-one, ◌∙◌}
use Rattle.std.proofs.Math.ListN.{set}

stepped : {A : Type 0} (f : A → A) (xs : List A) (i : ℕ) (d : A) → i < length xs
    → set (map f (take i xs) ++ drop i xs) i (f (get_or (map f (take i xs) ++ drop i xs) i d)) ≡ map f (take (suc i) xs) ++ drop (suc i) xs
stepped f [] i d below = absurd (omega (arith, below))
stepped f (x ∷ xs) zero d below = refl
stepped f (x ∷ xs) (suc i) d below = ap (λ ys. f x ∷ ys) (stepped f xs i d (omega (arith, below)))

-- one more item of a list whose first items were changed in place
pub map_step : {A : Type 0} (f : A → A) (xs ys : List A) (i : ℕ) (d y : A) → i < length xs → ys ≡ map f (take i xs) ++ drop i xs → y ≡ f (get_or ys i d)
    → set ys i y ≡ map f (take (i + 1) xs) ++ drop (i + 1) xs
map_step f xs ys i d y below e made = ap (set ys i) made ∙ rw (e, add-one) (stepped f xs i d below)
