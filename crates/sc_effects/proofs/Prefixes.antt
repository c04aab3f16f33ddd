-- The bytes from the front on that pass a test, by the first that fails it.
use Rattle.std.proofs.Common.{◌≡◌, ℕ, ◌+◌, ◌≤◌, Bool, true, false, not, cond, None, Some, List, [], ◌∷◌, length, position, refl, ap, arith}
use Rattle.std.specs.List.{prefix_len, position_or_len}
use Rattle.std.proofs.lemmas.Bool.Decides.{nat_tests}
use Rattle.std.proofs.lemmas.List.Sums.{prefix_len-le-length}

step : (b : Bool) (m n : ℕ) → m ≡ n → cond b (1 + m) 0 ≡ cond (not (not b)) (1 + n) 0
step true m n e = ap (λ k. 1 + k) e
step false m n e = refl

before_first : {A : Type 0} (p : A → Bool) (xs : List A) → prefix_len p xs ≡ position_or_len (λ x. not (p x)) xs
before_first p [] = refl
before_first p (x ∷ xs) = step (p x) _ _ (before_first p xs)

pub prefix_len_some : {A : Type 0} (p : A → Bool) (xs : List A) (i : ℕ) → position (λ x. not (p x)) xs ≡ Some i → prefix_len p xs ≡ i
prefix_len_some p xs i e = let same = before_first p xs in grind (arith, nat_tests, same)

pub prefix_len_none : {A : Type 0} (p : A → Bool) (xs : List A) → position (λ x. not (p x)) xs ≡ None → prefix_len p xs ≡ length xs
prefix_len_none p xs e = let same = before_first p xs in let most = prefix_len-le-length p xs in grind (arith, nat_tests, same, most)

-- std's bound, under a name without a hyphen
pub prefix_len_most : {A : Type 0} (p : A → Bool) (xs : List A) → prefix_len p xs ≤ length xs
prefix_len_most p xs = prefix_len-le-length p xs
