-- A request put back among those that are shown, by the place of the first that has a greater number.
use Rattle.std.proofs.Common.{◌≡◌, ℕ, suc, ◌+◌, ◌<◌, ◌≤◌, Bool, true, false, not, cond, nat_lt, Some, None, List, [], ◌∷◌, ◌++◌, length, position, refl, ap, arith}
use Rattle.std.specs.List.{position_or_len, insert}
use Rattle.std.proofs.lemmas.Bool.Decides.{nat_tests}
use Rattle.sc_terms.specs.declared.views.RequestView.{RequestView}
use Rattle.sc_hosts.specs.PreparingResponses.{insert_request}
use Rattle.sc_shown.specs.Shown.{is_behind}

placed : (r : RequestView) (xs : List RequestView) (i : ℕ) → position (is_behind r) xs ≡ Some i → (position_or_len (is_behind r) xs ≡ i) × (i < length xs)
placed r xs i e = grind (arith, nat_tests)

missing : (r : RequestView) (xs : List RequestView) → position (is_behind r) xs ≡ None → length xs ≤ position_or_len (is_behind r) xs
missing r xs e = grind (arith, nat_tests)

before_at : (r x : RequestView) (xs : List RequestView) (n : ℕ) (p : Bool) → nat_lt r.id.0 x.id.0 ≡ p → (n < length xs → insert_request r xs ≡ insert xs n r)
    → cond (not p) (1 + n) 0 < length (x ∷ xs) → cond p (r ∷ x ∷ xs) (x ∷ insert_request r xs) ≡ insert (x ∷ xs) (cond (not p) (1 + n) 0) r
before_at r x xs n true e later below = refl
before_at r x xs n false e later below = let one : ◌≡◌ {A = ℕ} (1 + n) (suc n) = omega arith in rw one (ap (λ ys. x ∷ ys) (later (omega (arith, below))))

before : (r : RequestView) (xs : List RequestView) → position_or_len (is_behind r) xs < length xs → insert_request r xs ≡ insert xs (position_or_len (is_behind r) xs) r
unfolding insert_request
before r [] below = absurd (omega (arith, below))
before r (x ∷ xs) below = before_at r x xs _ _ refl (before r xs) below

pub request_before : (r : RequestView) (xs : List RequestView) (i : ℕ) → position (is_behind r) xs ≡ Some i → insert_request r xs ≡ insert xs i r
request_before r xs i e = let at = placed r xs i e in rw (← at.0) (before r xs (omega (arith, at.0, at.1)))

last_at : (r x : RequestView) (xs : List RequestView) (n : ℕ) (p : Bool) → nat_lt r.id.0 x.id.0 ≡ p → (length xs ≤ n → insert_request r xs ≡ xs ++ r ∷ [])
    → length (x ∷ xs) ≤ cond (not p) (1 + n) 0 → cond p (r ∷ x ∷ xs) (x ∷ insert_request r xs) ≡ (x ∷ xs) ++ r ∷ []
last_at r x xs n true e later past = absurd (omega (arith, past))
last_at r x xs n false e later past = ap (λ ys. x ∷ ys) (later (omega (arith, past)))

last : (r : RequestView) (xs : List RequestView) → length xs ≤ position_or_len (is_behind r) xs → insert_request r xs ≡ xs ++ r ∷ []
unfolding insert_request
last r [] past = refl
last r (x ∷ xs) past = last_at r x xs _ _ refl (last r xs) past

pub request_last : (r : RequestView) (xs : List RequestView) → position (is_behind r) xs ≡ None → insert_request r xs ≡ xs ++ r ∷ []
request_last r xs e = last r xs (missing r xs e)
