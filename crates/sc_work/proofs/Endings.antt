-- What the end of SipSessions sends, by its pieces, and numbers put in their order.
use Rattle.std.proofs.Common.{◌≡◌, ℕ, suc, ◌+◌, ◌≤◌, Bool, true, false, not, cond, nat_le, Some, None, List, [], ◌∷◌, ◌++◌, length, refl, ap, sym, ◌∙◌, arith, filter, position}
use Rattle.std.specs.List.{flat_map, insert, position_or_len}
use Rattle.std.proofs.lemmas.Bool.Decides.{nat_tests}
use Rattle.std.proofs.lemmas.List.Concat.{flat_map-cons}
use Rattle.sc_hosts.specs.Working.{insert_number}

kept_one : {A B : Type 0} (p : A → Bool) (f : A → List B) (x : A) (xs : List A) (b : Bool) → p x ≡ b → flat_map f (filter p xs) ≡ flat_map (λ y. cond (p y) (f y) []) xs
    → flat_map f (cond b (x ∷ filter p xs) (filter p xs)) ≡ cond b (f x) [] ++ flat_map (λ y. cond (p y) (f y) []) xs
kept_one p f x xs true e same = flat_map-cons f x (filter p xs) ∙ ap (λ ys. f x ++ ys) same
kept_one p f x xs false e same = same

-- a flat map over those that pass a test
pub flat_map_filter : {A B : Type 0} (p : A → Bool) (f : A → List B) (xs : List A) → flat_map f (filter p xs) ≡ flat_map (λ y. cond (p y) (f y) []) xs
flat_map_filter p f [] = refl
flat_map_filter p f (x ∷ xs) = kept_one p f x xs (p x) refl (flat_map_filter p f xs) ∙ sym (flat_map-cons (λ y. cond (p y) (f y) []) x xs)

-- a number put before the first that is as great
number_at : (n m : ℕ) (ms : List ℕ) (b : Bool) (k : ℕ) → insert_number n ms ≡ insert ms k n → cond b (n ∷ m ∷ ms) (m ∷ insert_number n ms) ≡ insert (m ∷ ms) (cond (not b) (1 + k) 0) n
number_at n m ms true k e = refl
number_at n m ms false k e = let one : ◌≡◌ {A = ℕ} (1 + k) (suc k) = omega arith in rw one (ap (λ ys. m ∷ ys) e)

inserted : (n : ℕ) (ms : List ℕ) → insert_number n ms ≡ insert ms (position_or_len (nat_le n) ms) n
unfolding insert_number
inserted n [] = refl
inserted n (m ∷ ms) = number_at n m ms (nat_le n m) (position_or_len (nat_le n) ms) (inserted n ms)

pub insert_some : (n : ℕ) (ms : List ℕ) (i : ℕ) → position (nat_le n) ms ≡ Some i → insert_number n ms ≡ insert ms i n
insert_some n ms i e = let at : position_or_len (nat_le n) ms ≡ i = grind (arith, nat_tests) in inserted n ms ∙ ap (λ k. insert ms k n) at

insert_end : (n : ℕ) (ms : List ℕ) → insert ms (length ms) n ≡ ms ++ n ∷ []
insert_end n [] = refl
insert_end n (m ∷ ms) = ap (λ ys. m ∷ ys) (insert_end n ms)

past : (n : ℕ) (ms : List ℕ) → position (nat_le n) ms ≡ None → length ms ≤ position_or_len (nat_le n) ms
past n ms e = grind (arith, nat_tests)

most : (p : ℕ → Bool) (ms : List ℕ) → position_or_len p ms ≤ length ms
most p [] = omega arith
most p (m ∷ ms) = at_most (p m) (position_or_len p ms) (length ms) (most p ms)
  where
    at_most : (b : Bool) (k l : ℕ) → k ≤ l → cond (not b) (1 + k) 0 ≤ suc l
    at_most true k l below = omega arith
    at_most false k l below = omega (arith, below)

pub insert_none : (n : ℕ) (ms : List ℕ) → position (nat_le n) ms ≡ None → insert_number n ms ≡ ms ++ n ∷ []
insert_none n ms e = let at : position_or_len (nat_le n) ms ≡ length ms = omega (arith, past n ms e, most (nat_le n) ms) in inserted n ms ∙ (ap (λ k. insert ms k n) at ∙ insert_end n ms)
