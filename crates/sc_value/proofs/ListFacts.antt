-- Facts on lists: an item that is looked up, and one that is changed. Code reaches an item by its
-- place, and definitions by a test; these lemmas join the two.
use Rattle.std.proofs.Common.{◌≡◌, ℕ, zero, suc, ◌+◌, ◌<◌, ◌≤◌, Bool, true, false, not, cond, Option, Some, None, List, [], ◌∷◌, length, refl, ap, sym, ◌∙◌, get_or, arith, position, slice_get}
use Rattle.std.proofs.Math.ListN.{set}
use Rattle.std.specs.List.{find, position_or_len, remove}
use Rattle.std.specs.Option.{option_map}
use Rattle.std.proofs.lemmas.List.Folds.{find_at}
use Rattle.std.proofs.lemmas.Bool.Decides.{nat_tests}
use Rattle.sc_value.specs.Lists.{change_first, remove_first, change_nth}

-- an item within the list, by its place
pub slice_get_at : {A : Type 0} (xs : List A) (i : ℕ) (d : A) → i < length xs → slice_get xs i ≡ Some (get_or xs i d)
slice_get_at [] i d below = absurd (omega (arith, below))
slice_get_at (x ∷ xs) zero d below = refl
slice_get_at (x ∷ xs) (suc i) d below = slice_get_at xs i d (omega (arith, below))

-- past the end there is none
pub slice_get_none : {A : Type 0} (xs : List A) (i : ℕ) → length xs ≤ i → slice_get xs i ≡ None
slice_get_none [] i past = refl
slice_get_none (x ∷ xs) zero past = absurd (omega (arith, past))
slice_get_none (x ∷ xs) (suc i) past = slice_get_none xs i (omega (arith, past))

placed : {A : Type 0} (p : A → Bool) (xs : List A) (i : ℕ) → position p xs ≡ Some i → (position_or_len p xs ≡ i) × (i < length xs)
placed p xs i e = grind (arith, nat_tests)

missing : {A : Type 0} (p : A → Bool) (xs : List A) → position p xs ≡ None → length xs ≤ position_or_len p xs
missing p xs e = grind (arith, nat_tests)

pub find_position : {A : Type 0} (p : A → Bool) (xs : List A) (i : ℕ) (d : A) → position p xs ≡ Some i → find p xs ≡ Some (get_or xs i d)
find_position p xs i d e = let at = placed p xs i e in find_at p xs ∙ (ap (slice_get xs) at.0 ∙ slice_get_at xs i d at.1)

pub find_none : {A : Type 0} (p : A → Bool) (xs : List A) → position p xs ≡ None → find p xs ≡ None
find_none p xs e = find_at p xs ∙ slice_get_none xs _ (missing p xs e)

-- the change, at the place of the item
change_at : {A : Type 0} (p : A → Bool) (f : A → A) (x : A) (xs : List A) (d : A) (b : Bool) (n : ℕ) → (n < length xs → change_first p f xs ≡ set xs n (f (get_or xs n d)))
    → cond (not b) (1 + n) 0 < length (x ∷ xs) → cond b (f x ∷ xs) (x ∷ change_first p f xs) ≡ set (x ∷ xs) (cond (not b) (1 + n) 0) (f (get_or (x ∷ xs) (cond (not b) (1 + n) 0) d))
change_at p f x xs d true n later below = refl
change_at p f x xs d false n later below =
    let one : ◌≡◌ {A = ℕ} (1 + n) (suc n) = omega arith in rw one (ap (λ ys. x ∷ ys) (later (omega (arith, below))))

changed : {A : Type 0} (p : A → Bool) (f : A → A) (xs : List A) (d : A) → position_or_len p xs < length xs → change_first p f xs ≡ set xs (position_or_len p xs) (f (get_or xs (position_or_len p xs) d))
unfolding change_first
changed p f [] d below = absurd (omega (arith, below))
changed p f (x ∷ xs) d below = change_at p f x xs d (p x) (position_or_len p xs) (changed p f xs d) below

pub change_first_position : {A : Type 0} (p : A → Bool) (f : A → A) (xs : List A) (i : ℕ) (d : A) → position p xs ≡ Some i → change_first p f xs ≡ set xs i (f (get_or xs i d))
change_first_position p f xs i d e = let at = placed p xs i e in rw (← at.0) (changed p f xs d (omega (arith, at.0, at.1)))

keep_at : {A : Type 0} (p : A → Bool) (f : A → A) (x : A) (xs : List A) (b : Bool) (n : ℕ) → (length xs ≤ n → change_first p f xs ≡ xs)
    → length (x ∷ xs) ≤ cond (not b) (1 + n) 0 → cond b (f x ∷ xs) (x ∷ change_first p f xs) ≡ x ∷ xs
keep_at p f x xs true n later past = absurd (omega (arith, past))
keep_at p f x xs false n later past = ap (λ ys. x ∷ ys) (later (omega (arith, past)))

kept : {A : Type 0} (p : A → Bool) (f : A → A) (xs : List A) → length xs ≤ position_or_len p xs → change_first p f xs ≡ xs
unfolding change_first
kept p f [] past = refl
kept p f (x ∷ xs) past = keep_at p f x xs (p x) (position_or_len p xs) (kept p f xs) past

pub change_first_none : {A : Type 0} (p : A → Bool) (f : A → A) (xs : List A) → position p xs ≡ None → change_first p f xs ≡ xs
change_first_none p f xs e = kept p f xs (missing p xs e)

drop_at : {A : Type 0} (p : A → Bool) (x : A) (xs : List A) (b : Bool) (n : ℕ) → (n < length xs → remove_first p xs ≡ remove xs n)
    → cond (not b) (1 + n) 0 < length (x ∷ xs) → cond b xs (x ∷ remove_first p xs) ≡ remove (x ∷ xs) (cond (not b) (1 + n) 0)
drop_at p x xs true n later below = refl
drop_at p x xs false n later below =
    let one : ◌≡◌ {A = ℕ} (1 + n) (suc n) = omega arith in rw one (ap (λ ys. x ∷ ys) (later (omega (arith, below))))

dropped : {A : Type 0} (p : A → Bool) (xs : List A) → position_or_len p xs < length xs → remove_first p xs ≡ remove xs (position_or_len p xs)
unfolding remove_first
dropped p [] below = absurd (omega (arith, below))
dropped p (x ∷ xs) below = drop_at p x xs (p x) (position_or_len p xs) (dropped p xs) below

pub remove_first_position : {A : Type 0} (p : A → Bool) (xs : List A) (i : ℕ) → position p xs ≡ Some i → remove_first p xs ≡ remove xs i
remove_first_position p xs i e = let at = placed p xs i e in rw (← at.0) (dropped p xs (omega (arith, at.0, at.1)))

stay_at : {A : Type 0} (p : A → Bool) (x : A) (xs : List A) (b : Bool) (n : ℕ) → (length xs ≤ n → remove_first p xs ≡ xs)
    → length (x ∷ xs) ≤ cond (not b) (1 + n) 0 → cond b xs (x ∷ remove_first p xs) ≡ x ∷ xs
stay_at p x xs true n later past = absurd (omega (arith, past))
stay_at p x xs false n later past = ap (λ ys. x ∷ ys) (later (omega (arith, past)))

stayed : {A : Type 0} (p : A → Bool) (xs : List A) → length xs ≤ position_or_len p xs → remove_first p xs ≡ xs
unfolding remove_first
stayed p [] past = refl
stayed p (x ∷ xs) past = stay_at p x xs (p x) (position_or_len p xs) (stayed p xs) past

pub remove_first_none : {A : Type 0} (p : A → Bool) (xs : List A) → position p xs ≡ None → remove_first p xs ≡ xs
remove_first_none p xs e = stayed p xs (missing p xs e)

-- two changes at one place
pub change_nth-change_nth : {A : Type 0} (i : ℕ) (f g : A → A) (xs : List A) → change_nth i f (change_nth i g xs) ≡ change_nth i (λ x. f (g x)) xs
unfolding change_nth
change_nth-change_nth i f g [] = refl
change_nth-change_nth zero f g (x ∷ xs) = refl
change_nth-change_nth (suc i) f g (x ∷ xs) = ap (λ ys. x ∷ ys) (change_nth-change_nth i f g xs)

-- what stands at the place that was changed
pub slice_get-change_nth : {A : Type 0} (i : ℕ) (f : A → A) (xs : List A) → slice_get (change_nth i f xs) i ≡ option_map f (slice_get xs i)
unfolding change_nth
slice_get-change_nth i f [] = refl
slice_get-change_nth zero f (x ∷ xs) = refl
slice_get-change_nth (suc i) f (x ∷ xs) = slice_get-change_nth i f xs

-- what is found stands at the place that is found
pub find_place : {A : Type 0} (p : A → Bool) (xs : List A) (i : ℕ) → position p xs ≡ Some i → find p xs ≡ slice_get xs i
find_place p xs i e = find_at p xs ∙ ap (slice_get xs) (placed p xs i e).0

-- the list with the found item changed, where the items, the slice that is searched and the list are
-- the same
pub change_place : {A : Type 0} (p : A → Bool) (f : A → A) (xs ys zs : List A) (r : Option ℕ) (i : ℕ) (x y : A) → xs ≡ zs → ys ≡ zs → r ≡ position p ys → r ≡ Some i → x ≡ get_or xs i x → y ≡ f x
    → set xs i y ≡ change_first p f zs
change_place p f xs ys zs r i x y same searched found is at changed =
    rw (changed, ← same) (sym (change_first_position p f xs i x (rw same (rw searched at (sym found ∙ is))) ∙ ap (λ z. set xs i (f z)) (sym at)))

-- the item at a place changed, within the list
pub change_nth_at : {A : Type 0} (i : ℕ) (f : A → A) (xs : List A) (d : A) → i < length xs → change_nth i f xs ≡ set xs i (f (get_or xs i d))
unfolding change_nth
change_nth_at i f [] d below = absurd (omega (arith, below))
change_nth_at zero f (x ∷ xs) d below = refl
change_nth_at (suc i) f (x ∷ xs) d below = ap (λ ys. x ∷ ys) (change_nth_at i f xs d (omega (arith, below)))

-- and past its end
pub change_nth_none : {A : Type 0} (i : ℕ) (f : A → A) (xs : List A) → length xs ≤ i → change_nth i f xs ≡ xs
unfolding change_nth
change_nth_none i f [] past = refl
change_nth_none zero f (x ∷ xs) past = absurd (omega (arith, past))
change_nth_none (suc i) f (x ∷ xs) past = ap (λ ys. x ∷ ys) (change_nth_none i f xs (omega (arith, past)))
