-- The items of a list behind some that are gone.
use Rattle.std.proofs.Common.{◌≡◌, ◌+◌, ◌≤◌, ℕ, zero, suc, List, [], ◌∷◌, ◌++◌, length, take, drop, drop-drop, drop_of_length-le, add-one, append-nil, slice_get, T, Some, None, is_some, unwrap_or, refl, ap, sym, subst, ◌∙◌, arith}

pub first_behind : {A : Type 0} (gone : ℕ) (all : List A) → slice_get (drop gone all) 0 ≡ slice_get all gone
first_behind zero [] = refl
first_behind zero (x ∷ xs) = refl
first_behind (suc gone) [] = refl
first_behind (suc gone) (x ∷ xs) = first_behind gone xs

pub one_more_gone : {A : Type 0} (gone : ℕ) (all : List A) → drop (gone + 1) all ≡ drop 1 (drop gone all)
one_more_gone gone all = sym (drop-drop 1 gone all)

pub nothing_waits : {A : Type 0} (gone : ℕ) (all : List A) → length all ≤ gone → drop gone all ≡ drop 1 (drop gone all)
nothing_waits gone all le = let none = drop_of_length-le all le in none ∙ ap (drop 1) (sym none)

pub item_behind : {A : Type 0} (gone : ℕ) (all : List A) (x : A) → gone ≤ length all → drop gone (all ++ x ∷ []) ≡ drop gone all ++ x ∷ []
item_behind zero all x le = refl
item_behind (suc gone) [] x le = absurd (omega (arith, le))
item_behind (suc gone) (y ∷ ys) x le = item_behind gone ys x (omega (arith, le))

-- ## Items that are gone through

some_is : {A : Type 0} (x y : A) → Some x ≡ Some y → x ≡ y
some_is x y e = ap (λ o. unwrap_or o x) e

none_some : {A : Type 0} (y : A) → None ≡ Some y → ⊥
none_some y e = subst (λ o. T (is_some o)) (sym e) tt

pub one_some : {A : Type 0} (all : List A) (at : ℕ) (x : A) → slice_get all at ≡ Some x → drop at (take (at + 1) all) ≡ x ∷ []
one_some {A} all at x is = ap (λ n. drop at (take n all)) (add-one at) ∙ one all at is
  where
    one : (xs : List A) (i : ℕ) → slice_get xs i ≡ Some x → drop i (take (suc i) xs) ≡ x ∷ []
    one [] i e = absurd (none_some x e)
    one (y ∷ ys) zero e = ap (λ z. z ∷ []) (some_is y x e)
    one (y ∷ ys) (suc i) e = one ys i e

one_none : {A : Type 0} (all : List A) (at : ℕ) → slice_get all at ≡ None → drop at (take (at + 1) all) ≡ []
one_none {A} all at is = ap (λ n. drop at (take n all)) (add-one at) ∙ none all at is
  where
    none : (xs : List A) (i : ℕ) → slice_get xs i ≡ None → drop i (take (suc i) xs) ≡ []
    none [] zero e = refl
    none [] (suc i) e = refl
    none (y ∷ ys) zero e = absurd (none_some y (sym e))
    none (y ∷ ys) (suc i) e = none ys i e

pub none_more : {A : Type 0} (all old : List A) (at : ℕ) → slice_get all at ≡ None → old ≡ old ++ drop at (take (at + 1) all)
none_more all old at is = sym (ap (λ l. old ++ l) (one_none all at is) ∙ append-nil old)

grown : {A : Type 0} (at : ℕ) (xs : List A) → take (suc at) xs ≡ take at xs ++ drop at (take (suc at) xs)
grown zero xs = refl
grown (suc at) [] = refl
grown (suc at) (x ∷ xs) = ap (λ l. x ∷ l) (grown at xs)

grown_behind : {A : Type 0} (from at : ℕ) (xs : List A) → from ≤ at → drop from (take (suc at) xs) ≡ drop from (take at xs) ++ drop at (take (suc at) xs)
grown_behind zero at xs le = grown at xs
grown_behind (suc from) zero xs le = absurd (omega (arith, le))
grown_behind (suc from) (suc at) [] le = refl
grown_behind (suc from) (suc at) (x ∷ xs) le = grown_behind from at xs (omega (arith, le))

pub copied_more : {A : Type 0} (from at : ℕ) (all old new : List A) → from ≤ at → old ≡ drop from (take at all) → new ≡ old ++ drop at (take (at + 1) all) → new ≡ drop from (take (at + 1) all)
copied_more from at all old new le was is =
    is ∙ ap (λ l. l ++ drop at (take (at + 1) all)) was
    ∙ ap (λ n. drop from (take at all) ++ drop at (take n all)) (add-one at)
    ∙ sym (grown_behind from at all le)
    ∙ ap (λ n. drop from (take n all)) (sym (add-one at))
