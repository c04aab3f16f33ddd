-- What callers use: an item changed by a function, a search in the items of a group, and what a test keeps.
use Rattle.std.proofs.Common.{◌≡◌, ℕ, Bool, true, false, cond, T, Some, None, List, [], ◌∷◌, refl, ap, sym, subst, ◌∙◌}
use Rattle.std.specs.List.{filter, find}
use Rattle.sc_value.specs.Lists.{change_first}
use Rattle.sc_book.specs.Words.{has_key}
use Rattle.sc_book.proofs.Basics.{none_some, some_is, same_number}

-- ## An item that is found, changed by a function

-- nothing is changed where none passes
pub change_absent : {X : Type 0} (p : X → Bool) (f : X → X) (xs : List X) → find p xs ≡ None → change_first p f xs ≡ xs
unfolding change_first
change_absent p f [] none = refl
change_absent {X} p f (x ∷ xs) none =
    elim (p x) as (λ b. cond b (Some x) (find p xs) ≡ None → cond b (f x ∷ xs) (x ∷ change_first p f xs) ≡ x ∷ xs) [
      | true ↦ λ is. absurd (none_some x (sym is))
      | false ↦ λ is. ap (λ l. x ∷ l) (change_absent p f xs is)
    ] none

-- what is found passes
pub found_passes : {X : Type 0} (p : X → Bool) (x : X) (xs : List X) → find p xs ≡ Some x → p x ≡ true
found_passes p x [] is = absurd (none_some x is)
found_passes {X} p x (y ∷ ys) is =
    elim (p y) as (λ b. p y ≡ b → cond b (Some y) (find p ys) ≡ Some x → p x ≡ true) [
      | true ↦ λ t e. subst (λ z. p z ≡ true) (some_is y x e) t
      | false ↦ λ _ e. found_passes p x ys e
    ] refl is

-- the first that passes, put in place, is the change of it
pub change_found : {X : Type 0} (p : X → Bool) (f : X → X) (x : X) (xs : List X) → find p xs ≡ Some x → change_first p (λ _. f x) xs ≡ change_first p f xs
unfolding change_first
change_found p f x [] is = refl
change_found {X} p f x (y ∷ ys) is =
    elim (p y) as (λ b. cond b (Some y) (find p ys) ≡ Some x → cond b (f x ∷ ys) (y ∷ change_first p (λ _. f x) ys) ≡ cond b (f y ∷ ys) (y ∷ change_first p f ys)) [
      | true ↦ λ e. ap (λ z. f z ∷ ys) (sym (some_is y x e))
      | false ↦ λ e. ap (λ l. y ∷ l) (change_found p f x ys e)
    ] is

-- `set_first` of what a function makes of the item that `find_first` found
pub changed_found : {X : Type 0} (p : X → Bool) (f : X → X) (x item : X) (xs ys : List X) → ys ≡ change_first p (λ _. item) xs → Some x ≡ find p xs → item ≡ f x → ys ≡ change_first p f xs
changed_found p f x item xs ys is found made = is ∙ ap (λ i. change_first p (λ _. i) xs) made ∙ change_found p f x xs (sym found)

pub unchanged_absent : {X : Type 0} (p : X → Bool) (f : X → X) (xs : List X) → None ≡ find p xs → xs ≡ change_first p f xs
unchanged_absent p f xs none = sym (change_absent p f xs (sym none))

-- `set` of what a function makes of the item of a key, which keeps the key
pub set_found : {X : Type 0} (key : X → ℕ) (k : ℕ) (f : X → X) (x item : X) (xs ys : List X) → ys ≡ change_first (has_key key (key item)) (λ _. item) xs → Some x ≡ find (has_key key k) xs → item ≡ f x → key (f x) ≡ key x → ys ≡ change_first (has_key key k) f xs
set_found key k f x item xs ys is found made keeps =
    let own : key item ≡ k = ap key made ∙ keeps ∙ same_number (key x) k (found_passes (has_key key k) x xs (sym found)) in
    changed_found (has_key key k) f x item xs ys (is ∙ ap (λ n. change_first (has_key key n) (λ _. item) xs) own) found made

pub unset_absent : {X : Type 0} (key : X → ℕ) (k : ℕ) (f : X → X) (xs : List X) → None ≡ find (has_key key k) xs → xs ≡ change_first (has_key key k) f xs
unset_absent key k f xs none = unchanged_absent (has_key key k) f xs none

-- ## A search among the items of a group

pub find_within : {X : Type 0} (p q : X → Bool) → ((x : X) → p x ≡ true → q x ≡ true) → (xs : List X) → find p (filter q xs) ≡ find p xs
find_within p q weaker [] = refl
find_within {X} p q weaker (x ∷ xs) =
    elim (q x) as (λ b. q x ≡ b → find p (cond b (x ∷ filter q xs) (filter q xs)) ≡ cond (p x) (Some x) (find p xs)) [
      | true ↦ λ _. ap (cond (p x) (Some x)) (find_within p q weaker xs)
      | false ↦ λ t. find_within p q weaker xs ∙ ap (λ b. cond b (Some x) (find p xs)) (sym (no_pass (p x) refl t))
    ] refl
  where
    no_pass : (b : Bool) → p x ≡ b → q x ≡ false → p x ≡ false
    no_pass true e t = absurd (subst T (sym (sym t ∙ weaker x e)) tt)
    no_pass false e t = e

pub filter_within : {X : Type 0} (p q : X → Bool) → ((x : X) → p x ≡ true → q x ≡ true) → (xs : List X) → filter p (filter q xs) ≡ filter p xs
filter_within p q weaker [] = refl
filter_within {X} p q weaker (x ∷ xs) =
    elim (q x) as (λ b. q x ≡ b → filter p (cond b (x ∷ filter q xs) (filter q xs)) ≡ cond (p x) (x ∷ filter p xs) (filter p xs)) [
      | true ↦ λ _. ap (λ l. cond (p x) (x ∷ l) l) (filter_within p q weaker xs)
      | false ↦ λ t. filter_within p q weaker xs ∙ ap (λ b. cond b (x ∷ filter p xs) (filter p xs)) (sym (no_pass (p x) refl t))
    ] refl
  where
    no_pass : (b : Bool) → p x ≡ b → q x ≡ false → p x ≡ false
    no_pass true e t = absurd (subst T (sym (sym t ∙ weaker x e)) tt)
    no_pass false e t = e
