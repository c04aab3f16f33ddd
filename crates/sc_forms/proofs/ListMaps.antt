-- What a change of the items does to the words on lists.
use Rattle.std.proofs.Common.{refl, ap, ◌∙◌}
use Rattle.std.proofs.lemmas.List.Folds.{flat_map-map}
use Rattle.std.specs.Prelude.{◌≡◌, ℕ, zero, suc, List, [], ◌∷◌, Bool, true, false, cond, ◌||◌, Option, None, Some, is_some, map, filter, sum_by, option_map}
use Rattle.std.specs.List.{find, list_any, list_all, flat_map, fold}
use Rattle.std.specs.Option.{option_map_or}
use Rattle.std.proofs.lemmas.List.Concat.{flat_map-cons}
use Rattle.std.proofs.lemmas.List.Sums.{sum_by-cons}
use Rattle.sc_value.specs.Lists.{change_first, remove_first, change_nth}

-- either branch is changed alike
pub if-maps : {A B : Type 0} (g : A → B) (b : Bool) {x y : A} {u v : B} → u ≡ g x → v ≡ g y → cond b u v ≡ g (cond b x y)
if-maps g true p q = p
if-maps g false p q = q

pub is_some-maps : {A B : Type 0} (g : A → B) (o : Option A) → is_some (option_map g o) ≡ is_some o
is_some-maps g None = refl
is_some-maps g (Some x) = refl

pub option_map_or-maps : {A B C : Type 0} (g : A → B) (p : B → C) (o : Option A) (d : C) → option_map_or p (option_map g o) d ≡ option_map_or (λ a. p (g a)) o d
option_map_or-maps g p None d = refl
option_map_or-maps g p (Some x) d = refl

pub map-maps : {A B C : Type 0} (g : A → B) (h : B → C) (xs : List A) → map h (map g xs) ≡ map (λ a. h (g a)) xs
map-maps g h [] = refl
map-maps g h (x ∷ xs) = ap (λ ys. h (g x) ∷ ys) (map-maps g h xs)

pub list_any-maps : {A B : Type 0} (g : A → B) (p : B → Bool) (xs : List A) → list_any p (map g xs) ≡ list_any (λ a. p (g a)) xs
list_any-maps g p [] = refl
list_any-maps g p (x ∷ xs) = ap (λ b. p (g x) || b) (list_any-maps g p xs)

pub list_all-maps : {A B : Type 0} (g : A → B) (p : B → Bool) (q : A → Bool) → ((a : A) → p (g a) ≡ q a) → (xs : List A) → list_all p (map g xs) ≡ list_all q xs
list_all-maps g p q same [] = refl
list_all-maps g p q same (x ∷ xs) = rw (same x, list_all-maps g p q same xs) refl

pub find-maps : {A B : Type 0} (g : A → B) (p : B → Bool) (xs : List A) → find p (map g xs) ≡ option_map g (find (λ a. p (g a)) xs)
find-maps g p [] = refl
find-maps g p (x ∷ xs) = if-maps (option_map g) (p (g x)) refl (find-maps g p xs)

-- tests and functions that agree on each item
pub filter-same : {A : Type 0} (p q : A → Bool) → ((a : A) → p a ≡ q a) → (xs : List A) → filter p xs ≡ filter q xs
filter-same p q same [] = refl
filter-same p q same (x ∷ xs) = rw (same x, filter-same p q same xs) refl

pub flat_map-same : {A C : Type 0} (h k : A → List C) → ((a : A) → h a ≡ k a) → (xs : List A) → flat_map h xs ≡ flat_map k xs
flat_map-same h k same [] = refl
flat_map-same h k same (x ∷ xs) = rw (flat_map-cons h x xs, flat_map-cons k x xs, same x, flat_map-same h k same xs) refl

pub flat_map-maps : {A B C : Type 0} (g : A → B) (h : B → List C) (k : A → List C) → ((a : A) → h (g a) ≡ k a) → (xs : List A) → flat_map h (map g xs) ≡ flat_map k xs
flat_map-maps g h k same xs = flat_map-map h g xs ∙ flat_map-same _ k same xs

pub sum_by-maps : {A B : Type 0} (g : A → B) (h : B → ℕ) (k : A → ℕ) → ((a : A) → h (g a) ≡ k a) → (xs : List A) → sum_by h (map g xs) ≡ sum_by k xs
sum_by-maps g h k same [] = refl
sum_by-maps g h k same (x ∷ xs) = rw (sum_by-cons h (g x) (map g xs), sum_by-cons k x xs, same x, sum_by-maps g h k same xs) refl

-- an item is changed, before or after all are
pub change_first-maps : {A B : Type 0} (g : A → B) (p : B → Bool) (change : B → B) (before : A → A) → ((a : A) → change (g a) ≡ g (before a))
    → (xs : List A) → change_first p change (map g xs) ≡ map g (change_first (λ a. p (g a)) before xs)
unfolding change_first
change_first-maps g p change before same [] = refl
change_first-maps g p change before same (x ∷ xs) =
    if-maps (map g) (p (g x)) (rw same refl) (ap (λ ys. g x ∷ ys) (change_first-maps g p change before same xs))

pub remove_first-maps : {A B : Type 0} (g : A → B) (p : B → Bool) (xs : List A) → remove_first p (map g xs) ≡ map g (remove_first (λ a. p (g a)) xs)
unfolding remove_first
remove_first-maps g p [] = refl
remove_first-maps g p (x ∷ xs) = if-maps (map g) (p (g x)) refl (ap (λ ys. g x ∷ ys) (remove_first-maps g p xs))

pub change_nth-maps : {A B : Type 0} (g : A → B) (place : ℕ) (change : B → B) (before : A → A) → ((a : A) → change (g a) ≡ g (before a))
    → (xs : List A) → change_nth place change (map g xs) ≡ map g (change_nth place before xs)
unfolding change_nth
change_nth-maps g place change before same [] = refl
change_nth-maps g zero change before same (x ∷ xs) = rw same refl
change_nth-maps g (suc place) change before same (x ∷ xs) = ap (λ ys. g x ∷ ys) (change_nth-maps g place change before same xs)

pub fold-maps : {A B C : Type 0} (g : A → B) (step : A → C → A) (other : B → C → B) → ((a : A) (c : C) → other (g a) c ≡ g (step a c))
    → (cs : List C) (a : A) → fold other (g a) cs ≡ g (fold step a cs)
fold-maps g step other same [] a = refl
fold-maps g step other same (c ∷ cs) a = rw (same a c) (fold-maps g step other same cs (step a c))
