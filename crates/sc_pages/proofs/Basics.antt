-- Small facts on tests and lists.
use Rattle.std.proofs.Common.{◌≡◌, ◌<◌, ◌≤◌, ◌==◌, ◌&&◌, ◌||◌, ℕ, Bool, true, false, not, cond, T, List, [], ◌∷◌, ◌++◌, nat_lt, refl, ap, sym, subst, ◌∙◌, arith, map, Some}
use Rattle.std.specs.List.{filter}
use Rattle.std.specs.List.{AllByRecursion, find, list_all, list_any}
use Rattle.std.proofs.lemmas.Bool.Decides.{nat_tests}

pub false_true : false ≡ true → ⊥
false_true e = subst T (sym e) tt

pub left : (a b : Bool) → (a && b) ≡ true → a ≡ true
left true b e = refl
left false b e = absurd (false_true e)

pub right : (a b : Bool) → (a && b) ≡ true → b ≡ true
right true b e = e
right false b e = absurd (false_true e)

pub neither : (a b : Bool) → (a || b) ≡ false → (a ≡ false) × (b ≡ false)
neither true b e = absurd (false_true (sym e))
neither false b e = (refl, e)

pub not_false : (a : Bool) → not a ≡ false → a ≡ true
not_false true e = refl
not_false false e = absurd (false_true (sym e))

pub not_true : (a : Bool) → not a ≡ true → a ≡ false
not_true true e = absurd (false_true e)
not_true false e = refl

pub below : (a b : ℕ) → nat_lt a b ≡ true → a < b
below a b e = grind (arith, nat_tests, e)

pub at_least : (a b : ℕ) → nat_lt a b ≡ false → b ≤ a
at_least a b e = grind (arith, nat_tests, e)

pub equal : (a b : ℕ) → (a == b) ≡ true → a ≡ b
equal a b e = grind (arith, nat_tests, e)

pub equal_test : (a b : ℕ) → a ≡ b → (a == b) ≡ true
equal_test a b e = grind (arith, nat_tests, e)

pub lower_test : (a b : ℕ) → a < b → (a == b) ≡ false
lower_test a b lt = grind (arith, nat_tests, lt)

pub higher_test : (a b : ℕ) → b < a → (a == b) ≡ false
higher_test a b lt = grind (arith, nat_tests, lt)

pub below_test : (a b : ℕ) → a < b → nat_lt a b ≡ true
below_test a b lt = grind (arith, nat_tests, lt)

pub at_least_test : (a b : ℕ) → b ≤ a → nat_lt a b ≡ false
at_least_test a b le = grind (arith, nat_tests, le)

pub then : (a b c : ℕ) → a ≤ b → b ≤ c → a ≤ c
then a b c p q = omega (arith, p, q)

pub same_less : (a b c : ℕ) → a ≡ b → b < c → a < c
same_less a b c p q = omega (arith, p, q)

pub squeezed : (a b c : ℕ) → a ≡ b → a ≤ c → c ≤ b → b ≡ c
squeezed a b c p q r = omega (arith, p, q, r)

pub each_more : {A : Type 0} (P Q : A → Type 0) → ((x : A) → P x → Q x) → (xs : List A) → AllByRecursion P xs → AllByRecursion Q xs
each_more P Q more [] all = tt
each_more P Q more (x ∷ xs) all = (more x all.0, each_more P Q more xs all.1)

-- a test that passes nowhere finds nothing
pub any_none : {A : Type 0} (p : A → Bool) (xs : List A) → AllByRecursion (λ x. p x ≡ false) xs → list_any p xs ≡ false
any_none p [] all = refl
any_none p (x ∷ xs) all = ap (λ b. b || list_any p xs) all.0 ∙ any_none p xs all.1

pub none_any : {A : Type 0} (p : A → Bool) (xs : List A) → list_any p xs ≡ false → AllByRecursion (λ x. p x ≡ false) xs
none_any p [] e = tt
none_any p (x ∷ xs) e = let parts = neither (p x) (list_any p xs) e in (parts.0, none_any p xs parts.1)

pub find_none : {A : Type 0} (p : A → Bool) (xs : List A) → AllByRecursion (λ x. p x ≡ false) xs → (ys : List A) → find p (xs ++ ys) ≡ find p ys
find_none p [] all ys = refl
find_none p (x ∷ xs) all ys = ap (λ b. cond b (Some x) (find p (xs ++ ys))) all.0 ∙ find_none p xs all.1 ys

-- a filter that all pass
pub filter_all : {A : Type 0} (p : A → Bool) (xs : List A) → AllByRecursion (λ x. p x ≡ true) xs → filter p xs ≡ xs
filter_all p [] all = refl
filter_all p (x ∷ xs) all = ap (λ b. cond b (x ∷ filter p xs) (filter p xs)) all.0 ∙ ap (λ l. x ∷ l) (filter_all p xs all.1)

pub filter_append : {A : Type 0} (p : A → Bool) (xs ys : List A) → filter p (xs ++ ys) ≡ filter p xs ++ filter p ys
filter_append p [] ys = refl
filter_append p (x ∷ xs) ys = by (p x) (filter_append p xs ys)
  where
    by : (b : Bool) → filter p (xs ++ ys) ≡ filter p xs ++ filter p ys → cond b (x ∷ filter p (xs ++ ys)) (filter p (xs ++ ys)) ≡ cond b (x ∷ filter p xs) (filter p xs) ++ filter p ys
    by true later = ap (λ l. x ∷ l) later
    by false later = later

pub map_append : {A : Type 0} (f : A → A) (xs ys : List A) → map f (xs ++ ys) ≡ map f xs ++ map f ys
map_append f [] ys = refl
map_append f (x ∷ xs) ys = ap (λ l. f x ∷ l) (map_append f xs ys)

pub assoc : {A : Type 0} (a b c : List A) → a ++ (b ++ c) ≡ (a ++ b) ++ c
assoc [] b c = refl
assoc (x ∷ xs) b c = ap (λ l. x ∷ l) (assoc xs b c)

pub all_true : {A : Type 0} (p : A → Bool) (xs : List A) → list_all p xs ≡ true → AllByRecursion (λ x. p x ≡ true) xs
all_true p [] e = tt
all_true p (x ∷ xs) e = (left (p x) (list_all p xs) e, all_true p xs (right (p x) (list_all p xs) e))
