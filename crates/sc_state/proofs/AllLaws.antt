-- Lists of which all pass a test.
use Rattle.std.proofs.Common.{◌≡◌, Bool, true, false, not, cond, ◌&&◌, ◌||◌, T, List, [], ◌∷◌, ◌++◌, Some, is_some, refl, ap, sym, subst, ◌∙◌}
use Rattle.std.specs.List.{filter, find, list_any, list_all}
use Rattle.sc_value.specs.Lists.{change_first, remove_first}

left : (a b : Bool) → (a && b) ≡ true → a ≡ true
left true b e = refl
left false b e = absurd (subst T (sym e) tt)

right : (a b : Bool) → (a && b) ≡ true → b ≡ true
right true b e = e
right false b e = absurd (subst T (sym e) tt)

pub found_any : {X : Type 0} (p : X → Bool) (xs : List X) → is_some (find p xs) ≡ list_any p xs
found_any p [] = refl
found_any p (x ∷ xs) = elim (p x) as (λ b. is_some (cond b (Some x) (find p xs)) ≡ (b || list_any p xs)) [ true ↦ refl | false ↦ found_any p xs ]

pub filter_all : {X : Type 0} (test : X → Bool) (xs : List X) → list_all test xs ≡ true → filter test xs ≡ xs
filter_all test [] h = refl
filter_all test (x ∷ xs) h =
    ap (λ b. cond b (x ∷ filter test xs) (filter test xs)) (left (test x) (list_all test xs) h) ∙ ap (λ l. x ∷ l) (filter_all test xs (right (test x) (list_all test xs) h))

pub all_filter : {X : Type 0} (test : X → Bool) (xs : List X) → list_all test (filter test xs) ≡ true
all_filter test [] = refl
all_filter test (x ∷ xs) =
    elim (test x) as (λ b. test x ≡ b → list_all test (cond b (x ∷ filter test xs) (filter test xs)) ≡ true) [
      | true ↦ λ t. ap (λ b. b && list_all test (filter test xs)) t ∙ all_filter test xs
      | false ↦ λ _. all_filter test xs
    ] refl

pub all_pushed : {X : Type 0} (test : X → Bool) (x : X) (xs : List X) → list_all test xs ≡ true → test x ≡ true → list_all test (xs ++ x ∷ []) ≡ true
all_pushed test x [] h is = ap (λ b. b && true) is
all_pushed test x (y ∷ ys) h is = ap (λ b. b && list_all test (ys ++ x ∷ [])) (left (test y) (list_all test ys) h) ∙ all_pushed test x ys (right (test y) (list_all test ys) h) is

-- a test that is weaker passes too
pub all_weaker : {X : Type 0} (p q : X → Bool) → ((x : X) → p x ≡ true → q x ≡ true) → (xs : List X) → list_all p xs ≡ true → list_all q xs ≡ true
all_weaker p q weaker [] h = refl
all_weaker p q weaker (x ∷ xs) h = ap (λ b. b && list_all q xs) (weaker x (left (p x) (list_all p xs) h)) ∙ all_weaker p q weaker xs (right (p x) (list_all p xs) h)

-- one is changed and passes: all pass
pub all_changed : {X : Type 0} (test p : X → Bool) (x : X) (xs : List X) → list_all test xs ≡ true → test x ≡ true → list_all test (change_first p (λ _. x) xs) ≡ true
unfolding change_first
all_changed test p x [] h good = refl
all_changed test p x (y ∷ ys) h good =
    elim (p y) as (λ b. list_all test (cond b (x ∷ ys) (y ∷ change_first p (λ _. x) ys)) ≡ true) [
      | true ↦ ap (λ b. b && list_all test ys) good ∙ right (test y) (list_all test ys) h
      | false ↦ ap (λ b. b && list_all test (change_first p (λ _. x) ys)) (left (test y) (list_all test ys) h) ∙ all_changed test p x ys (right (test y) (list_all test ys) h) good
    ]

-- one is changed and doesn't pass: what is kept is all without it
pub kept_without : {X : Type 0} (test p : X → Bool) (x : X) (xs : List X) → list_all test xs ≡ true → test x ≡ false → filter test (change_first p (λ _. x) xs) ≡ remove_first p xs
unfolding change_first remove_first
kept_without test p x [] h bad = refl
kept_without test p x (y ∷ ys) h bad =
    elim (p y) as (λ b. filter test (cond b (x ∷ ys) (y ∷ change_first p (λ _. x) ys)) ≡ cond b ys (y ∷ remove_first p ys)) [
      | true ↦ ap (λ b. cond b (x ∷ filter test ys) (filter test ys)) bad ∙ filter_all test ys (right (test y) (list_all test ys) h)
      | false ↦ ap (λ b. cond b (y ∷ filter test (change_first p (λ _. x) ys)) (filter test (change_first p (λ _. x) ys))) (left (test y) (list_all test ys) h) ∙ ap (λ l. y ∷ l) (kept_without test p x ys (right (test y) (list_all test ys) h) bad)
    ]

-- all but those of a group pass: what is kept is told by the group alone
pub kept_outside : {X : Type 0} (own test : X → Bool) (xs : List X) → list_all (λ x. own x || test x) xs ≡ true → filter test xs ≡ filter (λ x. not (own x) || test x) xs
kept_outside own test [] h = refl
kept_outside {X} own test (x ∷ xs) h =
    let rest = kept_outside own test xs (right (own x || test x) (list_all (λ y. own y || test y) xs) h) in
    ap (λ b. cond b (x ∷ filter test xs) (filter test xs)) (by (own x) (test x) (left (own x || test x) (list_all (λ y. own y || test y) xs) h))
    ∙ ap (λ l. cond (not (own x) || test x) (x ∷ l) l) rest
  where
    by : (a b : Bool) → (a || b) ≡ true → b ≡ (not a || b)
    by true b e = refl
    by false b e = e

-- one more may pass
pub any_pushed : {X : Type 0} (p : X → Bool) (x : X) (xs : List X) → list_any p xs ≡ true → list_any p (xs ++ x ∷ []) ≡ true
any_pushed p x [] h = absurd (subst T (sym h) tt)
any_pushed p x (y ∷ ys) h = elim (p y) as (λ b. (b || list_any p ys) ≡ true → (b || list_any p (ys ++ x ∷ [])) ≡ true) [
  | true ↦ λ _. refl
  | false ↦ λ e. any_pushed p x ys e
] h
