-- Lists of which no two are the same, by a test.
use Rattle.std.proofs.Common.{◌≡◌, Some, ◌⊎◌, inl, inr, ◌++◌, Bool, true, false, List, [], ◌∷◌, refl, sym, ap, subst, ◌∙◌}
use Rattle.std.specs.Prelude.{◌||◌, cond, filter}
use Rattle.std.specs.List.{find, list_any}
use Rattle.sc_value.specs.Lists.{change_first}
use Rattle.sc_keyed.specs.Keyed.{AreApart, IsIn}

none-first : (a b : Bool) → (a || b) ≡ false → a ≡ false
none-first true b is = is
none-first false b is = refl

none-second : (a b : Bool) → (a || b) ≡ false → b ≡ false
none-second true b is = cc
none-second false b is = is

clash : (b : Bool) → b ≡ true → b ≡ false → ⊥
clash b p q = cc

none-of : (a b : Bool) → a ≡ false → b ≡ false → (a || b) ≡ false
none-of a b p q = rw (p, q) refl

-- ## What is in a list

pub none-in : {A : Type 0} (test : A → Bool) (xs : List A) (x : A) → list_any test xs ≡ false → IsIn x xs → test x ≡ false
unfolding IsIn
none-in test [] x none is = absurd is
none-in test (y ∷ xs) x none (inl same) = ap test same ∙ none-first (test y) (list_any test xs) none
none-in test (y ∷ xs) x none (inr later) = none-in test xs x (none-second (test y) (list_any test xs) none) later

in-either : {A : Type 0} (b : Bool) (x y : A) (xs ys : List A) → (IsIn x xs → IsIn x ys) → IsIn x (cond b (y ∷ xs) xs)
    → IsIn x (y ∷ ys)
unfolding IsIn
in-either true x y xs ys more (inl same) = inl same
in-either true x y xs ys more (inr later) = inr (more later)
in-either false x y xs ys more is = inr (more is)

pub in-filter : {A : Type 0} (test : A → Bool) (xs : List A) (x : A) → IsIn x (filter test xs) → IsIn x xs
unfolding IsIn
in-filter test [] x is = is
in-filter test (y ∷ xs) x is = in-either (test y) x y (filter test xs) xs (in-filter test xs x) is

-- ## What is apart

none-filter : {A : Type 0} (test kept : A → Bool) (xs : List A) → list_any test xs ≡ false → list_any test (filter kept xs) ≡ false
none-filter test kept [] none = none
none-filter test kept (x ∷ xs) none =
    by (kept x) (none-first (test x) (list_any test xs) none) (none-filter test kept xs (none-second (test x) (list_any test xs) none))
  where
    by : (b : Bool) → test x ≡ false → list_any test (filter kept xs) ≡ false → list_any test (cond b (x ∷ filter kept xs) (filter kept xs)) ≡ false
    by true one more = none-of (test x) (list_any test (filter kept xs)) one more
    by false one more = more

pub apart-filter : {A : Type 0} (same : A → A → Bool) (kept : A → Bool) (xs : List A) → AreApart same xs → AreApart same (filter kept xs)
unfolding AreApart
apart-filter same kept [] apart = tt
apart-filter {A = A} same kept (x ∷ xs) apart = by (kept x) (none-filter (same x) kept xs apart.0) (apart-filter same kept xs apart.1)
  where
    by : (b : Bool) → list_any (same x) (filter kept xs) ≡ false → AreApart same (filter kept xs) → AreApart same (cond b (x ∷ filter kept xs) (filter kept xs))
    by true none more = (none, more)
    by false none more = more

any-changed : {A : Type 0} (test first : A → Bool) (change : A → A) (xs : List A) → ((x : A) → test (change x) ≡ test x)
    → list_any test (change_first first change xs) ≡ list_any test xs
unfolding change_first
any-changed test first change [] same = refl
any-changed test first change (x ∷ xs) same = by (first x) (same x) (any-changed test first change xs same)
  where
    by : (b : Bool) → test (change x) ≡ test x → list_any test (change_first first change xs) ≡ list_any test xs
        → list_any test (cond b (change x ∷ xs) (x ∷ change_first first change xs)) ≡ (test x || list_any test xs)
    by true one more = rw one refl
    by false one more = rw more refl

-- a change that leaves what the test asks
pub apart-changed : {A : Type 0} (same : A → A → Bool) (first : A → Bool) (change : A → A) (xs : List A)
    → ((x y : A) → same x (change y) ≡ same x y) → ((x : A) → same (change x) ≡ same x) → AreApart same xs
    → AreApart same (change_first first change xs)
unfolding AreApart change_first
apart-changed same first change [] right left apart = tt
apart-changed {A = A} same first change (x ∷ xs) right left apart =
    by (first x) (left x) (any-changed (same x) first change xs (right x)) (apart-changed same first change xs right left apart.1) apart
  where
    by : (b : Bool) → same (change x) ≡ same x → list_any (same x) (change_first first change xs) ≡ list_any (same x) xs
        → AreApart same (change_first first change xs) → (list_any (same x) xs ≡ false) × AreApart same xs
        → AreApart same (cond b (change x ∷ xs) (x ∷ change_first first change xs))
    by true one any more apart = (ap (λ t. list_any t xs) one ∙ apart.0, apart.1)
    by false one any more apart = (any ∙ apart.0, more)

-- ## The first is changed

-- what is in the list is the one that was changed, or another
pub in-changed : {A : Type 0} (same : A → A → Bool) (test : A → Bool) (change : A → A) (xs : List A) (x : A)
    → ((y : A) → test y ≡ true → same y ≡ test) → AreApart same xs → IsIn x (change_first test change xs)
    → ((y : A) × IsIn y xs × (x ≡ change y)) ⊎ (IsIn x xs × (test x ≡ false))
unfolding IsIn AreApart change_first
in-changed same test change [] x keys apart is = absurd is
in-changed {A = A} same test change (y ∷ xs) x keys apart is = by (test y) refl is (in-changed same test change xs x keys apart.1)
  where
    behind : ((z : A) × IsIn z xs × (x ≡ change z)) ⊎ (IsIn x xs × (test x ≡ false))
        → ((z : A) × IsIn z (y ∷ xs) × (x ≡ change z)) ⊎ (IsIn x (y ∷ xs) × (test x ≡ false))
    behind (inl one) = inl (one.0, inr one.1, one.2)
    behind (inr other) = inr (inr other.0, other.1)

    changed : (test y ≡ true) → IsIn x (change y ∷ xs)
        → ((z : A) × IsIn z (y ∷ xs) × (x ≡ change z)) ⊎ (IsIn x (y ∷ xs) × (test x ≡ false))
    changed at (inl same-x) = inl (y, inl refl, same-x)
    changed at (inr later) = inr (inr later, none-in test xs x (subst (λ t. list_any t xs ≡ false) (keys y at) apart.0) later)

    kept : (test y ≡ false) → IsIn x (y ∷ change_first test change xs)
        → (IsIn x (change_first test change xs) → ((z : A) × IsIn z xs × (x ≡ change z)) ⊎ (IsIn x xs × (test x ≡ false)))
        → ((z : A) × IsIn z (y ∷ xs) × (x ≡ change z)) ⊎ (IsIn x (y ∷ xs) × (test x ≡ false))
    kept at (inl same-x) more = inr (inl same-x, ap test same-x ∙ at)
    kept at (inr later) more = behind (more later)

    by : (b : Bool) → test y ≡ b → IsIn x (cond b (change y ∷ xs) (y ∷ change_first test change xs))
        → (IsIn x (change_first test change xs) → ((z : A) × IsIn z xs × (x ≡ change z)) ⊎ (IsIn x xs × (test x ≡ false)))
        → ((z : A) × IsIn z (y ∷ xs) × (x ≡ change z)) ⊎ (IsIn x (y ∷ xs) × (test x ≡ false))
    by true at is more = changed at is
    by false at is more = kept at is more

-- ## One more at the end

pub in-append : {A : Type 0} (xs : List A) (y x : A) → IsIn x (xs ++ y ∷ []) → IsIn x xs ⊎ (x ≡ y)
unfolding IsIn
in-append [] y x (inl same) = inr same
in-append [] y x (inr none) = absurd none
in-append (z ∷ xs) y x (inl same) = inl (inl same)
in-append {A = A} (z ∷ xs) y x (inr later) = by (in-append xs y x later)
  where
    by : IsIn x xs ⊎ (x ≡ y) → IsIn x (z ∷ xs) ⊎ (x ≡ y)
    by (inl old) = inl (inr old)
    by (inr same) = inr same

none-append : {A : Type 0} (test : A → Bool) (xs : List A) (y : A) → list_any test xs ≡ false → test y ≡ false
    → list_any test (xs ++ y ∷ []) ≡ false
none-append test [] y none last = rw last refl
none-append test (x ∷ xs) y none last = none-of (test x) _ (none-first (test x) (list_any test xs) none) (none-append test xs y (none-second (test x) (list_any test xs) none) last)

pub apart-append : {A : Type 0} (same : A → A → Bool) (xs : List A) (y : A) → AreApart same xs → ((x : A) → IsIn x xs → same x y ≡ false)
    → AreApart same (xs ++ y ∷ [])
unfolding AreApart IsIn
apart-append same [] y apart new = (refl, tt)
apart-append same (x ∷ xs) y apart new =
    (none-append (same x) xs y apart.0 (new x (inl refl)), apart-append same xs y apart.1 (λ z within. new z (inr within)))

-- two that are the same are one
pub one-of : {A : Type 0} (same : A → A → Bool) (xs : List A) (x y : A) → AreApart same xs → IsIn x xs → IsIn y xs → same x y ≡ true
    → same y x ≡ true → x ≡ y
unfolding AreApart IsIn
one-of same [] x y apart in-x in-y there back = absurd in-x
one-of same (z ∷ xs) x y apart (inl x-is) (inl y-is) there back = x-is ∙ sym y-is
one-of same (z ∷ xs) x y apart (inl x-is) (inr later) there back =
    absurd (clash (same x y) there (none-in (same x) xs y (subst (λ w. list_any (same w) xs ≡ false) (sym x-is) apart.0) later))
one-of same (z ∷ xs) x y apart (inr later) (inl y-is) there back =
    absurd (clash (same y x) back (none-in (same y) xs x (subst (λ w. list_any (same w) xs ≡ false) (sym y-is) apart.0) later))
one-of same (z ∷ xs) x y apart (inr in-x) (inr in-y) there back = one-of same xs x y apart.1 in-x in-y there back

-- ## What is changed, and what is found

pub in-change : {A : Type 0} (test : A → Bool) (change : A → A) (xs : List A) (x : A) → IsIn x (change_first test change xs)
    → (y : A) × IsIn y xs × ((x ≡ change y) ⊎ (x ≡ y))
unfolding IsIn change_first
in-change test change [] x is = absurd is
in-change {A = A} test change (z ∷ xs) x is = by (test z) is (in-change test change xs x)
  where
    behind : (y : A) × IsIn y xs × ((x ≡ change y) ⊎ (x ≡ y)) → (y : A) × IsIn y (z ∷ xs) × ((x ≡ change y) ⊎ (x ≡ y))
    behind one = (one.0, inr one.1, one.2)

    kept : IsIn x (z ∷ change_first test change xs) → (IsIn x (change_first test change xs) → (y : A) × IsIn y xs × ((x ≡ change y) ⊎ (x ≡ y)))
        → (y : A) × IsIn y (z ∷ xs) × ((x ≡ change y) ⊎ (x ≡ y))
    kept (inl same) more = (z, inl refl, inr same)
    kept (inr later) more = behind (more later)

    changed : IsIn x (change z ∷ xs) → (y : A) × IsIn y (z ∷ xs) × ((x ≡ change y) ⊎ (x ≡ y))
    changed (inl same) = (z, inl refl, inl same)
    changed (inr later) = (x, inr later, inr refl)

    by : (b : Bool) → IsIn x (cond b (change z ∷ xs) (z ∷ change_first test change xs))
        → (IsIn x (change_first test change xs) → (y : A) × IsIn y xs × ((x ≡ change y) ⊎ (x ≡ y)))
        → (y : A) × IsIn y (z ∷ xs) × ((x ≡ change y) ⊎ (x ≡ y))
    by true is more = changed is
    by false is more = kept is more

pub found-in : {A : Type 0} (test : A → Bool) (xs : List A) (x : A) → find test xs ≡ Some x → IsIn x xs
unfolding IsIn
found-in test [] x is = cc
found-in {A = A} test (y ∷ xs) x is = by (test y) is (found-in test xs x)
  where
    same : (y : A) → Some y ≡ Some x → x ≡ y
    same y is = cc

    by : (b : Bool) → cond b (Some y) (find test xs) ≡ Some x → (find test xs ≡ Some x → IsIn x xs) → IsIn x (y ∷ xs)
    by true is more = inl (same y is)
    by false is more = inr (more is)
