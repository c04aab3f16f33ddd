-- There is a best response exactly where there is a response.
use Rattle.std.proofs.Common.{◌≡◌, ℕ, suc, ◌+◌, ◌<◌, not, if◌then◌else◌, List, [], ◌∷◌, Bool, true, false, ◌&&◌, ◌||◌, ◌==◌, Option, None, Some, is_some, is_none, cond, length, refl, sym, ◌∙◌, nat_le, nat_lt, arith}
use Rattle.std.specs.List.{list_all, list_any, position, position_or_len}
use Rattle.std.proofs.lemmas.Bool.Decides.{nat_tests}
use Rattle.std.specs.Option.{option_or, IfSome}
use Rattle.sc_value.specs.declared.message.Response.{Response}
use Rattle.sc_model.specs.BestResponses.{class_of, is_global, is_lowest, best_of}

both : {a b : Bool} → a ≡ true → b ≡ true → (a && b) ≡ true
both p q = rw (p, q) refl

first_part : (a b : Bool) → (a && b) ≡ true → a ≡ true
first_part true b e = refl
first_part false b e = cc

second_part : (a b : Bool) → (a && b) ≡ true → b ≡ true
second_part true b e = e
second_part false b e = cc

some_one : (a b : Bool) → b ≡ true → (a || b) ≡ true
some_one true b e = refl
some_one false b e = e

some_first : (a b : Bool) → a ≡ true → (a || b) ≡ true
some_first a b e = rw e refl

below_next : (a b c : ℕ) → nat_le a b ≡ true → nat_le b c ≡ true → nat_le a c ≡ true
below_next a b c p q = grind (arith, nat_tests)

same_class : (a : ℕ) → nat_le a a ≡ true
same_class a = grind (arith, nat_tests)

other_class : (a b : ℕ) → nat_le a b ≡ false → nat_le b a ≡ true
other_class a b e = grind (arith, nat_tests)

-- a lower class is below all that another is below
below_all : (a b : ℕ) (list : List Response) → nat_le a b ≡ true → list_all (λ other. nat_le b (class_of other)) list ≡ true → list_all (λ other. nat_le a (class_of other)) list ≡ true
below_all a b [] le all = refl
below_all a b (other ∷ list) le all =
    both (below_next a b (class_of other) le (first_part _ _ all)) (below_all a b list le (second_part (nat_le b (class_of other)) _ all))

-- some response of a list has the lowest class
Lowest : List Response → Type 0
Lowest list = (m : Response) × (list_all (λ other. nat_le (class_of m) (class_of other)) list ≡ true) × ((test : Response → Bool) → test m ≡ true → list_any test list ≡ true)

lowest_in : (first : Response) (list : List Response) → Lowest (first ∷ list)
unfolding Lowest
lowest_in first [] = (first, both (same_class (class_of first)) refl, λ (test : Response → Bool) e. some_first (test first) false e)
lowest_in first (second ∷ list) = with_first (lowest_in second list)
  where
    by_class : (rest : Lowest (second ∷ list)) (lower : Bool) → nat_le (class_of first) (class_of rest.0) ≡ lower → Lowest (first ∷ second ∷ list)
    by_class rest true e = (first, both (same_class (class_of first)) (below_all (class_of first) (class_of rest.0) (second ∷ list) e rest.1), λ (test : Response → Bool) p. some_first (test first) (list_any test (second ∷ list)) p)
    by_class rest false e = (rest.0, both (other_class (class_of first) (class_of rest.0) e) rest.1, λ (test : Response → Bool) p. some_one (test first) (list_any test (second ∷ list)) (rest.2 test p))

    with_first : Lowest (second ∷ list) → Lowest (first ∷ second ∷ list)
    with_first rest = by_class rest (nat_le (class_of first) (class_of rest.0)) refl

-- a place that passes is found
next_place : (passes : Bool) (any : Bool) (place long : ℕ) → (any ≡ true → nat_lt place long ≡ true) → (passes || any) ≡ true → nat_lt (cond (not passes) (1 + place) 0) (suc long) ≡ true
next_place true any place long later e = grind (arith, nat_tests)
next_place false any place long later e =
    let below : nat_lt place long ≡ true = later e in
    grind (arith, nat_tests)

place_below : {X : Type 0} (test : X → Bool) (list : List X) → list_any test list ≡ true → nat_lt (position_or_len test list) (length list) ≡ true
place_below test [] e = cc
place_below test (x ∷ list) e = next_place (test x) (list_any test list) (position_or_len test list) (length list) (place_below test list) e

is_some-position : {X : Type 0} (test : X → Bool) (list : List X) → list_any test list ≡ true → is_some (position test list) ≡ true
is_some-position test list e = rw (place_below test list e) refl

some_choice : (first second : Option ℕ) → is_some second ≡ true → is_none (option_or first second) ≡ false
some_choice None (Some place) e = refl
some_choice None None e = cc
some_choice (Some place) second e = refl

more_than_none : (n : ℕ) → (suc n == 0) ≡ false
more_than_none n = grind (arith, nat_tests)

-- there is a best place exactly where there is a response
pub is_none-best_of : (list : List Response) → is_none (best_of list) ≡ (length list == 0)
unfolding best_of is_lowest Lowest
is_none-best_of [] = refl
is_none-best_of (first ∷ list) =
    let lowest : Lowest (first ∷ list) = lowest_in first list in
    some_choice (position is_global (first ∷ list)) (position (is_lowest (first ∷ list)) (first ∷ list)) (is_some-position (is_lowest (first ∷ list)) (first ∷ list) (lowest.2 (is_lowest (first ∷ list)) lowest.1)) ∙ sym (more_than_none (length list))

below_length : (found : Bool) (n long place : ℕ) → nat_lt n long ≡ found → (if found then Some n else None) ≡ Some place → place < long
below_length true n long place below e = grind (arith, nat_tests)
below_length false n long place below e = cc

place_found : {X : Type 0} (test : X → Bool) (list : List X) (place : ℕ) → position test list ≡ Some place → place < length list
place_found test list place e = below_length (nat_lt (position_or_len test list) (length list)) (position_or_len test list) (length list) place refl e

choice_below : (first second : Option ℕ) (long place : ℕ) → (first ≡ Some place → place < long) → (second ≡ Some place → place < long) → option_or first second ≡ Some place → place < long
choice_below None second long place p q e = q e
choice_below (Some first) second long place p q e = p e

-- it is a place of the list
pub best_of-below : (list : List Response) (place : ℕ) → best_of list ≡ Some place → place < length list
unfolding best_of
best_of-below list place e = choice_below (position is_global list) (position (is_lowest list) list) (length list) place (place_found is_global list place) (place_found (is_lowest list) list place) e

pub IfSome-best_of : (list : List Response) → IfSome (best_of list) (λ place. place < length list)
IfSome-best_of list = if_found (best_of list) (best_of-below list)
  where
    if_found : (found : Option ℕ) → ((place : ℕ) → found ≡ Some place → place < length list) → IfSome found (λ place. place < length list)
    if_found None below = tt
    if_found (Some place) below = below place refl
