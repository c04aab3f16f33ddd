-- What the outline of a page tells of its items.
use Rattle.std.proofs.Common.{◌≡◌, ◌+◌, ◌<◌, ◌≤◌, ◌==◌, ◌&&◌, ℕ, Bool, true, false, cond, List, [], ◌∷◌, nat_lt, refl, ap, ◌∙◌, arith, Some}
use Rattle.std.specs.List.{AllByRecursion, find, fold, list_all}
use Rattle.std.specs.Option.{option_map_or}
use Rattle.std.proofs.lemmas.Bool.Decides.{nat_tests}
use Rattle.sc_pages.specs.declared.outline.Outline.{Outline}
use Rattle.sc_pages.specs.Outlines.{alone, higher, lower, outline_of, widened}
use Rattle.sc_pages.specs.Runs.{rests_at}
use Rattle.sc_pages.proofs.Basics.{at_least, below, equal, equal_test, false_true, left, lower_test, right, same_less, squeezed, then}

lower_than : (a b : ℕ) → (lower a b ≤ a) × (lower a b ≤ b)
lower_than a b = by (nat_lt b a) refl
  where
    by : (t : Bool) → nat_lt b a ≡ t → (cond t b a ≤ a) × (cond t b a ≤ b)
    by true e = (omega (arith, below b a e), omega arith)
    by false e = (omega arith, grind (arith, nat_tests, e))

higher_than : (a b : ℕ) → (a ≤ higher a b) × (b ≤ higher a b)
higher_than a b = by (nat_lt a b) refl
  where
    by : (t : Bool) → nat_lt a b ≡ t → (a ≤ cond t b a) × (b ≤ cond t b a)
    by true e = (omega (arith, below a b e), omega arith)
    by false e = (omega arith, grind (arith, nat_tests, e))

higher_is : (a b : ℕ) → a < b → higher a b ≡ b
higher_is a b lt = grind (arith, nat_tests, lt)

lower_is : (a b : ℕ) → a < b → lower a b ≡ a
lower_is a b lt = grind (arith, nat_tests, lt)

-- all numbers are within those of the outline
abbrev pub AreWithin : {A : Type 0} → (A → ℕ) → Outline → List A → Type 0
AreWithin number outline items = AllByRecursion (λ x. (outline.least ≤ number x) × (number x ≤ outline.most)) items

module _ {A : Type 0} (number : A → ℕ) (rests : A → Bool) where
  abbrev spread : Outline → List A → Outline
  spread outline items = fold (widened number rests) outline items

  record Spreads (outline : Outline) (items : List A) : Type 0 where
    down : (spread outline items).least ≤ outline.least
    up : outline.most ≤ (spread outline items).most
    within : AreWithin number (spread outline items) items

  spreads : (outline : Outline) (items : List A) → Spreads outline items
  unfolding widened
  spreads outline [] = record { down = omega arith; up = omega arith; within = tt }
  spreads outline (x ∷ xs) =
      let rest = spreads (widened number rests outline x) xs in
      let low = lower_than outline.least (number x) in
      let high = higher_than outline.most (number x) in
      record {
        down = then _ _ _ rest.down low.0;
        up = then _ _ _ high.0 rest.up;
        within = ((then _ _ _ rest.down low.1, then _ _ _ high.1 rest.up), rest.within);
      }

  pub all_within : (items : List A) → AreWithin number (outline_of number rests items) items
  unfolding outline_of alone
  all_within [] = tt
  all_within (x ∷ xs) = let s = spreads (alone number rests x) xs in ((s.down, s.up), s.within)

  -- all rest where the outline says so
  spread_rests : (outline : Outline) (items : List A) → (spread outline items).rests ≡ true → (outline.rests ≡ true) × AllByRecursion (λ x. rests x ≡ true) items
  unfolding widened
  spread_rests outline [] e = (e, tt)
  spread_rests outline (x ∷ xs) e =
      let rest = spread_rests (widened number rests outline x) xs e in
      (left outline.rests (rests x) rest.0, (right outline.rests (rests x) rest.0, rest.1))

  pub all_rest : (items : List A) → (outline_of number rests items).rests ≡ true → AllByRecursion (λ x. rests x ≡ true) items
  unfolding outline_of alone
  all_rest [] e = tt
  all_rest (x ∷ xs) e = spread_rests (alone number rests x) xs e

  -- each number is there where the outline says that none is wanting
  record Filled (outline : Outline) (items : List A) : Type 0 where
    least : (spread outline items).least ≡ outline.least
    each : (n : ℕ) → outline.most < n → n ≤ (spread outline items).most → rests_at number rests n items ≡ true
    was : outline.dense ≡ true

  filled : (outline : Outline) (items : List A) → outline.least ≤ outline.most → (spread outline items).dense ≡ true → AllByRecursion (λ x. rests x ≡ true) items → Filled outline items
  unfolding widened
  filled outline [] le dense all = record { least = refl; each = λ n lt in_range. absurd (omega (arith, lt, in_range)); was = dense }
  filled outline (x ∷ xs) le dense all =
      let next = widened number rests outline x in
      let rest = filled next xs (then _ _ _ (lower_than outline.least (number x)).0 (then _ _ _ le (higher_than outline.most (number x)).0)) dense all.1 in
      let is : number x ≡ outline.most + 1 = equal (number x) (outline.most + 1) (right outline.dense (number x == outline.most + 1) rest.was) in
      record {
        least = rest.least ∙ lower_is outline.least (number x) (omega (arith, is, le));
        each = λ n lt in_range. found n lt in_range is rest.each (higher_is outline.most (number x) (omega (arith, is)));
        was = left outline.dense (number x == outline.most + 1) rest.was;
      }
    where
      found : (n : ℕ) → outline.most < n → n ≤ (spread outline (x ∷ xs)).most → number x ≡ outline.most + 1 → ((m : ℕ) → higher outline.most (number x) < m → m ≤ (spread outline (x ∷ xs)).most → rests_at number rests m xs ≡ true)
          → higher outline.most (number x) ≡ number x → rests_at number rests n (x ∷ xs) ≡ true
      found n lt in_range is later high = by (nat_lt (number x) n) refl
        where
          by : (b : Bool) → nat_lt (number x) n ≡ b → rests_at number rests n (x ∷ xs) ≡ true
          by true more =
              let above : number x < n = below (number x) n more in
              ap (λ b. option_map_or rests (cond b (Some x) (find (λ y. number y == n) xs)) false) (lower_test (number x) n above)
              ∙ later n (same_less _ _ _ high above) in_range
          by false same =
              let here : number x ≡ n = omega (arith, at_least (number x) n same, is, lt) in
              ap (λ b. option_map_or rests (cond b (Some x) (find (λ y. number y == n) xs)) false) (equal_test (number x) n here)
              ∙ all.0

  pub all_there : (items : List A) → (outline_of number rests items).dense ≡ true → (outline_of number rests items).rests ≡ true
      → (n : ℕ) → (outline_of number rests items).least ≤ n → n ≤ (outline_of number rests items).most → rests_at number rests n items ≡ true
  unfolding outline_of alone
  all_there [] dense rest n low high = absurd (false_true dense)
  all_there (x ∷ xs) dense rest n low high =
      let rested = spread_rests (alone number rests x) xs rest in
      by rested.0 (filled (alone number rests x) xs (omega arith) dense rested.1)
    where
      by : rests x ≡ true → Filled (alone number rests x) xs → rests_at number rests n (x ∷ xs) ≡ true
      by here more = on (nat_lt (number x) n) refl
        where
          on : (b : Bool) → nat_lt (number x) n ≡ b → rests_at number rests n (x ∷ xs) ≡ true
          on true e =
              let above : number x < n = below (number x) n e in
              ap (λ b. option_map_or rests (cond b (Some x) (find (λ y. number y == n) xs)) false) (lower_test (number x) n above) ∙ more.each n above high
          on false e =
              let same : number x ≡ n = squeezed _ _ _ more.least low (at_least (number x) n e) in
              ap (λ b. option_map_or rests (cond b (Some x) (find (λ y. number y == n) xs)) false) (equal_test (number x) n same) ∙ here

all_of : {A : Type 0} (p : A → Bool) (items : List A) → AllByRecursion (λ x. p x ≡ true) items → list_all p items ≡ true
all_of p [] all = refl
all_of p (x ∷ xs) all = ap (λ b. b && list_all p xs) all.0 ∙ all_of p xs all.1

pub page_rests : {A : Type 0} (number : A → ℕ) (rests : A → Bool) (items : List A) → (outline_of number rests items).rests ≡ true → list_all rests items ≡ true
page_rests number rests items is = all_of rests items (all_rest number rests items is)
