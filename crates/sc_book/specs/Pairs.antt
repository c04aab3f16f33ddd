-- Pairs of a number and the place of an item that has it. This project's own.
use Rattle.std.specs.Prelude.{◌≡◌, ◌==◌, ◌||◌, ℕ, Bool, true, false, List, Option}
use Rattle.std.specs.declared.cmp.Ordering.{Ordering}
use Rattle.std.specs.declared.option.Option.TheVariants.{None, Some}
use Rattle.std.specs.List.{list_any}
use Rattle.std.specs.Ordering.{nat_cmp, ordering_then}
use Rattle.std.specs.BTreeMap.{is_at}
use Rattle.sc_book.specs.Words.{in_groups}

-- a number, and the place of an item that has it
abbrev pub Pairs : Type 0
Pairs = List (ℕ × ℕ)

-- pairs by the number, then by the place
abbrev pub pair_cmp : ℕ × ℕ → ℕ × ℕ → Ordering
pair_cmp x y = ordering_then (nat_cmp x.0 y.0) (nat_cmp x.1 y.1)

-- whether a pair is among these
abbrev pub has_pair : Pairs → ℕ → ℕ → Bool
has_pair pairs v p = list_any (is_at (pair_cmp (v, p))) pairs

-- whether this is the number, where there is one
abbrev pub is_number : Option ℕ → ℕ → Bool
is_number None v = false
is_number (Some m) v = m == v

-- the same, where there are two
abbrev pub is_group : Option (ℕ × ℕ) → ℕ → Bool
is_group None v = false
is_group (Some groups) v = in_groups groups v

-- the pairs of the one are among those of the other
pub record Grown (ks ls : Pairs) : Type 0 where
  pub grown : (v p : ℕ) → has_pair ks v p ≡ true → has_pair ls v p ≡ true

-- the numbers that pass have their pairs with this place
pub record HasOwn (own : ℕ → Bool) (place : ℕ) (ks : Pairs) : Type 0 where
  pub has : (v : ℕ) → own v ≡ true → has_pair ks v place ≡ true

-- the numbers that pass are old ones, or have their pairs with this place
pub record HasOr (old own : ℕ → Bool) (place : ℕ) (ks : Pairs) : Type 0 where
  pub has : (v : ℕ) → own v ≡ true → (old v || has_pair ks v place) ≡ true

-- the pairs of the one are among those of the other, but for numbers of this place that don't pass
pub record KeptBut (own : ℕ → Bool) (place : ℕ) (ks ls : Pairs) : Type 0 where
  pub kept : (v p : ℕ) → has_pair ks v p ≡ true → (p ≡ place → own v ≡ true)
      → has_pair ls v p ≡ true
