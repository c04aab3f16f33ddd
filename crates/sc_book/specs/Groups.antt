-- The groups of what was changed. This project's own.
use Rattle.std.specs.Prelude.{⊤, ◌≡◌, ◌||◌, ℕ, true, List, [], ◌∷◌, Option}
use Rattle.std.specs.declared.option.Option.TheVariants.{None, Some}
use Rattle.std.specs.List.Sorted.{IsStrictlySortedBy}
use Rattle.std.specs.Map.{keys_of}
use Rattle.std.specs.Ordering.{nat_cmp}
use Rattle.std.specs.FinMap.Entries.{is_sorted}
use Rattle.sc_book.specs.Places.{Placed, passes_at}
use Rattle.sc_book.specs.Pairs.{Pairs, has_pair}
use Rattle.sc_book.specs.Words.{belongs}

-- the place of a change is among those of the groups of what was put there, or the base's item is
-- of them
abbrev pub IsFresh : {T : Type 0} → (T → ℕ × ℕ) → Placed T → ℕ → Option T → Pairs → Type 0
IsFresh group_of es p None pairs = ⊤
IsFresh group_of es p (Some x) pairs =
    (v : ℕ) → belongs group_of v x ≡ true
    → (passes_at (belongs group_of v) es p || has_pair pairs v p) ≡ true

-- so it is for each change
unfoldable pub AreFresh : {T : Type 0} → (T → ℕ × ℕ) → Placed T → List (ℕ × Option T) → Pairs
    → Type 0
AreFresh group_of es [] pairs = ⊤
AreFresh group_of es (c ∷ cs) pairs =
    IsFresh group_of es c.0 c.1 pairs × AreFresh group_of es cs pairs

-- the items of the base and the changes are in order, and the index has the groups of the changes
-- (it may have more)
pub record IsBook {T : Type 0} (group_of : T → ℕ × ℕ) (es : Placed T) (cs : List (ℕ × Option T))
    (pairs : Pairs) : Type 0 where
  pub sorted : is_sorted nat_cmp es ≡ true
  pub ordered : IsStrictlySortedBy nat_cmp (keys_of cs)
  pub fresh : AreFresh group_of es cs pairs

-- what is left of the changes over what became of the base needs no other groups
pub record KeepsBook {T : Type 0} (group_of : T → ℕ × ℕ) (es : Placed T) (cs : List (ℕ × Option T))
    (fs : Placed T) (ds : List (ℕ × Option T)) : Type 0 where
  pub keeps : (pairs : Pairs) → IsBook group_of es cs pairs → IsBook group_of fs ds pairs
