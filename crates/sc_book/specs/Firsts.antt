-- The lowest number of all items, but for those that are passed over. This project's own.
use Rattle.std.specs.Prelude.{◌&&◌, ℕ, Bool, false, List, [], ◌∷◌, Option}
use Rattle.std.specs.declared.option.Option.TheVariants.{None}
use Rattle.std.specs.Option.{option_map_or}
use Rattle.std.specs.Ordering.{nat_cmp}
use Rattle.std.specs.FinMap.Entries.{where_key}
use Rattle.sc_book.specs.Places.{Placed, at_place}
use Rattle.sc_book.specs.Pairs.{is_number}
use Rattle.sc_book.specs.Words.{is_free, number_and_key, sooner}

-- the items at other places
abbrev pub free_of : {T : Type 0} → List ℕ → Placed T → Placed T
free_of places es = where_key nat_cmp (is_free places) es

-- whether the item at a place has this number
abbrev pub is_numbered : {T : Type 0} → (T → Option ℕ) → Placed T → ℕ → ℕ → Bool
is_numbered number es v p = option_map_or (λ x. is_number (number x) v) (at_place p es) false

-- whether a pair is that of an item that isn't passed over
abbrev pub is_next : {T : Type 0} → (T → Option ℕ) → List ℕ → Placed T → ℕ × ℕ → Bool
is_next number places es pair = is_free places pair.1 && is_numbered number es pair.0 pair.1

-- the lowest number of all items, with the first place of an item that has it
unfoldable pub earliest_at : {T : Type 0} → (T → Option ℕ) → Placed T → Option (ℕ × ℕ)
earliest_at number [] = None
earliest_at number (e ∷ es) = sooner (number_and_key (number e.1) e.0) (earliest_at number es)
