-- Items by their places, in the order of the places. This project's own.
use Rattle.std.specs.Prelude.{ℕ, List, [], ◌∷◌, Bool, false, Option, not}
use Rattle.std.specs.declared.option.Option.TheVariants.{None, Some}
use Rattle.std.specs.declared.sync.Arc.{Arc}
use Rattle.std.specs.declared.alloc.Global.{Global}
use Rattle.std.specs.Arc.{arc_value}
use Rattle.std.specs.Option.{option_map_or}
use Rattle.std.specs.Ordering.{nat_cmp, eq_by_cmp}
use Rattle.std.specs.FinMap.Entries.{put, find, where_key}

-- items with their places
abbrev pub Placed : Type 0 → Type 0
Placed T = List (ℕ × T)

-- the item at a place
abbrev pub at_place : {T : Type 0} → ℕ → Placed T → Option T
at_place place es = find nat_cmp place es

-- whether the item at a place passes
abbrev pub passes_at : {T : Type 0} → (T → Bool) → Placed T → ℕ → Bool
passes_at test es place = option_map_or test (at_place place es) false

-- with this item at this place
abbrev pub with_item : {T : Type 0} → Placed T → ℕ → T → Placed T
with_item es place item = put nat_cmp place item es

-- without the item at this place
abbrev pub without_item : {T : Type 0} → Placed T → ℕ → Placed T
without_item es place = where_key nat_cmp (λ x. not (eq_by_cmp nat_cmp place x)) es

-- ## Changes

-- with this at this place: None takes the item away
unfoldable pub with_item_at : {T : Type 0} → Placed T → ℕ → Option T → Placed T
with_item_at es place None = without_item es place
with_item_at es place (Some item) = with_item es place item

-- with all these changes
unfoldable pub all_laid : {T : Type 0} → Placed T → List (ℕ × Option T) → Placed T
all_laid es [] = es
all_laid es (c ∷ cs) = all_laid (with_item_at es c.0 c.1) cs

-- the items that several books have in common
abbrev pub shared_items : {T : Type 0} → Option (Arc (Placed T) Global) → Placed T
shared_items None = []
shared_items (Some base) = arc_value base
