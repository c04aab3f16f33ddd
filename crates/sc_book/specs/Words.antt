-- What the contracts of rows and lines cite. This project's own.
use Rattle.std.specs.Prelude.{ℕ, ◌==◌, ◌||◌, Bool, false, not, nat_lt, List, [], ◌∷◌, Option, if◌then◌else◌}
use Rattle.std.specs.declared.option.Option.TheVariants.{None, Some}
use Rattle.std.specs.List.{list_any}

-- whether an item has this key
abbrev pub has_key : {T : Type 0} → (T → ℕ) → ℕ → T → Bool
has_key key k item = key item == k

-- whether a number is one of these two
abbrev pub in_groups : ℕ × ℕ → ℕ → Bool
in_groups groups v = (groups.0 == v) || (groups.1 == v)

-- whether an item is of a group
abbrev pub belongs : {T : Type 0} → (T → ℕ × ℕ) → ℕ → T → Bool
belongs group_of v item = in_groups (group_of item) v

-- whether a moment is before this one
abbrev pub is_before : ℕ → Option ℕ → Bool
is_before moment None = false
is_before moment (Some due) = nat_lt due moment

-- whether a key is among these
abbrev pub is_among : List ℕ → ℕ → Bool
is_among keys k = list_any (λ q. q == k) keys

-- whether a key isn't among these
abbrev pub is_free : List ℕ → ℕ → Bool
is_free keys k = not (is_among keys k)

-- a number with the key of its item
abbrev pub number_and_key : Option ℕ → ℕ → Option (ℕ × ℕ)
number_and_key None key = None
number_and_key (Some number) key = Some (number, key)

-- the lower of two numbers, with its key: of two that are alike the first
abbrev pub sooner : Option (ℕ × ℕ) → Option (ℕ × ℕ) → Option (ℕ × ℕ)
sooner None b = b
sooner (Some a) None = Some a
sooner (Some a) (Some b) = if nat_lt b.0 a.0 then Some b else Some a

-- the lowest number of all items, with the key of the first item that has it
unfoldable pub earliest : {T : Type 0} → (T → ℕ) → (T → Option ℕ) → List T → Option (ℕ × ℕ)
earliest key number [] = None
earliest key number (item ∷ items) =
    sooner (number_and_key (number item) (key item)) (earliest key number items)
