-- What a TOML document holds, as lists. The form is TOML's. The form is TOML's.
use Rattle.std.specs.Prelude.{ℕ, Bool, Option, Some, None, List, [], ◌∷◌, if◌then◌else◌, is_some}
use Rattle.std.specs.List.{find}
use Rattle.std.specs.Option.{option_and_then, option_map_or}
use Rattle.std.specs.Str.{is_utf8}
use Rattle.toml.specs.Data.{Data, Items, no_items, item, Members, no_members, member, as_array}
use Rattle.toml.specs.Parse.{parse_document}
use Rattle.sc_tokens.specs.Bytes.{Bytes}

-- the table that the bytes write; none where they aren't UTF-8 or aren't TOML
abbrev pub document : Bytes → Option Members
document bytes = if is_utf8 bytes then parse_document bytes else None

-- the items in order
abbrev pub items_in : Items → List Data
items_in no_items = []
items_in (item d ds) = d ∷ items_in ds

-- the items of an array, none of what is no array
abbrev pub elements : Data → List Data
elements value = option_map_or items_in (as_array value) []

-- the first key, in byte order, whose entry passes the test
unfoldable pub first_key : (Bytes → Data → Bool) → Members → Option Bytes
first_key test no_members = None
first_key test (member key value rest) = if test key value then Some key else first_key test rest

-- what the first item gives that gives something
abbrev pub first_given : {A B : Type 0} → (A → Option B) → List A → Option B
first_given f items = option_and_then f (find (λ a. is_some (f a)) items)
