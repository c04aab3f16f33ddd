-- The bytes that an edge in memory took, each with its place. This project's own.
use Rattle.std.specs.Prelude.{ℕ, List, [], ◌∷◌, map, if◌then◌else◌}
use Rattle.std.specs.List.{flat_map}
use Rattle.sc_value.specs.declared.ids.Place.{Place}
use Rattle.sc_value.specs.Places.{same_place}
use Rattle.sc_edge.specs.declared.mem_taken.Kept.{Kept}

-- the bytes of all places, in the order in which they were taken
pub record TakenState : Type 0 where
  pub kept : List Kept
  -- how many bytes it keeps at most
  pub room : ℕ

-- the bytes, as ones of this place
abbrev pub bytes_of_place : Place → List ℕ → List Kept
bytes_of_place place bytes =
    map (λ b. let kept : Kept = record { place = place; byte = b } in kept) bytes

-- the byte, if it is one of this place
abbrev pub byte_for : Place → Kept → List ℕ
byte_for place kept = if same_place kept.place place then kept.byte ∷ [] else []

-- all bytes of this place, in order
abbrev pub kept_of : Place → List Kept → List ℕ
kept_of place kept = flat_map (byte_for place) kept
