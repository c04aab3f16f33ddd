-- What an edge in memory knows of places. This project's own.
use Rattle.std.specs.Prelude.{ℕ, ◌+◌, Bool, true, false, not, ◌&&◌, ◌||◌, Option, Some, None, List, [], ◌∷◌, ◌++◌, length, nat_lt, nat_le, if◌then◌else◌}
use Rattle.std.specs.List.{find, flat_map}
use Rattle.sc_value.specs.declared.ids.Place.{Place}
use Rattle.sc_value.specs.Lists.{change_first}
use Rattle.sc_value.specs.Places.{same_place}
use Rattle.sc_edge.specs.Edges.{is_back}
use Rattle.sc_edge.specs.Faults.{risen}
use Rattle.sc_edge.specs.declared.edge.Polled.{Polled}
use Rattle.sc_edge.specs.declared.edge.Polled.TheVariants as polled
use Rattle.sc_edge.specs.declared.mem_places.Known.{Known}

-- what is known of places, a peer's connections and addresses
pub record PlacesState : Type 0 where
  -- what it knows, one item for each place
  pub known : List Known
  -- how many places it can know
  pub room : ℕ
  -- the faults of all places together that found no room
  pub others : ℕ

-- the item is that of the place
abbrev pub is_of : Place → Known → Bool
is_of place known = same_place known.place place

-- a place that it doesn't know. Where no room is left, nothing comes from it and each put fails
abbrev pub unknown : PlacesState → Place → Known
unknown places place = record {
  place = place;
  is_silent = nat_le places.room (length places.known);
  is_barred = nat_le places.room (length places.known);
  is_cut = false;
  faults = places.others;
}

-- what was found of a place, else what holds of one that isn't known
abbrev pub known_or : PlacesState → Place → Option Known → Known
known_or places place None = unknown places place
known_or places place (Some known) = known

-- what it knows of a place
abbrev pub known_at : PlacesState → Place → Known
known_at places place = known_or places place (find (is_of place) places.known)

-- the places with one more
abbrev pub with_one_place : PlacesState → Known → PlacesState
with_one_place places new = record places { known = places.known ++ new ∷ [] }

-- the places after one more found no room
abbrev pub without_room : PlacesState → Known → PlacesState
without_room places new = record places { others = new.faults }

-- the places after an item was changed
abbrev pub with_changed_item : PlacesState → Known → PlacesState
with_changed_item places new =
    record places { known = change_first (is_of new.place) (λ _. new) places.known }

-- the places after this was noted of one, which was found or wasn't
abbrev pub with_note_of : PlacesState → Known → Option Known → PlacesState
with_note_of places new (Some old) = with_changed_item places new
with_note_of places new None =
    if nat_lt (length places.known) places.room then with_one_place places new
    else without_room places new

-- the places after this was noted of one of them
abbrev pub with_known : PlacesState → Known → PlacesState
with_known places new = with_note_of places new (find (is_of new.place) places.known)

-- a place that ended
abbrev pub as_ended : Known → Known
as_ended known =
    record known {
      is_silent = true;
      is_barred = known.is_barred || (not (is_back known.place) && known.is_cut);
    }

-- a place that failed
abbrev pub as_failed : Known → Known
as_failed known =
    record known { is_silent = true; is_barred = is_back known.place; faults = risen known.faults }

-- a place that was closed
abbrev pub as_shut : Known → Known
as_shut known =
    record known {
      is_silent = true;
      is_barred = known.is_barred || is_back known.place || known.is_cut;
    }

-- a place that took so many bytes of a piece of this length
abbrev pub as_served : Known → ℕ → ℕ → Known
as_served known count len =
    record known {
      is_silent = known.is_silent && is_back known.place;
      is_cut = if nat_lt 0 count then nat_lt count len else known.is_cut;
    }

-- a place of which nothing was noted yet
abbrev pub fresh : Place → Known
fresh place =
    record { place = place; is_silent = false; is_barred = false; is_cut = false; faults = 0 }

-- the place that an answer names
abbrev pub place_of_answer : Polled → List Known
place_of_answer (polled.Bytes place bytes) = fresh place ∷ []
place_of_answer (polled.End place) = fresh place ∷ []
place_of_answer (polled.Failed place) = fresh place ∷ []
place_of_answer polled.Closed = []
place_of_answer polled.NotYet = []
place_of_answer polled.Fault = []

-- the places that answers name, with room for more
abbrev pub places_of : List Polled → ℕ → PlacesState
places_of coming room =
    record { known = flat_map place_of_answer coming; room = length coming + room; others = 0 }
