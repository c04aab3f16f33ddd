-- What comes to an edge in memory, and what its polls answer. This project's own.
use Rattle.std.specs.Prelude.{ℕ, ◌-◌, Bool, true, false, ◌||◌, ◌==◌, List, [], ◌∷◌, ◌++◌, length, take, if◌then◌else◌}
use Rattle.std.specs.List.{sum_by}
use Rattle.std.proofs.Math.ListN.{drop}
use Rattle.sc_value.specs.declared.ids.Place.{Place}
use Rattle.sc_edge.specs.Edges.{polled_of}
use Rattle.sc_edge.specs.EdgePlaces.{PlacesState, known_at}
use Rattle.sc_edge.specs.declared.edge.Got.{Got}
use Rattle.sc_edge.specs.declared.edge.Got.TheVariants as got
use Rattle.sc_edge.specs.declared.edge.Polled.{Polled}
use Rattle.sc_edge.specs.declared.edge.Polled.TheVariants as polled

-- what an edge in memory was made to answer, and what of it was answered
pub record ComingState : Type 0 where
  -- what is still to come, in order
  pub left : List Polled
  -- what came: what was answered, up to the first `Closed`, and the failed puts
  pub polled : List Polled
  pub is_closed : Bool
  -- how many failed puts there is room for
  pub spare : ℕ

-- what is left of an item after so many of its bytes
abbrev pub less : ℕ → Polled → Polled
less from (polled.Bytes place bytes) = polled.Bytes place (drop from bytes)
less from (polled.End place) = polled.End place
less from (polled.Failed place) = polled.Failed place
less from polled.Closed = polled.Closed
less from polled.NotYet = polled.NotYet
less from polled.Fault = polled.Fault

-- what is left of a list after so many bytes of its first item
abbrev pub left_of : ℕ → List Polled → List Polled
left_of from [] = []
left_of from (item ∷ items) = less from item ∷ items

-- the item is passed over: its place is silent, or it has no byte
abbrev pub is_passed : PlacesState → Polled → Bool
is_passed places (polled.Bytes place bytes) = (known_at places place).is_silent || length bytes == 0
is_passed places (polled.End place) = (known_at places place).is_silent
is_passed places (polled.Failed place) = (known_at places place).is_silent
is_passed places polled.Closed = false
is_passed places polled.NotYet = false
is_passed places polled.Fault = false

-- the list from its first item on that isn't passed over
unfoldable pub live_from : PlacesState → List Polled → List Polled
live_from places [] = []
live_from places (item ∷ items) =
    if is_passed places item then live_from places items else (item ∷ items)

-- as much of the item as there is room for
abbrev pub front : ℕ → Polled → Polled
front room (polled.Bytes place bytes) = polled.Bytes place (take room bytes)
front room (polled.End place) = polled.End place
front room (polled.Failed place) = polled.Failed place
front room polled.Closed = polled.Closed
front room polled.NotYet = polled.NotYet
front room polled.Fault = polled.Fault

-- the answer to a poll with so much room
abbrev pub answer_of : ℕ → List Polled → Polled
answer_of room [] = polled.Closed
answer_of room (item ∷ items) = front room item

-- what is left after an answer of an item
abbrev pub after_item : ℕ → Polled → List Polled → List Polled
after_item room (polled.Bytes place bytes) items = polled.Bytes place (drop room bytes) ∷ items
after_item room (polled.End place) items = items
after_item room (polled.Failed place) items = items
after_item room polled.Closed items = items
after_item room polled.NotYet items = items
after_item room polled.Fault items = items

-- what is left of a list after an answer of its first item
abbrev pub rest_of : ℕ → List Polled → List Polled
rest_of room [] = []
rest_of room (item ∷ items) = after_item room item items

-- the answer without its bytes
abbrev pub got_of : Polled → Got
got_of (polled.Bytes place bytes) = got.Bytes place (length bytes)
got_of (polled.End place) = got.End place
got_of (polled.Failed place) = got.Failed place
got_of polled.Closed = got.Closed
got_of polled.NotYet = got.NotYet
got_of polled.Fault = got.Fault

-- nothing comes after this answer
abbrev pub is_last : Polled → Bool
is_last (polled.Bytes place bytes) = false
is_last (polled.End place) = false
is_last (polled.Failed place) = false
is_last polled.Closed = true
is_last polled.NotYet = false
is_last polled.Fault = false

-- the next answer, to a poll with so much room
abbrev pub next_answer : PlacesState → ComingState → ℕ → Polled
next_answer places coming room =
    if coming.is_closed then polled.Closed else answer_of room (live_from places coming.left)

-- what comes after that answer
abbrev pub after_answer : PlacesState → ComingState → ℕ → ComingState
after_answer places coming room =
    if coming.is_closed then coming
    else record {
      left = rest_of room (live_from places coming.left);
      polled = coming.polled ++ answer_of room (live_from places coming.left) ∷ [];
      is_closed = is_last (answer_of room (live_from places coming.left));
      spare = coming.spare;
    }

-- how many bytes an answer has
abbrev pub count_of : Got → ℕ
count_of (got.Bytes place count) = count
count_of (got.End place) = 0
count_of (got.Failed place) = 0
count_of got.Closed = 0
count_of got.NotYet = 0
count_of got.Fault = 0

-- the answers with their bytes, which stand one after the other
abbrev pub answers_with_bytes : List Got → List ℕ → List Polled
answers_with_bytes [] bytes = []
answers_with_bytes (answer ∷ answers) bytes =
    polled_of answer bytes ∷ answers_with_bytes answers (drop (count_of answer) bytes)

-- how many answers an item gives at most
abbrev pub weight : Polled → ℕ
weight (polled.Bytes place bytes) = length bytes
weight (polled.End place) = 1
weight (polled.Failed place) = 1
weight polled.Closed = 1
weight polled.NotYet = 1
weight polled.Fault = 1

-- how many answers a list gives at most
abbrev pub weights : List Polled → ℕ
weights items = sum_by weight items

-- how many bytes the answers have
abbrev pub counts : List Got → ℕ
counts answers = sum_by count_of answers

-- a put to this place failed, and there was room for that
abbrev pub failed_put : ComingState → Place → ComingState
failed_put coming place =
    record coming { polled = coming.polled ++ polled.Failed place ∷ []; spare = coming.spare - 1 }
