-- What an edge in memory is. This project's own.
use Rattle.std.specs.Prelude.{ℕ, ◌-◌, ◌<◌, ◌≤◌, min, max, Bool, true, false, ◌||◌, ◌&&◌, nat_lt, nat_eq, Option, Some, None, List, [], ◌∷◌, ◌++◌, length, take, unwrap_or, if◌then◌else◌}
use Rattle.std.specs.List.{slice_get}
use Rattle.sc_value.specs.declared.ids.Place.{Place}
use Rattle.sc_edge.specs.EdgeComing.{ComingState, after_answer, failed_put, got_of, next_answer}
use Rattle.sc_edge.specs.EdgePlaces.{PlacesState, as_ended, as_failed, as_served, as_shut, known_at, places_of, with_known}
use Rattle.sc_edge.specs.Edges.{EdgeState}
use Rattle.sc_edge.specs.EdgeTaken.{TakenState, bytes_of_place, kept_of}
use Rattle.sc_edge.specs.Faults.{is_listed, one_more, risen}
use Rattle.sc_edge.specs.declared.edge.Closing.{Closing}
use Rattle.sc_edge.specs.declared.edge.Got.{Got}
use Rattle.sc_edge.specs.declared.edge.Got.TheVariants as got
use Rattle.sc_edge.specs.declared.edge.Polled.{Polled}
use Rattle.sc_edge.specs.declared.edge.Put.{Put}
use Rattle.sc_edge.specs.declared.edge.Put.TheVariants as put
use Rattle.sc_edge.specs.declared.mem_places.Known.{Known}
use Rattle.sc_edge.specs.declared.mem_puts.Share.{Share}
use Rattle.sc_edge.specs.declared.mem_puts.Share.TheVariants as share

-- an edge in memory: what it was made to answer and to take, and what became of that
pub record MemoryState : Type 0 where
  -- what is to come, and what came
  pub coming : ComingState
  -- what came is still told: no failed put found no room
  pub tells : Bool
  -- what it knows of places
  pub places : PlacesState
  -- what places took
  pub taken : TakenState
  -- its closes; none once one found no room
  pub closes : Option (List Closing)
  -- how many closes it keeps at most
  pub room : ℕ
  -- what the puts take, from the first one on
  pub shares : List Share
  -- the numbers of the puts that are to fail; the first put has number 1
  pub failing : List ℕ
  pub polls : ℕ
  pub puts : ℕ
  pub faults : ℕ

-- what came, where it is still told
unfoldable pub told_coming : Bool → List Polled → Option (List Polled)
told_coming tells came = if tells then Some came else None

-- what it tells and counts
abbrev pub edge_state : MemoryState → EdgeState
edge_state edge = record {
  polls = edge.polls;
  faults = edge.faults;
  faults_at = λ place. (known_at edge.places place).faults;
  polled = told_coming edge.tells edge.coming.polled;
  is_closed = edge.coming.is_closed;
  took = λ place. Some (kept_of place edge.taken.kept);
  closes = edge.closes;
  is_silent = λ place. (known_at edge.places place).is_silent;
  is_barred = λ place. (known_at edge.places place).is_barred;
  is_cut = λ place. (known_at edge.places place).is_cut;
}

-- the places after an answer
abbrev pub places_after : PlacesState → Got → PlacesState
places_after places (got.Bytes place count) = places
places_after places (got.End place) = with_known places (as_ended (known_at places place))
places_after places (got.Failed place) = with_known places (as_failed (known_at places place))
places_after places got.Closed = places
places_after places got.NotYet = places
places_after places got.Fault = places

-- the listener's faults after an answer
abbrev pub faults_after : ℕ → Got → ℕ
faults_after faults (got.Bytes place count) = faults
faults_after faults (got.End place) = faults
faults_after faults (got.Failed place) = faults
faults_after faults got.Closed = faults
faults_after faults got.NotYet = faults
faults_after faults got.Fault = risen faults

-- what the next poll answers, with so much room
abbrev pub next_got : MemoryState → ℕ → Got
next_got edge room = got_of (next_answer edge.places edge.coming room)

-- the edge after a poll with so much room
abbrev pub after_poll : MemoryState → ℕ → MemoryState
after_poll edge room = record edge {
  coming = after_answer edge.places edge.coming room;
  places = places_after edge.places (next_got edge room);
  polls = one_more edge.polls;
  faults = faults_after edge.faults (next_got edge room);
}

-- what the put after so many takes; all where the list has ended
abbrev pub share_at : List Share → ℕ → Share
share_at shares puts = unwrap_or (slice_get shares puts) (share.AtMost 18446744073709551615)

-- what a put of a piece of this length comes to, with room for so many bytes
abbrev pub put_share : Share → ℕ → ℕ → Put
put_share (share.AtMost most) left len =
    if nat_lt 0 len && nat_eq left 0 then put.Failed
    else put.Wrote (min (min len (max most 1)) left)
put_share share.NotYet left len = put.NotYet

-- what was taken is a part of the piece, and there was room for it
abbrev pub IsPut : Put → ℕ → ℕ → Type 0
IsPut (put.Wrote count) len left = (count ≤ len) × (count ≤ left) × (0 < len → 0 < count)
IsPut put.NotYet len left = Unit {0}
IsPut put.Failed len left = Unit {0}

-- what the next put comes to
abbrev pub next_put : MemoryState → Place → ℕ → Put
next_put edge to len =
    if is_listed edge.failing (one_more edge.puts) || (known_at edge.places to).is_barred
    then put.Failed
    else put_share (share_at edge.shares edge.puts) (edge.taken.room - length edge.taken.kept) len

-- the places after a put there of a piece of this length
abbrev pub places_put : PlacesState → Known → Put → ℕ → PlacesState
places_put places known (put.Wrote count) len = with_known places (as_served known count len)
places_put places known put.NotYet len = places
places_put places known put.Failed len = with_known places (as_failed known)

-- what places took after a put there of these bytes
abbrev pub taken_put : TakenState → Place → List ℕ → Put → TakenState
taken_put taken to bytes (put.Wrote count) =
    record taken { kept = taken.kept ++ bytes_of_place to (take count bytes) }
taken_put taken to bytes put.NotYet = taken
taken_put taken to bytes put.Failed = taken

-- what came after a put, and whether it is still told
abbrev pub coming_put : ComingState → Place → Put → ComingState
coming_put coming to (put.Wrote count) = coming
coming_put coming to put.NotYet = coming
coming_put coming to put.Failed = if nat_lt 0 coming.spare then failed_put coming to else coming

-- what came is still told after a put: a failed one needs room
abbrev pub tells_put : Bool → ComingState → Put → Bool
tells_put tells coming (put.Wrote count) = tells
tells_put tells coming put.NotYet = tells
tells_put tells coming put.Failed = tells && nat_lt 0 coming.spare

-- the edge after a put of these bytes
abbrev pub after_put : MemoryState → Place → List ℕ → MemoryState
after_put edge to bytes = record edge {
  coming = coming_put edge.coming to (next_put edge to (length bytes));
  tells = tells_put edge.tells edge.coming (next_put edge to (length bytes));
  places =
      places_put edge.places (known_at edge.places to) (next_put edge to (length bytes))
      (length bytes);
  taken = taken_put edge.taken to bytes (next_put edge to (length bytes));
  puts = one_more edge.puts;
}

-- the closes, where they are still told
unfoldable pub told_closes : Bool → List Closing → Option (List Closing)
told_closes tells closes = if tells then Some closes else None

-- a close more, where there is room for it
abbrev pub closes_after : Option (List Closing) → ℕ → Closing → Option (List Closing)
closes_after None room closing = None
closes_after (Some closes) room closing =
    if nat_lt (length closes) room then Some (closes ++ closing ∷ []) else None

-- the edge after a close of this place; how often it was polled is noted with it
abbrev pub after_close : MemoryState → Place → MemoryState
after_close edge at = record edge {
  places = with_known edge.places (as_shut (known_at edge.places at));
  closes = closes_after edge.closes edge.room (record { place = at; polls = edge.polls });
}

-- the edge as it was made
abbrev pub new_edge : List Polled → List Share → List ℕ → ℕ → MemoryState
new_edge coming shares failing room = record {
  coming = record { left = coming; polled = []; is_closed = false; spare = room };
  tells = true;
  places = places_of coming room;
  taken = record { kept = []; room = room };
  closes = Some [];
  room = room;
  shares = shares;
  failing = failing;
  polls = 0;
  puts = 0;
  faults = 0;
}
