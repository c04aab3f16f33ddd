-- What is kept of the places' streams (RFC 3261 section 18.3).
use Rattle.std.specs.Prelude.{Bool, not, Option, None, Some, List, []}
use Rattle.std.specs.List.{find}
use Rattle.sc_tokens.specs.Bytes.{Bytes}
use Rattle.sc_value.specs.declared.ids.Place.{Place}
use Rattle.sc_value.specs.Places.{same_place}
use Rattle.sc_streams.specs.declared.streams.Pending.{Pending}

-- what is kept is of this place
abbrev pub is_at : Place → Pending → Bool
is_at place pending = same_place place pending.place

-- what is kept is of another place
unfoldable pub is_elsewhere : Place → Pending → Bool
is_elsewhere place pending = not (same_place place pending.place)

-- what is kept, nothing where nothing was
unfoldable pub bytes_in : Option Pending → Bytes
bytes_in None = []
bytes_in (Some pending) = pending.stream

-- the bytes that are kept of a place
unfoldable pub bytes_of : List Pending → Place → Bytes
bytes_of streams place = bytes_in (find (is_at place) streams)

-- other bytes are kept of the place
unfoldable pub with_stream : Bytes → Pending → Pending
with_stream bytes pending = record pending { stream = bytes }
