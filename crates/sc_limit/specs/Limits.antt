-- What a limit on bytes leaves. No limit is none. This project's own.
use Rattle.std.specs.Prelude.{ℕ, ◌+◌, ◌-◌, ◌^◌, min, Option, None, Some, List, length, take, Bool, ◌&&◌, false}
use Rattle.std.specs.Bool.{nat_eq, nat_lt}

-- the bytes from the front of a piece for which there is room
abbrev pub fitting : Option ℕ → List ℕ → List ℕ
fitting None bytes = bytes
fitting (Some room) bytes = take room bytes

-- the room that is left after so many bytes
abbrev pub room_after : Option ℕ → ℕ → Option ℕ
room_after None count = None
room_after (Some room) count = Some (room - count)

-- whether there is something to put, and no room for its first byte
abbrev pub is_full : Option ℕ → List ℕ → Bool
is_full None bytes = false
is_full (Some room) bytes = nat_eq room 0 && nat_lt 0 (length bytes)

-- the faults of the inner sink and of the limit, in a count that stays at its greatest value
abbrev pub all_faults : ℕ → ℕ → ℕ
all_faults inner own = min (inner + own) (2 ^ 64 - 1)
