-- What a read and a write of a connection come to, as the sockets of POSIX answer them.
use Rattle.std.specs.Prelude.{ℕ, ◌<◌, ◌≤◌}
use Rattle.sc_sockets.specs.declared.reading.Heard.{Heard}
use Rattle.sc_sockets.specs.declared.reading.Heard.TheVariants as heard
use Rattle.sc_sockets.specs.declared.writing.Taken.{Taken}
use Rattle.sc_sockets.specs.declared.writing.Taken.TheVariants as taken

-- bytes that came are at least one, and fit the room
abbrev pub IsHeard : Heard → ℕ → Type 0
IsHeard (heard.Some count) room = (0 < count) × (count ≤ room)
IsHeard heard.End room = Unit {0}
IsHeard heard.Failed room = Unit {0}
IsHeard heard.NotYet room = Unit {0}

-- of a piece that isn't empty at least one byte was taken, and at most all
abbrev pub IsTaken : Taken → ℕ → Type 0
IsTaken (taken.Some count) len = (count ≤ len) × (0 < len → 0 < count)
IsTaken taken.Failed len = Unit {0}
IsTaken taken.NotYet len = Unit {0}
