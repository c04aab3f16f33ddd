-- Live sessions in the order of their serials, none above the last that was given. This project's
-- own.
use Rattle.std.specs.Prelude.{◌≤◌, ◌<◌, ℕ, List, [], ◌∷◌, Option, None, Some}
use Rattle.std.specs.List.{All}
use Rattle.sc_state.specs.Hosts.{Host}
use Rattle.sc_state.specs.declared.host.Live.{Live}
use Rattle.sc_state.specs.declared.net.Net.{Net}

-- the serials rise, from above this number, and up to the last
unfoldable pub IsRising : {S : Type 0} → List (Live S) → ℕ → ℕ → Type 0
IsRising [] low last = low ≤ last
IsRising (live ∷ lives) low last = (low < live.serial) × IsRising lives live.serial last

-- those of a host, up to the last serial that it gave
abbrev pub IsNumbered : {S : Type 0} → Host S → Type 0
IsNumbered host = IsRising host.sessions 0 host.last

-- each host of a net
abbrev pub AreNumbered : {S : Type 0} → Net S → Type 0
AreNumbered net = All IsNumbered net.hosts

-- the host, where there is one
abbrev pub IsNumberedAt : {S : Type 0} → Option (Host S) → Type 0
IsNumberedAt None = Unit {0}
IsNumberedAt (Some host) = IsNumbered host
