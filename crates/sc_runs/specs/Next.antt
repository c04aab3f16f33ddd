-- What is next in a net: the first events of its sessions. This project's own.
use Rattle.std.specs.Prelude.{ℕ, ◌+◌, List, [], ◌∷◌, ◌++◌, Option, None, Some, option_map, slice_get, nat_lt, if◌then◌else◌}
use Rattle.std.specs.List.{filter_map, fold}
use Rattle.sc_value.specs.declared.ids.AppId.{AppId}
use Rattle.sc_state.specs.Hosts.{Host}
use Rattle.sc_state.specs.declared.host.Live.{Live}
use Rattle.sc_state.specs.declared.net.Net.{Net}

-- an event that waits, by the name of its session and its number
pub record Next : Type 0 where
  pub app : AppId
  pub number : ℕ

-- the first event of a session of this host
unfoldable pub next_of : {S : Type 0} → ℕ → Live S → Option Next
next_of host live =
    option_map
    (λ waiting.
    record { app = record { host = host; serial = live.serial }; number = waiting.number })
    (slice_get live.inbox 0)

-- the first events of the sessions of these hosts, counted from this number
unfoldable pub next_from : {S : Type 0} → ℕ → List (Host S) → List Next
next_from number [] = []
next_from number (host ∷ hosts) =
    filter_map (next_of number) host.sessions ++ next_from (number + 1) hosts

-- the first event of each session that has one
unfoldable pub next_events : {S : Type 0} → Net S → List Next
next_events net = next_from 0 net.hosts

-- the one with the lower number; numbers count over the whole epoch, so no two are equal
unfoldable pub earlier : Next → Next → Next
earlier a b = if nat_lt b.number a.number then b else a

-- the one with the lowest number
unfoldable pub lowest : List Next → Option Next
lowest [] = None
lowest (next ∷ others) = Some (fold earlier next others)

-- the event that waits longest: the one of the lowest number
unfoldable pub next_event : {S : Type 0} → Net S → Option Next
next_event net = lowest (next_events net)
