-- The entries of a session by their moments and timers. This project's own.
use Rattle.std.specs.Prelude.{ℕ, ◌==◌, Bool, ◌&&◌}
use Rattle.sc_parts.specs.declared.timers.TimerName.{TimerName}
use Rattle.sc_parts.specs.TimerNames.{same_timer}
use Rattle.sc_hosts.specs.Sessions.{SessionEntry}

-- it has this due moment and timer
abbrev pub is_entry : ℕ → TimerName → SessionEntry → Bool
is_entry due name entry = entry.due == due && same_timer entry.timer name
