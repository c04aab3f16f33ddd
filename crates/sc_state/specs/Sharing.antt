-- The lists of a host, which copies of it have in common. This project's own.
use Rattle.std.specs.declared.alloc.Global.{Global}
use Rattle.std.specs.declared.option.Option.TheVariants.{None, Some}
use Rattle.std.specs.declared.sync.Arc.{Arc}
use Rattle.std.specs.Arc.{arc_value}
use Rattle.std.specs.Prelude.{Option, []}
use Rattle.sc_state.specs.Hosts.{Host}

-- the lists, empty where there are none yet
abbrev pub lists_of : {S : Type 0} → Option (Arc (Host S) Global) → Host S
lists_of None = record { clients = []; servers = []; sessions = []; last = 0 }
lists_of (Some lists) = arc_value lists
