use Rattle.std.proofs.Common.{◌≡◌, ◌++◌, drop}
use Rattle.sc_hosts.specs.EventLists.{live_from}
use Rattle.sc_switch.proofs.listing.list_hosts.Given as goal

abbrev pub invariant-loop-host : goal.invariant-loop-host
invariant-loop-host l = l.live ++ live_from l.number (drop l.host-index l.hosts) ≡ live_from 0 l.hosts
