use Rattle.std.proofs.Common.{◌≡◌, ◌++◌, take}
use Rattle.std.specs.List.{flat_map}
use Rattle.sc_hosts.specs.Ticks.{server_dated}
use Rattle.sc_ticks.proofs.due.put_servers.Given as goal

abbrev pub invariant-loop-server : goal.invariant-loop-server
invariant-loop-server l = l.out ≡ l.fn.out ++ flat_map server_dated (take l.server-index l.servers)
