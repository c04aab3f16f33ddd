use Rattle.std.proofs.Common.{◌≡◌, ◌++◌, take}
use Rattle.std.specs.List.{flat_map}
use Rattle.sc_hosts.specs.Ticks.{client_dated}
use Rattle.sc_ticks.proofs.due.put_clients.Given as goal

abbrev pub invariant-loop-client : goal.invariant-loop-client
invariant-loop-client l = l.out ≡ l.fn.out ++ flat_map client_dated (take l.client-index l.clients)
