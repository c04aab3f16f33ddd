use Rattle.std.proofs.Common.{◌≡◌, ◌++◌, take}
use Rattle.sc_ticks.proofs.losses.put_clients.Given as goal

abbrev pub invariant-loop-client : goal.invariant-loop-client
invariant-loop-client l = l.out ≡ l.fn.out ++ take l.client-index l.clients
