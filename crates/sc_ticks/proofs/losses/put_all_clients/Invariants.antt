use Rattle.std.proofs.Common.{◌≡◌, ◌++◌, take}
use Rattle.std.specs.List.{flat_map}
use Rattle.sc_ticks.proofs.losses.put_all_clients.Given as goal

abbrev pub invariant-loop-host : goal.invariant-loop-host
invariant-loop-host l = l.out ≡ l.fn.out ++ flat_map (λ host. host.clients) (take l.host-index l.hosts)
