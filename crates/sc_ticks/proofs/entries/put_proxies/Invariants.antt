use Rattle.std.proofs.Common.{◌≡◌, ◌++◌, take}
use Rattle.std.specs.List.{flat_map}
use Rattle.sc_hosts.specs.Sessions.{branch_entry}
use Rattle.sc_ticks.proofs.entries.put_proxies.Given as goal

abbrev pub invariant-loop-proxy : goal.invariant-loop-proxy
invariant-loop-proxy l = l.out ≡ l.fn.out ++ flat_map (λ proxy. flat_map branch_entry proxy.branches) (take l.proxy-index l.proxies)
