use Rattle.std.proofs.Common.{◌≡◌, take}
use Rattle.std.specs.List.{flat_map}
use Rattle.sc_state.specs.Entries.{branch_entry, least_due}
use Rattle.sc_state.proofs.timed.proxies_due.Given as goal

abbrev pub invariant-loop-proxy : goal.invariant-loop-proxy
invariant-loop-proxy l = l.least ≡ least_due l.fired (flat_map (λ proxy. flat_map branch_entry proxy.branches) (take l.proxy-index l.proxies))
