use Rattle.std.proofs.Common.{◌≡◌, ◌++◌, take}
use Rattle.std.specs.List.{flat_map}
use Rattle.sc_work.specs.Goodbyes.{proxy_branches}
use Rattle.sc_work.proofs.ending.all_proxies.Given as goal

abbrev pub invariant-loop-proxy : goal.invariant-loop-proxy
invariant-loop-proxy l = l.numbers.items ≡ l.fn.numbers.items ++ flat_map (proxy_branches l.whose) (take l.proxy-index l.proxies)
