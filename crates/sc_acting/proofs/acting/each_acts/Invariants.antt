use Rattle.std.proofs.Common.{◌≡◌, take}
use Rattle.std.specs.List.{fold}
use Rattle.sc_hosts.specs.Acting.{acts}
use Rattle.sc_acting.proofs.acting.each_acts.Given as goal

abbrev pub invariant-loop-proxy : goal.invariant-loop-proxy
invariant-loop-proxy l = l.working ≡ fold (acts l.config) l.fn.working (take l.proxy-index l.proxies)
