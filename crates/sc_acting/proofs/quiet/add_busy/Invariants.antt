use Rattle.std.proofs.Common.{◌≡◌, ◌++◌, take}
use Rattle.std.specs.Prelude.{filter}
use Rattle.sc_acting.specs.Quiet.{is_busy}
use Rattle.sc_acting.proofs.quiet.add_busy.Given as goal

abbrev pub invariant-loop-proxy : goal.invariant-loop-proxy
invariant-loop-proxy l = l.busy ≡ l.fn.busy ++ filter is_busy (take l.proxy-index l.proxies)
