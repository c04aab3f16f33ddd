use Rattle.std.proofs.Common.{◌≡◌, take}
use Rattle.std.specs.List.{fold}
use Rattle.sc_acting.specs.Quiet.{climbs}
use Rattle.sc_acting.proofs.quiet.all_climb.Given as goal

abbrev pub invariant-loop-proxy : goal.invariant-loop-proxy
invariant-loop-proxy l = l.climb ≡ fold climbs l.fn.climb (take l.proxy-index l.proxies)
