use Rattle.std.proofs.Common.{◌≡◌, ◌++◌, take}
use Rattle.sc_switch.proofs.copying.add_hosts.Given as goal

abbrev pub invariant-loop-host : goal.invariant-loop-host
invariant-loop-host l = l.copies ≡ l.fn.copies ++ take l.host-index l.hosts
