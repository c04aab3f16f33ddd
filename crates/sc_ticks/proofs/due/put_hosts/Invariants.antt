use Rattle.std.proofs.Common.{◌≡◌, ◌++◌, drop}
use Rattle.sc_ticks.specs.Due.{hosts_due}
use Rattle.sc_ticks.proofs.due.put_hosts.Given as goal

abbrev pub invariant-loop-host : goal.invariant-loop-host
invariant-loop-host l = l.out ++ hosts_due l.past l.number (drop l.host-index l.hosts) ≡ l.fn.out ++ hosts_due l.past 0 l.hosts
