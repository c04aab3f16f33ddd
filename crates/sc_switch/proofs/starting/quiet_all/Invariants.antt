use Rattle.std.proofs.Common.{◌≡◌, ◌++◌, take, drop, map}
use Rattle.sc_hosts.specs.Runs.{quiet_host}
use Rattle.sc_switch.proofs.starting.quiet_all.Given as goal

abbrev pub invariant-loop-host : goal.invariant-loop-host
invariant-loop-host l = l.host-items ≡ map (λ host. quiet_host) (take l.host-index l.fn.hosts) ++ drop l.host-index l.fn.hosts
