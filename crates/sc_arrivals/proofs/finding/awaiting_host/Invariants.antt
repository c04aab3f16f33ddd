use Rattle.std.proofs.Common.{◌≡◌, drop}
use Rattle.sc_hosts.specs.Arrivals.{first_host}
use Rattle.sc_arrivals.specs.HostTests.{awaits}
use Rattle.sc_arrivals.proofs.finding.awaiting_host.Given as goal

abbrev pub invariant-loop-host : goal.invariant-loop-host
invariant-loop-host l = first_host (awaits l.salt l.epoch l.from l.response) l.number (drop l.host-index l.hosts) ≡ first_host (awaits l.salt l.epoch l.from l.response) 0 l.hosts
