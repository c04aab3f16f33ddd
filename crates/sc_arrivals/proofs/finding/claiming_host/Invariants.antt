use Rattle.std.proofs.Common.{◌≡◌, drop}
use Rattle.sc_hosts.specs.Arrivals.{first_host}
use Rattle.sc_arrivals.specs.HostTests.{claims}
use Rattle.sc_arrivals.proofs.finding.claiming_host.Given as goal

abbrev pub invariant-loop-host : goal.invariant-loop-host
invariant-loop-host l = first_host (claims l.from l.request) l.number (drop l.host-index l.hosts) ≡ first_host (claims l.from l.request) 0 l.hosts
