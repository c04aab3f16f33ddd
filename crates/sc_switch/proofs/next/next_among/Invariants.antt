use Rattle.std.proofs.Common.{◌≡◌, None, drop}
use Rattle.sc_switch.specs.Offering.{with_hosts}
use Rattle.sc_switch.proofs.next.next_among.Given as goal

abbrev pub invariant-loop-host : goal.invariant-loop-host
invariant-loop-host l = with_hosts l.kept l.number l.best (drop l.host-index l.hosts) ≡ with_hosts l.kept 0 None l.hosts
