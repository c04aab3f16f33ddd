use Rattle.std.proofs.Common.{◌≡◌, drop}
use Rattle.sc_hosts.specs.Nets.{named_from}
use Rattle.sc_wire.proofs.naming.named_among.Given as goal

abbrev pub invariant-loop-host : goal.invariant-loop-host
invariant-loop-host l = named_from l.epoch l.uri l.number (drop l.host-index l.hosts) ≡ named_from l.epoch l.uri 0 l.hosts
