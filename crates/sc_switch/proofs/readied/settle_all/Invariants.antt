use Rattle.std.proofs.Common.{◌≡◌}
use Rattle.sc_switch.proofs.readied.settle_all.Given as goal

abbrev pub invariant-loop-host : goal.invariant-loop-host
invariant-loop-host l = l.host-items ≡ l.fn.hosts
