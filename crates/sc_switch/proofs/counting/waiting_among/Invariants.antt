use Rattle.std.proofs.Common.{◌≡◌, take, sum_by}
use Rattle.sc_switch.specs.Stepping.{waiting_at}
use Rattle.sc_switch.proofs.counting.waiting_among.Given as goal

abbrev pub invariant-loop-host : goal.invariant-loop-host
invariant-loop-host l = l.count ≡ sum_by waiting_at (take l.host-index l.hosts)
