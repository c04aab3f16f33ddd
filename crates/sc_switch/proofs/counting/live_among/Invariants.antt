use Rattle.std.proofs.Common.{◌≡◌, take, length, sum_by}
use Rattle.sc_switch.proofs.counting.live_among.Given as goal

abbrev pub invariant-loop-host : goal.invariant-loop-host
invariant-loop-host l = l.count ≡ sum_by (λ host. length host.sessions) (take l.host-index l.hosts)
