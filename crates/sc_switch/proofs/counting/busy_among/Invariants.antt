use Rattle.std.proofs.Common.{◌≡◌, take, min, sum_by}
use Rattle.sc_switch.specs.Counting.{busy_at}
use Rattle.sc_switch.proofs.counting.busy_among.Given as goal

abbrev pub invariant-loop-host : goal.invariant-loop-host
invariant-loop-host l = l.count ≡ min (sum_by busy_at (take l.host-index l.hosts)) 18446744073709551615
