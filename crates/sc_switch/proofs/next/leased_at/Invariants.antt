use Rattle.std.proofs.Common.{◌≡◌, ◌==◌, map, filter, take}
use Rattle.sc_switch.proofs.next.leased_at.Given as goal

abbrev pub invariant-loop-lease : goal.invariant-loop-lease
invariant-loop-lease l = l.serials ≡ map (λ lease. lease.app.serial) (filter (λ lease. lease.app.host == l.number) (take l.lease-index l.kept))
