use Rattle.std.proofs.Common.{◌≡◌, ◌++◌, take}
use Rattle.sc_wire.proofs.sending.put_copies.Given as goal

abbrev pub invariant-loop-route : goal.invariant-loop-route
invariant-loop-route l = l.out ≡ l.fn.out ++ take l.route-index l.routes
