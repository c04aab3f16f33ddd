use Rattle.std.proofs.Common.{◌≡◌, take}
use Rattle.std.specs.List.{fold}
use Rattle.sc_hosts.specs.Nets.{obey}
use Rattle.sc_net.proofs.orders.obeyed.Given as goal

abbrev pub invariant-loop-order : goal.invariant-loop-order
invariant-loop-order l = l.net ≡ fold (obey l.setup l.app) l.fn.net (take l.order-index l.given)
