use Rattle.std.proofs.Common.{◌≡◌, [], take}
use Rattle.std.specs.BTreeSet.{insert_key}
use Rattle.std.specs.List.{fold}
use Rattle.sc_hosts.specs.Ticks.{client_order}
use Rattle.sc_ticks.proofs.losses.in_order.Given as goal

abbrev pub invariant-loop-client : goal.invariant-loop-client
invariant-loop-client l = l.ordered.keys ≡ fold (insert_key client_order) [] (take l.client-index l.clients)
