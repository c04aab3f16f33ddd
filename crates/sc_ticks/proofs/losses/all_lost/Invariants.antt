use Rattle.std.proofs.Common.{◌≡◌}
use Rattle.std.specs.List.{fold}
use Rattle.sc_parts.specs.declared.transactions.ClientItem.TheVariants as client_items
use Rattle.sc_hosts.specs.Ticks.{passes}
use Rattle.sc_hosts.specs.Words.{unavailable}
use Rattle.sc_ticks.proofs.losses.all_lost.Given as goal

abbrev pub invariant-loop-client : goal.invariant-loop-client
invariant-loop-client l =
    fold (passes l.config client_items.PlaceLost unavailable) l.net l.client-iterator
    ≡ fold (passes l.config client_items.PlaceLost unavailable) l.fn.net l.clients.keys
