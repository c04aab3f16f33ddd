use Rattle.std.proofs.Common.{reverse, take}
use Rattle.sc_txn.specs.Stands.{ClientStands}
use Rattle.sc_txn.proofs.client_past.txn_after.Given as goal

abbrev pub invariant-loop-at : goal.invariant-loop-at
invariant-loop-at l = ClientStands l.txn l.invite l.sent (reverse (take l.at l.items))
