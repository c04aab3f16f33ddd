use Rattle.std.proofs.Common.{reverse, take}
use Rattle.sc_txn.specs.Stands.{ServerStands}
use Rattle.sc_txn.proofs.server_past.txn_after.Given as goal

abbrev pub invariant-loop-at : goal.invariant-loop-at
invariant-loop-at l = ServerStands l.txn l.invite (reverse (take l.at l.items))
