use Rattle.sc_txn.proofs.Pasts.{server_told}
use Rattle.sc_txn.proofs.server_past.ServerPast.take.Goals as goal

pub invariant_of-self-2 : goal.invariant_of-self-2
invariant_of-self-2 c =
    server_told c.self.inside.txn c.take.new.self c.self.inside.decided c.decided_with-self-inside.result c.args.item c.self.inside.items c.push.new.self
    c.self.invariant c.take.ensures c.decided_with-self-inside.ensures c.in_ok-push.ensures.ok
