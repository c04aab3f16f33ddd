use Rattle.sc_txn.proofs.Pasts.{client_told}
use Rattle.sc_txn.proofs.client_past.ClientPast.take.Goals as goal

pub invariant_of-self-2 : goal.invariant_of-self-2
invariant_of-self-2 c =
    client_told c.self.inside.txn c.take.new.self c.self.inside.sent c.self.inside.provisional c.provisional_with-self-inside.result c.args.item c.self.inside.items c.push.new.self
    c.self.invariant c.take.ensures.stands c.provisional_with-self-inside.ensures c.in_ok-push.ensures.ok
