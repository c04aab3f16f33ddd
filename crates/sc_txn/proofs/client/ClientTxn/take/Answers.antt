use Rattle.sc_txn.proofs.Standing.{client_takes}
use Rattle.sc_txn.proofs.client.ClientTxn.take.Goals as goal

pub returns-clause-stands : goal.returns-clause-stands
returns-clause-stands c invite sent passed stands = rw c.client_next-self-inside.ensures (client_takes _ c.args.item invite sent passed (rw (← c.self.view_is) at stands))
