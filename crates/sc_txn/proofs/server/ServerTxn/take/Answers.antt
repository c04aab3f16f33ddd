use Rattle.sc_txn.proofs.Standing.{server_takes}
use Rattle.sc_txn.proofs.server.ServerTxn.take.Goals as goal

pub returns : goal.returns
returns c invite passed stands = rw c.server_next-self-inside.ensures (server_takes _ c.args.item invite passed (rw (← c.self.view_is) at stands))
