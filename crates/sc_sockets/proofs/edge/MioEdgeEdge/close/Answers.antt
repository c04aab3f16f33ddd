use Rattle.std.proofs.Common.{arith, refl}
use Rattle.sc_sockets.proofs.GrowLaws.{grows_left, shut_shuts}
use Rattle.sc_sockets.proofs.edge.MioEdgeEdge.close.Goals as goal

pub returns-clause-later : goal.returns-clause-later
returns-clause-later g c = let grows = grows_left c.args.at c.args.self.now c.close_once.new.self c.close_once.ensures in (omega (arith, grows.faults), λ place. omega (arith, grows.failures))

pub returns-clause-shut : goal.returns-clause-shut
returns-clause-shut g c = rw c.close_once.ensures (shut_shuts c.args.at c.args.self.now)

pub returns-clause-stays : goal.returns-clause-stays
returns-clause-stays g c = (grows_left c.args.at c.args.self.now c.close_once.new.self c.close_once.ensures).stays

pub returns-clause-stands : goal.returns-clause-stands
returns-clause-stands g c = (grows_left c.args.at c.args.self.now c.close_once.new.self c.close_once.ensures).stands

pub returns-clause-polled : goal.returns-clause-polled
returns-clause-polled g c = ((grows_left c.args.at c.args.self.now c.close_once.new.self c.close_once.ensures).polls, refl, refl)
