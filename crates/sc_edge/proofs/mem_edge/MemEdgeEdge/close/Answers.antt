use Rattle.sc_edge.proofs.EdgePutLaws.{close_later, close_notes, close_shuts, close_stands, close_stays}
use Rattle.sc_edge.proofs.mem_edge.MemEdgeEdge.close.Goals as goal

pub returns-clause-later : goal.returns-clause-later
returns-clause-later c = rw c.close_next.ensures (close_later c.args.self.now c.args.at)

pub returns-clause-shut : goal.returns-clause-shut
returns-clause-shut c = rw c.close_next.ensures (close_shuts c.args.self.now c.args.at)

pub returns-clause-stays : goal.returns-clause-stays
returns-clause-stays c = λ place. rw c.close_next.ensures (close_stays c.args.self.now c.args.at place)

pub returns-clause-stands : goal.returns-clause-stands
returns-clause-stands c = λ place. rw c.close_next.ensures (close_stands c.args.self.now c.args.at place)

pub returns-clause-closes : goal.returns-clause-closes
returns-clause-closes c = rw c.close_next.ensures (close_notes c.args.self.now c.args.at)
