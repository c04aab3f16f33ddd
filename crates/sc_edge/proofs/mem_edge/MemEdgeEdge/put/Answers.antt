use Rattle.std.proofs.Common.{◌-◌, ◌∙◌, length}
use Rattle.sc_edge.proofs.EdgePutLaws.{part_of, put_barred, put_cut, put_later, put_leaves, put_no_poll, put_stands, put_stays, put_tells, put_took}
use Rattle.sc_edge.proofs.mem_edge.MemEdgeEdge.put.Goals as goal

pub returns-clause-later : goal.returns-clause-later
returns-clause-later c = rw c.put_next.ensures.after (put_later c.args.self.now c.args.to c.args.bytes.now)

pub returns-clause-bound : goal.returns-clause-bound
returns-clause-bound c = part_of c.put_next.result (length c.args.bytes.now) (c.args.self.now.taken.room - length c.args.self.now.taken.kept) c.put_next.ensures.fits

pub returns-clause-barred : goal.returns-clause-barred
returns-clause-barred c = λ barred. c.put_next.ensures.put ∙ put_barred c.args.self.now c.args.to c.args.bytes.now barred

pub returns-clause-took : goal.returns-clause-took
returns-clause-took c = rw (c.put_next.ensures.after, c.put_next.ensures.put) (put_took c.args.self.now c.args.to c.args.bytes.now)

pub returns-clause-cut : goal.returns-clause-cut
returns-clause-cut c = λ peer. rw (c.put_next.ensures.after, c.put_next.ensures.put) (put_cut c.args.self.now c.args.to c.args.bytes.now)

pub returns-clause-leaves : goal.returns-clause-leaves
returns-clause-leaves c = rw (c.put_next.ensures.after, c.put_next.ensures.put) (put_leaves c.args.self.now c.args.to c.args.bytes.now)

pub returns-clause-stays : goal.returns-clause-stays
returns-clause-stays c = λ place apart. rw c.put_next.ensures.after (put_stays c.args.self.now c.args.to c.args.bytes.now place apart)

pub returns-clause-stands : goal.returns-clause-stands
returns-clause-stands c = λ place apart. rw c.put_next.ensures.after (put_stands c.args.self.now c.args.to c.args.bytes.now place apart)

pub returns-clause-tells : goal.returns-clause-tells
returns-clause-tells c = rw (c.put_next.ensures.after, c.put_next.ensures.put) (put_tells c.args.self.now c.args.to c.args.bytes.now)

pub returns-clause-polled : goal.returns-clause-polled
returns-clause-polled c = rw c.put_next.ensures.after (put_no_poll c.args.self.now c.args.to c.args.bytes.now)
