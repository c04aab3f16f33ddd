use Rattle.std.proofs.Common.{length}
use Rattle.sc_edge.proofs.EdgeLaws.{poll_blames, poll_ends, poll_later, poll_names, poll_stands, poll_stays, poll_told, poll_within}
use Rattle.sc_edge.proofs.mem_edge.MemEdgeEdge.poll.Goals as goal

pub returns-clause-later : goal.returns-clause-later
returns-clause-later c = rw c.poll_next.ensures.after (poll_later c.args.self.now (length c.args.room.now))

pub returns-clause-bound : goal.returns-clause-bound
returns-clause-bound c = rw (c.poll_next.ensures.len, c.poll_next.ensures.got) (poll_within c.args.self.now (length c.args.room.now) c.requires)

pub returns-clause-blames : goal.returns-clause-blames
returns-clause-blames c = rw (c.poll_next.ensures.after, c.poll_next.ensures.got) (poll_blames c.args.self.now (length c.args.room.now))

pub returns-clause-told : goal.returns-clause-told
returns-clause-told c =
    rw (c.poll_next.ensures.after, c.poll_next.ensures.got) (poll_told c.args.self.now (length c.args.room.now) c.poll_next.new.room (rw (← c.poll_next.ensures.got) c.poll_next.ensures.bytes))

pub returns-clause-ended : goal.returns-clause-ended
returns-clause-ended c = rw (c.poll_next.ensures.after, c.poll_next.ensures.got) (poll_ends c.args.self.now (length c.args.room.now))

pub returns-clause-named : goal.returns-clause-named
returns-clause-named c = rw (c.poll_next.ensures.after, c.poll_next.ensures.got) (poll_names c.args.self.now (length c.args.room.now))

pub returns-clause-stays : goal.returns-clause-stays
returns-clause-stays c = λ place. rw c.poll_next.ensures.after (poll_stays c.args.self.now (length c.args.room.now) place)

pub returns-clause-stands : goal.returns-clause-stands
returns-clause-stands c = λ place. rw c.poll_next.ensures.after (poll_stands c.args.self.now (length c.args.room.now) place)
