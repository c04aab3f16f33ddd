use Rattle.sc_sockets.proofs.PollLaws.{polls_all}
use Rattle.sc_sockets.proofs.polling.poll.Goals as goal

pub returns-clause-polls : goal.returns-clause-polls
returns-clause-polls g c = polls_all c.args.book.now c.begin.new.book c.hear_next.new.book c.hear_next.result (rw c.count_poll.ensures at c.begin.ensures) c.hear_next.ensures.gives c.hear_next.ensures.later c.hear_next.ensures.rose
