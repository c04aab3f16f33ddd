use Rattle.sc_state.proofs.KeptLaws.{left_clients}
use Rattle.sc_state.proofs.keeping.leave_clients.Goals as goal

pub returns-then-tidy : goal.returns-then-tidy
returns-then-tidy g c = left_clients c.args.serial c.args.sessions.now c.args.clients.now c.keep_in.new.self (c.requires c.if-tidy.true) c.in_ok-keep_in.ensures
