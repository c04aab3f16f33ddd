use Rattle.sc_state.proofs.KeptLaws.{left_servers}
use Rattle.sc_state.proofs.keeping.leave_servers.Goals as goal

pub returns-then-tidy : goal.returns-then-tidy
returns-then-tidy g c = left_servers c.args.serial c.args.sessions.now c.args.servers.now c.keep_in.new.self (c.requires c.if-tidy.true) c.in_ok-keep_in.ensures
