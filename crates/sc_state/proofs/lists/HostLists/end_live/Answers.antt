use Rattle.sc_state.proofs.KeptLaws.{clients_beside, servers_beside}
use Rattle.sc_state.proofs.lists.HostLists.end_live.Goals as goal

pub leave_clients-requires : goal.leave_clients-requires
leave_clients-requires g c = λ t. clients_beside c.args.serial c.self.inside.sessions c.remove.new.self c.self.inside.clients (c.self.invariant t).0 c.in_ok-remove.ensures.ok

pub leave_servers-requires : goal.leave_servers-requires
leave_servers-requires g c = λ t. servers_beside c.args.serial c.self.inside.sessions c.remove.new.self c.self.inside.servers (c.self.invariant t).1 c.in_ok-remove.ensures.ok
