use Rattle.std.proofs.Common.{refl}
use Rattle.sc_state.proofs.KeptLaws.{changed_clients, changed_servers}
use Rattle.sc_state.proofs.lists.HostLists.set_live.Goals as goal

pub invariant_of-self-2 : goal.invariant_of-self-2
invariant_of-self-2 g c = λ t. (
  changed_clients c.args.live.serial c.args.live c.self.inside.sessions c.set.new.self c.self.inside.clients (c.self.invariant t).0 c.in_ok-set.ensures.ok refl,
  changed_servers c.args.live.serial c.args.live c.self.inside.sessions c.set.new.self c.self.inside.servers (c.self.invariant t).1 c.in_ok-set.ensures.ok refl,
)
