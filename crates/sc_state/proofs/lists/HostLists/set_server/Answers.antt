use Rattle.std.proofs.Common.{ap, sym, ◌∙◌}
use Rattle.sc_state.specs.Keeping.{kept_server}
use Rattle.sc_state.proofs.KeptLaws.{server_changed}
use Rattle.sc_state.proofs.lists.HostLists.set_server.Goals as goal

pub invariant_of-self-2 : goal.invariant_of-self-2
invariant_of-self-2 g c = λ t. (
  (c.self.invariant t).0,
  server_changed c.args.server.event c.self.inside.sessions c.args.server c.self.inside.servers c.set-2.new.self (c.self.invariant t).1
      (ap (kept_server c.self.inside.sessions) (sym c.get.ensures) ∙ sym c.is_kept_server.ensures ∙ c.if-not-is_kept_server.false) c.in_ok-set-2.ensures.ok,
)
