use Rattle.std.proofs.Common.{◌≡◌, sym, ap, ◌∙◌, subst}
use Rattle.std.specs.Arc.{arc_value}
use Rattle.std.specs.Result.{OnOk}
use Rattle.sc_value.specs.Lists.{change_first}
use Rattle.sc_state.specs.Keeping.{without_ended as without_ended}
use Rattle.sc_state.specs.Sharing.{lists_of}
use Rattle.sc_state.specs.Standing.{is_server}
use Rattle.sc_state.proofs.hosting.Host.change_server.Goals as goal
use Rattle.sc_state.proofs.hosting.Host.change_server.Goals.{in-None, in-Some}

pub returns : goal.returns
returns g c = elim c.match-self.branch [
  | in-Some w ↦ rw (w.result-is, w.self-inside-is) (subst (λ h. OnOk w.change_server_in.result (arc_value w.change_server_in.new.lists ≡ without_ended (record h { servers = change_first (is_server c.args.server.event) (λ _. c.args.server) h.servers }))) (sym (ap lists_of w.in-Some.is) ∙ c.self.view_is ∙ c.in_ok-own.ensures) w.change_server_in.ensures)
  | in-None w ↦ rw (w.result-is) tt
]
