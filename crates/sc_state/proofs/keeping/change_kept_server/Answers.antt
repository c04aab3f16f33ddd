use Rattle.std.proofs.Common.{ap, sym, ◌∙◌}
use Rattle.sc_value.specs.Lists.{remove_first}
use Rattle.sc_state.specs.Keeping.{kept_server}
use Rattle.sc_state.specs.Standing.{is_server}
use Rattle.sc_state.proofs.KeptLaws.{server_gone, server_kept}
use Rattle.sc_state.proofs.keeping.change_kept_server.Goals as goal

pub returns-then-is_kept_server : goal.returns-then-is_kept_server
returns-then-is_kept_server g c =
    server_kept c.args.sessions.now c.args.server c.args.servers.now c.set.new.self c.requires
    (ap (kept_server c.args.sessions.now) (sym c.get.ensures) ∙ sym c.is_kept_server.ensures ∙ c.if-is_kept_server.true) c.in_ok-set.ensures.ok

pub returns : goal.returns
returns g c =
    server_gone c.args.sessions.now c.args.server c.args.servers.now c.remove.new.self c.requires
    (ap (kept_server c.args.sessions.now) (sym c.get.ensures) ∙ sym c.is_kept_server.ensures ∙ c.if-is_kept_server.false)
    (c.in_ok-remove.ensures.ok ∙ ap (λ x. remove_first (is_server x.event) c.args.servers.now) c.get-2.ensures)
