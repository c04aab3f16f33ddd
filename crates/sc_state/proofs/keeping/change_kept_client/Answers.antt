use Rattle.std.proofs.Common.{ap, sym, ◌∙◌}
use Rattle.sc_value.specs.Lists.{remove_first}
use Rattle.sc_state.specs.Keeping.{kept_client, is_same_client}
use Rattle.sc_state.proofs.KeptLaws.{client_gone, client_kept}
use Rattle.sc_state.proofs.keeping.change_kept_client.Goals as goal

pub returns-then-is_kept_client : goal.returns-then-is_kept_client
returns-then-is_kept_client g c =
    client_kept c.args.sessions.now c.args.client c.args.clients.now c.set_client.new.clients c.requires
    (ap (kept_client c.args.sessions.now) (sym c.get.ensures) ∙ sym c.is_kept_client.ensures ∙ c.if-is_kept_client.true) c.in_ok-set_client.ensures

pub returns : goal.returns
returns g c =
    client_gone c.args.sessions.now c.args.client c.args.clients.now c.remove_client.new.clients c.requires
    (ap (kept_client c.args.sessions.now) (sym c.get.ensures) ∙ sym c.is_kept_client.ensures ∙ c.if-is_kept_client.false)
    (c.in_ok-remove_client.ensures ∙ ap (λ x. remove_first (is_same_client x) c.args.clients.now) c.get-2.ensures)
