use Rattle.std.proofs.Common.{ap, sym, ◌∙◌}
use Rattle.std.specs.Option.{option_copied}
use Rattle.sc_hosts.specs.Transacting.{client_passed}
use Rattle.sc_transact.proofs.ClientUses.{passed_found}
use Rattle.sc_transact.proofs.clients.pass_client.Goals as goal

pub returns : goal.returns
returns c =
    c.in_ok-change_client.ensures
    ∙ passed_found c.args.app c.args.branch c.args.cancelling c.args.item c.args.host.now c.in-Some.client.now c.in_ok-own-in-Some.own
    (sym (ap option_copied c.in-Some.is) ∙ c.in_ok-client.ensures) (c.in_ok-own-in-Some.ensures ∙ ap (client_passed c.args.item) c.get.ensures)
