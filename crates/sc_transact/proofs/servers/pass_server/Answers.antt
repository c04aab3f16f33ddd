use Rattle.std.proofs.Common.{ap, sym, ◌∙◌}
use Rattle.std.specs.Option.{option_copied}
use Rattle.sc_hosts.specs.Transacting.{server_passed}
use Rattle.sc_transact.proofs.ServerUses.{passed_found}
use Rattle.sc_transact.proofs.servers.pass_server.Goals as goal

pub returns : goal.returns
returns c =
    c.in_ok-change_server.ensures
    ∙ passed_found c.args.event c.args.item c.args.host.now c.in-Some.server.now c.in_ok-own-in-Some.own
    (sym (ap option_copied c.in-Some.is) ∙ c.server.ensures) (c.in_ok-own-in-Some.ensures ∙ ap (server_passed c.args.item) c.get.ensures)
