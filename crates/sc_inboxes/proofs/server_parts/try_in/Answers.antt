use Rattle.std.proofs.Common.{◌∙◌, sym, ap}
use Rattle.std.specs.Option.{option_copied}
use Rattle.sc_hosts.specs.Taking.{server_after_trying as tried}
use Rattle.sc_inboxes.proofs.HostUses.{tried_found, then_same}
use Rattle.sc_inboxes.proofs.server_parts.try_in.Goals as goal

pub returns : goal.returns
returns c = then_same c.set_server.result _ _ _
    (tried_found c.args.event c.args.request.now c.args.now c.args.host.now c.in-Some.server.now c.in_ok-own-in-Some.own
    (sym (ap option_copied c.in-Some.is) ∙ c.server.ensures) (c.in_ok-own-in-Some.ensures ∙ ap (tried c.args.request.now c.args.now) c.get.ensures))
    c.set_server.ensures
