use Rattle.std.proofs.Common.{◌∙◌, sym, ap}
use Rattle.std.specs.Option.{option_copied}
use Rattle.sc_hosts.specs.Inboxes.{with_event}
use Rattle.sc_inboxes.proofs.HostUses.{queued_found, then_same}
use Rattle.sc_inboxes.proofs.inboxes.queue_in.Goals as goal

pub returns : goal.returns
returns c = then_same c.set_live.result _ _ _
    (queued_found c.args.serial c.args.number c.args.now c.args.event c.args.host.now c.in-Some.live.now c.in_ok-own-in-Some.own
    (sym (ap option_copied c.in-Some.is) ∙ c.live.ensures) (c.in_ok-own-in-Some.ensures ∙ ap (with_event c.args.number c.args.now c.args.event) c.get.ensures))
    c.set_live.ensures
