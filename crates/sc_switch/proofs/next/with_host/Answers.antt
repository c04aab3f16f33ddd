use Rattle.std.proofs.Common.{◌∙◌, sym}
use Rattle.sc_switch.proofs.Nexts.{host_next, host_none}
use Rattle.sc_switch.proofs.next.with_host.Goals as goal

pub returns-in-Some : goal.returns-in-Some
returns-in-Some c =
    host_next c.args.kept.now c.args.number c.args.best c.args.host.now c.as_slice.result.now c.in-Some.event c.in-Some.serial c.better.result
    (c.as_slice.ensures ∙ c.in_ok-leased.ensures) (sym c.in-Some.is ∙ c.in_ok-event.ensures) c.better.ensures

pub returns : goal.returns
returns c =
    host_none c.args.kept.now c.args.number c.args.best c.args.host.now c.as_slice.result.now
    (c.as_slice.ensures ∙ c.in_ok-leased.ensures) (sym c.in-None.is ∙ c.in_ok-event.ensures)
