use Rattle.std.proofs.Common.{◌∙◌, sym, ap}
use Rattle.std.specs.Option.{option_copied}
use Rattle.sc_ticks.specs.Items.{with_fired}
use Rattle.sc_ticks.proofs.MarkedHosts.{marked_found, then_same}
use Rattle.sc_ticks.proofs.marking.mark_fired.Goals as goal

pub returns : goal.returns
returns c = rw (← c.key.view_is) (then_same c.set_live.result _ _ _
    (marked_found _ c.args.host.now c.in-Some.live.now c.in_ok-own-in-Some.own
    (sym (ap option_copied c.in-Some.is) ∙ c.live.ensures) (c.in_ok-own-in-Some.ensures ∙ ap (with_fired c.key.inside.due c.key.inside.timer) c.get.ensures))
    c.set_live.ensures)
