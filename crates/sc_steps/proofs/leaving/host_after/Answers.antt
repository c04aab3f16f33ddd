use Rattle.std.proofs.Common.{◌∙◌, sym, ap}
use Rattle.std.specs.Option.{option_copied}
use Rattle.sc_steps.specs.TurnParts.{live_after}
use Rattle.sc_steps.proofs.TurnedHosts.{after_found, then_same}
use Rattle.sc_steps.proofs.leaving.host_after.Goals as goal

pub returns : goal.returns
returns c = then_same c.set_live.result _ _ _
    (after_found c.args.serial c.args.now c.args.session.now c.args.host.now c.in-Some.live.now c.in_ok-own-in-Some.own
    (sym (ap option_copied c.in-Some.is) ∙ c.live.ensures) (c.in_ok-own-in-Some.ensures ∙ ap (live_after c.args.now c.args.session.now) c.get.ensures))
    c.set_live.ensures
