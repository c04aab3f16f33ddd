use Rattle.std.proofs.Common.{◌≡◌, OnOk, subst, ap, ◌∙◌}
use Rattle.std.specs.List.{fold}
use Rattle.sc_hosts.specs.Acting.{acts}
use Rattle.sc_acting.proofs.Busy.{acting_all}
use Rattle.sc_acting.proofs.acting.all_act.Goals as goal

pub returns : goal.returns
returns c =
    subst (λ after. OnOk c.each_acts.result (c.each_acts.new.working ≡ after))
    (ap (fold (acts c.args.config.now) c.args.working.now) (c.as_slice.ensures ∙ c.in_ok-proxies.ensures) ∙ acting_all c.args.config.now c.args.working.now)
    c.each_acts.ensures
