use Rattle.std.proofs.Common.{◌≡◌}
use Rattle.std.specs.BTreeMap.{values}
use Rattle.std.specs.List.{fold}
use Rattle.sc_hosts.specs.Ticks.{fires}
use Rattle.sc_ticks.proofs.firing.all_fired.Given as goal

abbrev pub invariant-loop-dated : goal.invariant-loop-dated
invariant-loop-dated l =
    fold (λ net d. fires l.config l.now net d.entry d.item) l.net l.dated-iterator ≡ fold (λ net d. fires l.config l.now net d.entry d.item) l.fn.net (values l.items)
