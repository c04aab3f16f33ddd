use Rattle.std.proofs.Common.{◌≡◌, length}
use Rattle.sc_ticks.specs.Firsts.{kept_firsts}
use Rattle.sc_ticks.proofs.firsts.keep_firsts.Given as goal

abbrev pub invariant-loop-dated : goal.invariant-loop-dated
invariant-loop-dated l = kept_firsts l.now l.kept.entries l.all.items ≡ kept_firsts l.now l.fn.kept.entries l.fn.all.items

abbrev pub decreases-loop-dated : goal.decreases-loop-dated
decreases-loop-dated l = length l.all.items
