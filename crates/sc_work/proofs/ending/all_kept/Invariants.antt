use Rattle.std.proofs.Common.{◌≡◌, ◌++◌, take}
use Rattle.std.specs.List.{flat_map}
use Rattle.sc_work.specs.Goodbyes.{kept_branches}
use Rattle.sc_work.proofs.ending.all_kept.Given as goal

abbrev pub invariant-loop-one : goal.invariant-loop-one
invariant-loop-one l = l.numbers.items ≡ l.fn.numbers.items ++ flat_map (kept_branches l.whose) (take l.one-index l.kept)
