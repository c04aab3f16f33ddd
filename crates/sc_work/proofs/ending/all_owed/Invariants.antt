use Rattle.std.proofs.Common.{◌≡◌, ◌++◌, take}
use Rattle.std.specs.List.{flat_map}
use Rattle.sc_work.specs.Goodbyes.{owed_by}
use Rattle.sc_work.proofs.ending.all_owed.Given as goal

abbrev pub invariant-loop-request : goal.invariant-loop-request
invariant-loop-request l = l.orders ≡ l.fn.orders ++ flat_map (owed_by l.config l.view l.known l.whose) (take l.request-index l.requests)
