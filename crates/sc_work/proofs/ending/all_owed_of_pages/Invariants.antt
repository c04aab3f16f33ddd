use Rattle.std.proofs.Common.{◌≡◌, ◌++◌, take}
use Rattle.std.specs.List.{flat_map}
use Rattle.sc_work.specs.Goodbyes.{owed_by}
use Rattle.sc_work.proofs.ending.all_owed_of_pages.Given as goal

abbrev pub invariant-loop-page : goal.invariant-loop-page
invariant-loop-page l = l.orders ≡ l.fn.orders ++ flat_map (λ page. flat_map (owed_by l.config l.view l.known l.whose) page) (take l.page-index l.pages)
