use Rattle.std.proofs.Common.{◌≡◌, ◌++◌, take}
use Rattle.std.specs.List.{flat_map}
use Rattle.sc_work.specs.Goodbyes.{kept_branches}
use Rattle.sc_work.proofs.ending.all_kept_of_pages.Given as goal

abbrev pub invariant-loop-page : goal.invariant-loop-page
invariant-loop-page l = l.numbers.items ≡ l.fn.numbers.items ++ flat_map (λ page. flat_map (kept_branches l.whose) page) (take l.page-index l.pages)
