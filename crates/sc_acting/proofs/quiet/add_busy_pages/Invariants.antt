use Rattle.std.proofs.Common.{◌≡◌, ◌++◌, take}
use Rattle.std.specs.List.{filter, flat_map}
use Rattle.sc_acting.specs.Quiet.{is_busy}
use Rattle.sc_acting.proofs.quiet.add_busy_pages.Given as goal

abbrev pub invariant-loop-page : goal.invariant-loop-page
invariant-loop-page l = l.busy ≡ l.fn.busy ++ flat_map (λ page. filter is_busy page) (take l.page-index l.pages)
