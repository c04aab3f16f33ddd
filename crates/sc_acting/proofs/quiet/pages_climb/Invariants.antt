use Rattle.std.proofs.Common.{◌≡◌, take}
use Rattle.std.specs.List.{fold}
use Rattle.sc_acting.specs.Quiet.{climbs}
use Rattle.sc_acting.proofs.quiet.pages_climb.Given as goal

abbrev pub invariant-loop-page : goal.invariant-loop-page
invariant-loop-page l = l.climb ≡ fold (λ climb page. fold climbs climb page) l.fn.climb (take l.page-index l.pages)
