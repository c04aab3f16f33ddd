use Rattle.std.proofs.Common.{◌≡◌, ◌-◌, List, length}
use Rattle.sc_pages.specs.Spots.{rest}
use Rattle.sc_pages.proofs.same.settled.Given as goal

-- the items to come are the same
abbrev pub invariant-loop-page : goal.invariant-loop-page
invariant-loop-page g l = (newest : List g.row.T.Denot) → rest l.pages newest (record { page = l.page; within = l.within }) ≡ rest l.pages newest l.fn.spot

abbrev pub decreases-loop-page : goal.decreases-loop-page
decreases-loop-page g l = length l.pages - l.page
