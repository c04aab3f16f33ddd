use Rattle.std.proofs.Common.{◌≡◌, ◌++◌, take}
use Rattle.sc_queue.specs.Joined.{joined}
use Rattle.sc_pages.specs.Spots.{rest}
use Rattle.sc_pages.proofs.same.next_pages_same.Given as goal

abbrev pub invariant-loop-page : goal.invariant-loop-page
invariant-loop-page g l = rest l.pages l.newest l.fn.spot ≡ joined (take l.page-index l.others) ++ rest l.pages l.newest l.spot
