use Rattle.std.proofs.Common.{◌≡◌, ◌++◌, take}
use Rattle.sc_queue.specs.Joined.{joined}
use Rattle.sc_pages.proofs.copies.add_pages.Given as goal

abbrev pub invariant-loop-page : goal.invariant-loop-page
invariant-loop-page g l = l.list ≡ l.fn.list ++ joined (take l.page-index l.pages)
