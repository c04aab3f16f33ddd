use Rattle.std.proofs.Common.{◌≡◌, ◌++◌, take}
use Rattle.sc_pages.specs.Spots.{rest}
use Rattle.sc_pages.proofs.same.next_all_same.Given as goal

abbrev pub invariant-loop-item : goal.invariant-loop-item
invariant-loop-item g l = rest l.pages l.newest l.fn.spot ≡ take l.item-index l.items ++ rest l.pages l.newest l.spot
