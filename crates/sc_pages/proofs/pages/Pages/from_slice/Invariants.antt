use Rattle.std.proofs.Common.{◌≡◌, take}
use Rattle.sc_pages.proofs.pages.Pages.from_slice.Given as goal

abbrev pub invariant-loop-item : goal.invariant-loop-item
invariant-loop-item g l = l.pages ≡ take l.item-index l.items
