use Rattle.std.proofs.Common.{◌≡◌, ◌++◌, take}
use Rattle.sc_pages.proofs.copies.add_items.Given as goal

abbrev pub invariant-loop-item : goal.invariant-loop-item
invariant-loop-item g l = l.list ≡ l.fn.list ++ take l.item-index l.items
