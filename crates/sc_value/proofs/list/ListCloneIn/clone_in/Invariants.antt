use Rattle.std.proofs.Common.{◌≡◌, take}
use Rattle.sc_value.proofs.list.ListCloneIn.clone_in.Given as goal

abbrev pub invariant-loop-item : goal.invariant-loop-item
invariant-loop-item g l = l.copies.items ≡ take l.item-index l.item-items
