use Rattle.std.proofs.Common.{◌≡◌, take}
use Rattle.std.specs.List.{fold}
use Rattle.sc_pages.specs.Outlines.{widened}
use Rattle.sc_pages.proofs.outline.widen_all.Given as goal

abbrev pub invariant-loop-item : goal.invariant-loop-item
invariant-loop-item g l = l.outline ≡ fold (widened g.T.Paged.number g.T.Paged.rests) l.fn.outline (take l.item-index l.items)
