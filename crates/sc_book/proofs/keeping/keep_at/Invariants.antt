use Rattle.std.proofs.Common.{◌≡◌}
use Rattle.sc_book.specs.Gathering.{left_at}
use Rattle.sc_book.specs.Keys.{AreFewer}
use Rattle.sc_book.proofs.keeping.keep_at.Given as goal

-- what is left at the places to come is what is left at all, and there are fewer items than before
abbrev pub invariant-loop-place : goal.invariant-loop-place
invariant-loop-place g l = (left_at (g.P.Probe.passes l.probe) l.items l.place-iterator ≡ left_at (g.P.Probe.passes l.probe) l.fn.items l.places.keys) × AreFewer l.fn.items l.items
