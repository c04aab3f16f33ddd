use Rattle.std.proofs.Common.{◌≡◌}
use Rattle.std.specs.List.{find}
use Rattle.sc_book.specs.Places.{passes_at}
use Rattle.sc_book.proofs.finding.first_of.Given as goal

-- none that was seen passes
abbrev pub invariant-loop-place : goal.invariant-loop-place
invariant-loop-place g l = find (passes_at (g.P.Probe.passes l.probe) l.book) l.place-iterator ≡ find (passes_at (g.P.Probe.passes l.probe) l.book) l.places.keys
