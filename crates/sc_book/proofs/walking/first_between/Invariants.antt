use Rattle.std.proofs.Common.{◌≡◌}
use Rattle.std.specs.List.{find}
use Rattle.sc_book.specs.Places.{passes_at}
use Rattle.sc_book.specs.Gathering.{places_in}
use Rattle.sc_book.proofs.walking.first_between.Given as goal

-- none that was seen passes
abbrev pub invariant-loop-pair : goal.invariant-loop-pair
invariant-loop-pair g l = find (passes_at (g.P.Probe.passes l.probe) l.items.entries) (places_in l.pair-iterator) ≡ find (passes_at (g.P.Probe.passes l.probe) l.items.entries) (places_in l.initial.pair-iterator)
