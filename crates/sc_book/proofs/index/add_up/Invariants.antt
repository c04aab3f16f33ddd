use Rattle.std.proofs.Common.{◌≡◌}
use Rattle.sc_book.specs.Gathering.{with_places}
use Rattle.sc_book.proofs.index.add_up.Given as goal

-- with the places of what is left there are those of all
abbrev pub invariant-loop-pair : goal.invariant-loop-pair
invariant-loop-pair l = with_places l.places.keys l.pair-iterator ≡ with_places l.fn.places.keys l.initial.pair-iterator
