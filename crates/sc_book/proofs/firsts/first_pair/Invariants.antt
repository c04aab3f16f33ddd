use Rattle.std.proofs.Common.{◌≡◌}
use Rattle.std.specs.List.{find}
use Rattle.sc_book.specs.Firsts.{is_next}
use Rattle.sc_book.proofs.firsts.first_pair.Given as goal

-- none that was seen is the next one
abbrev pub invariant-loop-pair : goal.invariant-loop-pair
invariant-loop-pair g l = find (is_next g.T.Item.first l.places l.items.entries) l.pair-iterator ≡ find (is_next g.T.Item.first l.places l.items.entries) l.pairs.keys
