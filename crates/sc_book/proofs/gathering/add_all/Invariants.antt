use Rattle.std.proofs.Common.{◌≡◌, ◌++◌}
use Rattle.std.specs.Map.{values_of}
use Rattle.sc_book.specs.Gathering.{items_at as gathered, is_wanted}
use Rattle.sc_book.proofs.gathering.add_all.Given as goal

-- with what is gathered from the places left there is what is gathered from all
abbrev pub invariant-loop-place : goal.invariant-loop-place
invariant-loop-place g l = l.own ++ values_of (gathered (is_wanted g.T.Item.due g.T.Item.groups l.wanted) l.book l.place-iterator) ≡ l.fn.own ++ values_of (gathered (is_wanted g.T.Item.due g.T.Item.groups l.wanted) l.book l.places.keys)
