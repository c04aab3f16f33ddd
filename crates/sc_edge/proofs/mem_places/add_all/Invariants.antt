use Rattle.std.proofs.Common.{◌≡◌, ◌++◌, take}
use Rattle.std.specs.List.{flat_map}
use Rattle.sc_edge.specs.EdgePlaces.{place_of_answer as named}
use Rattle.sc_edge.proofs.mem_places.add_all.Given as goal

abbrev pub invariant-loop-item : goal.invariant-loop-item
invariant-loop-item l = l.known.items ≡ l.fn.known.items ++ flat_map named (take l.item-index l.items)
