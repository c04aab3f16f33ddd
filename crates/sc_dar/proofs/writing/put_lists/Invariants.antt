use Rattle.std.proofs.Common.{◌≡◌, ◌++◌, take}
use Rattle.std.specs.List.{flat_map}
use Rattle.sc_dar.specs.WrittenTables.{list_text}
use Rattle.sc_dar.proofs.writing.put_lists.Given as goal

abbrev pub invariant-loop-list : goal.invariant-loop-list
invariant-loop-list l = l.out ≡ l.fn.out ++ flat_map (list_text l.apps) (take l.list-index l.lists)
