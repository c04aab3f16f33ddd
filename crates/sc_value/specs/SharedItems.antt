-- The items of a list that may have several owners. This project's own.
use Rattle.std.specs.Prelude.{List, [], Option, None, Some}
use Rattle.std.specs.declared.alloc.Global.{Global}
use Rattle.std.specs.declared.sync.Arc.{Arc}
use Rattle.std.specs.Arc.{arc_value}

-- none where there is no list
abbrev pub items_of : {T : Type 0} → Option (Arc (List T) Global) → List T
items_of None = []
items_of (Some list) = arc_value list
