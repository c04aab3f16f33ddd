-- A base with one change over it. This project's own.
use Rattle.std.specs.declared.option.Option.TheVariants.{None, Some}
use Rattle.std.specs.Prelude.{Option}
use Rattle.std.specs.declared.alloc.Global.{Global}
use Rattle.std.specs.declared.boxed.Box.{Box}
use Rattle.sc_book.specs.declared.top.Top.{Top}
use Rattle.sc_book.specs.Places.{Placed, with_item_at}

-- the items with the change that lies over them, where there is one
abbrev pub topped : {T : Type 0} → Placed T → Option (Box (Top T) Global) → Placed T
topped es None = es
topped es (Some top) = with_item_at es top.value.place top.value.change
