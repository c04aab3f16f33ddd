-- Pages that have an item. This project's own.
use Rattle.std.specs.Prelude.{Bool, not, ◌==◌, List, length}

-- whether the page has an item
abbrev pub is_filled : {A : Type 0} → List A → Bool
is_filled page = not (length page == 0)
