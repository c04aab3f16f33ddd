-- Lists that are kept in parts. This project's own.
use Rattle.std.specs.Prelude.{List}
use Rattle.std.specs.List.{flat_map}

-- all items of the parts, in order
abbrev pub joined : {A : Type 0} → List (List A) → List A
joined parts = flat_map (λ part. part) parts
