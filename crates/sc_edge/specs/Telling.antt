-- What a part of the outside tells. A part that tells nothing stays one. This project's own.
use Rattle.std.specs.Prelude.{◌≡◌, ◌⊎◌, Option, Some, None, List, [], ◌∷◌, ◌++◌}

-- the answer is the one that was told; where none was told, any
abbrev pub IsTold : {A : Type 0} → Option A → A → Type 0
IsTold None answer = Unit {0}
IsTold (Some told) answer = answer ≡ told

-- an item was put at the end of what is told, or nothing is told from now on
abbrev pub Notes : {A : Type 0} → Option (List A) → Option (List A) → A → Type 0
Notes None new item = new ≡ None
Notes (Some old) new item = (new ≡ Some (old ++ item ∷ [])) ⊎ (new ≡ None)
