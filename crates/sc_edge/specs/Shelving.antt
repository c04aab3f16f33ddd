-- What a shelf answers, against what it holds under the name. This project's own.
use Rattle.std.specs.Prelude.{◌≡◌, ℕ, ◌<◌, ◌≤◌, Option, Some, None, List, length}
use Rattle.sc_edge.specs.declared.shelf.Shelved.{Shelved}
use Rattle.sc_edge.specs.declared.shelf.Shelved.TheVariants.{Got, Long, Failed, NoMemory}

-- these are all the bytes that are told; where none are told, any
abbrev pub GivesAll : List ℕ → Option (List ℕ) → Type 0
GivesAll bytes None = Unit {0}
GivesAll bytes (Some all) = bytes ≡ all

-- what is told has more than `max` bytes
abbrev pub IsLonger : Option (List ℕ) → ℕ → Type 0
IsLonger None max = Unit {0}
IsLonger (Some all) max = max < length all

-- what an answer says of the bytes told under the name; `rose` is that the count of faults rose
abbrev pub Gives : Shelved → Option (List ℕ) → ℕ → Type 0 → Type 0
Gives (Got bytes) told max rose = (length bytes ≤ max) × GivesAll bytes told
Gives Long told max rose = IsLonger told max
Gives Failed told max rose = rose
Gives NoMemory told max rose = Unit {0}
