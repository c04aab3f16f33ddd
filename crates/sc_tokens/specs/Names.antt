-- When two texts are the same, and when two names are (RFC 3261 section 7.3.1).
use Rattle.std.specs.Prelude.{List, ℕ, Bool, map, nat_eq}
use Rattle.std.specs.Char.{to_ascii_lowercase}
use Rattle.std.specs.Cmp.Lexicographic.{pointwise}

-- the two texts have the same bytes
abbrev pub same_bytes : List ℕ → List ℕ → Bool
same_bytes a b = pointwise nat_eq a b

-- the two names are the same without case
unfoldable pub same_name : List ℕ → List ℕ → Bool
same_name a b = same_bytes (map to_ascii_lowercase a) (map to_ascii_lowercase b)
