-- The first part of a text that is cut at its separators (RFC 3261 section 7.3.1).
use Rattle.std.specs.Prelude.{ℕ, List, [], ◌∷◌, ◌+◌, Option, Some, None, if◌then◌else◌}
use Rattle.sc_syntax.specs.declared.scan.Scan.{Scan}
use Rattle.sc_tokens.specs.Bytes.{Bytes}
use Rattle.sc_syntax.specs.Scanning.{past, is_part_end, parts}

-- how many bytes stand before the first separator that parts
unfoldable pub part_len : ℕ → Scan → Bytes → ℕ
part_len sign at [] = 0
part_len sign at (b ∷ bs) = if is_part_end at sign b then 0 else 1 + part_len sign (past at b) bs

-- the parts behind a separator, where there is one
unfoldable pub parts_behind : Scan → ℕ → Option Bytes → List Bytes
parts_behind restart sign None = []
parts_behind restart sign (Some text) = parts restart sign restart text
