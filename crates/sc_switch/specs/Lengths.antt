-- The lengths of the written parts of a message. This project's own.
use Rattle.std.specs.Prelude.{ℕ, ◌+◌, Option, None, Some, length}
use Rattle.sc_tokens.specs.Bytes.{Bytes}

-- the length of a text with the sign that stands before or behind it; none has no bytes
unfoldable pub marked_length : Option Bytes → ℕ
marked_length None = 0
marked_length (Some text) = length text + 1
