-- The bytes of a text, which stand in the value itself or in memory of their own. This project's
-- own.
use Rattle.std.specs.Prelude.{ℕ, List}
use Rattle.sc_value.specs.declared.text.Bytes.{Bytes}
use Rattle.sc_value.specs.declared.text.Bytes.TheVariants.{Short, Long}

-- they are the same either way
abbrev pub bytes_of : Bytes → List ℕ
bytes_of (Short text) = text
bytes_of (Long text) = text
