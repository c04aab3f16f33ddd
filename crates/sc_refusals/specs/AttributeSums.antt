-- The bytes of an attribute beside one of a name. This project's own.
use Rattle.std.specs.Prelude.{ℕ, ◌+◌, if◌then◌else◌, length}
use Rattle.sc_tokens.specs.Names.{same_bytes}
use Rattle.sc_value.specs.declared.parts.Field.{Field}
use Rattle.sc_tokens.specs.Bytes.{Bytes}

-- its bytes, none where it has this name
unfoldable pub bytes_beside : Bytes → Field → ℕ
bytes_beside name field =
    if same_bytes field.name name then 0 else length field.name + length field.value
