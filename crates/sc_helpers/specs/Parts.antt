-- Parts of texts and of heads, as the code reads them. Heads are those of RFC 3261 section 7.3.
use Rattle.std.specs.Prelude.{ℕ, List, [], ◌∷◌, Bool, true, false, ◌&&◌, ◌||◌, Option, None, Some}
use Rattle.std.specs.List.{list_any}
use Rattle.sc_value.specs.declared.parts.Field.{Field}
use Rattle.sc_tokens.specs.Names.{same_name}
use Rattle.sc_tokens.specs.Bytes.{Bytes}
use Rattle.sc_tokens.specs.Cuts.{pieces}
use Rattle.sc_hosts.specs.HelperParts.{items_of, require_word, supported_word}

-- the pieces of what stands behind a sign
unfoldable pub more_pieces : ℕ → Option Bytes → List Bytes
more_pieces sign None = []
more_pieces sign (Some rest) = pieces sign rest

-- the field has this name
abbrev pub is_called : Bytes → Field → Bool
is_called name field = same_name field.name name

-- a Supported or Require header with this option
unfoldable pub is_listing : Bytes → Field → Bool
is_listing option field =
    (same_name field.name supported_word || same_name field.name require_word)
    && list_any (same_name option) (items_of field.value)

-- there are three words, as a RAck has them (RFC 3262 section 7.2)
unfoldable pub is_three : List Bytes → Bool
is_three [] = false
is_three (a ∷ []) = false
is_three (a ∷ b ∷ []) = false
is_three (a ∷ b ∷ c ∷ []) = true
is_three (a ∷ b ∷ c ∷ d ∷ more) = false
