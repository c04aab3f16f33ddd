-- The fields of a head (RFC 3261 section 7.3).
use Rattle.std.specs.Prelude.{◌≡◌, Bool, List, [], ◌∷◌, ◌++◌, Option, Some, None, ⊤}
use Rattle.sc_tokens.specs.Blanks.{without_blanks}
use Rattle.sc_tokens.specs.Names.{same_name}
use Rattle.sc_value.specs.declared.parts.Field.{Field}
use Rattle.sc_tokens.specs.Bytes.{Bytes}

-- one more at the end, where there is one
abbrev pub with_some : {X : Type 0} → List X → Option X → List X
with_some xs None = xs
with_some xs (Some x) = xs ++ x ∷ []

-- the field has this name
abbrev pub is_of : Bytes → Field → Bool
is_of name field = same_name field.name name

-- no value has a blank at an end
unfoldable pub AreTrimmed : List Field → Type 0
AreTrimmed [] = ⊤
AreTrimmed (field ∷ fields) = (without_blanks field.value ≡ field.value) × AreTrimmed fields
