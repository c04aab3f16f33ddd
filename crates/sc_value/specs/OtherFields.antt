-- What a header without structure keeps (RFC 3261 sections 7.3.1 and 7.3.3): its name is long, a
-- token, and none of those that the container reads or sets itself.
use Rattle.std.specs.Prelude.{◌≡◌, true, false, List, [], ◌∷◌, ⊤}
use Rattle.sc_tokens.specs.Tokens.{is_token, is_value}
use Rattle.sc_tokens.specs.HeaderNames.{long_name, is_system_name}
use Rattle.sc_value.specs.declared.parts.Field.{Field}

-- what such a header keeps
pub record IsOther (field : Field) : Type 0 where
  pub name : is_token field.name ≡ true
  pub long : long_name field.name ≡ field.name
  pub free : is_system_name field.name ≡ false
  pub value : is_value field.value ≡ true

-- each header of the list keeps it
unfoldable pub AreOthers : List Field → Type 0
AreOthers [] = ⊤
AreOthers (field ∷ fields) = IsOther field × AreOthers fields
