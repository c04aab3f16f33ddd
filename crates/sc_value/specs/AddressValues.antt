-- An address as contracts see it, and what each keeps (RFC 3261 sections 20.10 and 25.1).
use Rattle.std.specs.Prelude.{◌≡◌, ℕ, List, Option, true}
use Rattle.std.specs.Option.{option_map_or}
use Rattle.sc_tokens.specs.Tokens.{is_one_line}
use Rattle.sc_tokens.specs.UriTokens.{IsOtherSpelled}
use Rattle.sc_tokens.specs.HeaderTokens.{IsDisplay}
use Rattle.sc_value.specs.declared.parts.Param.{Param}
use Rattle.sc_value.specs.declared.parts.Uri.{Uri}
use Rattle.sc_value.specs.declared.parts.Uri.TheVariants.{Sip, Other}
use Rattle.sc_value.specs.UriValues.{IsSip}
use Rattle.sc_value.specs.ParamRules.{AreHeaderParams}

-- a display name as written, a URI, and header parameters
pub record AddressValue : Type 0 where
  pub display : Option (List ℕ)
  pub uri : Uri
  pub params : List Param

-- a `sip:` URI in its parts, or an open text of another scheme
unfoldable pub IsUri : Uri → Type 0
IsUri (Sip uri) = IsSip uri
IsUri (Other text) = IsOtherSpelled text text

-- what each address keeps
pub record IsAddress (address : AddressValue) : Type 0 where
  pub display : IsDisplay address.display
  -- nothing of the display ends the line that it stands in
  pub line : option_map_or is_one_line address.display true ≡ true
  pub uri : IsUri address.uri
  pub params : AreHeaderParams address.params
