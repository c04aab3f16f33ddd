-- What the parameters of a URI and those of a header keep (RFC 3261 sections 19.1.1 and 25.1).
use Rattle.std.specs.Prelude.{◌≡◌, true, List, [], ◌∷◌, ⊤}
use Rattle.std.specs.Option.{option_map_or}
use Rattle.sc_tokens.specs.Tokens.{is_token, is_one_line}
use Rattle.sc_tokens.specs.UriTokens.{is_param_name, is_param_value}
use Rattle.sc_tokens.specs.HeaderTokens.{is_param_text}
use Rattle.sc_value.specs.declared.parts.Param.{Param}

-- name and value have bytes of parameters alone
abbrev pub IsUriParam : Param → Type 0
IsUriParam param = (is_param_name param.name ≡ true) × (is_param_value param.value ≡ true)

-- each parameter of a URI is such
unfoldable pub AreUriParams : List Param → Type 0
AreUriParams [] = ⊤
AreUriParams (param ∷ params) = IsUriParam param × AreUriParams params

-- a token as name; as value nothing, a run of token bytes and []: or a quoted string
abbrev pub IsHeaderParam : Param → Type 0
IsHeaderParam param =
    (is_token param.name ≡ true) × (option_map_or is_param_text param.value true ≡ true)

-- and nothing of it ends the line that it stands in
abbrev pub IsLineParam : Param → Type 0
IsLineParam param = IsHeaderParam param × (option_map_or is_one_line param.value true ≡ true)

-- each parameter of a header is such
unfoldable pub AreHeaderParams : List Param → Type 0
AreHeaderParams [] = ⊤
AreHeaderParams (param ∷ params) = IsLineParam param × AreHeaderParams params
