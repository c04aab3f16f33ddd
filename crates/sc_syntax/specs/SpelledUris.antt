-- Which texts spell a URI: its written form, with the freedoms that a writer has. The scheme may
-- have any case, and the port may have leading zeros (RFC 3261 sections 19.1.1 and 19.1.4).
use Rattle.std.specs.Prelude.{◌≡◌, ℕ, Option, Some, None, true, [], ◌∷◌, ◌++◌}
use Rattle.std.specs.List.{flat_map}
use Rattle.sc_tokens.specs.UriTokens.{sip_scheme, IsOtherSpelled}
use Rattle.sc_tokens.specs.Names.{same_name}
use Rattle.sc_value.specs.declared.parts.Param.{Param}
use Rattle.sc_value.specs.declared.parts.SipUri.{SipUri}
use Rattle.sc_value.specs.declared.parts.Uri.{Uri}
use Rattle.sc_value.specs.declared.parts.Uri.TheVariants.{Sip, Other}
use Rattle.sc_tokens.specs.Bytes.{Bytes}
use Rattle.sc_tokens.specs.Numbers.{port_of}
use Rattle.sc_tokens.specs.Signs.{at_sign, colon, equal, question, semicolon}
use Rattle.sc_value.specs.UriValues.{IsSipUri}

-- nothing, or the sign and the text
unfoldable pub behind_sign : ℕ → Option Bytes → Bytes
behind_sign sign None = []
behind_sign sign (Some text) = sign ∷ text

-- nothing, or the text and the sign
unfoldable pub closed_by : ℕ → Option Bytes → Bytes
closed_by sign None = []
closed_by sign (Some text) = text ++ sign ∷ []

-- no port, or a colon and the port's digits
unfoldable pub IsPortSpelled : Bytes → Option ℕ → Type 0
IsPortSpelled text None = text ≡ []
IsPortSpelled text (Some port) =
    (digits : Bytes) × (port_of digits ≡ Some port) × (text ≡ colon ∷ digits)

-- `;name` or `;name=value`
unfoldable pub spelled_param : Param → Bytes
spelled_param param = semicolon ∷ (param.name ++ behind_sign equal param.value)

-- the text behind the user, with this spelling of the port
abbrev pub spelled_behind : SipUri → Bytes → Bytes
spelled_behind uri port =
    uri.host ++ (port ++ (flat_map spelled_param uri.params ++ behind_sign question uri.headers))

-- a `sip:` URI
abbrev pub IsSipSpelled : Bytes → SipUri → Type 0
IsSipSpelled text uri =
    IsSipUri uri × (scheme port : Bytes) × (same_name scheme sip_scheme ≡ true)
    × IsPortSpelled port uri.port
    × (text ≡ scheme ++ colon ∷ (closed_by at_sign uri.user ++ spelled_behind uri port))

-- the text spells the URI
unfoldable pub IsUriSpelled : Bytes → Uri → Type 0
IsUriSpelled text (Sip uri) = IsSipSpelled text uri
IsUriSpelled text (Other other) = IsOtherSpelled text other
