-- Which texts spell a start line (RFC 3261 sections 7.1 and 7.2): one space between its parts.
use Rattle.std.specs.Prelude.{◌≡◌, ℕ, true, Some, ◌∷◌, ◌++◌, ◌≤◌, codes, length}
use Rattle.sc_tokens.specs.Tokens.{is_token, is_one_line}
use Rattle.sc_value.specs.declared.parts.Uri.{Uri}
use Rattle.sc_value.specs.declared.message.Message.{Message}
use Rattle.sc_value.specs.declared.message.Message.TheVariants.{Request, Response}
use Rattle.sc_tokens.specs.Bytes.{Bytes}
use Rattle.sc_tokens.specs.Numbers.{number_below}
use Rattle.sc_tokens.specs.Signs.{space}
use Rattle.sc_syntax.specs.SpelledUris.{IsUriSpelled}

-- three digits, 100 to 699
abbrev pub IsCodeSpelled : Bytes → ℕ → Type 0
IsCodeSpelled text code = (length text ≡ 3) × (number_below 700 text ≡ Some code) × (100 ≤ code)

-- method, Request-URI and version
abbrev pub IsRequestLine : Bytes → Bytes → Uri → Type 0
IsRequestLine line method target =
    (is_token method ≡ true) × (uri : Bytes) × IsUriSpelled uri target
    × (line ≡ method ++ space ∷ (uri ++ space ∷ codes "SIP/2.0"))

-- version, code and reason
abbrev pub IsStatusLine : Bytes → ℕ → Bytes → Type 0
IsStatusLine line code reason =
    (is_one_line reason ≡ true) × (digits : Bytes) × IsCodeSpelled digits code
    × (line ≡ codes "SIP/2.0" ++ space ∷ (digits ++ space ∷ reason))

-- that of the message
unfoldable pub IsStartSpelled : Bytes → Message → Type 0
IsStartSpelled line (Request request) = IsRequestLine line request.method request.uri
IsStartSpelled line (Response response) = IsStatusLine line response.code response.reason
