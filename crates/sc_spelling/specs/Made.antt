-- What a message keeps by the types of its parts, and what else it needs to be read as itself (RFC
-- 3261 section 7).
use Rattle.std.specs.Prelude.{◌≡◌, ◌≤◌, ◌<◌, true, ⊤}
use Rattle.sc_tokens.specs.Tokens.{is_token, is_one_line}
use Rattle.sc_value.specs.AddressValues.{IsUri}
use Rattle.sc_value.specs.declared.message.Message.{Message}
use Rattle.sc_value.specs.declared.message.Message.TheVariants.{Request, Response}
use Rattle.sc_spelling.specs.Kept.{IsHead}
use Rattle.sc_spelling.specs.SpelledMessages.{head_in}

-- the start line: Max-Forwards has 8 bits, and a status code 16
unfoldable pub IsMadeStart : Message → Type 0
IsMadeStart (Request request) =
    (is_token request.method ≡ true) × IsUri request.uri × (request.hops < 256)
IsMadeStart (Response response) = (is_one_line response.reason ≡ true) × (response.code < 65536)

-- a message as its types let it be made
abbrev pub IsMade : Message → Type 0
IsMade message = IsMadeStart message × IsHead (head_in message)

-- a status code is 100 to 699, which its type leaves open (RFC 3261 section 7.2)
unfoldable pub HasCode : Message → Type 0
HasCode (Request request) = ⊤
HasCode (Response response) = (100 ≤ response.code) × (response.code ≤ 699)
