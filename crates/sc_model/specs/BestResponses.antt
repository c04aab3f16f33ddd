-- The best of the final responses to a proxied request, and what is forwarded of it (RFC 3261
-- section 16.7, steps 6 and 7).
use Rattle.std.specs.Prelude.{ℕ, ◌/◌, ◌==◌, List, [], ◌++◌, Bool, false, ◌||◌, Option, option_map, option_and_then, nat_le, if◌then◌else◌, codes, filter, position, slice_get}
use Rattle.std.specs.List.{list_all, flat_map, remove}
use Rattle.std.specs.Option.{option_or, option_map_or}
use Rattle.sc_value.specs.declared.message.Response.{Response}
use Rattle.sc_value.specs.declared.parts.Field.{Field}
use Rattle.sc_tokens.specs.Names.{same_name}
use Rattle.sc_tokens.specs.Bytes.{Bytes}

-- ## The choice

-- the class of a response: 2 for a 2xx
abbrev pub class_of : Response → ℕ
class_of response = response.code / 100

-- a 6xx, which speaks for every place
abbrev pub is_global : Response → Bool
is_global response = class_of response == 6

-- no response of the list has a lower class
unfoldable pub is_lowest : List Response → Response → Bool
is_lowest list response = list_all (λ other. nat_le (class_of response) (class_of other)) list

-- the place of the best: the first 6xx, else the first of the lowest class
unfoldable pub best_of : List Response → Option ℕ
best_of list = option_or (position is_global list) (position (is_lowest list) list)

-- ## Challenges (RFC 3261 sections 20.27 and 20.44)

-- the header of a 401's challenge (RFC 3261 section 20.44)
unfoldable pub www_authenticate : Bytes
www_authenticate = codes "WWW-Authenticate"

-- the header of a 407's challenge (RFC 3261 section 20.27)
unfoldable pub proxy_authenticate : Bytes
proxy_authenticate = codes "Proxy-Authenticate"

-- the field is a challenge; names compare without case
unfoldable pub is_challenge : Field → Bool
is_challenge field =
    same_name field.name www_authenticate || same_name field.name proxy_authenticate

-- the response asks for credentials
abbrev pub asks_credentials : Response → Bool
asks_credentials response = response.code == 401 || response.code == 407

-- the challenges of a response that asks for credentials
unfoldable pub challenges_of : Response → List Field
challenges_of response =
    if asks_credentials response then filter is_challenge response.head.others else []

-- the chosen one asks for credentials
abbrev pub chosen_asks : List Response → ℕ → Bool
chosen_asks list chosen = option_map_or asks_credentials (slice_get list chosen) false

-- what a chosen response that asks for credentials is given: the challenges of all the others, in
-- order
unfoldable pub challenges_beside : List Response → ℕ → List Field
challenges_beside list chosen =
    if chosen_asks list chosen then flat_map challenges_of (remove list chosen) else []

-- ## What is forwarded

-- the reason phrase of a 500 (RFC 3261 section 21.5.1)
unfoldable pub server_error : Bytes
server_error = codes "Server Internal Error"

-- a 503 speaks of one place alone, and becomes a 500
unfoldable pub forwarded_code : ℕ → ℕ
forwarded_code code = if code == 503 then 500 else code

-- the reason phrase that goes with the forwarded code
unfoldable pub forwarded_reason : Response → Bytes
forwarded_reason response = if response.code == 503 then server_error else response.reason

-- a chosen response as it is forwarded, with these challenges after its own headers
unfoldable pub forwarded_with : List Field → Response → Response
forwarded_with challenges response = record {
  code = forwarded_code response.code;
  reason = forwarded_reason response;
  head = record response.head { others = response.head.others ++ challenges };
}

-- the chosen response as it is forwarded
unfoldable pub response_onward : List Response → ℕ → Option Response
response_onward list chosen =
    option_map (forwarded_with (challenges_beside list chosen)) (slice_get list chosen)

-- the best response as it is forwarded
unfoldable pub best_response : List Response → Option Response
best_response list = option_and_then (response_onward list) (best_of list)
