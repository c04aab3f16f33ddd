-- Which URI a text is, or which part of it is at fault (RFC 3261 sections 19.1.1 and 25.1).
use Rattle.std.specs.Prelude.{ℕ, Option, Result, Ok, Err, true, ◌+◌, ◌-◌, length, unwrap_or, if◌then◌else◌}
use Rattle.std.specs.Option.{option_map, option_map_or}
use Rattle.sc_tokens.specs.UriTokens.{is_scheme, sip_scheme}
use Rattle.sc_tokens.specs.Names.{same_name}
use Rattle.sc_value.specs.declared.parts.Uri.{Uri}
use Rattle.sc_value.specs.declared.parts.Uri.TheVariants.{Sip, Other}
use Rattle.sc_tokens.specs.Bytes.{Bytes, is_open}
use Rattle.sc_tokens.specs.Cuts.{before, after}
use Rattle.sc_tokens.specs.Signs.{at_sign, colon, question, semicolon}
use Rattle.sc_syntax.specs.UriParts.{Fault, scheme_fault, host_fault, then_read, sent_at, params_at, headers_at}

-- ## The parts of a `sip:` URI, whole

-- the user with its password: what stands before the first @, where there is one
unfoldable pub user_in : Bytes → Option Bytes
user_in text = option_map (λ _. before at_sign text) (after at_sign text)

-- what stands behind it
unfoldable pub behind_user : Bytes → Bytes
behind_user text = unwrap_or (after at_sign text) text

-- host and port
unfoldable pub sent_in : Bytes → Bytes
sent_in text = before semicolon (before question text)

-- what stands after the first semicolon before the headers
unfoldable pub params_text_in : Bytes → Option Bytes
params_text_in text = after semicolon (before question text)

-- ## Reading

-- host, port, parameters and headers, in this order, behind the user; they begin at this place
unfoldable pub sip_behind : ℕ → Option Bytes → Bytes → Result Uri Fault
sip_behind at user text =
    then_read (sent_at at (sent_in text)) (λ sent.
    then_read (params_at (at + length (sent_in text) + 1) (params_text_in text)) (λ params.
    then_read (headers_at (at + length (before question text) + 1) (after question text))
    (λ headers.
    Ok
    (Sip
    (record { user = user; host = sent.0; port = sent.1; params = params; headers = headers })))))

-- what stands after the scheme's colon, at this place
unfoldable pub sip_at : ℕ → Bytes → Result Uri Fault
sip_at at text =
    if option_map_or is_open (user_in text) true
    then sip_behind (at + (length text - length (behind_user text))) (user_in text)
    (behind_user text)
    else Err (host_fault at)

-- a URI of another scheme, as written
unfoldable pub other_of : Bytes → Result Uri Fault
other_of text = if is_open text then Ok (Other text) else Err scheme_fault

-- by the scheme
unfoldable pub uri_behind : Bytes → Bytes → Bytes → Result Uri Fault
uri_behind text scheme rest =
    if same_name scheme sip_scheme then sip_at (length scheme + 1) rest else other_of text

-- the URI, or the place and the kind of the first part at fault. There is a user only before the
-- first @ of the whole text
unfoldable pub uri_of : Bytes → Result Uri Fault
uri_of text =
    if is_scheme (before colon text)
    then option_map_or (uri_behind text (before colon text)) (after colon text) (Err scheme_fault)
    else Err scheme_fault
