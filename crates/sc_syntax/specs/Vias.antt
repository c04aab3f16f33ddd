-- Vias: `SIP/2.0/transport host:port;params` (RFC 3261 sections 20.42 and 25.1). Blanks may stand
-- round the slashes, and one at least stands before the host; none stands round the port's colon,
-- where the RFC allows them.
use Rattle.std.specs.Prelude.{List, [], ◌∷◌, Option, None, codes, if◌then◌else◌}
use Rattle.std.specs.Option.{option_map, option_and_then}
use Rattle.std.specs.Result.{result_ok}
use Rattle.sc_tokens.specs.Names.{same_bytes}
use Rattle.sc_tokens.specs.Tokens.{is_token}
use Rattle.sc_value.specs.declared.parts.Param.{Param}
use Rattle.sc_value.specs.declared.parts.Via.{Via}
use Rattle.sc_tokens.specs.Bytes.{Bytes}
use Rattle.sc_tokens.specs.Cuts.{before, after}
use Rattle.sc_syntax.specs.UriParts.{sent_at}
use Rattle.sc_tokens.specs.Blanks.{behind_word, first_word, without_blanks}
use Rattle.sc_tokens.specs.Signs.{slash}
use Rattle.sc_syntax.specs.Scanning.{via_items, via_parts, all_read}
use Rattle.sc_syntax.specs.Parameters.{params_of}

-- what stands behind the first slash, where this word stands before it
unfoldable pub behind_slash : Bytes → Bytes → Option Bytes
behind_slash word text =
    if same_bytes (without_blanks (before slash text)) word then after slash text else None

-- what stands behind `SIP/2.0/`
unfoldable pub behind_version : Bytes → Option Bytes
behind_version text = option_and_then (behind_slash (codes "2.0")) (behind_slash (codes "SIP") text)

-- transport, host and port, with these parameters
unfoldable pub hop_in : Bytes → List Param → Option Via
hop_in text params =
    if is_token (first_word text)
    then option_map
    (λ sent.
    record { transport = first_word text; host = sent.0; port = sent.1; params = params })
    (result_ok (sent_at 0 (behind_word text)))
    else None

-- the first part between semicolons, with these parameters
unfoldable pub via_with : Bytes → List Param → Option Via
via_with text params =
    option_and_then (λ rest. hop_in (without_blanks rest) params) (behind_version text)

-- the parts between semicolons
unfoldable pub via_in : List Bytes → Option Via
via_in [] = None
via_in (first ∷ more) = option_and_then (via_with first) (params_of more)

-- one Via
unfoldable pub via_of : Bytes → Option Via
via_of text = via_in (via_parts text)

-- Vias with commas between
unfoldable pub vias_of : Bytes → Option (List Via)
vias_of text = all_read via_of (via_items text)
