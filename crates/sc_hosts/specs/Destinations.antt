-- Where a request goes that leaves the container (RFC 3261 section 8.1.2): an IPv4 literal,
-- `localhost`, or a name of the settings; no DNS (RFC 3263) is asked.
use Rattle.std.specs.Prelude.{[], ◌∷◌, Option, None, Some, option_map, unwrap_or, if◌then◌else◌, codes, slice_get}
use Rattle.std.specs.List.{find}
use Rattle.std.specs.Option.{option_or}
use Rattle.std.specs.Net.Reader.{read_ipv4}
use Rattle.sc_value.specs.declared.ids.Place.{Place}
use Rattle.sc_value.specs.declared.ids.Place.TheVariants.{To}
use Rattle.sc_value.specs.declared.parts.Uri.{Uri}
use Rattle.sc_value.specs.declared.parts.Uri.TheVariants.{Sip, Other}
use Rattle.sc_value.specs.declared.message.Request.{Request}
use Rattle.sc_tokens.specs.Names.{same_name}
use Rattle.sc_terms.specs.declared.settings.Config.{Config}
use Rattle.sc_tokens.specs.Bytes.{Bytes}

-- the name of 127.0.0.1; compared without case
unfoldable pub localhost : Bytes
localhost = codes "localhost"

-- what was read, where nothing is left behind it
unfoldable pub whole : Option (Bytes × Bytes) → Option Bytes
whole None = None
whole (Some (value, [])) = Some value
whole (Some (value, b ∷ rest)) = None

-- four decimals up to 255 without leading zeros, with dots between
unfoldable pub literal : Bytes → Option Bytes
literal text = whole (read_ipv4 text)

-- the address of a name; of two that differ in case alone the first counts
unfoldable pub named_address : Config → Bytes → Option Bytes
named_address config host =
    option_map (λ entry. entry.ip) (find (λ entry. same_name entry.name host) config.hosts)

-- the IPv4 address of a host: as a literal, as `localhost`, or by the settings
unfoldable pub address_of : Config → Bytes → Option Bytes
address_of config host =
    option_or (literal host)
    (if same_name host localhost then Some (127 ∷ 0 ∷ 0 ∷ 1 ∷ []) else named_address config host)

-- the address and port that a URI names; a port that is absent is 5060
unfoldable pub place_of_uri : Config → Uri → Option Place
place_of_uri config (Sip uri) =
    option_map (λ ip. To ip (unwrap_or uri.port 5060)) (address_of config uri.host)
place_of_uri config (Other text) = None

-- the first Route, or the Request-URI
unfoldable pub next_uri : Request → Uri
next_uri request =
    unwrap_or (option_map (λ route. route.uri) (slice_get request.head.route 0)) request.uri

-- where a request goes that leaves, none where its host has no address
unfoldable pub destination : Config → Request → Option Place
destination config request = place_of_uri config (next_uri request)
