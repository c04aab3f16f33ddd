-- Which URIs lead to the container, and which it is responsible for. Hosts compare without case, as
-- texts, and a port that is absent is 5060 (RFC 3261 section 19.1.2).
use Rattle.std.specs.Prelude.{ℕ, Bool, true, false, ◌&&◌, ◌||◌, ◌==◌, unwrap_or}
use Rattle.sc_tokens.specs.Names.{same_name}
use Rattle.sc_value.specs.declared.parts.Uri.{Uri}
use Rattle.sc_value.specs.declared.parts.Uri.TheVariants.{Sip, Other}
use Rattle.sc_terms.specs.declared.settings.Config.{Config}
use Rattle.sc_tokens.specs.Bytes.{Bytes}
use Rattle.sc_model.specs.Records.{ip_text}

-- the URI leads to this host and port
unfoldable pub is_at : Bytes → ℕ → Uri → Bool
is_at host port (Sip uri) = same_name uri.host host && unwrap_or uri.port 5060 == port
is_at host port (Other text) = false

-- the URI is of this host, whatever the port; one of another scheme counts as of every host
unfoldable pub is_of : Bytes → Uri → Bool
is_of host (Sip uri) = same_name uri.host host
is_of host (Other text) = true

-- the host that the container listens at
abbrev pub listen_host : Config → Bytes
listen_host config = ip_text config.listen.0

-- the URI is the container's own: it leads to where the container listens
unfoldable pub is_own : Config → Uri → Bool
is_own config uri = is_at (listen_host config) config.listen.1 uri

-- the container is responsible for the URI: it is its own, or of its domain, or of another scheme
-- than `sip` (RFC 3261 section 16.5)
unfoldable pub is_home : Config → Uri → Bool
is_home config uri = is_of config.domain uri || is_own config uri
