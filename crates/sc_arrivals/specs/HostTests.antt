-- Tests of a host for what comes from outside. This project's own.
use Rattle.std.specs.Prelude.{ℕ, Bool, is_some}
use Rattle.sc_value.specs.declared.ids.Place.{Place}
use Rattle.sc_value.specs.declared.message.Request.{Request}
use Rattle.sc_value.specs.declared.message.Response.{Response}
use Rattle.sc_state.specs.Hosts.{Host}
use Rattle.sc_state.specs.declared.host.Peer.TheVariants as peers
use Rattle.sc_state.specs.declared.session.Session.{Session}
use Rattle.sc_tokens.specs.Bytes.{Bytes}
use Rattle.sc_hosts.specs.Taking.{server_for}
use Rattle.sc_hosts.specs.Transacting.{client_for}

-- a server transaction of the host takes the request
unfoldable pub claims : Place → Request → Host Session → Bool
claims from request host = is_some (server_for (peers.Outside from) request host)

-- a client transaction of the host has asked for the response
unfoldable pub awaits : Bytes → ℕ → Place → Response → Host Session → Bool
awaits salt epoch from response host =
    is_some (client_for salt epoch (peers.Outside from) response host)
