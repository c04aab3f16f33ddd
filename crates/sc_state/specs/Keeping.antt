-- Which transactions a host keeps, and which sessions live there (RFC 3261 section 17, RFC 6026).
use Rattle.std.specs.Prelude.{◌≡◌, ℕ, ◌==◌, List, Bool, true, not, ◌&&◌, ◌||◌, Option, filter, slice_get}
use Rattle.std.specs.List.{list_any, list_all}
use Rattle.std.specs.Option.{option_map}
use Rattle.sc_value.specs.declared.ids.AppId.{AppId}
use Rattle.sc_stages.specs.States.{is_over}
use Rattle.sc_state.specs.declared.host.Client.{Client}
use Rattle.sc_state.specs.declared.host.Live.{Live}
use Rattle.sc_state.specs.declared.host.Server.{Server}
use Rattle.sc_state.specs.Hosts.{Host}
use Rattle.sc_state.specs.Standing.{is_invite_client, is_cancel_client, is_client, state_of_client, is_invite_server, state_of_server}

-- the session has this serial
abbrev pub is_live : {S : Type 0} → ℕ → Live S → Bool
is_live serial live = live.serial == serial

-- the session lives here
unfoldable pub lives_here : {S : Type 0} → AppId → Host S → Bool
lives_here app host = list_any (λ live. live.serial == app.serial) host.sessions

-- a transaction is kept until it is over, and one of an INVITE as long as its session lives: a
-- timer may still ask what came, and a further 2xx may still go
unfoldable pub is_kept_client : {S : Type 0} → Host S → Client → Bool
is_kept_client host client =
    not (is_over (state_of_client client))
    || (is_invite_client client && lives_here client.app host)

-- the same for a server transaction
unfoldable pub is_kept_server : {S : Type 0} → Host S → Server → Bool
is_kept_server host server =
    not (is_over (state_of_server server))
    || (is_invite_server server && lives_here server.app host)

-- the host without the transactions that it doesn't keep
unfoldable pub without_ended : {S : Type 0} → Host S → Host S
without_ended host =
    record host {
      clients = filter (is_kept_client host) host.clients;
      servers = filter (is_kept_server host) host.servers;
    }

-- ## The same by the sessions alone

-- the session of this number is among them
abbrev pub lives_among : {S : Type 0} → ℕ → List (Live S) → Bool
lives_among serial sessions = list_any (is_live serial) sessions

-- a client transaction is kept beside these sessions
abbrev pub kept_client : {S : Type 0} → List (Live S) → Client → Bool
kept_client sessions client =
    not (is_over (state_of_client client))
    || (is_invite_client client && lives_among client.app.serial sessions)

-- a server transaction is kept beside these sessions
abbrev pub kept_server : {S : Type 0} → List (Live S) → Server → Bool
kept_server sessions server =
    not (is_over (state_of_server server))
    || (is_invite_server server && lives_among server.app.serial sessions)

-- all are kept beside these sessions
abbrev pub AllKept : {S : Type 0} → List (Live S) → List Client → List Server → Type 0
AllKept sessions clients servers =
    (list_all (kept_client sessions) clients ≡ true)
    × (list_all (kept_server sessions) servers ≡ true)

-- the client transaction that this one takes the place of
abbrev pub is_same_client : Client → Client → Bool
is_same_client client = is_client client.app client.branch (is_cancel_client client)

-- the number of the first event that waits
abbrev pub first_number : {S : Type 0} → Live S → Option ℕ
first_number live = option_map (λ waiting. waiting.number) (slice_get live.inbox 0)
