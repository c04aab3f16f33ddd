-- The transactions of a host: which one a message belongs to, found by the texts of the message
-- alone, and what an item that passes it makes of it (RFC 3261 sections 17.1.3 and 17.2.3).
use Rattle.std.specs.Prelude.{ℕ, ◌==◌, List, [], ◌∷◌, ◌++◌, Bool, true, false, not, ◌&&◌, Option, is_some, unwrap_or, map, filter}
use Rattle.std.specs.List.{find}
use Rattle.std.specs.Option.{option_map_or}
use Rattle.sc_value.specs.declared.ids.AppId.{AppId}
use Rattle.sc_value.specs.declared.ids.Place.{Place}
use Rattle.sc_value.specs.declared.parts.Via.{Via}
use Rattle.sc_value.specs.declared.message.Request.{Request}
use Rattle.sc_value.specs.declared.message.Response.{Response}
use Rattle.sc_value.specs.Lists.{change_first}
use Rattle.sc_value.specs.Places.{same_place}
use Rattle.sc_tokens.specs.Names.{same_bytes, same_name}
use Rattle.sc_parts.specs.declared.transactions.ClientItem.{ClientItem}
use Rattle.sc_parts.specs.declared.transactions.ClientOut.{ClientOut}
use Rattle.sc_parts.specs.declared.transactions.ServerItem.{ServerItem}
use Rattle.sc_state.specs.declared.host.Client.{Client}
use Rattle.sc_state.specs.Hosts.{Host}
use Rattle.sc_state.specs.declared.host.Peer.{Peer}
use Rattle.sc_state.specs.declared.host.Peer.TheVariants as peers
use Rattle.sc_state.specs.declared.host.Server.{Server}
use Rattle.sc_tokens.specs.Bytes.{Bytes}
use Rattle.sc_model.specs.Names.{branch_text}
use Rattle.sc_model.specs.ServerTransactions.{final_answer}
use Rattle.sc_model.specs.Transactions.{client_out, has_provisional}
pub use Rattle.sc_stages.specs.Requests.{top_via, branch_of, method_of}
unfoldable pub use Rattle.sc_stages.specs.States.{is_over, is_proceeding, is_completed}
pub use
    Rattle.sc_state.specs.Standing.{is_invite_client, is_invite_server, is_cancel_client}
pub use
    Rattle.sc_state.specs.Standing.{is_same_app, is_server}
unfoldable pub use
    Rattle.sc_state.specs.Standing.{state_of_client, state_of_server, due_of_client}
unfoldable pub use
    Rattle.sc_state.specs.Standing.{due_of_server, is_client}
unfoldable pub use
    Rattle.sc_state.specs.Keeping.{lives_here, is_kept_client, is_kept_server, without_ended}

-- ## Ends of a transaction

-- a transaction with an end outside takes messages from any outside place; one over an inner hop
-- takes them from that hop alone
unfoldable pub takes_from : Peer → Peer → Bool
takes_from (peers.Outside place) (peers.Outside from) = true
takes_from (peers.Outside place) (peers.Inside from) = false
takes_from (peers.Outside place) peers.Nowhere = false
takes_from (peers.Inside host) (peers.Outside from) = false
takes_from (peers.Inside host) (peers.Inside from) = host == from
takes_from (peers.Inside host) peers.Nowhere = false
takes_from peers.Nowhere from = false

-- the other end is this place outside
unfoldable pub goes_to : Place → Peer → Bool
goes_to place (peers.Outside other) = same_place place other
goes_to place (peers.Inside host) = false
goes_to place peers.Nowhere = false

-- ## Client transactions

-- what a client transaction does with an item
unfoldable pub out_of_client : Client → ClientItem → ClientOut
out_of_client client item = client_out (is_invite_client client) client.sent client.passed item

-- the response belongs to it (RFC 3261 section 17.1.3)
unfoldable pub is_answered_by : Bytes → ℕ → Peer → Response → Client → Bool
is_answered_by salt epoch from response client =
    takes_from client.peer from && not (is_over (state_of_client client))
    && same_bytes (method_of client.request) response.head.cseq.method
    && option_map_or
    (λ via. same_bytes (branch_of via) (branch_text salt epoch client.app client.branch))
    (top_via response.head.via) false

-- the client transaction that a response belongs to
unfoldable pub client_for : {S : Type 0} → Bytes → ℕ → Peer → Response → Host S → Option Client
client_for salt epoch from response host =
    find (is_answered_by salt epoch from response) host.clients

-- a client transaction that an item has passed
unfoldable pub client_passed : ClientItem → Client → Client
client_passed item client = record client { passed = item ∷ client.passed }

-- an item passes a client transaction
unfoldable pub pass_client : {S : Type 0} → AppId → ℕ → Bool → ClientItem → Host S → Host S
pass_client app branch cancelling item host =
    without_ended
    (record host {
      clients = change_first (is_client app branch cancelling) (client_passed item) host.clients;
    })

-- a client transaction more, behind the others
abbrev pub with_client : {S : Type 0} → Client → Host S → Host S
with_client client host = record host { clients = host.clients ++ client ∷ [] }

-- the branches of a session whose INVITE has had a provisional response
unfoldable pub ringing_branches : {S : Type 0} → AppId → Host S → List ℕ
ringing_branches app host =
    map (λ client. client.branch)
    (filter
    (λ client.
    is_same_app client.app app && is_invite_client client && has_provisional client.passed)
    host.clients)

-- ## Server transactions

-- the port of a sent-by; one that is absent is 5060 (RFC 3261 section 18.1.1)
unfoldable pub port_of : Via → ℕ
port_of via = unwrap_or via.port 5060

-- the same branch and sent-by: hosts without case, and no port is 5060
unfoldable pub same_via : Via → Via → Bool
same_via a b =
    same_bytes (branch_of a) (branch_of b) && same_name a.host b.host && port_of a == port_of b

-- both have a top Via, and the two are the same in this way
unfoldable pub same_top : List Via → List Via → Bool
same_top a b = option_map_or (λ x. option_map_or (same_via x) (top_via b) false) (top_via a) false

-- a live transaction whose request has the top Via of this one
unfoldable pub is_kin : Peer → Request → Server → Bool
is_kin from request server =
    takes_from server.peer from && not (is_over (state_of_server server))
    && same_top server.request.head.via request.head.via

-- a CANCEL is for the INVITE of its top Via (RFC 3261 section 9.2)
abbrev pub is_cancelled_by : Peer → Request → Server → Bool
is_cancelled_by from request server = is_kin from request server && is_invite_server server

-- an ACK is for an INVITE that was answered otherwise than 2xx (RFC 3261 section 17.2.3)
abbrev pub is_acked_by : Peer → Request → Server → Bool
is_acked_by from request server =
    is_kin from request server && is_invite_server server && is_completed (state_of_server server)

-- the request came before
abbrev pub is_repeated_by : Peer → Request → Server → Bool
is_repeated_by from request server =
    is_kin from request server && same_bytes (method_of server.request) (method_of request)

-- a final response was given (RFC 3261 section 9.2)
abbrev pub has_final : Server → Bool
has_final server = is_some (final_answer server.passed)

-- a server transaction that an item has passed
unfoldable pub server_passed : ServerItem → Server → Server
server_passed item server = record server { passed = item ∷ server.passed }

-- an item passes the server transaction of this event
unfoldable pub pass_server : {S : Type 0} → ℕ → ServerItem → Host S → Host S
pass_server event item host =
    without_ended
    (record host { servers = change_first (is_server event) (server_passed item) host.servers })
