-- The state of a transaction, when it is due, and by what it is known (RFC 3261 sections 17.1,
-- 17.1.3, 17.2 and 17.2.3, RFC 6026).
use Rattle.std.specs.Prelude.{ℕ, ◌==◌, Bool, true, false, not, ◌&&◌, Option, if◌then◌else◌}
use Rattle.sc_value.specs.declared.ids.AppId.{AppId}
use Rattle.sc_tokens.specs.Names.{same_bytes}
use Rattle.sc_parts.specs.declared.transactions.TxnState.{TxnState}
use Rattle.sc_model.specs.ServerTransactions.{server_state, server_due}
use Rattle.sc_model.specs.SessionStates.{invite}
use Rattle.sc_model.specs.Transactions.{client_state, client_due}
use Rattle.sc_model.specs.DialogRequests.{cancel}
use Rattle.sc_stages.specs.Requests.{method_of}
use Rattle.sc_stages.specs.States.{is_over}
use Rattle.sc_state.specs.declared.host.Client.{Client}
use Rattle.sc_state.specs.declared.host.Server.{Server}

-- the client transaction is that of an INVITE
abbrev pub is_invite_client : Client → Bool
is_invite_client client = same_bytes (method_of client.request) invite

-- its state, by what has passed it since it was sent
unfoldable pub state_of_client : Client → TxnState
state_of_client client = client_state (is_invite_client client) client.sent client.passed

-- the server transaction is that of an INVITE
abbrev pub is_invite_server : Server → Bool
is_invite_server server = same_bytes (method_of server.request) invite

-- its state, by what has passed it
unfoldable pub state_of_server : Server → TxnState
state_of_server server = server_state (is_invite_server server) server.passed

-- the transaction of a CANCEL tells nobody anything
abbrev pub is_cancel_client : Client → Bool
is_cancel_client client = same_bytes (method_of client.request) cancel

-- the moment at which its timer is due, in milliseconds; none where none runs
unfoldable pub due_of_client : Client → Option ℕ
due_of_client client = client_due (is_invite_client client) client.sent client.passed

-- the same of a server transaction
unfoldable pub due_of_server : Server → Option ℕ
due_of_server server = server_due (is_invite_server server) server.passed

-- one where it isn't over
abbrev pub busy_client : Client → ℕ
busy_client client = if is_over (state_of_client client) then 0 else 1

-- the same of a server transaction
abbrev pub busy_server : Server → ℕ
busy_server server = if is_over (state_of_server server) then 0 else 1

-- the two name the same application session of an epoch
abbrev pub is_same_app : AppId → AppId → Bool
is_same_app a b = a.host == b.host && a.serial == b.serial

-- the client transaction of this session's branch, or of its CANCEL
unfoldable pub is_client : AppId → ℕ → Bool → Client → Bool
is_client app branch cancelling client =
    is_same_app client.app app && client.branch == branch
    && same_bool (is_cancel_client client) cancelling
  where
    same_bool : Bool → Bool → Bool
    same_bool true b = b
    same_bool false b = not b

-- the server transaction of the request that was queued as this event
abbrev pub is_server : ℕ → Server → Bool
is_server event server = server.event == event
