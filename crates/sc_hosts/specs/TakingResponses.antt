-- What a host does with a response (RFC 3261 sections 8.1.3 and 17.1).
use Rattle.std.specs.Prelude.{ℕ, [], not, ◌&&◌, ◌||◌, Option, None, Some, if◌then◌else◌}
use Rattle.sc_value.specs.declared.message.Message.TheVariants as messages
use Rattle.sc_value.specs.declared.message.Response.{Response}
use Rattle.sc_terms.specs.declared.settings.Config.{Config}
use Rattle.sc_parts.specs.declared.transactions.ClientItem.TheVariants as client_items
use Rattle.sc_parts.specs.declared.transactions.ClientOut.{ClientOut}
use Rattle.sc_state.specs.declared.host.Client.{Client}
use Rattle.sc_state.specs.Hosts.{Host}
use Rattle.sc_state.specs.declared.host.Peer.{Peer}
use Rattle.sc_state.specs.declared.host.Taken.{Taken}
use Rattle.sc_state.specs.declared.queue.Queued.TheVariants as queued
use Rattle.sc_model.specs.SessionStates.{is_final}
use Rattle.sc_hosts.specs.Messages.{ack_of, cancel_of, without_via}
use Rattle.sc_hosts.specs.Transacting.{client_for, out_of_client, pass_client, with_client, is_cancel_client}
use Rattle.sc_hosts.specs.Inboxes.{is_full_at, queue, replying, without_answer}

-- ## Responses

-- a provisional response finds no room in a full inbox
unfoldable pub take_provisional : {S : Type 0} → ℕ → Client → Response → ℕ → Host S → Taken S
take_provisional now client response count host =
    if is_cancel_client client
    || (not (is_final response.code) && is_full_at client.app.serial host)
    then without_answer host count
    else queue client.app.serial now (queued.Response client.branch (without_via response)) count
    host

-- the same, where the transaction tells its session anything
unfoldable pub told_by : {S : Type 0} → Option ℕ → ℕ → Client → Response → ℕ → Host S → Taken S
told_by None now client response count host = without_answer host count
told_by (Some code) now client response count host = take_provisional now client response count host

-- the client transaction of a CANCEL
unfoldable pub cancelling : ℕ → Client → Client
cancelling now client =
    record client { request = cancel_of client.request; sent = now; passed = [] }

-- an ACK to a final response other than 2xx, or a CANCEL that waited
unfoldable pub with_reply : {S : Type 0} → ClientOut → ℕ → Client → Response → Taken S → Taken S
with_reply out now client response taken =
    if out.ack then replying client.peer (messages.Request (ack_of client.request response)) taken
    else
    (if out.cancel
    then replying client.peer (messages.Request (cancel_of client.request))
    (record taken { host = with_client (cancelling now client) taken.host })
    else taken)

-- a response passes its client transaction, which tells, acknowledges or cancels
unfoldable pub response_for : {S : Type 0} → ℕ → Client → Response → ℕ → Host S → Taken S
response_for now client response count host =
    let item = client_items.ResponseCame response.code now in
    with_reply (out_of_client client item) now client response
    (told_by (out_of_client client item).tell now client response count
    (pass_client client.app client.branch (is_cancel_client client) item host))

-- the same, where there is such a transaction
unfoldable pub response_to : {S : Type 0} → ℕ → Option Client → Response → ℕ → Host S → Taken S
response_to now None response count host = without_answer host count
response_to now (Some client) response count host = response_for now client response count host

-- a response that belongs to no client transaction is dropped
unfoldable pub take_response : {S : Type 0} → Config → ℕ → Peer → ℕ → Response → ℕ → Host S
    → Taken S
take_response config epoch from now response count host =
    response_to now (client_for config.salt epoch from response host) response count host
