-- A place is lost, and time passes: the events of what is due, and what transactions tell by
-- themselves (RFC 3261 sections 8.1.3.1, 16.9 and 17).
use Rattle.std.specs.Prelude.{ℕ, ◌+◌, List, [], ◌∷◌, ◌++◌, Bool, Option, None, Some, if◌then◌else◌, map, filter}
use Rattle.std.specs.declared.cmp.Ordering.{Ordering}
use Rattle.std.specs.BTreeSet.{insert_key}
use Rattle.std.specs.List.{find, filter_map, flat_map, fold}
use Rattle.std.specs.Ordering.{bool_cmp, eq_by_cmp, nat_cmp, on, then_cmp}
use Rattle.sc_value.specs.declared.ids.AppId.{AppId}
use Rattle.sc_value.specs.declared.ids.Place.{Place}
use Rattle.sc_value.specs.declared.message.Response.{Response}
use Rattle.sc_value.specs.Lists.{change_first}
use Rattle.sc_terms.specs.declared.settings.Config.{Config}
use Rattle.sc_parts.specs.declared.transactions.ClientItem.{ClientItem}
use Rattle.sc_parts.specs.declared.transactions.ClientItem.TheVariants as client_items
use Rattle.sc_parts.specs.declared.transactions.ServerItem.TheVariants as server_items
use Rattle.sc_parts.specs.declared.timers.TimerName.{TimerName}
use Rattle.sc_parts.specs.declared.timers.TimerName.TheVariants as timers
use Rattle.sc_state.specs.declared.host.Client.{Client}
use Rattle.sc_state.specs.Hosts.{Host}
use Rattle.sc_state.specs.declared.host.Live.{Live}
use Rattle.sc_state.specs.declared.host.Server.{Server}
use Rattle.sc_state.specs.declared.net.Net.{Net}
use Rattle.sc_state.specs.declared.queue.Queued.{Queued}
use Rattle.sc_state.specs.declared.queue.Queued.TheVariants as queued
unfoldable pub use Rattle.sc_state.specs.Entries.{is_fired}
use Rattle.sc_tokens.specs.Bytes.{Bytes}
use Rattle.sc_model.specs.Names.{edge_tag}
use Rattle.sc_model.specs.Timers.{DueEntry, due_order, in_order, is_due}
use Rattle.sc_hosts.specs.Messages.{own_response, without_via}
use Rattle.sc_hosts.specs.Nets.{change_host, queue_for}
use Rattle.sc_hosts.specs.Sessions.{Form, entries_of}
use Rattle.sc_hosts.specs.Inboxes.{is_live}
use Rattle.sc_hosts.specs.Transacting.{due_of_client, due_of_server, goes_to, is_cancel_client, out_of_client, pass_client, pass_server}
use Rattle.sc_hosts.specs.Words.{request_timeout, unavailable}

-- what a transaction tells by itself reaches its session without Vias
unfoldable pub own_telling : Config → ℕ → Bytes → Client → Response
own_telling config code reason client =
    without_via (own_response (edge_tag config.salt) code reason client.request)

-- the session is told of its transaction; that of a CANCEL tells nothing
unfoldable pub told_at : {S : Type 0} → Config → Client → Bytes → Option ℕ → Net S → Net S
told_at config client reason None net = net
told_at config client reason (Some code) net =
    if is_cancel_client client then net
    else queue_for client.app
    (queued.Response client.branch (own_telling config code reason client)) net

-- an item that isn't a message passes a client transaction
unfoldable pub passes : {S : Type 0} → Config → ClientItem → Bytes → Net S → Client → Net S
passes config item reason net client =
    told_at config client reason (out_of_client client item).tell
    (change_host client.app.host
    (pass_client client.app client.branch (is_cancel_client client) item) net)

-- the order of client transactions: by host, serial and branch, and a request before its CANCEL
abbrev pub client_order : Client → Client → Ordering
client_order =
    then_cmp (on (λ client. client.app.host) nat_cmp)
    (then_cmp (on (λ client. client.app.serial) nat_cmp)
    (then_cmp (on (λ client. client.branch) nat_cmp) (on is_cancel_client bool_cmp)))

-- all client transactions of a net
unfoldable pub clients_of : {S : Type 0} → Net S → List Client
clients_of net = flat_map (λ host. host.clients) net.hosts

-- the client transactions whose request went to a place, in their order; of two that it doesn't
-- tell apart the first stands
unfoldable pub clients_to : {S : Type 0} → Place → Net S → List Client
clients_to place net =
    fold (insert_key client_order) []
    (filter (λ client. goes_to place client.peer) (clients_of net))

-- a place is lost: each of these transactions tells 503 (RFC 3261 sections 8.1.3.1 and 16.9)
unfoldable pub net_after_loss : {S : Type 0} → Config → Place → Net S → Net S
net_after_loss config place net =
    fold (passes config client_items.PlaceLost unavailable) net (clients_to place net)

-- what is due in a net
pub data DueItem : Type 0 where
  Of_session : (app : AppId) → (event : Queued) → DueItem
  Of_client : (client : Client) → DueItem
  Of_server : (server : Server) → DueItem

-- what is due, with its entry: the moment, the session, and the timer that is its own there
pub record Dated : Type 0 where
  pub entry : DueEntry
  pub item : DueItem

-- an entry of this moment, none where nothing runs
unfoldable pub dated_entry : AppId → TimerName → DueItem → Option ℕ → List Dated
dated_entry app timer item None = []
dated_entry app timer item (Some due) =
    record { entry = record { due = due; app = app; timer = timer }; item = item } ∷ []

-- the name of the timer of a client transaction: that of its branch, or of the branch's CANCEL
abbrev pub client_timer : Client → TimerName
client_timer client =
    if is_cancel_client client then timers.Cancel client.branch else timers.Client client.branch

-- the timer of a client transaction
unfoldable pub client_dated : Client → List Dated
client_dated client =
    dated_entry client.app (client_timer client) (Of_client client) (due_of_client client)

-- the timer of a server transaction
unfoldable pub server_dated : Server → List Dated
server_dated server =
    dated_entry server.app (timers.Server server.event) (Of_server server) (due_of_server server)

-- what is due in a live session and hasn't had its event
unfoldable pub live_dated : {S : Type 0} → Form S → ℕ → Live S → List Dated
live_dated form host live =
    flat_map (λ entry. if is_fired live.fired entry.due entry.timer then []
    else dated_entry (record { host = host; serial = live.serial }) entry.timer
    (Of_session (record { host = host; serial = live.serial }) entry.event) (Some entry.due))
    (entries_of (form.read live.session))

-- all that runs at a host
unfoldable pub host_dated : {S : Type 0} → Form S → ℕ → Host S → List Dated
host_dated form number host =
    flat_map client_dated host.clients ++ flat_map server_dated host.servers
    ++ flat_map (live_dated form number) host.sessions

-- all that runs at these hosts, counted from this number
unfoldable pub hosts_dated : {S : Type 0} → Form S → ℕ → List (Host S) → List Dated
hosts_dated form number [] = []
hosts_dated form number (host ∷ hosts) =
    host_dated form number host ++ hosts_dated form (number + 1) hosts

-- all that runs in a net
unfoldable pub all_dated : {S : Type 0} → Form S → Net S → List Dated
all_dated form net = hosts_dated form 0 net.hosts

-- the two entries are one: neither comes before the other
unfoldable pub same_entry : DueEntry → DueEntry → Bool
same_entry = eq_by_cmp due_order

-- what is due at a moment, by due moment, host, serial and the timer's name
unfoldable pub due_items : {S : Type 0} → Form S → ℕ → Net S → List Dated
due_items form now net =
    filter_map (λ entry. find (λ d. same_entry d.entry entry) (all_dated form net))
    (in_order (filter (is_due now) (map (λ d. d.entry) (all_dated form net))))

-- the entry has had its event
unfoldable pub mark_fired : {S : Type 0} → DueEntry → Host S → Host S
mark_fired entry host = record host {
  sessions =
      change_first (is_live entry.app.serial)
      (λ live.
      record live {
        fired = live.fired ++ record { due = entry.due; timer = entry.timer } ∷ [];
      }) host.sessions;
}

-- what is due happens: a session gets its event, and a transaction the moment
unfoldable pub fires : {S : Type 0} → Config → ℕ → Net S → DueEntry → DueItem → Net S
fires config now net entry (Of_session app event) =
    queue_for app event (change_host app.host (mark_fired entry) net)
fires config now net entry (Of_client client) =
    passes config (client_items.MomentCame now) request_timeout net client
fires config now net entry (Of_server server) =
    change_host server.app.host (pass_server server.event (server_items.MomentCame now)) net

-- time goes on to this moment, and what is due happens, in its order; nothing is sent by it
unfoldable pub net_after_tick : {S : Type 0} → Form S → Config → ℕ → Net S → Net S
net_after_tick form config now net =
    fold (λ net d. fires config now net d.entry d.item) (record net { moment = now })
    (due_items form now net)
