-- The net of hosts: how what a session gives to send is sent (RFC 3261 sections 8.1.2, 12.2.1.1 and
-- 18), and how messages between hosts are delivered. A link between two hosts loses nothing, keeps
-- order, and has no limit.
use Rattle.std.specs.Prelude.{ℕ, ◌+◌, ◌==◌, List, [], ◌∷◌, ◌++◌, Bool, true, false, not, ◌&&◌, ◌||◌, Option, None, Some, is_some, if◌then◌else◌, length, slice_get, drop, sum_by}
use Rattle.std.specs.List.{find, fold}
use Rattle.sc_value.specs.declared.ids.AppId.{AppId}
use Rattle.sc_value.specs.declared.ids.Place.{Place}
use Rattle.sc_value.specs.declared.parts.Address.{Address}
use Rattle.sc_value.specs.declared.parts.Uri.{Uri}
use Rattle.sc_value.specs.declared.message.Message.{Message}
use Rattle.sc_value.specs.declared.message.Message.TheVariants as messages
use Rattle.sc_value.specs.declared.message.Request.{Request}
use Rattle.sc_value.specs.declared.message.Response.{Response}
use Rattle.sc_value.specs.Lists.{change_first, change_nth}
use Rattle.sc_tokens.specs.Names.{same_bytes}
use Rattle.sc_terms.specs.declared.settings.Config.{Config}
use Rattle.sc_parts.specs.declared.choice.Choice.{Choice}
use Rattle.sc_parts.specs.declared.choice.Choice.TheVariants as choices
use Rattle.sc_parts.specs.declared.setup.Setup.{Setup}
use Rattle.sc_parts.specs.declared.transactions.ClientItem.TheVariants as client_items
use Rattle.sc_parts.specs.declared.transactions.ServerItem.TheVariants as server_items
use Rattle.sc_state.specs.declared.host.Client.{Client}
use Rattle.sc_state.specs.Hosts.{Host}
use Rattle.sc_state.specs.declared.host.Peer.{Peer}
use Rattle.sc_state.specs.declared.host.Peer.TheVariants as peers
use Rattle.sc_state.specs.declared.host.Reply.{Reply}
use Rattle.sc_state.specs.declared.host.Server.{Server}
use Rattle.sc_state.specs.declared.host.Taken.{Taken}
use Rattle.sc_state.specs.declared.net.Entry.{Entry}
use Rattle.sc_state.specs.declared.net.Net.{Net}
use Rattle.sc_state.specs.declared.net.Note.{Note}
use Rattle.sc_state.specs.declared.orders.Order.{Order}
use Rattle.sc_state.specs.declared.orders.Order.TheVariants as orders
use Rattle.sc_state.specs.declared.queue.Queued.{Queued}
use Rattle.sc_state.specs.declared.queue.Queued.TheVariants as queued
use Rattle.sc_tokens.specs.Bytes.{Bytes}
use Rattle.sc_model.specs.Choices.{choice_of}
use Rattle.sc_model.specs.Names.{edge_tag}
use Rattle.sc_model.specs.OwnHosts.{is_own}
use Rattle.sc_model.specs.ServerTransactions.{is_sent}
use Rattle.sc_model.specs.SessionStates.{is_final, ack}
use Rattle.sc_hosts.specs.Destinations.{destination, next_uri}
use Rattle.sc_hosts.specs.Messages.{cancel_of, own_response, without_via}
use Rattle.sc_hosts.specs.Sessions.{Form}
use Rattle.sc_hosts.specs.Inboxes.{queue}
use Rattle.sc_hosts.specs.TakingResponses.{cancelling}
use Rattle.sc_hosts.specs.Taking.{named_live, takes}
use Rattle.sc_hosts.specs.Transacting.{without_ended, method_of, is_client, is_invite_client, is_server, is_invite_server, is_proceeding, out_of_client, pass_client, with_client, state_of_client}
use Rattle.sc_hosts.specs.Words.{does_not_exist, not_found, unavailable}
use Rattle.sc_model.specs.DialogRequests.{cancel}

-- ## Hosts of a net

-- the host of this number
abbrev pub host_at : {S : Type 0} → ℕ → Net S → Option (Host S)
host_at number net = slice_get net.hosts number

-- a change of the host of this number
abbrev pub change_host : {S : Type 0} → ℕ → (Host S → Host S) → Net S → Net S
change_host number change net = record net { hosts = change_nth number change net.hosts }

-- ## Messages on their way

-- outside at once, or onto the wire
unfoldable pub with_message : {S : Type 0} → ℕ → Peer → Message → Option Note → Net S → Net S
with_message sender (peers.Outside place) message noted net =
    record net { sent = net.sent ++ record { place = place; message = message } ∷ [] }
with_message sender (peers.Inside host) message noted net =
    record net {
      wire = net.wire
          ++ record { sender = sender; receiver = host; message = message; note = noted } ∷ [];
    }
with_message sender peers.Nowhere message noted net = net

-- what a host answers at once, sent
unfoldable pub put_reply : {S : Type 0} → ℕ → Option Reply → Net S → Net S
put_reply sender None net = net
put_reply sender (Some reply) net = with_message sender reply.peer reply.message None net

-- the host of this number took a message
unfoldable pub with_host_after : {S : Type 0} → ℕ → Taken S → Net S → Net S
with_host_after number taken net =
    put_reply number taken.reply
    (record (change_host number (λ host. taken.host) net) { count = taken.count })

-- an event for a session, where it lives
unfoldable pub queued_at : {S : Type 0} → AppId → Queued → Option (Host S) → Net S → Net S
queued_at app event None net = net
queued_at app event (Some host) net =
    with_host_after app.host (queue app.serial net.moment event net.count host) net

-- an event for a session, where its host is there
unfoldable pub queue_for : {S : Type 0} → AppId → Queued → Net S → Net S
queue_for app event net = queued_at app event (host_at app.host net) net

-- ## What a session gives to send

-- the host answers its own request, which goes nowhere
unfoldable pub tell_own : {S : Type 0} → Config → AppId → ℕ → ℕ → Bytes → Request → Net S → Net S
tell_own config app branch code reason request net =
    queue_for app
    (queued.Response branch
    (without_via (own_response (edge_tag config.salt) code reason request))) net

-- a request with its client transaction
unfoldable pub send_to : {S : Type 0} → AppId → ℕ → Peer → Option Note → Request → Net S → Net S
send_to app branch peer noted request net =
    with_message app.host peer (messages.Request request) noted
    (change_host app.host
    (with_client
    (record {
      app = app;
      branch = branch;
      peer = peer;
      request = request;
      sent = net.moment;
      passed = [];
    })) net)

-- a request that leaves for this place; where there is none its session is told 503
unfoldable pub leave_for : {S : Type 0} → Config → AppId → ℕ → Request → Option Place → Net S
    → Net S
leave_for config app branch request None net =
    tell_own config app branch 503 unavailable request net
leave_for config app branch request (Some place) net =
    send_to app branch (peers.Outside place) None request net

-- a request that leaves
unfoldable pub leave : {S : Type 0} → Config → AppId → ℕ → Request → Net S → Net S
leave config app branch request net =
    leave_for config app branch request (destination config request) net

-- the request with these Routes on top
abbrev pub with_routes : List Address → Request → Request
with_routes routes request =
    record request { head = record request.head { route = routes ++ request.head.route } }

-- an initial request goes where the router says
unfoldable pub begin_by : {S : Type 0} → Config → AppId → ℕ → Request → Choice → Net S → Net S
begin_by config app branch request (choices.App host order region subscriber popped) net =
    send_to app branch (peers.Inside host)
    (Some (record { order = order; region = region; subscriber = subscriber; popped = popped }))
    request net
begin_by config app branch request (choices.Send routes) net =
    leave config app branch (with_routes routes request) net
begin_by config app branch request choices.Onward net = leave config app branch request net
begin_by config app branch request choices.NotFound net =
    tell_own config app branch 404 not_found request net

-- this host has a live session that the URI names
unfoldable pub has_named : {S : Type 0} → ℕ → Uri → ℕ → Host S → Bool
has_named epoch uri number host = is_some (named_live epoch number uri host)

-- the first such host of a list, counted from this number
unfoldable pub named_from : {S : Type 0} → ℕ → Uri → ℕ → List (Host S) → Option ℕ
named_from epoch uri number [] = None
named_from epoch uri number (host ∷ hosts) =
    if has_named epoch uri number host then Some number else named_from epoch uri (number + 1) hosts

-- the number of the first host with a live session that the URI names
unfoldable pub named_host : {S : Type 0} → Uri → Net S → Option ℕ
named_host uri net = named_from net.epoch uri 0 net.hosts

-- a later request goes to that host; where there is none its session is told 481
unfoldable pub send_named : {S : Type 0} → Config → AppId → ℕ → Request → Option ℕ → Net S → Net S
send_named config app branch request None net =
    tell_own config app branch 481 does_not_exist request net
send_named config app branch request (Some host) net =
    send_to app branch (peers.Inside host) None request net

-- a request with a To tag: by an own URI to its session, else outside
unfoldable pub send_later : {S : Type 0} → Config → AppId → ℕ → Request → Net S → Net S
send_later config app branch request net =
    if is_own config (next_uri request)
    then send_named config app branch request (named_host (next_uri request) net) net
    else leave config app branch request net

-- the other end, where that is a host
unfoldable pub peer_of_host : Option ℕ → Peer
peer_of_host None = peers.Nowhere
peer_of_host (Some host) = peers.Inside host

-- the other end, where that is outside
unfoldable pub peer_of_place : Option Place → Peer
peer_of_place None = peers.Nowhere
peer_of_place (Some place) = peers.Outside place

-- an ACK has no transaction; where it can't go it is dropped
unfoldable pub acknowledge : {S : Type 0} → Config → AppId → Request → Net S → Net S
acknowledge config app request net =
    with_message app.host
    (if is_own config (next_uri request) then peer_of_host (named_host (next_uri request) net)
    else peer_of_place (destination config request))
    (messages.Request request) None net

-- a CANCEL goes with its own client transaction
unfoldable pub send_cancel : {S : Type 0} → AppId → Client → Net S → Net S
send_cancel app client net =
    with_message app.host client.peer (messages.Request (cancel_of client.request)) None
    (change_host app.host (with_client (cancelling net.moment client)) net)

-- a CANCEL is asked for: it goes now, or waits for a provisional response (RFC 3261 section 9.1)
unfoldable pub cancel_by : {S : Type 0} → AppId → ℕ → Client → Net S → Net S
cancel_by app branch client net =
    let asked : Net _ = change_host app.host
    (pass_client app branch false (client_items.CancelAsked net.moment)) net in
    if (out_of_client client (client_items.CancelAsked net.moment)).cancel
    then send_cancel app client asked
    else asked

-- only an INVITE is cancelled; where it may go at once alone, only one that is proceeding
unfoldable pub cancel_for : {S : Type 0} → AppId → ℕ → Bool → Option Client → Net S → Net S
cancel_for app branch at_once None net = net
cancel_for app branch at_once (Some client) net =
    if is_invite_client client && (not at_once || is_proceeding (state_of_client client))
    then cancel_by app branch client net
    else net

-- the client transaction of a session's branch, not that of its CANCEL
unfoldable pub client_at : {S : Type 0} → AppId → ℕ → Option (Host S) → Option Client
client_at app branch None = None
client_at app branch (Some host) = find (is_client app branch false) host.clients

-- a server transaction after this response
unfoldable pub answered_server : ℕ → ℕ → Response → Server → Server
answered_server code now response server =
    record server {
      passed = server_items.AnswerGiven code now ∷ server.passed;
      last = Some response;
    }

-- a response goes by its server transaction, where that lets it go
unfoldable pub respond_by : {S : Type 0} → ℕ → ℕ → Response → Option Server → Net S → Net S
respond_by number event response None net = net
respond_by number event response (Some server) net =
    if is_sent (is_invite_server server) server.passed response.code
    then with_message number server.peer (messages.Response response) None
    (change_host number
    (λ host.
    without_ended
    (record host {
      servers = change_first (is_server event)
          (answered_server response.code net.moment response) host.servers;
    })) net)
    else net

-- the server transaction of an event
unfoldable pub server_at : {S : Type 0} → ℕ → Option (Host S) → Option Server
server_at event None = None
server_at event (Some host) = find (is_server event) host.servers

-- one order of a session
unfoldable pub obey : {S : Type 0} → Setup → AppId → Net S → Order → Net S
obey setup app net (orders.Respond event response) =
    respond_by app.host event response (server_at event (host_at app.host net)) net
obey setup app net (orders.Begin branch directive region state request) =
    begin_by setup.config app branch request
    (choice_of setup.config setup.dar request region directive state) net
obey setup app net (orders.Send branch request) = send_later setup.config app branch request net
obey setup app net (orders.Acknowledge request) = acknowledge setup.config app request net
obey setup app net (orders.Cancel branch) =
    cancel_for app branch false (client_at app branch (host_at app.host net)) net
obey setup app net (orders.CancelNow branch) =
    cancel_for app branch true (client_at app branch (host_at app.host net)) net

-- all of them, in their order
unfoldable pub after_orders : {S : Type 0} → Setup → AppId → List Order → Net S → Net S
after_orders setup app given net = fold (obey setup app) net given

-- ## Deliveries

-- some message is on the wire
unfoldable pub is_busy : {S : Type 0} → Net S → Bool
is_busy net = not (length net.wire == 0)

-- a host takes a message of the wire, as one from the host that sent it
unfoldable pub deliver_at : {S : Type 0} → Form S → Setup → Entry → Option (Host S) → Net S → Net S
deliver_at form setup entry None net = net
deliver_at form setup entry (Some host) net =
    with_host_after entry.receiver
    (takes form setup.config
    (record {
      host = entry.receiver;
      epoch = net.epoch;
      from = peers.Inside entry.sender;
      now = net.moment;
      count = net.count;
    }) entry.note entry.message host) net

-- this message leaves the wire and is taken
unfoldable pub deliver_entry : {S : Type 0} → Form S → Setup → Option Entry → Net S → Net S
deliver_entry form setup None net = net
deliver_entry form setup (Some entry) net =
    deliver_at form setup entry (host_at entry.receiver net) (record net { wire = drop 1 net.wire })

-- the first message of the wire is taken by its host
unfoldable pub deliver_first : {S : Type 0} → Form S → Setup → Net S → Net S
deliver_first form setup net = deliver_entry form setup (slice_get net.wire 0) net

-- the rank of a request: 5, of a CANCEL or an ACK 2
unfoldable pub rank_of_request : Request → ℕ
rank_of_request request =
    if same_bytes (method_of request) cancel || same_bytes (method_of request) ack then 2 else 5

-- the rank of a response: of a provisional one 4, of a final one 3, of one to a CANCEL 1
unfoldable pub rank_of_response : Response → ℕ
rank_of_response response =
    if same_bytes response.head.cseq.method cancel then 1
    else (if is_final response.code then 3 else 4)

-- what a message can still cause on the wire: a request its answers, a provisional answer a CANCEL
-- that waits, a final one its ACK, a CANCEL its answer. What it causes has a lower rank
unfoldable pub rank : Message → ℕ
rank (messages.Request request) = rank_of_request request
rank (messages.Response response) = rank_of_response response

-- the ranks of all messages on the wire; it bounds how many deliveries are left
unfoldable pub weight : {S : Type 0} → Net S → ℕ
weight net = sum_by (λ entry. rank entry.message) net.wire
