-- What a host takes from outside or from another host, and what it answers at once (RFC 3261
-- sections 8.2, 9.2, 12.2.2 and 17). The limits are this project's own.
use Rattle.std.specs.Prelude.{ℕ, ◌+◌, [], ◌∷◌, ◌++◌, Bool, true, false, ◌||◌, Option, None, Some, is_some, option_map, option_and_then, nat_le, if◌then◌else◌, length, slice_get, drop}
use Rattle.std.specs.List.{find}
use Rattle.std.specs.Option.{option_map_or}
use Rattle.sc_value.specs.declared.ids.AppId.{AppId}
use Rattle.sc_value.specs.declared.parts.Uri.{Uri}
use Rattle.sc_value.specs.declared.parts.Uri.TheVariants.{Sip, Other}
use Rattle.sc_value.specs.declared.message.Message.{Message}
use Rattle.sc_value.specs.declared.message.Message.TheVariants as messages
use Rattle.sc_value.specs.declared.message.Request.{Request}
use Rattle.sc_value.specs.declared.message.Response.{Response}
use Rattle.sc_value.specs.Lists.{change_first}
use Rattle.sc_tokens.specs.Names.{same_bytes}
use Rattle.sc_value.specs.Params.{param_value}
use Rattle.sc_terms.specs.declared.settings.Config.{Config}
use Rattle.sc_parts.specs.declared.transactions.ServerItem.TheVariants as server_items
use Rattle.sc_state.specs.Hosts.{Host}
use Rattle.sc_state.specs.declared.host.Coming.{Coming}
use Rattle.sc_state.specs.declared.host.Live.{Live}
use Rattle.sc_state.specs.declared.host.Peer.{Peer}
use Rattle.sc_state.specs.declared.host.Server.{Server}
use Rattle.sc_state.specs.declared.host.Taken.{Taken}
use Rattle.sc_state.specs.declared.net.Note.{Note}
use Rattle.sc_state.specs.declared.queue.Queued.TheVariants as queued
use Rattle.sc_tokens.specs.Bytes.{Bytes}
use Rattle.sc_model.specs.Dialogs.{tag_of, update}
use Rattle.sc_model.specs.Names.{ap_name, ap_value, edge_tag, tag_text}
use Rattle.sc_model.specs.OwnHosts.{is_own}
use Rattle.sc_model.specs.ServerTransactions.{is_sent_again}
use Rattle.sc_model.specs.SessionStates.{invite, bye, ack}
use Rattle.sc_hosts.specs.declared.sorts.Sort.{Sort}
use Rattle.sc_hosts.specs.declared.sorts.Sort.TheVariants.{Cancels, Acks, Repeats, Later, Begins, Nobodys}
use Rattle.sc_hosts.specs.Messages.{own_response, trying_response}
use Rattle.sc_hosts.specs.Sessions.{Form}
use Rattle.sc_hosts.specs.Transacting.{method_of, is_cancelled_by, is_acked_by, is_repeated_by, has_final, is_server, pass_server}
use Rattle.sc_hosts.specs.Words.{prack, ok, trying, does_not_exist, unavailable}
use Rattle.sc_hosts.specs.Inboxes.{MOST_LIVE, is_full, queue, replying, without_answer}
use Rattle.sc_hosts.specs.TakingResponses.{take_response}
use Rattle.sc_model.specs.DialogRequests.{cancel}

-- ## CANCEL, ACK and repeated requests

-- 200, and the session is told where its INVITE has no final response
unfoldable pub take_cancel : {S : Type 0} → Peer → ℕ → Server → Request → ℕ → Host S → Taken S
take_cancel from now server request count host =
    replying from (messages.Response (own_response server.tag 200 ok request))
    (if has_final server then without_answer host count
    else queue server.app.serial now (queued.Cancelled server.event) count host)

-- the last response of a server transaction, once more
unfoldable pub last_again : {S : Type 0} → Server → Option Response → Taken S → Taken S
last_again server None taken = taken
last_again server (Some response) taken = replying server.peer (messages.Response response) taken

-- the same where it is to be sent again
unfoldable pub again_if : {S : Type 0} → Bool → Server → Taken S → Taken S
again_if true server taken = last_again server server.last taken
again_if false server taken = taken

-- a request that came before: it gets the last answer again where its state has it so (RFC 3261
-- section 17.2)
unfoldable pub take_repeated : {S : Type 0} → Server → ℕ → Host S → Taken S
take_repeated server count host =
    again_if (is_sent_again (same_bytes (method_of server.request) invite) server.passed) server
    (without_answer (pass_server server.event server_items.RequestAgain host) count)

-- ## Answers without a transaction; an ACK gets none

-- an answer of the container by itself, with the edge tag
unfoldable pub refuse : {S : Type 0} → Config → Peer → ℕ → Bytes → Request → ℕ → Host S → Taken S
refuse config from code reason request count host =
    if same_bytes (method_of request) ack then without_answer host count
    else replying from (messages.Response (own_response (edge_tag config.salt) code reason request))
    (without_answer host count)

-- ## Requests with a To tag

-- the value of `ap` in an own URI
unfoldable pub ap_of : Uri → Option Bytes
ap_of (Sip uri) = param_value ap_name uri.params
ap_of (Other text) = None

-- the own URI by which the request comes here: its top Route, or its Request-URI
unfoldable pub own_uri : Config → Request → Option Uri
own_uri config request =
    if option_map_or (λ route. is_own config route.uri) (slice_get request.head.route 0) false
    then option_map (λ route. route.uri) (slice_get request.head.route 0)
    else (if is_own config request.uri then Some request.uri else None)

-- the own top Route is taken off
unfoldable pub without_own_route : Config → Request → Request
without_own_route config request =
    if option_map_or (λ route. is_own config route.uri) (slice_get request.head.route 0) false
    then record request { head = record request.head { route = drop 1 request.head.route } } else
    request

-- the URI names this session
unfoldable pub names : ℕ → AppId → Uri → Bool
names epoch app uri = option_map_or (same_bytes (ap_value epoch app)) (ap_of uri) false

-- the URI names this live session
unfoldable pub is_named_live : {S : Type 0} → ℕ → ℕ → Uri → Live S → Bool
is_named_live epoch host uri live = names epoch (record { host = host; serial = live.serial }) uri

-- the live session of this host that the URI names
unfoldable pub named_live : {S : Type 0} → ℕ → ℕ → Uri → Host S → Option (Live S)
named_live epoch number uri host = find (is_named_live epoch number uri) host.sessions

-- the server transaction of a request that was queued; an ACK has none
unfoldable pub with_server : {S : Type 0} → AppId → ℕ → Peer → Bytes → Request → Host S → Host S
with_server app event peer tag request host =
    if same_bytes (method_of request) ack then host
    else
    record host {
      servers = host.servers
          ++ record {
            app = app;
            event = event;
            peer = peer;
            tag = tag;
            request = request;
            passed = [];
            last = None;
          } ∷ [];
    }

-- a server transaction that was answered 100
unfoldable pub server_after_trying : Request → ℕ → Server → Server
server_after_trying request now server =
    record server {
      passed = server_items.AnswerGiven 100 now ∷ server.passed;
      last = Some (trying_response trying request);
    }

-- an INVITE is answered 100 at once
unfoldable pub with_trying : {S : Type 0} → Peer → ℕ → Request → Taken S → Taken S
with_trying from now request taken =
    if same_bytes (method_of request) invite
    then replying from (messages.Response (trying_response trying request)) (record taken {
      host =
          record taken.host {
            servers =
                change_first (is_server taken.count) (server_after_trying request now)
                taken.host.servers;
          };
    }) else taken

-- the tag that an application session drew as it began
abbrev pub own_tag : Config → ℕ → AppId → Bytes
own_tag config epoch app = tag_text config.salt epoch app 1

-- a later request waits in the inbox of its session; 503 where that is full
unfoldable pub queue_later : {S : Type 0} → Config → Coming → Request → Live S → Host S → Taken S
queue_later config coming request live host =
    let app : AppId = record { host = coming.host; serial = live.serial } in
    if is_full live then refuse config coming.from 503 unavailable request coming.count host
    else with_trying coming.from coming.now request
    (queue live.serial coming.now (queued.Request (without_own_route config request)) coming.count
    (with_server app (coming.count + 1) coming.from (own_tag config coming.epoch app)
    (without_own_route config request) host))

-- ## Requests that begin a session

-- a session as it begins to live, its first request waiting
unfoldable pub begun_live : {S : Type 0} → Form S → Config → ℕ → AppId → ℕ → Note → Request → ℕ
    → Live S
begun_live form config epoch app now noted request number = record {
  serial = app.serial;
  session = form.begin config app epoch now noted request;
  inbox =
      record {
        number = number;
        event = queued.Initial noted.region noted.subscriber noted.popped request;
      } ∷ [];
  since = now;
  fired = [];
}

-- a session begins with a request and its server transaction; its serial is the next one
unfoldable pub take_new : {S : Type 0} → Form S → Config → Coming → Note → Request → Host S
    → Taken S
take_new form config coming noted request host =
    let app : AppId = record { host = coming.host; serial = host.last + 1 } in
    let begun =
    record host {
      sessions =
          host.sessions
          ++ begun_live form config coming.epoch app coming.now noted request (coming.count + 1)
          ∷ [];
      last = host.last + 1;
    } in
    let tag = own_tag config coming.epoch app in
    let served = with_server app (coming.count + 1) coming.from tag request begun in
    with_trying coming.from coming.now request (without_answer served (coming.count + 1))

-- a request that may begin a session does so where it has its note; 503 where as many live as may
unfoldable pub take_initial : {S : Type 0} → Form S → Config → Coming → Option Note → Request
    → Host S → Taken S
take_initial form config coming None request host =
    refuse config coming.from 481 does_not_exist request coming.count host
take_initial form config coming (Some noted) request host =
    if nat_le MOST_LIVE (length host.sessions)
    then refuse config coming.from 503 unavailable request coming.count host
    else take_new form config coming noted request host

-- ## The sorts of requests

-- the server transaction that a request belongs to: a CANCEL and an ACK to that of their INVITE,
-- another one to its own (RFC 3261 sections 9.2 and 17.2.3)
unfoldable pub server_for : {S : Type 0} → Peer → Request → Host S → Option Server
server_for from request host =
    if same_bytes (method_of request) cancel
    then find (is_cancelled_by from request) host.servers
    else (if same_bytes (method_of request) ack then find (is_acked_by from request) host.servers
    else find (is_repeated_by from request) host.servers)

-- a request of these methods begins nothing
unfoldable pub is_never_initial : Request → Bool
is_never_initial request =
    same_bytes (method_of request) bye || same_bytes (method_of request) prack
    || same_bytes (method_of request) update

-- the sort of a request, by the transaction that it belongs to and the session that it names, where
-- there are such. Without a transaction a CANCEL is nobody's (RFC 3261 section 9.2); one with a To
-- tag is for the session that it names, and nobody's where it names none (section 12.2.2); another
-- one may begin a session, where its method begins one
unfoldable pub sort_of : {T L : Type 0} → Request → Option T → Option L → Sort T L
sort_of request (Some transaction) named =
    if same_bytes (method_of request) cancel then Cancels transaction
    else (if same_bytes (method_of request) ack then Acks transaction else Repeats transaction)
sort_of request None named =
    if same_bytes (method_of request) cancel then Nobodys
    else (if is_some (tag_of request.head.to) then option_map_or Later named Nobodys
    else (if is_never_initial request then Nobodys else Begins))

-- the sort of a request to a host
unfoldable pub sort_at : {S : Type 0} → Config → Coming → Request → Host S → Sort Server (Live S)
sort_at config coming request host =
    sort_of request (server_for coming.from request host)
    (option_and_then (λ uri. named_live coming.epoch coming.host uri host)
    (own_uri config request))

-- ## All that a host takes

-- a request of each sort: a CANCEL tells the session, an ACK passes the transaction, what comes
-- again gets the last answer again, a later request waits for its session, one may begin, and
-- nobody's gets 481
unfoldable pub taken_as : {S : Type 0} → Form S → Config → Coming → Option Note → Request
    → Sort Server (Live S) → Host S → Taken S
taken_as form config coming noted request (Cancels server) host =
    take_cancel coming.from coming.now server request coming.count host
taken_as form config coming noted request (Acks server) host =
    without_answer (pass_server server.event server_items.AckCame host) coming.count
taken_as form config coming noted request (Repeats server) host =
    take_repeated server coming.count host
taken_as form config coming noted request (Later live) host =
    queue_later config coming request live host
taken_as form config coming noted request Begins host =
    take_initial form config coming noted request host
taken_as form config coming noted request Nobodys host =
    refuse config coming.from 481 does_not_exist request coming.count host

-- what a host takes
unfoldable pub takes : {S : Type 0} → Form S → Config → Coming → Option Note → Message → Host S
    → Taken S
takes form config coming noted (messages.Request request) host =
    taken_as form config coming noted request (sort_at config coming request host) host
takes form config coming noted (messages.Response response) host =
    take_response config coming.epoch coming.from coming.now response coming.count host
