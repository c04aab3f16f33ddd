-- A message or a text comes from outside: which host takes it, by its transactions, by an own URI,
-- or by the router's choice (RFC 3261 sections 8.2, 9.2, 12.2.2, 16.4 and 17, JSR 289 section 15).
use Rattle.std.specs.Prelude.{ℕ, ◌+◌, List, [], ◌∷◌, Bool, Option, None, Some, is_some, option_and_then, if◌then◌else◌}
use Rattle.sc_value.specs.declared.ids.Place.{Place}
use Rattle.sc_value.specs.declared.message.Message.{Message}
use Rattle.sc_value.specs.declared.message.Message.TheVariants as messages
use Rattle.sc_value.specs.declared.message.Request.{Request}
use Rattle.sc_value.specs.declared.message.Response.{Response}
use Rattle.sc_value.specs.declared.parts.Address.{Address}
use Rattle.sc_tokens.specs.Names.{same_bytes}
use Rattle.sc_terms.specs.declared.settings.Config.{Config}
use Rattle.sc_value.specs.declared.answerable.Answerable.{Answerable}
use Rattle.sc_parts.specs.declared.choice.Choice.{Choice}
use Rattle.sc_parts.specs.declared.choice.Choice.TheVariants as choices
use Rattle.sc_parts.specs.declared.setup.Setup.{Setup}
use Rattle.sc_state.specs.Hosts.{Host}
use Rattle.sc_state.specs.declared.host.Peer.TheVariants as peers
use Rattle.sc_state.specs.declared.net.Net.{Net}
use Rattle.sc_state.specs.declared.net.Note.{Note}
use Rattle.sc_tokens.specs.Bytes.{Bytes}
use Rattle.sc_model.specs.Choices.{choice_of}
use Rattle.sc_model.specs.Names.{edge_tag}
use Rattle.sc_hosts.specs.declared.sorts.Sort.{Sort}
use Rattle.sc_hosts.specs.declared.sorts.Sort.TheVariants.{Cancels, Acks, Repeats, Later, Begins, Nobodys}
use Rattle.sc_hosts.specs.Messages.{bad_response, own_response}
use Rattle.sc_hosts.specs.Nets.{host_at, named_host, with_host_after, with_message}
use Rattle.sc_hosts.specs.Routes.{Position, position_of, unrouted_initial, popped_route}
use Rattle.sc_hosts.specs.Sessions.{Form}
use Rattle.sc_hosts.specs.Taking.{own_uri, server_for, sort_of, takes}
use Rattle.sc_hosts.specs.Transacting.{method_of, client_for}
use Rattle.sc_hosts.specs.Words.{does_not_exist, not_found}
use Rattle.sc_model.specs.SessionStates.{ack}

-- ## A message comes from outside

-- the first host of which the test holds
unfoldable pub first_host : {S : Type 0} → (Host S → Bool) → ℕ → List (Host S) → Option ℕ
first_host test number [] = None
first_host test number (host ∷ hosts) =
    if test host then Some number else first_host test (number + 1) hosts

-- the host takes it
unfoldable pub host_takes : {S : Type 0} → Form S → Setup → Place → Option Note → Message → ℕ
    → Option (Host S) → Net S → Net S
host_takes form setup from noted message number None net = net
host_takes form setup from noted message number (Some host) net =
    with_host_after number
    (takes form setup.config
    (record {
      host = number;
      epoch = net.epoch;
      from = peers.Outside from;
      now = net.moment;
      count = net.count;
    }) noted message host) net

-- the host of this number takes it
unfoldable pub taken_at : {S : Type 0} → Form S → Setup → Place → Option Note → Message → ℕ → Net S
    → Net S
taken_at form setup from noted message number net =
    host_takes form setup from noted message number (host_at number net) net

-- an answer outside any session; an ACK gets none
unfoldable pub edge_answer : {S : Type 0} → Config → Place → ℕ → Bytes → Request → Net S → Net S
edge_answer config from code reason request net =
    if same_bytes (method_of request) ack then net
    else with_message 0 (peers.Outside from)
    (messages.Response (own_response (edge_tag config.salt) code reason request)) None net

-- a request without To tag begins a session where the router has an application for it
unfoldable pub begins_by : {S : Type 0} → Form S → Setup → Place → Request → Option Address → Choice
    → Net S → Net S
begins_by form setup from request popped (choices.App host order region subscriber route) net =
    taken_at form setup from
    (Some
    (record {
      order = order;
      region = region;
      subscriber = subscriber;
      popped = if is_some route then route else popped;
    })) (messages.Request request) host net
begins_by form setup from request popped (choices.Send routes) net =
    edge_answer setup.config from 404 not_found request net
begins_by form setup from request popped choices.Onward net =
    edge_answer setup.config from 404 not_found request net
begins_by form setup from request popped choices.NotFound net =
    edge_answer setup.config from 404 not_found request net

-- a request that may begin a session, by the router's choice; an ACK is dropped
unfoldable pub initial_arrives : {S : Type 0} → Form S → Setup → Place → Request → Net S → Net S
initial_arrives form setup from request net =
    if same_bytes (method_of request) ack then net
    else
    (let position : Position = position_of setup.config request in
    let unrouted : Request = unrouted_initial setup.config request in
    begins_by form setup from unrouted (popped_route setup.config request)
    (choice_of setup.config setup.dar unrouted position.region position.directive position.state)
    net)

-- the sort of a request to the net: which host has its transaction, and which the session that it
-- names by the own URI with which it comes
unfoldable pub sort_in : {S : Type 0} → Config → Place → Request → Net S → Sort ℕ ℕ
sort_in config from request net =
    sort_of request
    (first_host (λ host. is_some (server_for (peers.Outside from) request host)) 0 net.hosts)
    (option_and_then (λ uri. named_host uri net) (own_uri config request))

-- a request of each sort: the host of its transaction or of its session takes it, one may begin a
-- session, and nobody's gets 481
unfoldable pub arrives_as : {S : Type 0} → Form S → Setup → Place → Request → Sort ℕ ℕ → Net S
    → Net S
arrives_as form setup from request (Cancels number) net =
    taken_at form setup from None (messages.Request request) number net
arrives_as form setup from request (Acks number) net =
    taken_at form setup from None (messages.Request request) number net
arrives_as form setup from request (Repeats number) net =
    taken_at form setup from None (messages.Request request) number net
arrives_as form setup from request (Later number) net =
    taken_at form setup from None (messages.Request request) number net
arrives_as form setup from request Begins net = initial_arrives form setup from request net
arrives_as form setup from request Nobodys net =
    edge_answer setup.config from 481 does_not_exist request net

-- a response, at the host whose client transaction it belongs to; others are dropped
unfoldable pub response_by : {S : Type 0} → Form S → Setup → Place → Response → Option ℕ → Net S
    → Net S
response_by form setup from response None net = net
response_by form setup from response (Some number) net =
    taken_at form setup from None (messages.Response response) number net

-- what a message that comes from outside makes of the net
unfoldable pub after_arrival : {S : Type 0} → Form S → Setup → Place → Message → Net S → Net S
after_arrival form setup from (messages.Request request) net =
    arrives_as form setup from request (sort_in setup.config from request net) net
after_arrival form setup from (messages.Response response) net =
    response_by form setup from response
    (first_host
    (λ host.
    is_some (client_for setup.config.salt net.epoch (peers.Outside from) response host)) 0
    net.hosts) net

-- ## A text that is no message: 400 where it can be answered (RFC 3261 section 21.4.1)

-- the answer to a text; none to an ACK, and none where the headers of an answer can't be read
unfoldable pub bad_by : {S : Type 0} → Config → Place → Option Answerable → Net S → Net S
bad_by config from None net = net
bad_by config from (Some heads) net =
    if same_bytes heads.cseq.method ack then net
    else with_message 0 (peers.Outside from) (messages.Response (bad_response config.salt heads))
    None net
