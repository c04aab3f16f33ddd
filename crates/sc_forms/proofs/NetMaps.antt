-- A net whose sessions are changed: what its sessions give to send.
use Rattle.std.proofs.Common.{refl}
use Rattle.std.specs.Prelude.{◌≡◌, ℕ, ◌+◌, List, [], ◌∷◌, Bool, false, not, ◌&&◌, ◌||◌, Option, None, Some, map, option_map}
use Rattle.std.proofs.lemmas.Option.{slice_get-map}
use Rattle.sc_forms.proofs.HostMaps.{tidied-maps, pass_client-maps, queue-maps}
use Rattle.sc_forms.proofs.ListMaps.{if-maps, is_some-maps, change_nth-maps, fold-maps}
use Rattle.sc_forms.proofs.TakingMaps.{named_live-maps}
use Rattle.sc_forms.specs.Simulations.{map_host, map_taken, map_net}
use Rattle.sc_tokens.specs.Bytes.{Bytes}
use Rattle.sc_hosts.specs.Destinations.{next_uri, destination}
use Rattle.sc_hosts.specs.Messages.{cancel_of}
use Rattle.sc_hosts.specs.Nets.{host_at, change_host, with_message as put, put_reply, with_host_after as placed, queued_at, queue_for, tell_own, send_to, leave_for, leave, with_routes, begin_by, has_named, named_from, named_host, send_named, send_later, acknowledge, send_cancel, cancel_by, cancel_for, client_at, answered_server, respond_by, server_at, obey, after_orders as obeyed, is_busy, weight}
use Rattle.sc_hosts.specs.TakingResponses.{cancelling}
use Rattle.sc_hosts.specs.Transacting.{is_proceeding, is_invite_client, state_of_client, is_invite_server, without_ended, out_of_client, pass_client, with_client, is_server}
use Rattle.sc_hosts.specs.Words.{does_not_exist, not_found, unavailable}
use Rattle.sc_model.specs.OwnHosts.{is_own}
use Rattle.sc_model.specs.ServerTransactions.{is_sent}
use Rattle.sc_parts.specs.declared.choice.Choice.TheVariants as choices
use Rattle.sc_parts.specs.declared.choice.Choice.{Choice}
use Rattle.sc_parts.specs.declared.setup.Setup.{Setup}
use Rattle.sc_parts.specs.declared.transactions.ClientItem.TheVariants as client_items
use Rattle.sc_parts.specs.declared.transactions.ClientItem.{ClientItem}
use Rattle.sc_state.specs.declared.host.Client.{Client}
use Rattle.sc_state.specs.Hosts.{Host}
use Rattle.sc_state.specs.declared.host.Peer.TheVariants as peers
use Rattle.sc_state.specs.declared.host.Peer.{Peer}
use Rattle.sc_state.specs.declared.host.Reply.{Reply}
use Rattle.sc_state.specs.declared.host.Server.{Server}
use Rattle.sc_state.specs.declared.host.Taken.{Taken}
use Rattle.sc_state.specs.declared.net.Net.{Net}
use Rattle.sc_state.specs.declared.net.Note.{Note}
use Rattle.sc_state.specs.declared.orders.Order.TheVariants as orders
use Rattle.sc_state.specs.declared.orders.Order.{Order}
use Rattle.sc_state.specs.declared.queue.Queued.{Queued}
use Rattle.sc_terms.specs.declared.settings.Config.{Config}
use Rattle.sc_value.specs.Lists.{change_first}
use Rattle.sc_value.specs.declared.ids.AppId.{AppId}
use Rattle.sc_value.specs.declared.ids.Place.{Place}
use Rattle.sc_value.specs.declared.message.Message.TheVariants as messages
use Rattle.sc_value.specs.declared.message.Message.{Message}
use Rattle.sc_value.specs.declared.message.Request.{Request}
use Rattle.sc_value.specs.declared.message.Response.{Response}
use Rattle.sc_value.specs.declared.parts.Uri.{Uri}

-- ## Hosts of a net, and messages on their way

module _ {S T : Type 0} (change : S → T) where
  pub host_at-maps : (number : ℕ) (net : Net S) → host_at number (map_net change net) ≡ option_map (map_host change) (host_at number net)
  unfolding map_net
  host_at-maps number net = slice_get-map (map_host change) net.hosts number

  -- a host is changed alike in both
  pub change_host-maps : (number : ℕ) (act : Host T → Host T) (before : Host S → Host S) → ((host : Host S) → act (map_host change host) ≡ map_host change (before host))
      → (net : Net S) → change_host number act (map_net change net) ≡ map_net change (change_host number before net)
  unfolding map_net
  change_host-maps number act before same net = rw (change_nth-maps (map_host change) number act before same net.hosts) refl

  with_client_at-maps : (number : ℕ) (client : Client) (net : Net S) → change_host number (with_client client) (map_net change net) ≡ map_net change (change_host number (with_client client) net)
  unfolding map_host
  with_client_at-maps number client net = change_host-maps number (with_client client) (with_client client) (λ host. refl) net

  pub pass_client_at-maps : (number : ℕ) (app : AppId) (branch : ℕ) (cancelling : Bool) (item : ClientItem) (net : Net S)
      → change_host number (pass_client app branch cancelling item) (map_net change net) ≡ map_net change (change_host number (pass_client app branch cancelling item) net)
  pass_client_at-maps number app branch cancelling item net =
      change_host-maps number (pass_client app branch cancelling item) (pass_client app branch cancelling item) (pass_client-maps change app branch cancelling item) net

  pub put-maps : (sender : ℕ) (peer : Peer) (message : Message) (noted : Option Note) (net : Net S) → put sender peer message noted (map_net change net) ≡ map_net change (put sender peer message noted net)
  unfolding put map_net
  put-maps sender (peers.Outside place) message noted net = refl
  put-maps sender (peers.Inside host) message noted net = refl
  put-maps sender peers.Nowhere message noted net = refl

  put_reply-maps : (sender : ℕ) (reply : Option Reply) (net : Net S) → put_reply sender reply (map_net change net) ≡ map_net change (put_reply sender reply net)
  unfolding put_reply
  put_reply-maps sender None net = refl
  put_reply-maps sender (Some reply) net = put-maps sender reply.peer reply.message None net

  pub placed-maps : (number : ℕ) (taken : Taken S) (net : Net S) → placed number (map_taken change taken) (map_net change net) ≡ map_net change (placed number taken net)
  unfolding placed map_taken map_net
  placed-maps number taken net =
      rw (change_nth-maps (map_host change) number (λ host. map_host change taken.host) (λ host. taken.host) (λ host. refl) net.hosts) (put_reply-maps number taken.reply _)

  queued_at-maps : (app : AppId) (event : Queued) (host : Option (Host S)) (net : Net S)
      → queued_at app event (option_map (map_host change) host) (map_net change net) ≡ map_net change (queued_at app event host net)
  unfolding queued_at map_net
  queued_at-maps app event None net = refl
  queued_at-maps app event (Some host) net = rw (queue-maps, placed-maps) refl

  pub queue_for-maps : (app : AppId) (event : Queued) (net : Net S) → queue_for app event (map_net change net) ≡ map_net change (queue_for app event net)
  unfolding queue_for
  queue_for-maps app event net = rw (host_at-maps, queued_at-maps) refl

  -- ## What a session gives to send

  tell_own-maps : (config : Config) (app : AppId) (branch code : ℕ) (reason : Bytes) (request : Request) (net : Net S)
      → tell_own config app branch code reason request (map_net change net) ≡ map_net change (tell_own config app branch code reason request net)
  unfolding tell_own
  tell_own-maps config app branch code reason request net = queue_for-maps app _ net

  send_to-maps : (app : AppId) (branch : ℕ) (peer : Peer) (noted : Option Note) (request : Request) (net : Net S)
      → send_to app branch peer noted request (map_net change net) ≡ map_net change (send_to app branch peer noted request net)
  unfolding send_to map_net
  send_to-maps app branch peer noted request net =
      let client : Client = record { app = app; branch = branch; peer = peer; request = request; sent = net.moment; passed = [] } in
      rw (with_client_at-maps app.host client net) (put-maps app.host peer (messages.Request request) noted (change_host app.host (with_client client) net))

  leave_for-maps : (config : Config) (app : AppId) (branch : ℕ) (request : Request) (place : Option Place) (net : Net S)
      → leave_for config app branch request place (map_net change net) ≡ map_net change (leave_for config app branch request place net)
  unfolding leave_for
  leave_for-maps config app branch request None net = tell_own-maps config app branch 503 unavailable request net
  leave_for-maps config app branch request (Some place) net = send_to-maps app branch (peers.Outside place) None request net

  leave-maps : (config : Config) (app : AppId) (branch : ℕ) (request : Request) (net : Net S) → leave config app branch request (map_net change net) ≡ map_net change (leave config app branch request net)
  unfolding leave
  leave-maps config app branch request net = leave_for-maps config app branch request (destination config request) net

  begin_by-maps : (config : Config) (app : AppId) (branch : ℕ) (request : Request) (choice : Choice) (net : Net S)
      → begin_by config app branch request choice (map_net change net) ≡ map_net change (begin_by config app branch request choice net)
  unfolding begin_by
  begin_by-maps config app branch request (choices.App host order region subscriber popped) net = send_to-maps app branch (peers.Inside host) _ request net
  begin_by-maps config app branch request (choices.Send routes) net = leave-maps config app branch (with_routes routes request) net
  begin_by-maps config app branch request choices.Onward net = leave-maps config app branch request net
  begin_by-maps config app branch request choices.NotFound net = tell_own-maps config app branch 404 not_found request net

  has_named-maps : (epoch : ℕ) (uri : Uri) (number : ℕ) (host : Host S) → has_named epoch uri number (map_host change host) ≡ has_named epoch uri number host
  unfolding has_named
  has_named-maps epoch uri number host = rw (named_live-maps, is_some-maps) refl

  named_from-maps : (hosts : List (Host S)) (epoch : ℕ) (uri : Uri) (number : ℕ) → named_from epoch uri number (map (map_host change) hosts) ≡ named_from epoch uri number hosts
  unfolding named_from
  named_from-maps [] epoch uri number = refl
  named_from-maps (host ∷ hosts) epoch uri number = rw (has_named-maps epoch uri number host, named_from-maps hosts epoch uri (number + 1)) refl

  pub named_host-maps : (uri : Uri) (net : Net S) → named_host uri (map_net change net) ≡ named_host uri net
  unfolding named_host map_net
  named_host-maps uri net = named_from-maps net.hosts net.epoch uri 0

  send_named-maps : (config : Config) (app : AppId) (branch : ℕ) (request : Request) (number : Option ℕ) (net : Net S)
      → send_named config app branch request number (map_net change net) ≡ map_net change (send_named config app branch request number net)
  unfolding send_named
  send_named-maps config app branch request None net = tell_own-maps config app branch 481 does_not_exist request net
  send_named-maps config app branch request (Some host) net = send_to-maps app branch (peers.Inside host) None request net

  send_later-maps : (config : Config) (app : AppId) (branch : ℕ) (request : Request) (net : Net S)
      → send_later config app branch request (map_net change net) ≡ map_net change (send_later config app branch request net)
  unfolding send_later
  send_later-maps config app branch request net =
      if-maps (map_net change) (is_own config (next_uri request)) (rw (named_host-maps, send_named-maps) refl) (leave-maps config app branch request net)

  acknowledge-maps : (config : Config) (app : AppId) (request : Request) (net : Net S) → acknowledge config app request (map_net change net) ≡ map_net change (acknowledge config app request net)
  unfolding acknowledge
  acknowledge-maps config app request net = rw (named_host-maps, put-maps) refl

  send_cancel-maps : (app : AppId) (client : Client) (net : Net S) → send_cancel app client (map_net change net) ≡ map_net change (send_cancel app client net)
  unfolding send_cancel map_net
  send_cancel-maps app client net =
      rw (with_client_at-maps app.host (cancelling net.moment client) net)
      (put-maps app.host client.peer (messages.Request (cancel_of client.request)) None (change_host app.host (with_client (cancelling net.moment client)) net))

  cancel_by-maps : (app : AppId) (branch : ℕ) (client : Client) (net : Net S) → cancel_by app branch client (map_net change net) ≡ map_net change (cancel_by app branch client net)
  unfolding cancel_by map_net
  cancel_by-maps app branch client net =
      rw (pass_client_at-maps app.host app branch false (client_items.CancelAsked net.moment) net)
      (if-maps (map_net change) (out_of_client client (client_items.CancelAsked net.moment)).cancel (send_cancel-maps app client _) refl)

  cancel_for-maps : (app : AppId) (branch : ℕ) (at_once : Bool) (client : Option Client) (net : Net S)
      → cancel_for app branch at_once client (map_net change net) ≡ map_net change (cancel_for app branch at_once client net)
  unfolding cancel_for
  cancel_for-maps app branch at_once None net = refl
  cancel_for-maps app branch at_once (Some client) net =
      if-maps (map_net change) (is_invite_client client && (not at_once || is_proceeding (state_of_client client))) (cancel_by-maps app branch client net) refl

  client_at-maps : (app : AppId) (branch : ℕ) (host : Option (Host S)) → client_at app branch (option_map (map_host change) host) ≡ client_at app branch host
  unfolding client_at map_host
  client_at-maps app branch None = refl
  client_at-maps app branch (Some host) = refl

  answered-maps : (event now : ℕ) (response : Response) (host : Host S)
      → without_ended (record (map_host change host) { servers = change_first (is_server event) (answered_server response.code now response) (map_host change host).servers })
      ≡ map_host change (without_ended (record host { servers = change_first (is_server event) (answered_server response.code now response) host.servers }))
  unfolding map_host
  answered-maps event now response host = tidied-maps change (record host { servers = change_first (is_server event) (answered_server response.code now response) host.servers })

  answered_at-maps : (number event now : ℕ) (response : Response) (net : Net S)
      → change_host number (λ host. without_ended (record host { servers = change_first (is_server event) (answered_server response.code now response) host.servers })) (map_net change net)
      ≡ map_net change (change_host number (λ host. without_ended (record host { servers = change_first (is_server event) (answered_server response.code now response) host.servers })) net)
  answered_at-maps number event now response net = change_host-maps number _ _ (answered-maps event now response) net

  respond_by-maps : (number event : ℕ) (response : Response) (server : Option Server) (net : Net S)
      → respond_by number event response server (map_net change net) ≡ map_net change (respond_by number event response server net)
  unfolding respond_by map_net
  respond_by-maps number event response None net = refl
  respond_by-maps number event response (Some server) net =
      rw (answered_at-maps number event net.moment response net)
      (if-maps (map_net change) (is_sent (is_invite_server server) server.passed response.code) (put-maps number server.peer (messages.Response response) None _) refl)

  server_at-maps : (event : ℕ) (host : Option (Host S)) → server_at event (option_map (map_host change) host) ≡ server_at event host
  unfolding server_at map_host
  server_at-maps event None = refl
  server_at-maps event (Some host) = refl

  obey-maps : (setup : Setup) (app : AppId) (net : Net S) (order : Order) → obey setup app (map_net change net) order ≡ map_net change (obey setup app net order)
  unfolding obey
  obey-maps setup app net (orders.Respond event response) = rw (host_at-maps, server_at-maps, respond_by-maps) refl
  obey-maps setup app net (orders.Begin branch directive region state request) = begin_by-maps setup.config app branch request _ net
  obey-maps setup app net (orders.Send branch request) = send_later-maps setup.config app branch request net
  obey-maps setup app net (orders.Acknowledge request) = acknowledge-maps setup.config app request net
  obey-maps setup app net (orders.Cancel branch) = rw (host_at-maps, client_at-maps, cancel_for-maps) refl
  obey-maps setup app net (orders.CancelNow branch) = rw (host_at-maps, client_at-maps, cancel_for-maps) refl

  pub obeyed-maps : (setup : Setup) (app : AppId) (given : List Order) (net : Net S) → obeyed setup app given (map_net change net) ≡ map_net change (obeyed setup app given net)
  unfolding obeyed
  obeyed-maps setup app given net = fold-maps (map_net change) (obey setup app) (obey setup app) (obey-maps setup app) given net

  -- ## What is still to be delivered

  pub is_busy-maps : (net : Net S) → is_busy (map_net change net) ≡ is_busy net
  unfolding is_busy map_net
  is_busy-maps net = refl

  pub weight-maps : (net : Net S) → weight (map_net change net) ≡ weight net
  unfolding weight map_net
  weight-maps net = refl
