-- What comes from outside, a lost place and a tick keep the keys of all transactions apart.
use Rattle.std.proofs.Common.{◌≡◌, ℕ, Option, None, Some, List, [], ◌∷◌, refl}
use Rattle.std.specs.List.{fold}
use Rattle.sc_value.specs.declared.answerable.Answerable.{Answerable}
use Rattle.sc_value.specs.declared.ids.AppId.{AppId}
use Rattle.sc_value.specs.declared.ids.Place.{Place}
use Rattle.sc_value.specs.declared.message.Message.{Message}
use Rattle.sc_value.specs.declared.message.Message.TheVariants as messages
use Rattle.sc_value.specs.declared.message.Request.{Request}
use Rattle.sc_value.specs.declared.message.Response.{Response}
use Rattle.sc_value.specs.declared.parts.Address.{Address}
use Rattle.sc_terms.specs.declared.settings.Config.{Config}
use Rattle.sc_parts.specs.declared.choice.Choice.{Choice}
use Rattle.sc_parts.specs.declared.choice.Choice.TheVariants as choices
use Rattle.sc_parts.specs.declared.setup.Setup.{Setup}
use Rattle.sc_parts.specs.declared.transactions.ClientItem.{ClientItem}
use Rattle.sc_parts.specs.declared.transactions.ClientItem.TheVariants as client_items
use Rattle.sc_parts.specs.declared.transactions.ServerItem.TheVariants as server_items
use Rattle.sc_state.specs.Hosts.{Host}
use Rattle.sc_state.specs.Standing.{is_cancel_client}
use Rattle.sc_state.specs.declared.host.Client.{Client}
use Rattle.sc_state.specs.declared.host.Live.{Live}
use Rattle.sc_state.specs.declared.host.Peer.TheVariants as peers
use Rattle.sc_state.specs.declared.net.Net.{Net}
use Rattle.sc_state.specs.declared.net.Note.{Note}
use Rattle.sc_state.specs.declared.orders.Outcome.{Outcome}
use Rattle.sc_state.specs.declared.queue.Queued.TheVariants as queued
use Rattle.sc_tokens.specs.Bytes.{Bytes}
use Rattle.sc_model.specs.Timers.{DueEntry}
use Rattle.sc_hosts.proofs.EachSort.{arrives-each}
use Rattle.sc_hosts.specs.Arrivals.{host_takes, taken_at, edge_answer, begins_by, initial_arrives, response_by, after_arrival as arrived, bad_by}
use Rattle.sc_hosts.specs.Nets.{host_at}
use Rattle.sc_hosts.specs.Routes.{unrouted_initial, popped_route}
use Rattle.sc_hosts.specs.Sessions.{Form}
use Rattle.sc_hosts.specs.Steps.{with_ready}
use Rattle.sc_hosts.specs.Ticks.{told_at, passes, clients_to, net_after_loss as lost, Dated, DueItem, Of_session, Of_client, Of_server, mark_fired, fires, due_items, net_after_tick as ticked}
use Rattle.sc_hosts.specs.Transacting.{pass_client}
use Rattle.sc_hosts.specs.Words.{unavailable}
use Rattle.sc_keyed.proofs.KeyedHosts.{marks-keyed, pass_client-keyed, pass_server-keyed, takes-keyed}
use Rattle.sc_keyed.proofs.KeyedNets.{AllKeyed, change-keyed, if-keyed, placed-keyed, put-keyed, queue_for-keyed, takes-counts-up}

module _ {S : Type 0} (form : Form S) (Own : AppId → Type 0) (high low : ℕ) where
  abbrev pub Kept : Net S → Type 0
  Kept net = AllKeyed form Own high low net

  fold-keyed : {A : Type 0} (items : List A) (act : Net S → A → Net S) → ((net : Net S) (a : A) → Kept net → Kept (act net a)) → (net : Net S)
      → Kept net → Kept (fold act net items)
  fold-keyed [] act each net kept = kept
  fold-keyed (a ∷ items) act each net kept = fold-keyed items act each (act net a) (each net a kept)

  -- ## A message or a text comes from outside

  host_takes-keyed : (setup : Setup) (from : Place) (noted : Option Note) (message : Message) (number : ℕ) (found : Option (Host S)) (net : Net S)
      → host_at number net ≡ found → Kept net → Kept (host_takes form setup from noted message number found net)
  unfolding host_takes
  host_takes-keyed setup from noted message number None net is kept = kept
  host_takes-keyed setup from noted message number (Some host) net is kept =
      placed-keyed form Own high low number _ net (takes-counts-up form setup.config net.epoch number (peers.Outside from) net.moment noted message net.count host)
      (takes-keyed form Own low high number setup.config net.epoch (peers.Outside from) net.moment noted message net.count host (kept number host is)) kept

  taken_at-keyed : (setup : Setup) (from : Place) (noted : Option Note) (message : Message) (number : ℕ) (net : Net S) → Kept net
      → Kept (taken_at form setup from noted message number net)
  unfolding taken_at
  taken_at-keyed setup from noted message number net kept = host_takes-keyed setup from noted message number _ net refl kept

  edge_answer-keyed : (config : Config) (from : Place) (code : ℕ) (reason : Bytes) (request : Request) (net : Net S) → Kept net
      → Kept (edge_answer config from code reason request net)
  unfolding edge_answer
  edge_answer-keyed config from code reason request net kept =
      if-keyed form Own high low _ net _ kept (put-keyed form Own high low 0 (peers.Outside from) _ None net kept)

  begins_by-keyed : (setup : Setup) (from : Place) (request : Request) (popped : Option Address) (choice : Choice) (net : Net S) → Kept net
      → Kept (begins_by form setup from request popped choice net)
  unfolding begins_by
  begins_by-keyed setup from request popped (choices.App host order region subscriber route) net kept = taken_at-keyed setup from _ _ host net kept
  begins_by-keyed setup from request popped (choices.Send routes) net kept = edge_answer-keyed setup.config from 404 _ request net kept
  begins_by-keyed setup from request popped choices.Onward net kept = edge_answer-keyed setup.config from 404 _ request net kept
  begins_by-keyed setup from request popped choices.NotFound net kept = edge_answer-keyed setup.config from 404 _ request net kept

  initial_arrives-keyed : (setup : Setup) (from : Place) (request : Request) (net : Net S) → Kept net
      → Kept (initial_arrives form setup from request net)
  unfolding initial_arrives
  initial_arrives-keyed setup from request net kept =
      if-keyed form Own high low _ net _ kept
      (begins_by-keyed setup from (unrouted_initial setup.config request) (popped_route setup.config request) _ net kept)

  response_by-keyed : (setup : Setup) (from : Place) (response : Response) (number : Option ℕ) (net : Net S) → Kept net
      → Kept (response_by form setup from response number net)
  unfolding response_by
  response_by-keyed setup from response None net kept = kept
  response_by-keyed setup from response (Some number) net kept = taken_at-keyed setup from None _ number net kept

  pub arrived-keyed : (setup : Setup) (from : Place) (message : Message) (net : Net S) → Kept net → Kept (arrived form setup from message net)
  unfolding arrived
  arrived-keyed setup from (messages.Request request) net kept =
      arrives-each Kept form setup from request net (λ number. taken_at-keyed setup from None _ number net kept)
      (λ untagged. initial_arrives-keyed setup from request net kept) (edge_answer-keyed setup.config from 481 _ request net kept)
  arrived-keyed setup from (messages.Response response) net kept = response_by-keyed setup from response _ net kept

  pub bad_by-keyed : (config : Config) (from : Place) (heads : Option Answerable) (net : Net S) → Kept net → Kept (bad_by config from heads net)
  unfolding bad_by
  bad_by-keyed config from None net kept = kept
  bad_by-keyed config from (Some heads) net kept =
      if-keyed form Own high low _ net _ kept (put-keyed form Own high low 0 (peers.Outside from) _ None net kept)

  -- ## A place is lost, and time passes

  told_at-keyed : (config : Config) (client : Client) (reason : Bytes) (code : Option ℕ) (net : Net S) → Kept net
      → Kept (told_at config client reason code net)
  unfolding told_at
  told_at-keyed config client reason None net kept = kept
  told_at-keyed config client reason (Some code) net kept =
      if-keyed form Own high low _ net _ kept (queue_for-keyed form Own high low client.app _ net kept)

  passes-keyed : (config : Config) (item : ClientItem) (reason : Bytes) (net : Net S) (client : Client) → Kept net
      → Kept (passes config item reason net client)
  unfolding passes
  passes-keyed config item reason net client kept =
      told_at-keyed config client reason _ _
      (change-keyed form Own high low client.app.host (pass_client client.app client.branch (is_cancel_client client) item) net
      (λ host at k. pass_client-keyed form Own low high client.app.host client.app client.branch (is_cancel_client client) item net.count host k) kept)

  pub lost-keyed : (config : Config) (place : Place) (net : Net S) → Kept net → Kept (lost config place net)
  unfolding lost
  lost-keyed config place net kept =
      fold-keyed (clients_to place net) (passes config client_items.PlaceLost unavailable) (λ n client k. passes-keyed config client_items.PlaceLost unavailable n client k) net kept

  fires-keyed : (config : Config) (now : ℕ) (net : Net S) (entry : DueEntry) (item : DueItem) → Kept net → Kept (fires config now net entry item)
  unfolding fires
  fires-keyed config now net entry (Of_session app event) kept =
      queue_for-keyed form Own high low app event _
      (change-keyed form Own high low app.host (mark_fired entry) net (λ host at k. marks-keyed form Own low high app.host entry net.count host k) kept)
  fires-keyed config now net entry (Of_client client) kept = passes-keyed config (client_items.MomentCame now) _ net client kept
  fires-keyed config now net entry (Of_server server) kept =
      change-keyed form Own high low server.app.host _ net (λ host at k. pass_server-keyed form Own low high server.app.host server.event (server_items.MomentCame now) net.count host k) kept

  pub ticked-keyed : (config : Config) (now : ℕ) (net : Net S) → Kept net → Kept (ticked form config now net)
  unfolding ticked
  ticked-keyed config now net kept =
      fold-keyed (due_items form now net) (λ n (d : Dated). fires config now n d.entry d.item) (λ n d k. fires-keyed config now n d.entry d.item k) (record net { moment = now }) kept

  -- ## After a turn

  pub with_ready-keyed : (app : AppId) (done : Outcome) (live : Option (Live S)) (net : Net S) → Kept net → Kept (with_ready app done live net)
  unfolding with_ready
  with_ready-keyed app done None net kept = kept
  with_ready-keyed app done (Some live) net kept = if-keyed form Own high low _ _ net (queue_for-keyed form Own high low app queued.Ready net kept) kept
