-- What comes from outside, a lost place and a tick keep each relation of nets with the laws.
use Rattle.std.proofs.Common.{◌≡◌, ℕ, Option, None, Some, List, [], ◌∷◌, refl}
use Rattle.std.specs.List.{fold}
use Rattle.sc_value.specs.declared.ids.AppId.{AppId}
use Rattle.sc_value.specs.declared.ids.Place.{Place}
use Rattle.sc_value.specs.declared.message.Message.{Message}
use Rattle.sc_value.specs.declared.message.Message.TheVariants as messages
use Rattle.sc_value.specs.declared.message.Request.{Request}
use Rattle.sc_value.specs.declared.message.Response.{Response}
use Rattle.sc_value.specs.declared.parts.Address.{Address}
use Rattle.sc_terms.specs.declared.settings.Config.{Config}
use Rattle.sc_value.specs.declared.answerable.Answerable.{Answerable}
use Rattle.sc_parts.specs.declared.choice.Choice.{Choice}
use Rattle.sc_parts.specs.declared.choice.Choice.TheVariants as choices
use Rattle.sc_parts.specs.declared.setup.Setup.{Setup}
use Rattle.sc_parts.specs.declared.transactions.ClientItem.{ClientItem}
use Rattle.sc_parts.specs.declared.transactions.ClientItem.TheVariants as client_items
use Rattle.sc_state.specs.declared.host.Client.{Client}
use Rattle.sc_state.specs.Hosts.{Host}
use Rattle.sc_state.specs.declared.host.Live.{Live}
use Rattle.sc_state.specs.declared.host.Peer.TheVariants as peers
use Rattle.sc_state.specs.declared.net.Net.{Net}
use Rattle.sc_state.specs.declared.net.Note.{Note}
use Rattle.sc_state.specs.declared.orders.Outcome.{Outcome}
use Rattle.sc_state.specs.declared.queue.Queued.TheVariants as queued
use Rattle.sc_tokens.specs.Bytes.{Bytes}
use Rattle.sc_model.specs.Timers.{DueEntry}
use Rattle.sc_hosts.proofs.EachSort.{arrives-each}
use Rattle.sc_hosts.specs.Arrivals.{host_takes, taken_at, edge_answer, begins_by, initial_arrives, response_by, after_arrival as arrived, bad_by}
use Rattle.sc_hosts.specs.Nets.{host_at}
use Rattle.sc_hosts.specs.Routes.{unrouted_initial, popped_route}
use Rattle.sc_hosts.specs.Sessions.{Form}
use Rattle.sc_hosts.specs.Steps.{with_ready}
use Rattle.sc_hosts.specs.Ticks.{told_at, passes, clients_to, net_after_loss as lost, Dated, DueItem, Of_session, Of_client, Of_server, mark_fired, fires, due_items, net_after_tick as ticked}
use Rattle.sc_hosts.specs.Words.{unavailable}
use Rattle.sc_walks.proofs.WalkHosts.{takes-walks, pass_server-walks}
use Rattle.sc_walks.proofs.WalkNets.{if-walks, fold-walks, change_host-walks, put-walks, placed-walks, queue_for-walks, passed-walks}
use Rattle.sc_walks.specs.Walks.{HostLaws, IsLate, NetLaws}
use Rattle.sc_walks.proofs.DueEvents.{AreGood, IsGoodItem, due-good}

module _ {S : Type 0} {Begins : Form S → Type 0} (H : ℕ → ℕ → ℕ → Host S → ℕ → Host S → Type 0) (P : Net S → Net S → Type 0)
    (hosts : (number now : ℕ) → HostLaws Begins number now (H number now)) (law : NetLaws H P) where
  -- ## A message or a text comes from outside

  host_takes-walks : (form : Form S) (good : Begins form) (setup : Setup) (from : Place) (noted : Option Note) (message : Message) (number : ℕ) (found : Option (Host S)) (net : Net S) → host_at number net ≡ found
      → P net (host_takes form setup from noted message number found net)
  unfolding host_takes
  host_takes-walks form good setup from noted message number None net is = law.same net
  host_takes-walks form good setup from noted message number (Some host) net is =
      placed-walks H P hosts law number _ host net is (takes-walks number net.moment (H number net.moment) (hosts number net.moment) form good setup.config net.epoch (peers.Outside from) noted message net.count host)

  taken_at-walks : (form : Form S) (good : Begins form) (setup : Setup) (from : Place) (noted : Option Note) (message : Message) (number : ℕ) (net : Net S) → P net (taken_at form setup from noted message number net)
  unfolding taken_at
  taken_at-walks form good setup from noted message number net = host_takes-walks form good setup from noted message number _ net refl

  edge_answer-walks : (config : Config) (from : Place) (code : ℕ) (reason : Bytes) (request : Request) (net : Net S) → P net (edge_answer config from code reason request net)
  unfolding edge_answer
  edge_answer-walks config from code reason request net = if-walks H P hosts law _ net net _ (law.same net) (put-walks H P hosts law 0 (peers.Outside from) _ None net)

  begins_by-walks : (form : Form S) (good : Begins form) (setup : Setup) (from : Place) (request : Request) (popped : Option Address) (choice : Choice) (net : Net S) → P net (begins_by form setup from request popped choice net)
  unfolding begins_by
  begins_by-walks form good setup from request popped (choices.App host order region subscriber route) net = taken_at-walks form good setup from _ _ host net
  begins_by-walks form good setup from request popped (choices.Send routes) net = edge_answer-walks setup.config from 404 _ request net
  begins_by-walks form good setup from request popped choices.Onward net = edge_answer-walks setup.config from 404 _ request net
  begins_by-walks form good setup from request popped choices.NotFound net = edge_answer-walks setup.config from 404 _ request net

  initial_arrives-walks : (form : Form S) (good : Begins form) (setup : Setup) (from : Place) (request : Request) (net : Net S) → P net (initial_arrives form setup from request net)
  unfolding initial_arrives
  initial_arrives-walks form good setup from request net =
      if-walks H P hosts law _ net net _ (law.same net)
      (begins_by-walks form good setup from (unrouted_initial setup.config request) (popped_route setup.config request) _ net)

  response_by-walks : (form : Form S) (good : Begins form) (setup : Setup) (from : Place) (response : Response) (number : Option ℕ) (net : Net S) → P net (response_by form setup from response number net)
  unfolding response_by
  response_by-walks form good setup from response None net = law.same net
  response_by-walks form good setup from response (Some number) net = taken_at-walks form good setup from None _ number net

  pub arrived-walks : (form : Form S) (good : Begins form) (setup : Setup) (from : Place) (message : Message) (net : Net S) → P net (arrived form setup from message net)
  unfolding arrived
  arrived-walks form good setup from (messages.Request request) net =
      arrives-each (P net) form setup from request net (λ number. taken_at-walks form good setup from None _ number net)
      (λ untagged. initial_arrives-walks form good setup from request net) (edge_answer-walks setup.config from 481 _ request net)
  arrived-walks form good setup from (messages.Response response) net = response_by-walks form good setup from response _ net

  pub bad_by-walks : (config : Config) (from : Place) (heads : Option Answerable) (net : Net S) → P net (bad_by config from heads net)
  unfolding bad_by
  bad_by-walks config from None net = law.same net
  bad_by-walks config from (Some heads) net = if-walks H P hosts law _ net net _ (law.same net) (put-walks H P hosts law 0 (peers.Outside from) _ None net)

  -- ## A place is lost, and time passes

  told_at-walks : (config : Config) (client : Client) (reason : Bytes) (code : Option ℕ) (net : Net S) → P net (told_at config client reason code net)
  unfolding told_at IsLate
  told_at-walks config client reason None net = law.same net
  told_at-walks config client reason (Some code) net = if-walks H P hosts law _ net net _ (law.same net) (queue_for-walks H P hosts law client.app _ tt net)

  passes-walks : (config : Config) (item : ClientItem) (reason : Bytes) (net : Net S) (client : Client) → P net (passes config item reason net client)
  unfolding passes
  passes-walks config item reason net client = law.after _ _ _ (passed-walks H P hosts law client.app client.branch _ item net) (told_at-walks config client reason _ _)

  pub lost-walks : (config : Config) (place : Place) (net : Net S) → P net (lost config place net)
  unfolding lost
  lost-walks config place net = fold-walks H P hosts law (clients_to place net) (passes config client_items.PlaceLost unavailable) (passes-walks config client_items.PlaceLost unavailable) net

  fires-walks : (config : Config) (now : ℕ) (net : Net S) (entry : DueEntry) (item : DueItem) → IsGoodItem IsLate item → P net (fires config now net entry item)
  unfolding fires IsGoodItem
  fires-walks config now net entry (Of_session app event) late =
      law.after _ _ _ (change_host-walks H P hosts law app.host (mark_fired entry) net (λ host. (hosts app.host net.moment).marks entry net.count host)) (queue_for-walks H P hosts law app event late _)
  fires-walks config now net entry (Of_client client) late = passes-walks config (client_items.MomentCame now) _ net client
  fires-walks config now net entry (Of_server server) late =
      change_host-walks H P hosts law server.app.host _ net (λ host. pass_server-walks server.app.host net.moment (H server.app.host net.moment) (hosts server.app.host net.moment) server.event _ net.count host)

  all-fire : (config : Config) (now : ℕ) (ds : List Dated) → AreGood IsLate ds → (net : Net S)
      → P net (fold (λ net d. fires config now net d.entry d.item) net ds)
  unfolding AreGood
  all-fire config now [] late net = law.same net
  all-fire config now (d ∷ ds) late net = law.after _ _ _ (fires-walks config now net d.entry d.item late.0) (all-fire config now ds late.1 (fires config now net d.entry d.item))

  -- what is due is done, at the moment of the tick
  pub fired-walks : (form : Form S) (config : Config) (now : ℕ) (net : Net S) → P (record net { moment = now }) (ticked form config now net)
  unfolding ticked IsLate
  fired-walks form config now net = all-fire config now (due_items form now net) (due-good IsLate tt (λ id. tt) (λ number due. tt) form now net) (record net { moment = now })

  -- where a later moment keeps the relation too
  pub ticked-walks : ((net : Net S) (now : ℕ) → P net (record net { moment = now })) → (form : Form S) (config : Config) (now : ℕ) (net : Net S) → P net (ticked form config now net)
  ticked-walks ticks form config now net = law.after _ _ _ (ticks net now) (fired-walks form config now net)

  -- ## After a turn

  pub with_ready-walks : (app : AppId) (done : Outcome) (live : Option (Live S)) (net : Net S) → P net (with_ready app done live net)
  unfolding with_ready IsLate
  with_ready-walks app done None net = law.same net
  with_ready-walks app done (Some live) net = if-walks H P hosts law _ net _ net (queue_for-walks H P hosts law app queued.Ready tt net) (law.same net)
