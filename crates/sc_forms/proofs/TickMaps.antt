-- A net whose sessions are changed: places that are lost, and time that passes.
use Rattle.std.proofs.Common.{refl}
use Rattle.std.specs.Prelude.{◌≡◌, ℕ, ◌+◌, List, [], ◌∷◌, ◌++◌, Option, None, Some, map}
use Rattle.sc_forms.proofs.HostMaps.{pass_server-maps}
use Rattle.sc_forms.proofs.ListMaps.{if-maps, flat_map-maps, change_first-maps, fold-maps}
use Rattle.sc_forms.proofs.NetMaps.{change_host-maps, pass_client_at-maps, queue_for-maps}
use Rattle.sc_forms.specs.Simulations.{map_live, map_host, map_net, IsSimulation}
use Rattle.sc_tokens.specs.Bytes.{Bytes}
use Rattle.sc_hosts.specs.Nets.{change_host}
use Rattle.sc_hosts.specs.Sessions.{Form}
use Rattle.sc_hosts.specs.Inboxes.{is_live}
use Rattle.sc_hosts.specs.Ticks.{told_at, passes, clients_of, clients_to, net_after_loss as lost, DueItem, live_dated, host_dated, hosts_dated, all_dated, due_items, mark_fired, fires, net_after_tick as ticked, Of_session, Of_client, Of_server}
use Rattle.sc_hosts.specs.Transacting.{is_cancel_client, pass_server}
use Rattle.sc_hosts.specs.Words.{request_timeout, unavailable}
use Rattle.sc_model.specs.Timers.{DueEntry}
use Rattle.sc_parts.specs.declared.transactions.ClientItem.TheVariants as client_items
use Rattle.sc_parts.specs.declared.transactions.ClientItem.{ClientItem}
use Rattle.sc_parts.specs.declared.transactions.ServerItem.TheVariants as server_items
use Rattle.sc_parts.specs.declared.transactions.ServerItem.{ServerItem}
use Rattle.sc_state.specs.declared.host.Client.{Client}
use Rattle.sc_state.specs.Hosts.{Host}
use Rattle.sc_state.specs.declared.host.Live.{Live}
use Rattle.sc_state.specs.declared.net.Net.{Net}
use Rattle.sc_terms.specs.declared.settings.Config.{Config}
use Rattle.sc_value.specs.declared.ids.Place.{Place}

-- ## A place is lost, and what is due has its event

module _ {S T : Type 0} (change : S → T) where
  told_at-maps : (config : Config) (client : Client) (reason : Bytes) (code : Option ℕ) (net : Net S)
      → told_at config client reason code (map_net change net) ≡ map_net change (told_at config client reason code net)
  unfolding told_at
  told_at-maps config client reason None net = refl
  told_at-maps config client reason (Some code) net = if-maps (map_net change) (is_cancel_client client) refl (queue_for-maps change client.app _ net)

  passes-maps : (config : Config) (item : ClientItem) (reason : Bytes) (net : Net S) (client : Client)
      → passes config item reason (map_net change net) client ≡ map_net change (passes config item reason net client)
  unfolding passes
  passes-maps config item reason net client =
      rw (pass_client_at-maps change client.app.host client.app client.branch (is_cancel_client client) item net) (told_at-maps config client reason _ _)

  clients_of-maps : (net : Net S) → clients_of (map_net change net) ≡ clients_of net
  unfolding clients_of map_net map_host
  clients_of-maps net = flat_map-maps (map_host change) _ _ (λ host. refl) net.hosts

  clients_to-maps : (place : Place) (net : Net S) → clients_to place (map_net change net) ≡ clients_to place net
  unfolding clients_to
  clients_to-maps place net = rw (clients_of-maps net) refl

  pub lost-maps : (config : Config) (place : Place) (net : Net S) → lost config place (map_net change net) ≡ map_net change (lost config place net)
  unfolding lost
  lost-maps config place net =
      rw (clients_to-maps place net)
      (fold-maps (map_net change) (passes config client_items.PlaceLost unavailable) (passes config client_items.PlaceLost unavailable) (passes-maps config client_items.PlaceLost unavailable) (clients_to place net) net)

  mark_fired-maps : (entry : DueEntry) (host : Host S) → mark_fired entry (map_host change host) ≡ map_host change (mark_fired entry host)
  unfolding mark_fired map_host map_live
  mark_fired-maps entry host = rw (change_first-maps (map_live change) (is_live entry.app.serial) _ (λ live. record live { fired = live.fired ++ record { due = entry.due; timer = entry.timer } ∷ [] }) (λ live. refl) host.sessions) refl

  mark_fired_at-maps : (number : ℕ) (entry : DueEntry) (net : Net S) → change_host number (mark_fired entry) (map_net change net) ≡ map_net change (change_host number (mark_fired entry) net)
  mark_fired_at-maps number entry net = change_host-maps change number (mark_fired entry) (mark_fired entry) (mark_fired-maps entry) net

  pass_server_at-maps : (number event : ℕ) (item : ServerItem) (net : Net S)
      → change_host number (pass_server event item) (map_net change net) ≡ map_net change (change_host number (pass_server event item) net)
  pass_server_at-maps number event item net = change_host-maps change number (pass_server event item) (pass_server event item) (pass_server-maps change event item) net

  fires-maps : (config : Config) (now : ℕ) (net : Net S) (entry : DueEntry) (item : DueItem) → fires config now (map_net change net) entry item ≡ map_net change (fires config now net entry item)
  unfolding fires
  fires-maps config now net entry (Of_session app event) = rw (mark_fired_at-maps app.host entry net) (queue_for-maps change app event _)
  fires-maps config now net entry (Of_client client) = passes-maps config (client_items.MomentCame now) request_timeout net client
  fires-maps config now net entry (Of_server server) = pass_server_at-maps server.app.host server.event (server_items.MomentCame now) net

-- ## What is due at a moment

module _ {S T : Type 0} (change : S → T) (config : Config) (form : Form S) (other : Form T) (like : IsSimulation change config form other) where
  live_dated-maps : (number : ℕ) (live : Live S) → live_dated other number (map_live change live) ≡ live_dated form number live
  unfolding live_dated map_live
  live_dated-maps number live = rw (like.reads live.session) refl

  host_dated-maps : (number : ℕ) (host : Host S) → host_dated other number (map_host change host) ≡ host_dated form number host
  unfolding host_dated map_host
  host_dated-maps number host = rw (flat_map-maps (map_live change) (live_dated other number) (live_dated form number) (live_dated-maps number) host.sessions) refl

  hosts_dated-maps : (hosts : List (Host S)) (number : ℕ) → hosts_dated other number (map (map_host change) hosts) ≡ hosts_dated form number hosts
  unfolding hosts_dated
  hosts_dated-maps [] number = refl
  hosts_dated-maps (host ∷ hosts) number = rw (host_dated-maps number host, hosts_dated-maps hosts (number + 1)) refl

  all_dated-maps : (net : Net S) → all_dated other (map_net change net) ≡ all_dated form net
  unfolding all_dated map_net
  all_dated-maps net = hosts_dated-maps net.hosts 0

  due_items-maps : (now : ℕ) (net : Net S) → due_items other now (map_net change net) ≡ due_items form now net
  unfolding due_items
  due_items-maps now net = rw (all_dated-maps net) refl

  pub ticked-maps : (now : ℕ) (net : Net S) → ticked other config now (map_net change net) ≡ map_net change (ticked form config now net)
  unfolding ticked map_net
  ticked-maps now net =
      rw (due_items-maps now net)
      (fold-maps (map_net change) (λ net d. fires config now net d.entry d.item) (λ net d. fires config now net d.entry d.item)
      (λ net d. fires-maps change config now net d.entry d.item) (due_items form now net) (record net { moment = now }))
