-- A net whose sessions are changed: what comes from outside, and what is delivered.
use Rattle.std.proofs.Common.{refl}
use Rattle.std.specs.Prelude.{◌≡◌, ℕ, ◌+◌, List, [], ◌∷◌, Bool, Option, None, Some, is_some, map, slice_get, drop, option_map, option_and_then}
use Rattle.sc_forms.proofs.HostMaps.{client_for-maps}
use Rattle.sc_forms.proofs.ListMaps.{if-maps}
use Rattle.sc_forms.proofs.NetMaps.{host_at-maps, put-maps, placed-maps, named_host-maps}
use Rattle.sc_forms.proofs.TakingMaps.{server_for-maps, takes-maps}
use Rattle.sc_forms.specs.Simulations.{map_host, map_net, IsSimulation}
use Rattle.sc_tokens.specs.Bytes.{Bytes}
use Rattle.sc_hosts.specs.declared.sorts.Sort.{Sort}
use Rattle.sc_hosts.specs.declared.sorts.Sort.TheVariants.{Cancels, Acks, Repeats, Later, Begins, Nobodys}
use Rattle.sc_hosts.specs.Arrivals.{first_host, host_takes, taken_at, edge_answer, begins_by, initial_arrives, response_by, after_arrival as arrived, bad_by, sort_in, arrives_as}
use Rattle.sc_hosts.specs.Nets.{host_at, named_host, deliver_at, deliver_entry, deliver_first}
use Rattle.sc_hosts.specs.Routes.{unrouted_initial, popped_route}
use Rattle.sc_hosts.specs.Sessions.{Form}
use Rattle.sc_hosts.specs.Taking.{own_uri, server_for}
use Rattle.sc_hosts.specs.Transacting.{method_of, client_for}
use Rattle.sc_hosts.specs.Words.{does_not_exist, not_found}
use Rattle.sc_parts.specs.declared.choice.Choice.TheVariants as choices
use Rattle.sc_parts.specs.declared.choice.Choice.{Choice}
use Rattle.sc_parts.specs.declared.setup.Setup.{Setup}
use Rattle.sc_state.specs.Hosts.{Host}
use Rattle.sc_state.specs.declared.host.Peer.TheVariants as peers
use Rattle.sc_state.specs.declared.net.Entry.{Entry}
use Rattle.sc_state.specs.declared.net.Net.{Net}
use Rattle.sc_state.specs.declared.net.Note.{Note}
use Rattle.sc_terms.specs.declared.settings.Config.{Config}
use Rattle.sc_value.specs.declared.answerable.Answerable.{Answerable}
use Rattle.sc_tokens.specs.Names.{same_bytes}
use Rattle.sc_value.specs.declared.ids.Place.{Place}
use Rattle.sc_value.specs.declared.message.Message.TheVariants as messages
use Rattle.sc_value.specs.declared.message.Message.{Message}
use Rattle.sc_value.specs.declared.message.Request.{Request}
use Rattle.sc_value.specs.declared.message.Response.{Response}
use Rattle.sc_value.specs.declared.parts.Address.{Address}
use Rattle.sc_value.specs.declared.parts.Uri.{Uri}
use Rattle.sc_model.specs.SessionStates.{ack}

-- ## What reads the hosts alone

module _ {S T : Type 0} (change : S → T) where
  first_host-maps : (test : Host T → Bool) (before : Host S → Bool) → ((host : Host S) → test (map_host change host) ≡ before host)
      → (hosts : List (Host S)) (number : ℕ) → first_host test number (map (map_host change) hosts) ≡ first_host before number hosts
  unfolding first_host
  first_host-maps test before same [] number = refl
  first_host-maps test before same (host ∷ hosts) number = rw (same host, first_host-maps test before same hosts (number + 1)) refl

  edge_answer-maps : (config : Config) (from : Place) (code : ℕ) (reason : Bytes) (request : Request) (net : Net S)
      → edge_answer config from code reason request (map_net change net) ≡ map_net change (edge_answer config from code reason request net)
  unfolding edge_answer
  edge_answer-maps config from code reason request net = if-maps (map_net change) (same_bytes (method_of request) ack) refl (put-maps change 0 (peers.Outside from) _ None net)

  claimed-maps : (from : Place) (request : Request) (host : Host S)
      → is_some (server_for (peers.Outside from) request (map_host change host)) ≡ is_some (server_for (peers.Outside from) request host)
  claimed-maps from request host = rw server_for-maps refl

  answered-maps : (salt : Bytes) (epoch : ℕ) (from : Place) (response : Response) (host : Host S)
      → is_some (client_for salt epoch (peers.Outside from) response (map_host change host)) ≡ is_some (client_for salt epoch (peers.Outside from) response host)
  answered-maps salt epoch from response host = rw client_for-maps refl

  host_claiming-maps : (from : Place) (request : Request) (net : Net S)
      → first_host (λ host. is_some (server_for (peers.Outside from) request host)) 0 (map_net change net).hosts ≡ first_host (λ host. is_some (server_for (peers.Outside from) request host)) 0 net.hosts
  unfolding map_net
  host_claiming-maps from request net = first_host-maps _ _ (claimed-maps from request) net.hosts 0

  host_answered-maps : (salt : Bytes) (from : Place) (response : Response) (net : Net S)
      → first_host (λ host. is_some (client_for salt (map_net change net).epoch (peers.Outside from) response host)) 0 (map_net change net).hosts
      ≡ first_host (λ host. is_some (client_for salt net.epoch (peers.Outside from) response host)) 0 net.hosts
  unfolding map_net
  host_answered-maps salt from response net = first_host-maps _ _ (answered-maps salt net.epoch from response) net.hosts 0

  named_by-maps : (uri : Option Uri) (net : Net S) → option_and_then (λ uri. named_host uri (map_net change net)) uri ≡ option_and_then (λ uri. named_host uri net) uri
  named_by-maps None net = refl
  named_by-maps (Some uri) net = named_host-maps change uri net

  sort_in-maps : (config : Config) (from : Place) (request : Request) (net : Net S) → sort_in config from request (map_net change net) ≡ sort_in config from request net
  unfolding sort_in
  sort_in-maps config from request net = rw (host_claiming-maps from request net, named_by-maps (own_uri config request) net) refl

  pub bad_by-maps : (config : Config) (from : Place) (heads : Option Answerable) (net : Net S) → bad_by config from heads (map_net change net) ≡ map_net change (bad_by config from heads net)
  unfolding bad_by
  bad_by-maps config from None net = refl
  bad_by-maps config from (Some heads) net = if-maps (map_net change) (same_bytes heads.cseq.method ack) refl (put-maps change 0 (peers.Outside from) _ None net)

module _ {S T : Type 0} (change : S → T) (setup : Setup) (form : Form S) (other : Form T) (like : IsSimulation change setup.config form other) where
  -- ## A message comes from outside

  host_takes-maps : (from : Place) (noted : Option Note) (message : Message) (number : ℕ) (host : Option (Host S)) (net : Net S)
      → host_takes other setup from noted message number (option_map (map_host change) host) (map_net change net) ≡ map_net change (host_takes form setup from noted message number host net)
  unfolding host_takes map_net
  host_takes-maps from noted message number None net = refl
  host_takes-maps from noted message number (Some host) net =
      rw (takes-maps change setup.config form other like net.epoch number (peers.Outside from) net.moment noted message net.count host) (placed-maps change number _ net)

  taken_at-maps : (from : Place) (noted : Option Note) (message : Message) (number : ℕ) (net : Net S)
      → taken_at other setup from noted message number (map_net change net) ≡ map_net change (taken_at form setup from noted message number net)
  unfolding taken_at
  taken_at-maps from noted message number net = rw host_at-maps (host_takes-maps from noted message number (host_at number net) net)

  begins_by-maps : (from : Place) (request : Request) (popped : Option Address) (choice : Choice) (net : Net S)
      → begins_by other setup from request popped choice (map_net change net) ≡ map_net change (begins_by form setup from request popped choice net)
  unfolding begins_by
  begins_by-maps from request popped (choices.App host order region subscriber route) net = taken_at-maps from _ (messages.Request request) host net
  begins_by-maps from request popped (choices.Send routes) net = edge_answer-maps change setup.config from 404 not_found request net
  begins_by-maps from request popped choices.Onward net = edge_answer-maps change setup.config from 404 not_found request net
  begins_by-maps from request popped choices.NotFound net = edge_answer-maps change setup.config from 404 not_found request net

  initial_arrives-maps : (from : Place) (request : Request) (net : Net S) → initial_arrives other setup from request (map_net change net) ≡ map_net change (initial_arrives form setup from request net)
  unfolding initial_arrives
  initial_arrives-maps from request net =
      if-maps (map_net change) (same_bytes (method_of request) ack) refl
      (begins_by-maps from (unrouted_initial setup.config request) (popped_route setup.config request) _ net)

  arrives_as-maps : (from : Place) (request : Request) (sort : Sort ℕ ℕ) (net : Net S)
      → arrives_as other setup from request sort (map_net change net) ≡ map_net change (arrives_as form setup from request sort net)
  unfolding arrives_as
  arrives_as-maps from request (Cancels number) net = taken_at-maps from None (messages.Request request) number net
  arrives_as-maps from request (Acks number) net = taken_at-maps from None (messages.Request request) number net
  arrives_as-maps from request (Repeats number) net = taken_at-maps from None (messages.Request request) number net
  arrives_as-maps from request (Later number) net = taken_at-maps from None (messages.Request request) number net
  arrives_as-maps from request Begins net = initial_arrives-maps from request net
  arrives_as-maps from request Nobodys net = edge_answer-maps change setup.config from 481 does_not_exist request net

  response_by-maps : (from : Place) (response : Response) (number : Option ℕ) (net : Net S)
      → response_by other setup from response number (map_net change net) ≡ map_net change (response_by form setup from response number net)
  unfolding response_by
  response_by-maps from response None net = refl
  response_by-maps from response (Some number) net = taken_at-maps from None (messages.Response response) number net

  pub arrived-maps : (from : Place) (message : Message) (net : Net S) → arrived other setup from message (map_net change net) ≡ map_net change (arrived form setup from message net)
  unfolding arrived
  arrived-maps from (messages.Request request) net = rw (sort_in-maps change setup.config from request net) (arrives_as-maps from request _ net)
  arrived-maps from (messages.Response response) net = rw (host_answered-maps change setup.config.salt from response net) (response_by-maps from response _ net)

  -- ## Deliveries

  deliver_at-maps : (entry : Entry) (host : Option (Host S)) (net : Net S)
      → deliver_at other setup entry (option_map (map_host change) host) (map_net change net) ≡ map_net change (deliver_at form setup entry host net)
  unfolding deliver_at map_net
  deliver_at-maps entry None net = refl
  deliver_at-maps entry (Some host) net =
      rw (takes-maps change setup.config form other like net.epoch entry.receiver (peers.Inside entry.sender) net.moment entry.note entry.message net.count host) (placed-maps change entry.receiver _ net)

  deliver_entry-maps : (entry : Option Entry) (net : Net S) → deliver_entry other setup entry (map_net change net) ≡ map_net change (deliver_entry form setup entry net)
  unfolding deliver_entry map_net
  deliver_entry-maps None net = refl
  deliver_entry-maps (Some entry) net = rw (host_at-maps change entry.receiver net) (deliver_at-maps entry (host_at entry.receiver net) (record net { wire = drop 1 net.wire }))

  pub deliver_first-maps : (net : Net S) → deliver_first other setup (map_net change net) ≡ map_net change (deliver_first form setup net)
  unfolding deliver_first map_net
  deliver_first-maps net = deliver_entry-maps (slice_get net.wire 0) net
