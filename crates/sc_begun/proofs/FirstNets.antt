-- What comes to hosts, from outside and from each other, keeps each relation of nets with the laws, where a session that begins with
-- a request without To tag does.
use Rattle.std.proofs.Common.{◌≡◌, ℕ, zero, suc, ◌+◌, ◌++◌, Bool, true, false, Option, None, Some, [], ◌∷◌, refl}
use Rattle.sc_value.specs.declared.ids.Place.{Place}
use Rattle.sc_value.specs.declared.message.Message.{Message}
use Rattle.sc_value.specs.declared.message.Message.TheVariants as messages
use Rattle.sc_value.specs.declared.message.Request.{Request}
use Rattle.sc_value.specs.declared.message.Response.{Response}
use Rattle.sc_value.specs.declared.parts.Address.{Address}
use Rattle.sc_terms.specs.declared.settings.Config.{Config}
use Rattle.sc_parts.specs.declared.choice.Choice.{Choice}
use Rattle.sc_parts.specs.declared.choice.Choice.TheVariants as choices
use Rattle.sc_parts.specs.declared.setup.Setup.{Setup}
use Rattle.sc_state.specs.Hosts.{Host}
use Rattle.sc_state.specs.declared.host.Peer.{Peer}
use Rattle.sc_state.specs.declared.host.Peer.TheVariants as peers
use Rattle.sc_state.specs.declared.host.Taken.{Taken}
use Rattle.sc_state.specs.declared.net.Entry.{Entry}
use Rattle.sc_state.specs.declared.net.Net.{Net}
use Rattle.sc_state.specs.declared.net.Note.{Note}
use Rattle.sc_tokens.specs.Bytes.{Bytes}
use Rattle.sc_hosts.proofs.EachSort.{arrives-each}
use Rattle.sc_hosts.specs.Arrivals.{host_takes, taken_at, edge_answer, begins_by, initial_arrives, response_by, after_arrival as arrived}
use Rattle.sc_hosts.specs.Taking.{begun_live, takes}
use Rattle.sc_hosts.specs.Nets.{host_at, is_busy, deliver_at, deliver_entry, deliver_first, weight}
use Rattle.sc_hosts.specs.Routes.{popped_route, unrouted_initial}
use Rattle.sc_hosts.specs.Runs.{after_delivery as delivered}
use Rattle.sc_hosts.specs.Sessions.{Form}
use Rattle.sc_hosts.specs.Settle.{steps, settle}
use Rattle.sc_walks.specs.Walks.{HostLaws, NetLaws}
use Rattle.sc_walks.proofs.WalkNets.{if-walks, placed-walks, put-walks}
use Rattle.sc_begun.specs.Begun.{IsFirst}
use Rattle.sc_begun.proofs.FirstHosts.{takes-goes}

-- a session that begins with a request without To tag keeps the relation
abbrev pub Begun : {S : Type 0} → (ℕ → ℕ → ℕ → Host S → ℕ → Host S → Type 0) → Form S → Type 0
Begun {S = S} H form =
    (number now : ℕ) (config : Config) (epoch : ℕ) (noted : Note) (request : Request) → IsFirst request → (count : ℕ) (host : Host S)
    → H number now count host (count + 1) (record host {
      sessions = host.sessions ++ begun_live form config epoch (record { host = number; serial = host.last + 1 }) now noted request (count + 1) ∷ [];
      last = host.last + 1;
    })

module _ {S : Type 0} (H : ℕ → ℕ → ℕ → Host S → ℕ → Host S → Type 0) (P : Net S → Net S → Type 0)
    (hosts : (number now : ℕ) → HostLaws {S = S} (λ (form : Form S). ⊥) number now (H number now)) (law : NetLaws H P) (form : Form S) (begins : Begun H form) (setup : Setup) where
  host-takes : (number : ℕ) (from : Peer) (noted : Option Note) (message : Message) (host : Host S) (net : Net S)
      → (let taken : Taken S = takes form setup.config (record { host = number; epoch = net.epoch; from = from; now = net.moment; count = net.count }) noted message host in H number net.moment net.count host taken.count taken.host)
  host-takes number from noted message host net = takes-goes number net.moment (H number net.moment) (hosts number net.moment) form (begins number net.moment) setup.config net.epoch from noted message net.count host

  -- ## Deliveries

  deliver_at-keeps : (entry : Entry) (found : Option (Host S)) (net : Net S) → host_at entry.receiver net ≡ found → P net (deliver_at form setup entry found net)
  unfolding deliver_at
  deliver_at-keeps entry None net is = law.same net
  deliver_at-keeps entry (Some host) net is =
      placed-walks H P hosts law entry.receiver _ host net is (host-takes entry.receiver (peers.Inside entry.sender) entry.note entry.message host net)

  deliver_entry-keeps : (entry : Option Entry) (net : Net S) → P net (deliver_entry form setup entry net)
  unfolding deliver_entry
  deliver_entry-keeps None net = law.same net
  deliver_entry-keeps (Some entry) net = law.after _ _ _ (law.posts net _ net.sent) (deliver_at-keeps entry _ _ refl)

  deliver_first-keeps : (net : Net S) → P net (deliver_first form setup net)
  unfolding deliver_first
  deliver_first-keeps net = deliver_entry-keeps _ net

  steps-keep : (k : ℕ) (net : Net S) (b : Bool) → is_busy net ≡ b → P net (steps is_busy (deliver_first form setup) k net)
  unfolding steps
  steps-keep zero net b is = law.same net
  steps-keep (suc k) net true is = rw (is, steps) (law.after _ _ _ (deliver_first-keeps net) (steps-keep k (deliver_first form setup net) (is_busy (deliver_first form setup net)) refl))
  steps-keep (suc k) net false is = rw (is, steps) (law.same net)

  pub delivered-keeps : (net : Net S) → P net (delivered form setup net)
  unfolding delivered settle
  delivered-keeps net = steps-keep (weight net) net (is_busy net) refl

  -- ## From outside

  edge_answer-keeps : (config : Config) (from : Place) (code : ℕ) (reason : Bytes) (request : Request) (net : Net S) → P net (edge_answer config from code reason request net)
  unfolding edge_answer
  edge_answer-keeps config from code reason request net = if-walks H P hosts law _ net net _ (law.same net) (put-walks H P hosts law 0 (peers.Outside from) _ None net)

  host_takes-keeps : (from : Place) (noted : Option Note) (message : Message) (number : ℕ) (found : Option (Host S)) (net : Net S) → host_at number net ≡ found
      → P net (host_takes form setup from noted message number found net)
  unfolding host_takes
  host_takes-keeps from noted message number None net is = law.same net
  host_takes-keeps from noted message number (Some host) net is =
      placed-walks H P hosts law number _ host net is (host-takes number (peers.Outside from) noted message host net)

  taken_at-keeps : (from : Place) (noted : Option Note) (message : Message) (number : ℕ) (net : Net S) → P net (taken_at form setup from noted message number net)
  unfolding taken_at
  taken_at-keeps from noted message number net = host_takes-keeps from noted message number _ net refl

  begins_by-keeps : (from : Place) (request : Request) (popped : Option Address) (choice : Choice) (net : Net S) → P net (begins_by form setup from request popped choice net)
  unfolding begins_by
  begins_by-keeps from request popped (choices.App host order region subscriber route) net = taken_at-keeps from _ _ host net
  begins_by-keeps from request popped (choices.Send routes) net = edge_answer-keeps setup.config from 404 _ request net
  begins_by-keeps from request popped choices.Onward net = edge_answer-keeps setup.config from 404 _ request net
  begins_by-keeps from request popped choices.NotFound net = edge_answer-keeps setup.config from 404 _ request net

  initial_arrives-keeps : (from : Place) (request : Request) (net : Net S) → P net (initial_arrives form setup from request net)
  unfolding initial_arrives
  initial_arrives-keeps from request net =
      if-walks H P hosts law _ net net _ (law.same net)
      (begins_by-keeps from (unrouted_initial setup.config request) (popped_route setup.config request) _ net)

  response_by-keeps : (from : Place) (response : Response) (number : Option ℕ) (net : Net S) → P net (response_by form setup from response number net)
  unfolding response_by
  response_by-keeps from response None net = law.same net
  response_by-keeps from response (Some number) net = taken_at-keeps from None _ number net

  pub arrived-keeps : (from : Place) (message : Message) (net : Net S) → P net (arrived form setup from message net)
  unfolding arrived
  arrived-keeps from (messages.Request request) net =
      arrives-each (P net) form setup from request net (λ number. taken_at-keeps from None _ number net)
      (λ untagged. initial_arrives-keeps from request net) (edge_answer-keeps setup.config from 481 _ request net)
  arrived-keeps from (messages.Response response) net = response_by-keeps from response _ net
