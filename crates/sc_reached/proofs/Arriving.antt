-- A later request from outside is queued at the session that its own URI names, and nothing else is.
use Rattle.std.proofs.Common.{◌≡◌, ℕ, None, Some, refl}
use Rattle.sc_value.specs.declared.ids.Place.{Place}
use Rattle.sc_value.specs.declared.message.Message.TheVariants as messages
use Rattle.sc_value.specs.declared.message.Request.{Request}
use Rattle.sc_value.specs.declared.parts.Uri.{Uri}
use Rattle.sc_parts.specs.declared.setup.Setup.{Setup}
use Rattle.sc_state.specs.Hosts.{Host}
use Rattle.sc_state.specs.declared.host.Live.{Live}
use Rattle.sc_state.specs.declared.host.Peer.TheVariants as peers
use Rattle.sc_state.specs.declared.net.Net.{Net}
use Rattle.sc_hosts.specs.Arrivals.{host_takes, taken_at, after_arrival as arrived, sort_in, arrives_as}
use Rattle.sc_hosts.specs.Nets.{host_at, named_host, with_host_after as placed}
use Rattle.sc_hosts.specs.Sessions.{Form}
use Rattle.sc_hosts.specs.Taking.{own_uri, named_live, queue_later, takes, server_for, sort_of, sort_at, taken_as}
use Rattle.sc_reached.specs.Reached.{IsLater}

-- the live session that it comes to
pub record ComesTo {S : Type 0} (setup : Setup) (from : Place) (request : Request) (net : Net S) : Type 0 where
  pub uri : Uri
  pub by : own_uri setup.config request ≡ Some uri
  pub number : ℕ
  pub named : named_host uri net ≡ Some number
  pub host : Host S
  pub there : host_at number net ≡ Some host
  pub live : Live S
  pub lives : named_live net.epoch number uri host ≡ Some live
  pub fresh : server_for (peers.Outside from) request host ≡ None

module _ {S : Type 0} (form : Form S) (setup : Setup) (from : Place) (request : Request) where
  at-host : (net : Net S) → IsLater from request net → (to : ComesTo setup from request net)
      → takes form setup.config (record { host = to.number; epoch = net.epoch; from = peers.Outside from; now = net.moment; count = net.count }) None (messages.Request request) to.host
      ≡ queue_later setup.config (record { host = to.number; epoch = net.epoch; from = peers.Outside from; now = net.moment; count = net.count }) request to.live to.host
  unfolding takes sort_at sort_of taken_as
  at-host net later to = rw (to.fresh, later.no_cancel, later.tagged, to.by, to.lives) refl

  -- it is queued there
  pub arrived-later : (net : Net S) → IsLater from request net → (to : ComesTo setup from request net)
      → arrived form setup from (messages.Request request) net ≡ placed to.number (queue_later setup.config (record { host = to.number; epoch = net.epoch; from = peers.Outside from; now = net.moment; count = net.count }) request to.live to.host) net
  unfolding arrived sort_in sort_of arrives_as taken_at host_takes
  arrived-later net later to = rw (later.unclaimed, later.no_cancel, later.tagged, to.by, to.named, to.there, at-host net later to) refl
