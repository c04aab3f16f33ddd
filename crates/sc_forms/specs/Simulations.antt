-- Two forms in which hosts may keep their sessions, where each session of the one is read as one of
-- the other: what hosts and nets of the one are in the other. This project's own.
use Rattle.std.specs.Prelude.{◌≡◌, ℕ, map}
use Rattle.sc_value.specs.declared.ids.AppId.{AppId}
use Rattle.sc_value.specs.declared.message.Request.{Request}
use Rattle.sc_terms.specs.declared.settings.Config.{Config}
use Rattle.sc_state.specs.Hosts.{Host}
use Rattle.sc_state.specs.declared.host.Live.{Live}
use Rattle.sc_state.specs.declared.host.Taken.{Taken}
use Rattle.sc_state.specs.declared.net.Net.{Net}
use Rattle.sc_state.specs.declared.net.Note.{Note}
use Rattle.sc_hosts.specs.Sessions.{Form, Turn}

-- each session is changed, and nothing else
unfoldable pub map_live : {S T : Type 0} → (S → T) → Live S → Live T
map_live change live =
    record {
      serial = live.serial;
      session = change live.session;
      inbox = live.inbox;
      since = live.since;
      fired = live.fired;
    }

-- each session of a host is changed, and nothing else
unfoldable pub map_host : {S T : Type 0} → (S → T) → Host S → Host T
map_host change host =
    record {
      clients = host.clients;
      servers = host.servers;
      sessions = map (map_live change) host.sessions;
      last = host.last;
    }

-- the same of a host that took a message
unfoldable pub map_taken : {S T : Type 0} → (S → T) → Taken S → Taken T
map_taken change taken =
    record { host = map_host change taken.host; reply = taken.reply; count = taken.count }

-- the same of all hosts of a net
unfoldable pub map_net : {S T : Type 0} → (S → T) → Net S → Net T
map_net change net =
    record {
      hosts = map (map_host change) net.hosts;
      wire = net.wire;
      epoch = net.epoch;
      moment = net.moment;
      count = net.count;
      sent = net.sent;
    }

-- under this configuration the change keeps how a session begins, what it is, and what a turn makes
-- of it
pub record IsSimulation {S T : Type 0} (change : S → T) (config : Config) (form : Form S)
    (other : Form T) : Type 0 where
  pub begins : (app : AppId) (epoch began : ℕ) (noted : Note) (request : Request)
      → other.begin config app epoch began noted request
      ≡ change (form.begin config app epoch began noted request)
  pub reads : (session : S) → other.read (change session) ≡ form.read session
  pub turns : (turn : Turn) (session : S)
      → other.turned config turn (change session) ≡ change (form.turned config turn session)
