-- Relations of what was and what is, which every change that a step makes of a host, and of a net,
-- keeps. This project's own.
use Rattle.std.specs.Prelude.{◌≡◌, ℕ, ◌+◌, List, [], ◌∷◌, ◌++◌, Some}
use Rattle.sc_value.specs.Lists.{change_first, remove_first}
use Rattle.sc_value.specs.declared.message.Request.{Request}
use Rattle.sc_value.specs.declared.message.Sent.{Sent}
use Rattle.sc_terms.specs.declared.settings.Config.{Config}
use Rattle.sc_state.specs.declared.host.Client.{Client}
use Rattle.sc_state.specs.Hosts.{Host}
use Rattle.sc_state.specs.declared.host.Server.{Server}
use Rattle.sc_state.specs.declared.net.Entry.{Entry}
use Rattle.sc_state.specs.declared.net.Net.{Net}
use Rattle.sc_state.specs.declared.net.Note.{Note}
use Rattle.sc_state.specs.declared.orders.Outcome.{Outcome}
use Rattle.sc_state.specs.declared.queue.Queued.{Queued}
use Rattle.sc_state.specs.declared.queue.Queued.TheVariants as queued
use Rattle.sc_model.specs.Timers.{DueEntry}
use Rattle.sc_hosts.specs.Inboxes.{is_live, queue}
use Rattle.sc_hosts.specs.Nets.{change_host, host_at}
use Rattle.sc_hosts.specs.Sessions.{Form, Turn}
use Rattle.sc_hosts.specs.Steps.{turned_live}
use Rattle.sc_hosts.specs.Taking.{begun_live}
use Rattle.sc_hosts.specs.Ticks.{mark_fired}

-- any event but the first of a session
unfoldable pub IsLate : Queued → Type 0
IsLate (queued.Initial region subscriber popped request) = ⊥
IsLate event = Unit {0}

-- at the host of this number at this moment: the count of events and the host before, and both
-- after, where sessions begin in such forms
pub record HostLaws {S : Type 0} (Begins : Form S → Type 0) (number now : ℕ)
    (H : ℕ → Host S → ℕ → Host S → Type 0) : Type 0 where
  pub same : (count : ℕ) (host : Host S) → H count host count host
  pub after : (c d e : ℕ) (x y z : Host S) → H c x d y → H d y e z → H c x e z
  pub passes : (count : ℕ) (host : Host S) (clients : List Client) (servers : List Server)
      → H count host count (record host { clients = clients; servers = servers })
  pub queues : (serial : ℕ) (event : Queued) → IsLate event → (count : ℕ) (host : Host S)
      → H count host (queue serial now event count host).count
      (queue serial now event count host).host
  pub begins : (form : Form S) → Begins form
      → (config : Config) (epoch : ℕ) (noted : Note) (request : Request) (count : ℕ) (host : Host S)
      → H count host (count + 1) (record host {
        sessions =
            host.sessions
            ++ begun_live form config epoch (record { host = number; serial = host.last + 1 }) now
            noted request (count + 1) ∷ [];
        last = host.last + 1;
      })
  pub marks : (entry : DueEntry) (count : ℕ) (host : Host S)
      → H count host count (mark_fired entry host)

-- at such a host, where a session takes a turn, and where one goes
pub record TurnLaws {S : Type 0} (now : ℕ) (H : ℕ → Host S → ℕ → Host S → Type 0) : Type 0 where
  pub turns : (form : Form S) (config : Config) (serial : ℕ) (turn : Turn) (done : Outcome)
      (count : ℕ) (host : Host S)
      → H count host count (record host {
        sessions =
            change_first (is_live serial) (turned_live form config now turn done) host.sessions;
      })
  pub goes : (serial count : ℕ) (host : Host S)
      → H count host count (record host {
        sessions = remove_first (is_live serial) host.sessions;
      })

-- of nets, where a host of it changes so
pub record NetLaws {S : Type 0} (H : ℕ → ℕ → ℕ → Host S → ℕ → Host S → Type 0)
    (P : Net S → Net S → Type 0) : Type 0 where
  pub same : (net : Net S) → P net net
  pub after : (x y z : Net S) → P x y → P y z → P x z
  pub posts : (net : Net S) (wire : List Entry) (sent : List Sent)
      → P net (record net { wire = wire; sent = sent })
  pub places : (number count : ℕ) (host changed : Host S) (net : Net S)
      → host_at number net ≡ Some host → H number net.moment net.count host count changed
      → P net (record (change_host number (λ _. changed) net) { count = count })
