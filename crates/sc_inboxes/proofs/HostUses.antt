-- Sessions and transactions that are changed where they stand.
use Rattle.std.proofs.Common.{◌≡◌, ◌∙◌, ℕ, Some, None, Result, Ok, Err, refl, ap}
use Rattle.std.specs.Prelude.{OnOk}
use Rattle.std.specs.List.{find}
use Rattle.sc_value.specs.declared.message.Request.{Request}
use Rattle.sc_value.specs.Lists.{change_first}
use Rattle.sc_book.proofs.Uses.{set_found, unset_absent}
use Rattle.sc_state.specs.declared.host.Live.{Live}
use Rattle.sc_state.specs.declared.host.Server.{Server}
use Rattle.sc_state.specs.declared.queue.Queued.{Queued}
use Rattle.sc_state.specs.declared.session.Session.{Session}
use Rattle.sc_state.specs.Hosts.{Host}
use Rattle.sc_state.specs.Standing.{is_server}
use Rattle.sc_hosts.specs.Inboxes.{is_live, with_event}
use Rattle.sc_hosts.specs.Taking.{server_after_trying as tried}

-- what a change leaves is this too
pub then_same : {A E X : Type 0} (r : Result A E) (a b c : X) → b ≡ c → OnOk r (a ≡ b) → OnOk r (a ≡ c)
then_same (Ok x) a b c e h = h ∙ e
then_same (Err x) a b c e h = h

pub queued_none : (serial number now : ℕ) (event : Queued) (host : Host Session) → None ≡ find (is_live serial) host.sessions
    → host ≡ record host { sessions = change_first (is_live serial) (with_event number now event) host.sessions }
queued_none serial number now event host none = ap (λ l. record host { sessions = l }) (unset_absent (λ live. live.serial) serial (with_event number now event) host.sessions none)

pub queued_found : (serial number now : ℕ) (event : Queued) (host : Host Session) (x own : Live Session) → Some x ≡ find (is_live serial) host.sessions → own ≡ with_event number now event x
    → record host { sessions = change_first (is_live own.serial) (λ _. own) host.sessions } ≡ record host { sessions = change_first (is_live serial) (with_event number now event) host.sessions }
unfolding with_event
queued_found serial number now event host x own found made =
    ap (λ l. record host { sessions = l }) (set_found (λ live. live.serial) serial (with_event number now event) x own host.sessions (change_first (is_live own.serial) (λ _. own) host.sessions) refl found made refl)

pub tried_none : (event : ℕ) (request : Request) (now : ℕ) (host : Host Session) → None ≡ find (is_server event) host.servers
    → host ≡ record host { servers = change_first (is_server event) (tried request now) host.servers }
tried_none event request now host none = ap (λ l. record host { servers = l }) (unset_absent (λ server. server.event) event (tried request now) host.servers none)

pub tried_found : (event : ℕ) (request : Request) (now : ℕ) (host : Host Session) (x own : Server) → Some x ≡ find (is_server event) host.servers → own ≡ tried request now x
    → record host { servers = change_first (is_server own.event) (λ _. own) host.servers } ≡ record host { servers = change_first (is_server event) (tried request now) host.servers }
unfolding tried
tried_found event request now host x own found made =
    ap (λ l. record host { servers = l }) (set_found (λ server. server.event) event (tried request now) x own host.servers (change_first (is_server own.event) (λ _. own) host.servers) refl found made refl)
