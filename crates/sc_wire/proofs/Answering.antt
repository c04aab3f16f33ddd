-- An answer that a server transaction gives.
use Rattle.std.proofs.Common.{◌≡◌, ℕ, Some, None, refl, ap, ◌∙◌}
use Rattle.std.specs.List.{find}
use Rattle.sc_value.specs.declared.message.Response.{Response}
use Rattle.sc_value.specs.Lists.{change_first}
use Rattle.sc_book.proofs.Uses.{set_found, unset_absent}
use Rattle.sc_state.specs.declared.host.Server.{Server}
use Rattle.sc_state.specs.declared.session.Session.{Session}
use Rattle.sc_state.specs.Hosts.{Host}
use Rattle.sc_state.specs.Keeping.{without_ended as without_ended}
use Rattle.sc_state.specs.Standing.{is_server}
use Rattle.sc_hosts.specs.Nets.{answered_server}
use Rattle.sc_wire.specs.HostChanges.{answered_host}

pub answered_none : (event now : ℕ) (response : Response) (host : Host Session) → None ≡ find (is_server event) host.servers → without_ended host ≡ answered_host event now response host
unfolding answered_host
answered_none event now response host none = ap (λ l. without_ended (record host { servers = l })) (unset_absent (λ server. server.event) event (answered_server response.code now response) host.servers none)

pub answered_found : (event code now : ℕ) (response : Response) (host : Host Session) (x own : Server) → code ≡ response.code → Some x ≡ find (is_server event) host.servers → own ≡ answered_server code now response x
    → without_ended (record host { servers = change_first (is_server own.event) (λ _. own) host.servers }) ≡ answered_host event now response host
unfolding answered_host answered_server
answered_found event code now response host x own is found made =
    ap (λ l. without_ended (record host { servers = l })) (set_found (λ server. server.event) event (answered_server response.code now response) x own host.servers (change_first (is_server own.event) (λ _. own) host.servers) refl found (made ∙ ap (λ c. answered_server c now response x) is) refl)
