-- What may be due before a moment: the transactions and sessions of which something is. This
-- project's own.
use Rattle.std.specs.Prelude.{ℕ, ◌+◌, List, [], ◌∷◌, ◌++◌}
use Rattle.std.specs.List.{filter, flat_map}
use Rattle.sc_book.specs.Words.{is_before}
use Rattle.sc_state.specs.declared.session.Session.{Session}
use Rattle.sc_state.specs.Entries.{least_due}
use Rattle.sc_state.specs.Hosts.{Host}
use Rattle.sc_hosts.specs.Histories.{as_session}
use Rattle.sc_hosts.specs.Sessions.{entries_of}
use Rattle.sc_hosts.specs.Ticks.{Dated, client_dated, live_dated, server_dated}
use Rattle.sc_hosts.specs.Transacting.{due_of_client, due_of_server}

-- what may be due at a host before this moment
unfoldable pub host_due : ℕ → ℕ → Host Session → List Dated
host_due past number host =
    flat_map client_dated (filter (λ client. is_before past (due_of_client client)) host.clients)
    ++ flat_map server_dated (filter (λ server. is_before past (due_of_server server)) host.servers)
    ++ flat_map (live_dated as_session number)
    (filter (λ live. is_before past (least_due live.fired (entries_of live.session)))
    host.sessions)

-- the same at these hosts, counted from this number
unfoldable pub hosts_due : ℕ → ℕ → List (Host Session) → List Dated
hosts_due past number [] = []
hosts_due past number (host ∷ hosts) =
    host_due past number host ++ hosts_due past (number + 1) hosts
