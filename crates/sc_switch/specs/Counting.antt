-- The transactions of a net that live (RFC 3261 section 17): an epoch ends only where there are
-- none.
use Rattle.std.specs.Prelude.{ℕ, ◌+◌, Bool, not, length, filter, sum_by}
use Rattle.sc_state.specs.declared.host.Client.{Client}
use Rattle.sc_state.specs.Hosts.{Host}
use Rattle.sc_state.specs.declared.host.Server.{Server}
use Rattle.sc_state.specs.declared.net.Net.{Net}
use Rattle.sc_hosts.specs.Transacting.{state_of_client, state_of_server, is_over}

-- a client transaction that isn't Terminated
unfoldable pub is_busy_client : Client → Bool
is_busy_client client = not (is_over (state_of_client client))

-- a server transaction that isn't Terminated
unfoldable pub is_busy_server : Server → Bool
is_busy_server server = not (is_over (state_of_server server))

-- those of a host that aren't Terminated
unfoldable pub busy_at : {S : Type 0} → Host S → ℕ
busy_at host =
    length (filter is_busy_client host.clients) + length (filter is_busy_server host.servers)

-- those of all hosts
unfoldable pub busy_count : {S : Type 0} → Net S → ℕ
busy_count net = sum_by busy_at net.hosts
