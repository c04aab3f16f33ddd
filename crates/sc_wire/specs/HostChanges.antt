-- Changes of one host of a net. This project's own.
use Rattle.std.specs.Prelude.{ℕ, Option, None, Some, slice_get}
use Rattle.sc_value.specs.Lists.{change_first, change_nth}
use Rattle.sc_value.specs.declared.message.Response.{Response}
use Rattle.sc_state.specs.declared.host.Client.{Client}
use Rattle.sc_state.specs.Hosts.{Host}
use Rattle.sc_state.specs.declared.host.Taken.{Taken}
use Rattle.sc_state.specs.declared.net.Net.{Net}
use Rattle.sc_state.specs.declared.session.Session.{Session}
use Rattle.sc_inboxes.specs.declared.told.Told.{Told}
use Rattle.sc_hosts.specs.Nets.{answered_server, put_reply}
use Rattle.sc_hosts.specs.Transacting.{is_server, without_ended, with_client}

-- the host with one client transaction more
unfoldable pub with_own_client : Client → Host Session → Host Session
with_own_client client host = with_client client host

-- the host after an answer of this event, as it is kept tidy
unfoldable pub answered_host : ℕ → ℕ → Response → Host Session → Host Session
answered_host event now response host =
    without_ended
    (record host {
      servers = change_first (is_server event) (answered_server response.code now response)
          host.servers;
    })

-- ## A host that takes something

-- the host after it took something
unfoldable pub host_after : (Host Session → Taken Session) → Host Session → Host Session
host_after taking host = (taking host).host

-- what it tells; where there is no host, nothing
unfoldable pub told_after : (Host Session → Taken Session) → ℕ → Option (Host Session) → Told
told_after taking count None = record { reply = None; count = count }
told_after taking count (Some host) =
    record { reply = (taking host).reply; count = (taking host).count }

-- the net after it
unfoldable pub net_after : (Host Session → Taken Session) → ℕ → Net Session → Net Session
net_after taking number net =
    put_reply number (told_after taking net.count (slice_get net.hosts number)).reply
    (record net {
      hosts = change_nth number (host_after taking) net.hosts;
      count = (told_after taking net.count (slice_get net.hosts number)).count;
    })
