-- What is due in a net, as the code keeps it. This project's own.
use Rattle.std.specs.Prelude.{ℕ, List, [], ◌∷◌, ◌++◌, Some, if◌then◌else◌}
use Rattle.sc_value.specs.declared.ids.AppId.{AppId}
use Rattle.sc_parts.specs.declared.timers.TimerName.{TimerName}
use Rattle.sc_state.specs.declared.host.Fired.{Fired}
use Rattle.sc_state.specs.declared.host.Live.{Live}
use Rattle.sc_state.specs.declared.session.Session.{Session}
use Rattle.sc_hosts.specs.Sessions.{SessionEntry}
use Rattle.sc_hosts.specs.Ticks.{Dated, DueItem, Of_client, Of_server, Of_session, dated_entry, is_fired}
use Rattle.sc_ticks.specs.declared.due.Item.{Item}
use Rattle.sc_ticks.specs.declared.due.Item.TheVariants as items

-- the item that is seen
abbrev pub item_of : Item → DueItem
item_of (items.Event app event) = Of_session app event
item_of (items.Client client) = Of_client client
item_of (items.Server server) = Of_server server

-- an entry of a session, where it hasn't had its event
unfoldable pub entry_dated : AppId → List Fired → SessionEntry → List Dated
entry_dated app fired entry =
    if is_fired fired entry.due entry.timer then []
    else dated_entry app entry.timer (Of_session app entry.event) (Some entry.due)

-- the session with one entry more that has had its event
unfoldable pub with_fired : ℕ → TimerName → Live Session → Live Session
with_fired due timer live =
    record live { fired = live.fired ++ record { due = due; timer = timer } ∷ [] }
