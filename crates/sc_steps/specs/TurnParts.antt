-- What a turn leaves of a net, in parts by the values that they take. This project's own.
use Rattle.std.specs.Prelude.{◌≡◌, ℕ, ◌==◌, List, [], Bool, true, false, ◌&&◌, Option, None, Some, if◌then◌else◌, length, slice_get, drop}
use Rattle.std.specs.List.{list_any}
use Rattle.std.specs.Option.{option_map_or}
use Rattle.sc_value.specs.declared.ids.AppId.{AppId}
use Rattle.sc_value.specs.Lists.{change_first, remove_first}
use Rattle.sc_terms.specs.declared.calls.CallRecord.{CallRecord}
use Rattle.sc_terms.specs.declared.calls.End.{End}
use Rattle.sc_terms.specs.declared.settings.Config.{Config}
use Rattle.sc_parts.specs.declared.setup.Setup.{Setup}
use Rattle.sc_parts.specs.TimerNames.{same_timer}
use Rattle.sc_state.specs.declared.host.Fired.{Fired}
use Rattle.sc_state.specs.Hosts.{Host}
use Rattle.sc_state.specs.declared.host.Live.{Live}
use Rattle.sc_state.specs.declared.net.Net.{Net}
use Rattle.sc_state.specs.declared.orders.Outcome.{Outcome}
use Rattle.sc_state.specs.declared.queue.Queued.TheVariants as queued
use Rattle.sc_state.specs.declared.queue.Waiting.{Waiting}
use Rattle.sc_state.specs.declared.session.Session.{Session}
use Rattle.sc_state.specs.declared.working.Prepared.{Prepared}
use Rattle.sc_hosts.specs.Finishing.{goodbye, is_ready}
use Rattle.sc_hosts.specs.Histories.{as_session}
use Rattle.sc_hosts.specs.Nets.{after_orders, change_host, queue_for}
use Rattle.sc_hosts.specs.Preparing.{prepared_session}
use Rattle.sc_hosts.specs.Sessions.{entries_of}
use Rattle.sc_hosts.specs.Steps.{inbox_of, live_at, outcome_by, still_fired, turn_of, without_application}
use Rattle.sc_hosts.specs.Inboxes.{is_live}
use Rattle.sc_hosts.specs.Transacting.{without_ended}

-- ## The live session

-- the entry still runs in the session
unfoldable pub is_running : Session → Fired → Bool
is_running session fired =
    list_any (λ entry. entry.due == fired.due && same_timer entry.timer fired.timer)
    (entries_of session)

-- the live session after its turn, which made this of its session
unfoldable pub live_after : ℕ → Session → Live Session → Live Session
live_after now session live =
    record live {
      session = session;
      inbox = drop 1 live.inbox;
      since = now;
      fired = still_fired session live.fired;
    }

-- its host
unfoldable pub host_after : ℕ → ℕ → Session → Host Session → Host Session
host_after serial now session host =
    record host { sessions = change_first (is_live serial) (live_after now session) host.sessions }

-- its net
unfoldable pub net_after : AppId → Session → Net Session → Net Session
net_after app session net = change_host app.host (host_after app.serial net.moment session) net

-- the host without it
unfoldable pub host_without : ℕ → Host Session → Host Session
host_without serial host =
    without_ended (record host { sessions = remove_first (is_live serial) host.sessions })

-- ## How a turn closes

-- the session is ready, its flag is set, and no event waits
unfoldable pub wakes : Session → Live Session → Bool
wakes session live = length live.inbox == 0 && is_ready session && session.view.ready_flag

-- the session's readiness is queued, where it is so
unfoldable pub ready_by : AppId → Session → Net Session → Net Session
ready_by app session net =
    if option_map_or (wakes session) (live_at app net) false then queue_for app queued.Ready net
    else net

-- the session ends with its turn, or goes on
unfoldable pub closed_by : Setup → AppId → Session → Bool → Net Session → Net Session
closed_by setup app session true net =
    without_application setup app session (inbox_of (live_at app net)) net
closed_by setup app session false net = ready_by app session net

-- what a turn makes of the net
unfoldable pub turned_by : Setup → AppId → Outcome → Net Session → Net Session
turned_by setup app done net =
    closed_by setup app done.session done.ends
    (after_orders setup app done.orders (net_after app done.session net))

-- the session ends with a turn that sends nothing, and its end sends nothing either
pub record EndsSilently (setup : Setup) (app : AppId) (done : Outcome)
    (net : Net Session) : Type 0 where
  pub ends_is : done.ends ≡ true
  pub orders_is : done.orders ≡ []
  pub goodbye_is : goodbye setup.config done.session (drop 1 (inbox_of (live_at app net))) ≡ []

-- a turn with the first event, where one waits
unfoldable pub first_by : Setup → AppId → Session → Option Waiting → ℕ → List CallRecord → End
    → Net Session → Net Session
first_by setup app session None now made end net = net
first_by setup app session (Some waiting) now made end net =
    turned_by setup app
    (outcome_by as_session setup.config session (turn_of net app waiting now made end)) net

-- a turn of a live session, where there is one
unfoldable pub turns_by : Setup → AppId → Option (Live Session) → ℕ → List CallRecord → End
    → Net Session → Net Session
turns_by setup app None now made end net = net
turns_by setup app (Some live) now made end net =
    first_by setup app live.session (slice_get live.inbox 0) now made end net

-- ## What a turn begins with

-- the turn of this event at this moment begins with it, where an event waits
unfoldable pub FirstBegins : Config → List ℕ → Session → Option Waiting → ℕ → Prepared → Type 0
FirstBegins config ringing session None now begun = Unit {0}
FirstBegins config ringing session (Some waiting) now begun =
    prepared_session config ringing session waiting now ≡ begun

-- so does the turn of the first event of this session, where it lives
unfoldable pub Begins : Config → List ℕ → Option (Live Session) → ℕ → Prepared → Type 0
Begins config ringing None now begun = Unit {0}
Begins config ringing (Some live) now begun =
    FirstBegins config ringing live.session (slice_get live.inbox 0) now begun
