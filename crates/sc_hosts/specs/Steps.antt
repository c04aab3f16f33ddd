-- The steps of the container: what each makes of the net. A turn is taken, a session is withdrawn,
-- a message or a text comes, a place is lost, time passes. This project's own.
use Rattle.std.specs.Prelude.{ℕ, ◌==◌, List, [], Bool, true, false, ◌&&◌, Option, None, Some, option_and_then, if◌then◌else◌, length, filter, slice_get, drop}
use Rattle.std.specs.List.{list_any}
use Rattle.sc_value.specs.declared.ids.AppId.{AppId}
use Rattle.sc_value.specs.Lists.{change_first, remove_first}
use Rattle.sc_terms.specs.declared.calls.CallRecord.{CallRecord}
use Rattle.sc_terms.specs.declared.calls.End.{End}
use Rattle.sc_terms.specs.declared.settings.Config.{Config}
use Rattle.sc_terms.specs.declared.steps.Step.{Step}
use Rattle.sc_terms.specs.declared.steps.Step.TheVariants as steps
use Rattle.sc_parts.specs.declared.setup.Setup.{Setup}
use Rattle.sc_parts.specs.TimerNames.{same_timer}
use Rattle.sc_state.specs.declared.host.Fired.{Fired}
use Rattle.sc_state.specs.Hosts.{Host}
use Rattle.sc_state.specs.declared.host.Live.{Live}
use Rattle.sc_state.specs.declared.net.Net.{Net}
use Rattle.sc_state.specs.declared.orders.Outcome.{Outcome}
use Rattle.sc_state.specs.declared.queue.Queued.TheVariants as queued
use Rattle.sc_state.specs.declared.queue.Waiting.{Waiting}
use Rattle.sc_state.specs.declared.session.Session.{Session}
use Rattle.sc_hosts.specs.Nets.{after_orders, change_host, host_at, queue_for}
use Rattle.sc_hosts.specs.Sessions.{Form, Turn, entries_of}
use Rattle.sc_hosts.specs.Finishing.{goodbye, is_ready, outcome}
use Rattle.sc_hosts.specs.Inboxes.{is_live, live_in}
use Rattle.sc_hosts.specs.Transacting.{without_ended, ringing_branches}
use Rattle.sc_hosts.specs.Arrivals.{after_arrival, bad_by}
use Rattle.sc_hosts.specs.Ticks.{net_after_loss, net_after_tick}

-- ## A session takes a turn

-- the live session of this name at its host
abbrev pub live_of : {S : Type 0} → AppId → Option (Host S) → Option (Live S)
live_of app host = option_and_then (live_in app.serial) host

-- the live session of this name
abbrev pub live_at : {S : Type 0} → AppId → Net S → Option (Live S)
live_at app net = live_of app (host_at app.host net)

-- the branches of a session whose INVITE has had a provisional response, 100 too
unfoldable pub ringing_at : {S : Type 0} → AppId → Option (Host S) → List ℕ
ringing_at app None = []
ringing_at app (Some host) = ringing_branches app host

-- the outcome of a turn of a session in this form
unfoldable pub outcome_by : {S : Type 0} → Form S → Config → S → Turn → Outcome
outcome_by form config session turn =
    outcome config turn.ringing (form.read session) turn.waiting turn.now turn.calls turn.end

-- the entries of the session that its turn leaves
unfoldable pub still_fired : Session → List Fired → List Fired
still_fired session fired =
    filter
    (λ f.
    list_any (λ entry. entry.due == f.due && same_timer entry.timer f.timer) (entries_of session))
    fired

-- a live session after a turn: its first event is done, and the next one is first from now on
unfoldable pub turned_live : {S : Type 0} → Form S → Config → ℕ → Turn → Outcome → Live S → Live S
turned_live form config now turn done live = record live {
  session = form.turned config turn live.session;
  inbox = drop 1 live.inbox;
  since = now;
  fired = still_fired done.session live.fired;
}

-- the net without a session, and without the transactions that aren't kept then
unfoldable pub without_live : {S : Type 0} → AppId → Net S → Net S
without_live app net =
    change_host app.host
    (λ host.
    without_ended
    (record host { sessions = remove_first (is_live app.serial) host.sessions }))
    net

-- `Ready` is queued where the session is ready, its flag is set and no event waits
unfoldable pub with_ready : {S : Type 0} → AppId → Outcome → Option (Live S) → Net S → Net S
with_ready app done None net = net
with_ready app done (Some live) net =
    if length live.inbox == 0 && is_ready done.session && done.session.view.ready_flag
    then queue_for app queued.Ready net
    else net

-- the events that wait in a session; none where it is gone
unfoldable pub inbox_of : {S : Type 0} → Option (Live S) → List Waiting
inbox_of None = []
inbox_of (Some live) = live.inbox

-- invalidation: what it sends, and the session goes
unfoldable pub without_application : {S : Type 0} → Setup → AppId → Session → List Waiting → Net S
    → Net S
without_application setup app session inbox net =
    without_live app (after_orders setup app (goodbye setup.config session inbox) net)

-- a turn ends: its session is invalidated, or waits for what is next
unfoldable pub closed_turn : {S : Type 0} → Setup → AppId → Outcome → Bool → Net S → Net S
closed_turn setup app done true net =
    without_application setup app done.session (inbox_of (live_at app net)) net
closed_turn setup app done false net = with_ready app done (live_at app net) net

-- the turn leaves the inbox, what it sends is sent, and then the session ends or waits for what is
-- next
unfoldable pub net_after_turn : {S : Type 0} → Form S → Setup → AppId → Turn → Outcome → Net S
    → Net S
net_after_turn form setup app turn done net =
    closed_turn setup app done done.ends
    (after_orders setup app done.orders
    (change_host app.host
    (λ host.
    record host {
      sessions = change_first (is_live app.serial)
          (turned_live form setup.config net.moment turn done) host.sessions;
    }) net))

-- the turn of an event that is taken of this net
unfoldable pub turn_of : {S : Type 0} → Net S → AppId → Waiting → ℕ → List CallRecord → End → Turn
turn_of net app waiting now made end =
    record {
      waiting = waiting;
      now = now;
      ringing = ringing_at app (host_at app.host net);
      calls = made;
      end = end;
    }

-- a turn of the session's first event, if one waits
unfoldable pub turns_first : {S : Type 0} → Form S → Setup → AppId → Live S → Option Waiting → ℕ
    → List CallRecord → End → Net S → Net S
turns_first form setup app live None now made end net = net
turns_first form setup app live (Some waiting) now made end net =
    net_after_turn form setup app (turn_of net app waiting now made end)
    (outcome_by form setup.config live.session (turn_of net app waiting now made end)) net

-- a turn of a session, where it lives
unfoldable pub turns : {S : Type 0} → Form S → Setup → AppId → Option (Live S) → ℕ → List CallRecord
    → End → Net S → Net S
turns form setup app None now made end net = net
turns form setup app (Some live) now made end net =
    turns_first form setup app live (slice_get live.inbox 0) now made end net

-- ## A session is withdrawn

-- an application session is withdrawn from outside: it ends as one that is invalidated
unfoldable pub withdrawn : {S : Type 0} → Form S → Setup → AppId → Option (Live S) → Net S → Net S
withdrawn form setup app None net = net
withdrawn form setup app (Some live) net =
    without_application setup app (form.read live.session) live.inbox net

-- ## Each step

-- the net after a step, before anything is delivered
unfoldable pub before_delivery : {S : Type 0} → Form S → Setup → Step → Net S → Net S
before_delivery form setup (steps.In from message) net = after_arrival form setup from message net
before_delivery form setup (steps.Bad from bad) net = bad_by setup.config from bad.heads net
before_delivery form setup (steps.Lost place) net = net_after_loss setup.config place net
before_delivery form setup (steps.Tick now) net = net_after_tick form setup.config now net
before_delivery form setup (steps.Turn end app event now made) net =
    turns form setup app (live_at app net) now made end net
before_delivery form setup (steps.Withdraw app) net = withdrawn form setup app (live_at app net) net
