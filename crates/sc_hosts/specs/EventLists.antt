-- The events of an application session over a journal: which were queued, which were handled by a
-- turn, which wait, and which were dropped or answered as the session ended. And what a reader from
-- outside is shown of a net. This project's own.
use Rattle.std.specs.Prelude.{ℕ, ◌+◌, List, [], ◌∷◌, ◌++◌, Option, None, Some, is_some, if◌then◌else◌, nat_lt, length, map, filter, slice_get}
use Rattle.std.specs.List.{filter_map}
use Rattle.std.specs.Option.{option_map_or}
use Rattle.sc_value.specs.declared.ids.AppId.{AppId}
use Rattle.sc_value.specs.Lists.{change_first}
use Rattle.sc_terms.specs.declared.calls.CallRecord.{CallRecord}
use Rattle.sc_terms.specs.declared.calls.End.{End}
use Rattle.sc_terms.specs.declared.steps.Step.{Step}
use Rattle.sc_terms.specs.declared.steps.Step.TheVariants as steps
use Rattle.sc_parts.specs.declared.setup.Setup.{Setup}
use Rattle.sc_state.specs.Hosts.{Host}
use Rattle.sc_state.specs.declared.host.Live.{Live}
use Rattle.sc_state.specs.declared.net.Net.{Net}
use Rattle.sc_state.specs.declared.orders.Outcome.{Outcome}
use Rattle.sc_state.specs.declared.queue.Waiting.{Waiting}
use Rattle.sc_hosts.specs.Inboxes.{is_live}
use Rattle.sc_hosts.specs.Nets.{after_orders, change_host}
use Rattle.sc_hosts.specs.Runs.{after_step, net_from, start, waiting_count}
use Rattle.sc_hosts.specs.Sessions.{Form, Turn}
use Rattle.sc_hosts.specs.Steps.{live_at, outcome_by, turn_of, turned_live}
use Rattle.sc_hosts.specs.Transacting.{is_same_app}

-- the numbers of the events that wait in a session
unfoldable pub waiting_in : {S : Type 0} → AppId → Net S → List ℕ
waiting_in app net =
    option_map_or (λ live. map (λ waiting. waiting.number) live.inbox) (live_at app net) []

-- ## What a turn queues before it ends its session

-- what the turn sends is sent
unfoldable pub after_sending : {S : Type 0} → Form S → Setup → AppId → Turn → Outcome → Net S
    → Net S
after_sending form setup app turn done net =
    after_orders setup app done.orders
    (change_host app.host
    (λ host.
    record host {
      sessions = change_first (is_live app.serial)
          (turned_live form setup.config net.moment turn done) host.sessions;
    }) net)

-- the same for the first event that waits, if one does
unfoldable pub opened_first : {S : Type 0} → Form S → Setup → AppId → Live S → Option Waiting → ℕ
    → List CallRecord → End → Net S → Net S
opened_first form setup app live None now made end net = net
opened_first form setup app live (Some waiting) now made end net =
    after_sending form setup app (turn_of net app waiting now made end)
    (outcome_by form setup.config live.session (turn_of net app waiting now made end)) net

-- the same for a session that may not live
unfoldable pub opened_by : {S : Type 0} → Form S → Setup → AppId → Option (Live S) → ℕ
    → List CallRecord → End → Net S → Net S
opened_by form setup app None now made end net = net
opened_by form setup app (Some live) now made end net =
    opened_first form setup app live (slice_get live.inbox 0) now made end net

-- the net as its own turn is about to end a session
unfoldable pub before_end : {S : Type 0} → Form S → Setup → AppId → Net S → Step → Net S
before_end form setup app net (steps.Turn end other event now made) =
    if is_same_app app other
    then opened_by form setup other (live_at other net) now made end (record net { sent = [] })
    else net
before_end form setup app net step = net

-- ## Queued

-- those numbers that are greater than this one
unfoldable pub above : ℕ → List ℕ → List ℕ
above count numbers = filter (λ number. nat_lt count number) numbers

-- those that a step queued, with those that it queued and dropped as it ended the session
unfoldable pub queued_by : {S : Type 0} → Form S → Setup → AppId → Net S → Step → List ℕ
queued_by form setup app net step =
    if is_some (live_at app (after_step form setup net step))
    then above net.count (waiting_in app (after_step form setup net step))
    else above net.count (waiting_in app (before_end form setup app net step))

-- those that these steps queued, from this net on
unfoldable pub queued_from : {S : Type 0} → Form S → Setup → AppId → Net S → List Step → List ℕ
queued_from form setup app net [] = []
queued_from form setup app net (step ∷ steps) =
    queued_by form setup app net step
    ++ queued_from form setup app (after_step form setup net step) steps

-- all events of a session, in the order in which they were queued
unfoldable pub events_of_session : {S : Type 0} → Form S → Setup → ℕ → ℕ → AppId → List Step
    → List ℕ
events_of_session form setup epoch began app journal =
    queued_from form setup app (start setup epoch began) journal

-- ## Handled, and waiting

-- the event of a step that is a turn of this session
unfoldable pub handled_by : AppId → Step → Option ℕ
handled_by app (steps.Turn end other event now calls) =
    if is_same_app app other then Some event else None
handled_by app step = None

-- those of the session's turns
unfoldable pub turns_of : AppId → List Step → List ℕ
turns_of app journal = filter_map (handled_by app) journal

-- the events that wait in a session after a journal
unfoldable pub waiting : {S : Type 0} → Form S → Setup → ℕ → ℕ → AppId → List Step → List ℕ
waiting form setup epoch began app journal =
    waiting_in app (net_from form setup epoch began journal)

-- ## Purged

-- those that a step dropped, or answered, as it ended the session
unfoldable pub purged_by : {S : Type 0} → Form S → Setup → AppId → Net S → Step → List ℕ
purged_by form setup app net step =
    if is_some (live_at app (after_step form setup net step)) then []
    else waiting_in app (before_end form setup app net step)

-- those that these steps dropped or answered, from this net on
unfoldable pub purged_from : {S : Type 0} → Form S → Setup → AppId → Net S → List Step → List ℕ
purged_from form setup app net [] = []
purged_from form setup app net (step ∷ steps) =
    purged_by form setup app net step
    ++ purged_from form setup app (after_step form setup net step) steps

-- those that were dropped, or answered, as the session ended
unfoldable pub dropped_events : {S : Type 0} → Form S → Setup → ℕ → ℕ → AppId → List Step → List ℕ
dropped_events form setup epoch began app journal =
    purged_from form setup app (start setup epoch began) journal

-- ## Listings

-- the sessions that live, by host and serial
unfoldable pub live_from : {S : Type 0} → ℕ → List (Host S) → List AppId
live_from number [] = []
live_from number (host ∷ hosts) =
    map (λ live. record { host = number; serial = live.serial }) host.sessions
    ++ live_from (number + 1) hosts

-- the epoch, how many steps there were, which sessions live, and how many events wait
pub record Listing : Type 0 where
  pub epoch : ℕ
  pub steps : ℕ
  pub live : List AppId
  pub waiting : ℕ

-- what is shown of the net after a journal
unfoldable pub listing_of : {S : Type 0} → Form S → Setup → ℕ → ℕ → List Step → Listing
listing_of form setup epoch began journal = record {
  epoch = epoch;
  steps = length journal;
  live = live_from 0 (net_from form setup epoch began journal).hosts;
  waiting = waiting_count (net_from form setup epoch began journal);
}
