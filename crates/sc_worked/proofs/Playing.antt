-- A run of servlets and listeners that keep to their scripts, step by step: with it worked cases are
-- computed. The journal is that which the run makes.
use Rattle.std.specs.Prelude.{ℕ, zero, suc, ◌+◌, List, [], ◌∷◌, ◌++◌, Option, None, Some, option_map, nat_lt, if◌then◌else◌, length}
use Rattle.std.specs.List.{slice_get, fold, flat_map, filter_map}
use Rattle.sc_value.specs.declared.ids.AppId.{AppId}
use Rattle.sc_value.specs.declared.message.Sent.{Sent}
use Rattle.sc_terms.specs.declared.calls.End.TheVariants as ends
use Rattle.sc_terms.specs.declared.events.Event.{Event}
use Rattle.sc_terms.specs.declared.charters.ListenerCharter.{ListenerCharter}
use Rattle.sc_terms.specs.declared.steps.Step.{Step}
use Rattle.sc_terms.specs.declared.steps.Step.TheVariants as steps
use Rattle.sc_terms.specs.declared.views.View.{View}
use Rattle.sc_parts.specs.declared.setup.Setup.{Setup}
use Rattle.sc_state.specs.Hosts.{Host}
use Rattle.sc_state.specs.declared.host.Live.{Live}
use Rattle.sc_state.specs.declared.net.Net.{Net}
use Rattle.sc_state.specs.declared.queue.Waiting.{Waiting}
use Rattle.sc_state.specs.declared.session.Session.{Session}
use Rattle.sc_state.specs.declared.working.Prepared.{Prepared}
use Rattle.sc_tokens.specs.Bytes.{Bytes}
use Rattle.sc_model.specs.Records.{record_text, end_text}
use Rattle.sc_model.specs.Settings.{Charters, charters_of}
use Rattle.sc_hosts.specs.Scripting.{Script, Done, calls_of_script as played}
use Rattle.sc_hosts.specs.Bringing.{servlet_script, listener_script, is_listened}
use Rattle.sc_hosts.specs.Histories.{as_session}
use Rattle.sc_hosts.specs.Runs.{start, after_step, prepared_turn as shown, live_count}
use Rattle.sc_hosts.specs.Steps.{live_at}

-- what a script says, its messages read
pub data Act : Type 0 where
  Take : Step → Act
  Run : Act
  Turn_of : AppId → Act
  Drop_of : AppId → Act

pub record Played : Type 0 where
  pub net : Net Session
  pub sent : List Sent
  pub steps : ℕ

unfoldable pub step_taken : Setup → Played → Step → Played
step_taken setup p step = let after : Net Session = after_step as_session setup p.net step in
    record { net = after; sent = p.sent ++ after.sent; steps = p.steps + 1 }

-- without a script no call is made
unfoldable pub script_or_done : Option Script → Script
script_or_done None = Done
script_or_done (Some script) = script

unfoldable pub listener_plays : Option ListenerCharter → View → Event → Script
listener_plays None view event = Done
listener_plays (Some listener) view event = script_or_done (listener_script listener view event)

unfoldable pub script_at : Option Charters → View → Option Event → Script
script_at None view event = Done
script_at (Some charters) view None = Done
script_at (Some charters) view (Some event) =
    if is_listened event then listener_plays charters.1 view event else script_or_done (servlet_script charters.0 view event)

unfoldable pub turn_on : Setup → Played → AppId → Live Session → Option Waiting → Played
turn_on setup p app live None = p
turn_on setup p app live (Some waiting) =
    let seen : Prepared = shown as_session setup p.net app live waiting p.net.moment in
    step_taken setup p (steps.Turn ends.Fine app waiting.number p.net.moment (played seen.view (script_at (charters_of setup app.host) seen.view seen.event)))

unfoldable pub turn_by : Setup → Played → AppId → Option (Live Session) → Played
turn_by setup p app None = p
turn_by setup p app (Some live) = turn_on setup p app live (slice_get live.inbox 0)

-- the session whose first event has the lowest number
pub record Next : Type 0 where
  pub app : AppId
  pub number : ℕ

unfoldable pub next_of : ℕ → Live Session → Option Next
next_of host live = option_map (λ waiting. record { app = record { host = host; serial = live.serial }; number = waiting.number }) (slice_get live.inbox 0)

unfoldable pub nexts : ℕ → List (Host Session) → List Next
nexts number [] = []
nexts number (host ∷ hosts) = filter_map (next_of number) host.sessions ++ nexts (number + 1) hosts

unfoldable pub lowest : List Next → Option Next
lowest [] = None
lowest (next ∷ more) = Some (fold (λ a b. if nat_lt b.number a.number then b else a) next more)

unfoldable pub run_on : Setup → ℕ → Played → Option Next → Played
run_on setup fuel p None = p
run_on setup zero p (Some next) = p
run_on setup (suc fuel) p (Some next) =
    let after : Played = turn_by setup p next.app (live_at next.app p.net) in run_on setup fuel after (lowest (nexts 0 after.net.hosts))

unfoldable pub drop_by : Setup → Played → AppId → Option (Live Session) → Played
drop_by setup p app None = p
drop_by setup p app (Some live) = step_taken setup p (steps.Withdraw app)

unfoldable pub act : Setup → Played → Act → Played
act setup p (Take step) = step_taken setup p step
act setup p Run = run_on setup 200 p (lowest (nexts 0 p.net.hosts))
act setup p (Drop_of app) = drop_by setup p app (live_at app p.net)
act setup p (Turn_of app) = turn_by setup p app (live_at app p.net)

unfoldable pub run_of : Setup → List Act → Played
run_of setup acts = fold (act setup) (record { net = start setup 0 0; sent = []; steps = 0 }) acts

unfoldable pub text_of : Played → Bytes
text_of last = flat_map record_text last.sent ++ end_text last.steps (length last.sent) (live_count last.net)

-- the output of the run
unfoldable pub output_of : Setup → List Act → Bytes
output_of setup acts = text_of (run_of setup acts)
