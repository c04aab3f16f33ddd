-- A net whose sessions are changed: turns, and each step.
use Rattle.std.proofs.Common.{refl}
use Rattle.std.specs.Prelude.{◌≡◌, ℕ, ◌==◌, List, Bool, true, false, ◌&&◌, Option, None, Some, length, map, option_map}
use Rattle.sc_forms.proofs.ArrivalMaps.{bad_by-maps, arrived-maps}
use Rattle.sc_forms.proofs.HostMaps.{tidied-maps, ringing_branches-maps, live_in-maps}
use Rattle.sc_forms.proofs.ListMaps.{if-maps, change_first-maps, remove_first-maps}
use Rattle.sc_forms.proofs.NetMaps.{host_at-maps, change_host-maps, queue_for-maps, obeyed-maps}
use Rattle.sc_forms.proofs.TickMaps.{lost-maps, ticked-maps}
use Rattle.sc_forms.specs.Simulations.{map_live, map_host, map_net, IsSimulation}
use Rattle.sc_hosts.specs.Finishing.{goodbye, is_ready}
use Rattle.sc_hosts.specs.Nets.{host_at, change_host}
use Rattle.sc_hosts.specs.Sessions.{Turn, Form}
use Rattle.sc_hosts.specs.Steps.{live_of, live_at, ringing_at, outcome_by, turned_live, without_live, with_ready, inbox_of, without_application as invalidated, closed_turn, net_after_turn as turned, turn_of, turns_first, turns, withdrawn, before_delivery as stepped}
use Rattle.sc_hosts.specs.Inboxes.{is_live}
use Rattle.sc_hosts.specs.Transacting.{without_ended}
use Rattle.sc_parts.specs.declared.setup.Setup.{Setup}
use Rattle.sc_state.specs.Hosts.{Host}
use Rattle.sc_state.specs.declared.host.Live.{Live}
use Rattle.sc_state.specs.declared.net.Net.{Net}
use Rattle.sc_state.specs.declared.orders.Outcome.{Outcome}
use Rattle.sc_state.specs.declared.queue.Queued.TheVariants as queued
use Rattle.sc_state.specs.declared.queue.Waiting.{Waiting}
use Rattle.sc_state.specs.declared.session.Session.{Session}
use Rattle.sc_terms.specs.declared.calls.CallRecord.{CallRecord}
use Rattle.sc_terms.specs.declared.calls.End.{End}
use Rattle.sc_terms.specs.declared.steps.Step.TheVariants as steps
use Rattle.sc_terms.specs.declared.steps.Step.{Step}
use Rattle.sc_value.specs.Lists.{change_first, remove_first}
use Rattle.sc_value.specs.declared.ids.AppId.{AppId}

-- ## The session of a name, and its end

module _ {S T : Type 0} (change : S → T) where
  live_of-maps : (app : AppId) (host : Option (Host S)) → live_of app (option_map (map_host change) host) ≡ option_map (map_live change) (live_of app host)
  live_of-maps app None = refl
  live_of-maps app (Some host) = live_in-maps change app.serial host

  pub live_at-maps : (app : AppId) (net : Net S) → live_at app (map_net change net) ≡ option_map (map_live change) (live_at app net)
  live_at-maps app net = rw (host_at-maps change app.host net) (live_of-maps app (host_at app.host net))

  ringing_by-maps : (app : AppId) (host : Option (Host S)) → ringing_at app (option_map (map_host change) host) ≡ ringing_at app host
  unfolding ringing_at
  ringing_by-maps app None = refl
  ringing_by-maps app (Some host) = ringing_branches-maps change app host

  pub ringing_at-maps : (app : AppId) (net : Net S) → ringing_at app (host_at app.host (map_net change net)) ≡ ringing_at app (host_at app.host net)
  ringing_at-maps app net = rw (host_at-maps change app.host net) (ringing_by-maps app (host_at app.host net))

  removed-maps : (serial : ℕ) (host : Host S)
      → without_ended (record (map_host change host) { sessions = remove_first (is_live serial) (map_host change host).sessions }) ≡ map_host change (without_ended (record host { sessions = remove_first (is_live serial) host.sessions }))
  unfolding map_host map_live
  removed-maps serial host =
      rw (remove_first-maps (map_live change) (is_live serial) host.sessions) (tidied-maps change (record host { sessions = remove_first (is_live serial) host.sessions }))

  without_live-maps : (app : AppId) (net : Net S) → without_live app (map_net change net) ≡ map_net change (without_live app net)
  unfolding without_live
  without_live-maps app net = change_host-maps change app.host _ _ (removed-maps app.serial) net

  with_ready-maps : (app : AppId) (done : Outcome) (live : Option (Live S)) (net : Net S)
      → with_ready app done (option_map (map_live change) live) (map_net change net) ≡ map_net change (with_ready app done live net)
  unfolding with_ready map_live
  with_ready-maps app done None net = refl
  with_ready-maps app done (Some live) net =
      if-maps (map_net change) (length live.inbox == 0 && is_ready done.session && done.session.view.ready_flag) (queue_for-maps change app queued.Ready net) refl

  inbox_of-maps : (live : Option (Live S)) → inbox_of (option_map (map_live change) live) ≡ inbox_of live
  unfolding inbox_of map_live
  inbox_of-maps None = refl
  inbox_of-maps (Some live) = refl

  invalidated-maps : (setup : Setup) (app : AppId) (session : Session) (inbox : List Waiting) (net : Net S)
      → invalidated setup app session inbox (map_net change net) ≡ map_net change (invalidated setup app session inbox net)
  unfolding invalidated
  invalidated-maps setup app session inbox net = rw (obeyed-maps change setup app (goodbye setup.config session inbox) net) (without_live-maps app _)

  closed_turn-maps : (setup : Setup) (app : AppId) (done : Outcome) (ends : Bool) (net : Net S)
      → closed_turn setup app done ends (map_net change net) ≡ map_net change (closed_turn setup app done ends net)
  unfolding closed_turn
  closed_turn-maps setup app done true net = rw (live_at-maps app net, inbox_of-maps (live_at app net)) (invalidated-maps setup app done.session _ net)
  closed_turn-maps setup app done false net = rw (live_at-maps app net) (with_ready-maps app done (live_at app net) net)

  pub turn_of-maps : (net : Net S) (app : AppId) (waiting : Waiting) (now : ℕ) (made : List CallRecord) (end : End)
      → turn_of (map_net change net) app waiting now made end ≡ turn_of net app waiting now made end
  unfolding turn_of
  turn_of-maps net app waiting now made end = rw (ringing_at-maps app net) refl

-- ## A session takes a turn, and each step

module _ {S T : Type 0} (change : S → T) (setup : Setup) (form : Form S) (other : Form T) (like : IsSimulation change setup.config form other) where
  turned_live-maps : (now : ℕ) (turn : Turn) (done : Outcome) (live : Live S)
      → turned_live other setup.config now turn done (map_live change live) ≡ map_live change (turned_live form setup.config now turn done live)
  unfolding turned_live map_live
  turned_live-maps now turn done live = rw (like.turns turn live.session) refl

  pub outcome_by-maps : (session : S) (turn : Turn) → outcome_by other setup.config (change session) turn ≡ outcome_by form setup.config session turn
  unfolding outcome_by
  outcome_by-maps session turn = rw (like.reads session) refl

  turned_lives-maps : (serial now : ℕ) (turn : Turn) (done : Outcome) (lives : List (Live S))
      → change_first (is_live serial) (turned_live other setup.config now turn done) (map (map_live change) lives)
      ≡ map (map_live change) (change_first (is_live serial) (turned_live form setup.config now turn done) lives)
  unfolding map_live
  turned_lives-maps serial now turn done lives = change_first-maps (map_live change) (is_live serial) _ _ (turned_live-maps now turn done) lives

  turned_host-maps : (app : AppId) (now : ℕ) (turn : Turn) (done : Outcome) (host : Host S)
      → record (map_host change host) { sessions = change_first (is_live app.serial) (turned_live other setup.config now turn done) (map_host change host).sessions }
      ≡ map_host change (record host { sessions = change_first (is_live app.serial) (turned_live form setup.config now turn done) host.sessions })
  unfolding map_host
  turned_host-maps app now turn done host = rw (turned_lives-maps app.serial now turn done host.sessions) refl

  pub turned_at-maps : (app : AppId) (now : ℕ) (turn : Turn) (done : Outcome) (net : Net S)
      → change_host app.host (λ host. record host { sessions = change_first (is_live app.serial) (turned_live other setup.config now turn done) host.sessions }) (map_net change net)
      ≡ map_net change (change_host app.host (λ host. record host { sessions = change_first (is_live app.serial) (turned_live form setup.config now turn done) host.sessions }) net)
  turned_at-maps app now turn done net = change_host-maps change app.host _ _ (turned_host-maps app now turn done) net

  turned-maps : (app : AppId) (turn : Turn) (done : Outcome) (net : Net S) → turned other setup app turn done (map_net change net) ≡ map_net change (turned form setup app turn done net)
  unfolding turned map_net
  turned-maps app turn done net =
      rw (turned_at-maps app net.moment turn done net) (rw (obeyed-maps change setup app done.orders _) (closed_turn-maps change setup app done done.ends _))

  turns_first-maps : (app : AppId) (live : Live S) (waiting : Option Waiting) (now : ℕ) (made : List CallRecord) (end : End) (net : Net S)
      → turns_first other setup app (map_live change live) waiting now made end (map_net change net) ≡ map_net change (turns_first form setup app live waiting now made end net)
  unfolding turns_first map_live
  turns_first-maps app live None now made end net = refl
  turns_first-maps app live (Some waiting) now made end net =
      rw (turn_of-maps change net app waiting now made end, outcome_by-maps live.session (turn_of net app waiting now made end)) (turned-maps app _ _ net)

  turns-maps : (app : AppId) (live : Option (Live S)) (now : ℕ) (made : List CallRecord) (end : End) (net : Net S)
      → turns other setup app (option_map (map_live change) live) now made end (map_net change net) ≡ map_net change (turns form setup app live now made end net)
  unfolding turns map_live
  turns-maps app None now made end net = refl
  turns-maps app (Some live) now made end net = turns_first-maps app live _ now made end net

  withdrawn-maps : (app : AppId) (live : Option (Live S)) (net : Net S)
      → withdrawn other setup app (option_map (map_live change) live) (map_net change net) ≡ map_net change (withdrawn form setup app live net)
  unfolding withdrawn map_live
  withdrawn-maps app None net = refl
  withdrawn-maps app (Some live) net = rw (like.reads live.session) (invalidated-maps change setup app (form.read live.session) live.inbox net)

  -- what a step makes of a net, before anything is delivered
  pub stepped-maps : (step : Step) (net : Net S) → stepped other setup step (map_net change net) ≡ map_net change (stepped form setup step net)
  unfolding stepped
  stepped-maps (steps.In from message) net = arrived-maps change setup form other like from message net
  stepped-maps (steps.Bad from bad) net = bad_by-maps change setup.config from bad.heads net
  stepped-maps (steps.Lost place) net = lost-maps change setup.config place net
  stepped-maps (steps.Tick now) net = ticked-maps change setup.config form other like now net
  stepped-maps (steps.Turn end app event now made) net = rw (live_at-maps change app net) (turns-maps app (live_at app net) now made end net)
  stepped-maps (steps.Withdraw app) net = rw (live_at-maps change app net) (withdrawn-maps app (live_at app net) net)
