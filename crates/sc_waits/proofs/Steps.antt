-- What waits in a session through a whole step: it grows, and its own turn takes the first event off.
use Rattle.std.proofs.Common.{◌≡◌, ℕ, ◌++◌, Bool, true, false, Option, None, Some, List, [], refl, sym, ap, ◌∙◌}
use Rattle.std.specs.Prelude.{slice_get, drop, option_map}
use Rattle.sc_value.specs.Lists.{change_first}
use Rattle.sc_value.proofs.ListFacts.{slice_get-change_nth}
use Rattle.sc_value.specs.declared.ids.AppId.{AppId}
use Rattle.sc_terms.specs.declared.calls.CallRecord.{CallRecord}
use Rattle.sc_terms.specs.declared.calls.End.{End}
use Rattle.sc_terms.specs.declared.steps.Step.{Step}
use Rattle.sc_terms.specs.declared.steps.Step.TheVariants as steps
use Rattle.sc_parts.specs.declared.setup.Setup.{Setup}
use Rattle.sc_state.specs.Hosts.{Host}
use Rattle.sc_state.specs.declared.host.Live.{Live}
use Rattle.sc_state.specs.declared.net.Net.{Net}
use Rattle.sc_state.specs.declared.orders.Outcome.{Outcome}
use Rattle.sc_state.specs.declared.queue.Waiting.{Waiting}
use Rattle.sc_hosts.specs.Inboxes.{is_live, live_in}
use Rattle.sc_hosts.specs.Nets.{host_at, change_host, after_orders as obeyed}
use Rattle.sc_hosts.specs.Runs.{after_delivery as delivered, after_step}
use Rattle.sc_hosts.specs.Sessions.{Form, Turn}
use Rattle.sc_hosts.specs.Steps.{live_of, live_at, outcome_by, turned_live, turn_of, with_ready, closed_turn, net_after_turn as turned, turns_first, turns, before_delivery as stepped}
use Rattle.sc_walks.proofs.WalkNets.{obeyed-walks, delivered-walks}
use Rattle.sc_walks.proofs.WalkSteps.{arrived-walks, bad_by-walks, lost-walks, ticked-walks, with_ready-walks}
use Rattle.sc_once.proofs.Finding.{find-changed}
use Rattle.sc_waits.proofs.GrowingHosts.{grow-hosts}
use Rattle.sc_waits.proofs.GrowingNets.{grow-nets, tick-grows, waiting-at}
use Rattle.sc_waits.proofs.OtherTurns.{turns-grow, withdrawn-grows}
use Rattle.sc_waits.specs.Growing.{events_in, events_of, HostGrows, NetGrows, IsElsewhere, Grows, Follows}

module _ {S : Type 0} (form : Form S) (setup : Setup) (app : AppId) where
  abbrev H : ℕ → ℕ → ℕ → Host S → ℕ → Host S → Type 0
  H number now = HostGrows app.serial

  delivers : (net : Net S) → NetGrows app net (delivered form setup net)
  delivers net = delivered-walks H (NetGrows app) (grow-hosts app.serial) (grow-nets app) form tt setup net

  joined : (x y z : Net S) → NetGrows app x y → NetGrows app y z → NetGrows app x z
  joined x y z p q = (grow-nets app).after x y z p q

  steps-before : (net : Net S) (step : Step) → IsElsewhere app step → NetGrows app net (stepped form setup step net)
  unfolding IsElsewhere stepped
  steps-before net (steps.In from message) away = arrived-walks H (NetGrows app) (grow-hosts app.serial) (grow-nets app) form tt setup from message net
  steps-before net (steps.Bad from bad) away = bad_by-walks H (NetGrows app) (grow-hosts app.serial) (grow-nets app) setup.config from bad.heads net
  steps-before net (steps.Lost place) away = lost-walks H (NetGrows app) (grow-hosts app.serial) (grow-nets app) setup.config place net
  steps-before net (steps.Tick now) away = ticked-walks H (NetGrows app) (grow-hosts app.serial) (grow-nets app) (tick-grows app) form setup.config now net
  steps-before net (steps.Turn end other event now made) away = turns-grow app other away form setup (live_at other net) now made end net
  steps-before net (steps.Withdraw other) away = withdrawn-grows app other away form setup (live_at other net) net

  -- a step of another lets what waits grow at its end
  pub steps-grow : (net : Net S) (step : Step) → IsElsewhere app step
      → NetGrows app (record net { sent = [] }) (after_step form setup net step)
  unfolding after_step
  steps-grow net step away = joined (record net { sent = [] }) (stepped form setup step (record net { sent = [] })) _ (steps-before (record net { sent = [] }) step away) (delivers _)

  -- ## The own turn

  turned-inbox : (change : Live S → Live S) → ((live : Live S) → (change live).inbox ≡ drop 1 live.inbox)
      → (found : Option (Live S)) → events_of (option_map change found) ≡ drop 1 (events_of found)
  turned-inbox change fewer None = refl
  turned-inbox change fewer (Some live) = fewer live

  turned-in : (now : ℕ) (turn : Turn) (done : Outcome) (host : Option (Host S))
      → events_of (live_of app (option_map {T = Host S} {U = Host S} (λ host. record host { sessions = change_first (is_live app.serial) (turned_live form setup.config now turn done) host.sessions }) host)) ≡ drop 1 (events_of (live_of app host))
  unfolding turned_live
  turned-in now turn done None = refl
  turned-in now turn done (Some host) =
      ap events_of (find-changed host.sessions (is_live app.serial) (turned_live form setup.config now turn done) (λ live. refl))
      ∙ turned-inbox (turned_live form setup.config now turn done) (λ live. refl) (live_in app.serial host)

  -- the first event is off
  turned-waits : (now : ℕ) (turn : Turn) (done : Outcome) (net : Net S)
      → events_in app (change_host app.host (λ host. record host { sessions = change_first (is_live app.serial) (turned_live form setup.config now turn done) host.sessions }) net) ≡ drop 1 (events_in app net)
  turned-waits now turn done net =
      let after : Net S = change_host app.host (λ host. record host { sessions = change_first (is_live app.serial) (turned_live form setup.config now turn done) host.sessions }) net in
      waiting-at app after _ (slice_get-change_nth app.host _ net.hosts) ∙ (turned-in now turn done (host_at app.host net) ∙ ap (drop 1) (sym (waiting-at app net _ refl)))

  closed-follows : (done : Outcome) (ends : Bool) (net held : Net S) → ends ≡ false
      → events_in app held ≡ drop 1 (events_in app net)
      → Follows app net (delivered form setup (closed_turn setup app done ends (obeyed setup app done.orders held)))
  unfolding closed_turn
  closed-follows done true net held goes-on is = cc
  closed-follows done false net held goes-on is =
      let given = obeyed setup app done.orders held in
      let ready = with_ready app done (live_at app given) given in
      let all = joined held given _ (obeyed-walks H (NetGrows app) (grow-hosts app.serial) (grow-nets app) setup app done.orders held)
      (joined given ready _ (with_ready-walks H (NetGrows app) (grow-hosts app.serial) (grow-nets app) app done _ given) (delivers ready)) in
      record { new = all.new; waits = all.waits ∙ ap (λ (ws : List Waiting). ws ++ all.new) is }

  -- the turn of the first event, which doesn't end the session
  pub turn-follows : (net : Net S) (live : Live S) (waiting : Waiting) (event now : ℕ) (made : List CallRecord) (end : End)
      → live_at app net ≡ Some live → slice_get live.inbox 0 ≡ Some waiting
      → (outcome_by form setup.config live.session (turn_of (record net { sent = [] }) app waiting now made end)).ends ≡ false
      → Follows app net (after_step form setup net (steps.Turn end app event now made))
  unfolding after_step stepped turns turns_first turned events_in
  turn-follows net live waiting event now made end lives first goes-on =
      let start : Net S = record net { sent = [] } in
      let turn : Turn = turn_of start app waiting now made end in
      let done : Outcome = outcome_by form setup.config live.session turn in
      let held : Net S = change_host app.host (λ host. record host { sessions = change_first (is_live app.serial) (turned_live form setup.config net.moment turn done) host.sessions }) start in
      rw (lives, first) (closed-follows done done.ends net held goes-on (turned-waits net.moment turn done start))

  pub step-grows : (net : Net S) (step : Step) → IsElsewhere app step → Grows app net (after_step form setup net step)
  unfolding events_in
  step-grows net step away = let grows = steps-grow net step away in record { new = grows.new; waits = grows.waits }
