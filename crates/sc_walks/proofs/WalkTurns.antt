-- A turn, a withdrawal and each step keep each relation of nets with the laws.
use Rattle.std.proofs.Common.{ℕ, Bool, true, false, Option, None, Some, List}
use Rattle.sc_value.specs.declared.ids.AppId.{AppId}
use Rattle.sc_terms.specs.declared.calls.CallRecord.{CallRecord}
use Rattle.sc_terms.specs.declared.calls.End.{End}
use Rattle.sc_terms.specs.declared.steps.Step.{Step}
use Rattle.sc_terms.specs.declared.steps.Step.TheVariants as steps
use Rattle.sc_parts.specs.declared.setup.Setup.{Setup}
use Rattle.sc_state.specs.Hosts.{Host}
use Rattle.sc_state.specs.declared.host.Live.{Live}
use Rattle.sc_state.specs.declared.net.Net.{Net}
use Rattle.sc_state.specs.declared.orders.Outcome.{Outcome}
use Rattle.sc_state.specs.declared.queue.Waiting.{Waiting}
use Rattle.sc_state.specs.declared.session.Session.{Session}
use Rattle.sc_hosts.specs.Runs.{after_step}
use Rattle.sc_hosts.specs.Sessions.{Form, Turn}
use Rattle.sc_hosts.specs.Steps.{without_live, without_application as invalidated, closed_turn, net_after_turn as turned, turns_first, turns, withdrawn, before_delivery as stepped}
use Rattle.sc_hosts.specs.Transacting.{without_ended}
use Rattle.sc_walks.proofs.WalkNets.{change_host-walks, obeyed-walks, delivered-walks}
use Rattle.sc_walks.proofs.WalkSteps.{arrived-walks, bad_by-walks, lost-walks, ticked-walks, with_ready-walks}
use Rattle.sc_walks.specs.Walks.{HostLaws, NetLaws, TurnLaws}

module _ {S : Type 0} {Begins : Form S → Type 0} (H : ℕ → ℕ → ℕ → Host S → ℕ → Host S → Type 0) (P : Net S → Net S → Type 0)
    (hosts : (number now : ℕ) → HostLaws Begins number now (H number now)) (law : NetLaws H P) (taking : (number now : ℕ) → TurnLaws now (H number now)) where
  without_live-walks : (app : AppId) (net : Net S) → P net (without_live app net)
  unfolding without_live without_ended
  without_live-walks app net =
      change_host-walks H P hosts law app.host _ net
      (λ host. (hosts app.host net.moment).after _ _ _ _ _ _ ((taking app.host net.moment).goes app.serial net.count host) ((hosts app.host net.moment).passes net.count _ _ _))

  invalidated-walks : (setup : Setup) (app : AppId) (session : Session) (inbox : List Waiting) (net : Net S) → P net (invalidated setup app session inbox net)
  unfolding invalidated
  invalidated-walks setup app session inbox net = law.after _ _ _ (obeyed-walks H P hosts law setup app _ net) (without_live-walks app _)

  pub closed_turn-walks : (setup : Setup) (app : AppId) (done : Outcome) (ends : Bool) (net : Net S) → P net (closed_turn setup app done ends net)
  unfolding closed_turn
  closed_turn-walks setup app done true net = invalidated-walks setup app done.session _ net
  closed_turn-walks setup app done false net = with_ready-walks H P hosts law app done _ net

  turned-walks : (form : Form S) (setup : Setup) (app : AppId) (turn : Turn) (done : Outcome) (net : Net S) → P net (turned form setup app turn done net)
  unfolding turned
  turned-walks form setup app turn done net =
      law.after _ _ _ (change_host-walks H P hosts law app.host _ net (λ host. (taking app.host net.moment).turns form setup.config app.serial turn done net.count host))
      (law.after _ _ _ (obeyed-walks H P hosts law setup app done.orders _) (closed_turn-walks setup app done done.ends _))

  turns_first-walks : (form : Form S) (setup : Setup) (app : AppId) (live : Live S) (waiting : Option Waiting) (now : ℕ) (made : List CallRecord) (end : End) (net : Net S)
      → P net (turns_first form setup app live waiting now made end net)
  unfolding turns_first
  turns_first-walks form setup app live None now made end net = law.same net
  turns_first-walks form setup app live (Some waiting) now made end net = turned-walks form setup app _ _ net

  pub turns-walks : (form : Form S) (setup : Setup) (app : AppId) (live : Option (Live S)) (now : ℕ) (made : List CallRecord) (end : End) (net : Net S) → P net (turns form setup app live now made end net)
  unfolding turns
  turns-walks form setup app None now made end net = law.same net
  turns-walks form setup app (Some live) now made end net = turns_first-walks form setup app live _ now made end net

  pub withdrawn-walks : (form : Form S) (setup : Setup) (app : AppId) (live : Option (Live S)) (net : Net S) → P net (withdrawn form setup app live net)
  unfolding withdrawn
  withdrawn-walks form setup app None net = law.same net
  withdrawn-walks form setup app (Some live) net = invalidated-walks setup app _ live.inbox net

  -- ## Each step, where a later moment keeps the relation too

  pub stepped-walks : ((net : Net S) (now : ℕ) → P net (record net { moment = now })) → (form : Form S) (good : Begins form) (setup : Setup) (step : Step) (net : Net S) → P net (stepped form setup step net)
  unfolding stepped
  stepped-walks ticks form good setup (steps.In from message) net = arrived-walks H P hosts law form good setup from message net
  stepped-walks ticks form good setup (steps.Bad from bad) net = bad_by-walks H P hosts law setup.config from bad.heads net
  stepped-walks ticks form good setup (steps.Lost place) net = lost-walks H P hosts law setup.config place net
  stepped-walks ticks form good setup (steps.Tick now) net = ticked-walks H P hosts law ticks form setup.config now net
  stepped-walks ticks form good setup (steps.Turn end app event now made) net = turns-walks form setup app _ now made end net
  stepped-walks ticks form good setup (steps.Withdraw app) net = withdrawn-walks form setup app _ net

  -- with all that it makes hosts deliver
  pub after_step-walks : ((net : Net S) (now : ℕ) → P net (record net { moment = now })) → (form : Form S) (good : Begins form) (setup : Setup) (net : Net S) (step : Step) → P net (after_step form setup net step)
  unfolding after_step
  after_step-walks ticks form good setup net step =
      law.after _ _ _ (law.posts net net.wire _) (law.after _ _ _ (stepped-walks ticks form good setup step _) (delivered-walks H P hosts law form good setup _))
