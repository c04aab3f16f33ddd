-- A step that is no turn and no withdrawal of a session leaves its first event first.
use Rattle.std.proofs.Common.{◌≡◌, ℕ, false, Some, []}
use Rattle.std.specs.Prelude.{slice_get}
use Rattle.sc_value.specs.declared.ids.AppId.{AppId}
use Rattle.sc_terms.specs.declared.steps.Step.{Step}
use Rattle.sc_terms.specs.declared.steps.Step.TheVariants as steps
use Rattle.sc_parts.specs.declared.setup.Setup.{Setup}
use Rattle.sc_state.specs.Hosts.{Host}
use Rattle.sc_state.specs.declared.host.Live.{Live}
use Rattle.sc_state.specs.declared.net.Net.{Net}
use Rattle.sc_state.specs.declared.queue.Waiting.{Waiting}
use Rattle.sc_hosts.specs.Runs.{after_step}
use Rattle.sc_hosts.specs.Sessions.{Form}
use Rattle.sc_hosts.specs.Steps.{live_at, before_delivery as stepped}
use Rattle.sc_leases.proofs.StayingHosts.{stay-hosts}
use Rattle.sc_leases.proofs.StayingNets.{stay-nets, tick-stays}
use Rattle.sc_leases.proofs.OtherStays.{turns-stay, withdrawn-stays}
use Rattle.sc_leases.specs.Leases.{is_own}
use Rattle.sc_leases.specs.Staying.{StillFirst, HostStays, NetStays}
use Rattle.sc_walks.proofs.WalkNets.{delivered-walks}
use Rattle.sc_walks.proofs.WalkSteps.{arrived-walks, bad_by-walks, lost-walks, ticked-walks}

module _ {S : Type 0} (form : Form S) (setup : Setup) (app : AppId) where
  abbrev H : ℕ → ℕ → ℕ → Host S → ℕ → Host S → Type 0
  H number now = HostStays app.serial

  stepped-stays : (step : Step) (net : Net S) → is_own app step ≡ false → NetStays app net (stepped form setup step net)
  unfolding stepped is_own
  stepped-stays (steps.In from message) net other = arrived-walks H (NetStays app) (stay-hosts app.serial) (stay-nets app) form tt setup from message net
  stepped-stays (steps.Bad from bad) net other = bad_by-walks H (NetStays app) (stay-hosts app.serial) (stay-nets app) setup.config from bad.heads net
  stepped-stays (steps.Lost place) net other = lost-walks H (NetStays app) (stay-hosts app.serial) (stay-nets app) setup.config place net
  stepped-stays (steps.Tick now) net other = ticked-walks H (NetStays app) (stay-hosts app.serial) (stay-nets app) (tick-stays app) form setup.config now net
  stepped-stays (steps.Turn end name event now made) net other = turns-stay app name other form setup (live_at name net) now made end net
  stepped-stays (steps.Withdraw name) net other = withdrawn-stays app name other form setup (live_at name net) net

  -- with all that it makes hosts deliver
  pub step-stays : (net : Net S) (step : Step) → is_own app step ≡ false → NetStays app net (after_step form setup net step)
  unfolding after_step
  step-stays net step other =
      let unsent : Net S = record net { sent = [] } in
      let law = stay-nets {S = S} app in
      law.after net unsent _ (law.posts net net.wire []) (law.after unsent (stepped form setup step unsent) _ (stepped-stays step unsent other)
      (delivered-walks H (NetStays app) (stay-hosts app.serial) (stay-nets app) form tt setup (stepped form setup step unsent)))

  pub first-stays : (net : Net S) (step : Step) (live : Live S) (waiting : Waiting) → is_own app step ≡ false → live_at app net ≡ Some live → slice_get live.inbox 0 ≡ Some waiting
      → StillFirst live waiting (live_at app (after_step form setup net step))
  first-stays net step live waiting other is first = (step-stays net step other).stays live waiting is first
