-- A net whose sessions are changed: which steps are allowed.
use Rattle.std.proofs.Common.{refl, sym, ◌∙◌}
use Rattle.std.specs.Prelude.{◌≡◌, ◌≤◌, ℕ, List, [], ◌∷◌, Some, is_some, slice_get}
use Rattle.sc_forms.proofs.ListMaps.{is_some-maps}
use Rattle.sc_forms.proofs.RunMaps.{start-maps, moment-maps, after_step-maps}
use Rattle.sc_forms.proofs.StepMaps.{live_at-maps, ringing_at-maps}
use Rattle.sc_forms.specs.Simulations.{map_live, map_net, IsSimulation}
use Rattle.sc_hosts.specs.Runs.{start, after_step, prepared_turn as shown, AllowedBy, MayTurn, IsAllowed, IsLawfulFrom, IsLawful}
use Rattle.sc_hosts.specs.Sessions.{Form}
use Rattle.sc_hosts.specs.Steps.{live_at}
use Rattle.sc_model.specs.Settings.{charters_of}
use Rattle.sc_parts.specs.declared.setup.Setup.{Setup}
use Rattle.sc_state.specs.declared.host.Live.{Live}
use Rattle.sc_state.specs.declared.net.Net.{Net}
use Rattle.sc_state.specs.declared.queue.Waiting.{Waiting}
use Rattle.sc_syntax.proofs.ListedLaws.{map_some}
use Rattle.sc_terms.specs.declared.calls.CallRecord.{CallRecord}
use Rattle.sc_terms.specs.declared.calls.End.{End}
use Rattle.sc_terms.specs.declared.steps.Step.TheVariants as steps
use Rattle.sc_terms.specs.declared.steps.Step.{Step}
use Rattle.sc_value.specs.declared.ids.AppId.{AppId}

module _ {S T : Type 0} (change : S → T) (setup : Setup) (form : Form S) (other : Form T) (like : IsSimulation change setup.config form other) where
  shown-maps : (net : Net S) (app : AppId) (live : Live S) (waiting : Waiting) (now : ℕ)
      → shown other setup (map_net change net) app (map_live change live) waiting now ≡ shown form setup net app live waiting now
  unfolding shown map_live
  shown-maps net app live waiting now = rw (ringing_at-maps change app net, like.reads live.session) refl

  -- a turn that may be taken in the one may be taken in the other
  may_turn : (net : Net S) (app : AppId) (event now : ℕ) (made : List CallRecord) (end : End) → MayTurn form setup net app event now made end → MayTurn other setup (map_net change net) app event now made end
  unfolding map_live
  may_turn net app event now made end may = record {
    live = map_live change may.live;
    live_is = rw (live_at-maps change app net, may.live_is) refl;
    waiting = may.waiting;
    waiting_is = may.waiting_is;
    event_is = may.event_is;
    since = may.since;
    until = rw (moment-maps change net) may.until;
    allowed = rw (shown-maps net app may.live may.waiting now) may.allowed;
  }

  may_turn_of : (net : Net S) (app : AppId) (event now : ℕ) (made : List CallRecord) (end : End) (live : Live S) (waiting : Waiting)
      → live_at app net ≡ Some live → slice_get (map_live change live).inbox 0 ≡ Some waiting → waiting.number ≡ event → (map_live change live).since ≤ now → now ≤ (map_net change net).moment
      → ∥ AllowedBy (charters_of setup app.host) (shown other setup (map_net change net) app (map_live change live) waiting now) made end ∥₁
      → MayTurn form setup net app event now made end
  unfolding map_live
  may_turn_of net app event now made end live waiting live_is waiting_is event_is since until allowed = record {
    live = live;
    live_is = live_is;
    waiting = waiting;
    waiting_is = waiting_is;
    event_is = event_is;
    since = since;
    until = rw (moment-maps change net) at until;
    allowed = rw (shown-maps net app live waiting now) at allowed;
  }

  may_turn_back : (net : Net S) (app : AppId) (event now : ℕ) (made : List CallRecord) (end : End) → MayTurn other setup (map_net change net) app event now made end → MayTurn form setup net app event now made end
  may_turn_back net app event now made end may =
      let found = map_some (map_live change) (live_at app net) may.live (rw (live_at-maps change app net) at may.live_is) in
      may_turn_of net app event now made end found.0 may.waiting found.1 (rw found.2 may.waiting_is) may.event_is (rw found.2 may.since) may.until (rw found.2 may.allowed)

  is_some_at : (app : AppId) (net : Net S) → is_some (live_at app (map_net change net)) ≡ is_some (live_at app net)
  is_some_at app net = rw (live_at-maps change app net) (is_some-maps (map_live change) (live_at app net))

  -- a step that is allowed in the one is allowed in the other
  allowed-maps : (net : Net S) (step : Step) → IsAllowed form setup net step → IsAllowed other setup (map_net change net) step
  unfolding IsAllowed map_net
  allowed-maps net (steps.In from message) allowed = allowed
  allowed-maps net (steps.Bad from bad) allowed = allowed
  allowed-maps net (steps.Lost place) allowed = allowed
  allowed-maps net (steps.Tick now) allowed = allowed
  allowed-maps net (steps.Turn end app event now made) allowed = may_turn net app event now made end allowed
  allowed-maps net (steps.Withdraw app) allowed = is_some_at app net ∙ allowed

  allowed_back : (net : Net S) (step : Step) → IsAllowed other setup (map_net change net) step → IsAllowed form setup net step
  unfolding IsAllowed map_net
  allowed_back net (steps.In from message) allowed = allowed
  allowed_back net (steps.Bad from bad) allowed = allowed
  allowed_back net (steps.Lost place) allowed = allowed
  allowed_back net (steps.Tick now) allowed = allowed
  allowed_back net (steps.Turn end app event now made) allowed = may_turn_back net app event now made end allowed
  allowed_back net (steps.Withdraw app) allowed = sym (is_some_at app net) ∙ allowed

  -- so is each step of a journal
  lawful_from : (journal : List Step) (net : Net S) → IsLawfulFrom form setup net journal → IsLawfulFrom other setup (map_net change net) journal
  unfolding IsLawfulFrom
  lawful_from [] net lawful = tt
  lawful_from (step ∷ later) net lawful =
      (allowed-maps net step lawful.0, rw (after_step-maps change setup form other like net step) (lawful_from later (after_step form setup net step) lawful.1))

  lawful_from_back : (journal : List Step) (net : Net S) → IsLawfulFrom other setup (map_net change net) journal → IsLawfulFrom form setup net journal
  unfolding IsLawfulFrom
  lawful_from_back [] net lawful = tt
  lawful_from_back (step ∷ later) net lawful =
      (allowed_back net step lawful.0, lawful_from_back later (after_step form setup net step) (rw (after_step-maps change setup form other like net step) at lawful.1))

  pub lawful-maps : (epoch began : ℕ) (journal : List Step) → IsLawful form setup epoch began journal → IsLawful other setup epoch began journal
  unfolding IsLawful
  lawful-maps epoch began journal lawful = rw (start-maps change setup epoch began) (lawful_from journal (start setup epoch began) lawful)

  pub lawful_back : (epoch began : ℕ) (journal : List Step) → IsLawful other setup epoch began journal → IsLawful form setup epoch began journal
  unfolding IsLawful
  lawful_back epoch began journal lawful = lawful_from_back journal (start setup epoch began) (rw (start-maps change setup epoch began) at lawful)
