-- A lease goes on to show what there is, until the turn of its session or its end.
use Rattle.std.proofs.Common.{◌≡◌, ◌≤◌, ℕ, false, Option, None, Some, List, [], ◌∷◌, refl, sym, subst, ◌∙◌, arith}
use Rattle.std.specs.Prelude.{slice_get}
use Rattle.std.specs.List.{All}
use Rattle.std.proofs.lemmas.List.Elements.{All-head, All-tail}
use Rattle.sc_value.specs.declared.ids.AppId.{AppId}
use Rattle.sc_terms.specs.declared.steps.Step.{Step}
use Rattle.sc_terms.specs.declared.steps.Step.TheVariants as steps
use Rattle.sc_parts.specs.declared.setup.Setup.{Setup}
use Rattle.sc_state.specs.declared.host.Live.{Live}
use Rattle.sc_state.specs.declared.net.Net.{Net}
use Rattle.sc_state.specs.declared.queue.Waiting.{Waiting}
use Rattle.sc_servlets.specs.declared.lease.Lease.{Lease}
use Rattle.sc_hosts.specs.Nets.{host_at}
use Rattle.sc_hosts.specs.Runs.{prepared_turn as shown, after_step, chained_from, IsAllowed, IsLawfulFrom}
use Rattle.sc_hosts.specs.Sessions.{Form}
use Rattle.sc_hosts.specs.Steps.{live_at, ringing_at}
use Rattle.sc_moments.proofs.RunMoments.{after_step-moment}
use Rattle.sc_moments.specs.Moments.{moment_of}
use Rattle.sc_leases.proofs.FirstStays.{first-stays}
use Rattle.sc_leases.proofs.Ringing.{ShowSame, shows-same}
use Rattle.sc_leases.specs.Leases.{IsTimely, IsShown, ShowsFirst, ShowsOf, IsLeaseOf, is_own}
use Rattle.sc_leases.specs.Staying.{StillFirst}

module _ {S : Type 0} (form : Form S) (setup : Setup) where
  -- no step goes back in time
  moments-rise : (net : Net S) (step : Step) → IsAllowed form setup net step → net.moment ≤ moment_of net.moment step
  unfolding IsAllowed moment_of
  moments-rise net (steps.In from message) allowed = omega arith
  moments-rise net (steps.Bad from bad) allowed = omega arith
  moments-rise net (steps.Lost place) allowed = omega arith
  moments-rise net (steps.Tick now) allowed = allowed.0
  moments-rise net (steps.Turn end app event now made) allowed = omega arith
  moments-rise net (steps.Withdraw app) allowed = omega arith

  pub moment-rises : (net : Net S) (step : Step) → IsAllowed form setup net step → net.moment ≤ (after_step form setup net step).moment
  moment-rises net step allowed = rw (after_step-moment form setup net step) (moments-rise net step allowed)

  -- the same session shows the same in another net
  shown-same : (net after : Net S) (app : AppId) (live later : Live S) (waiting : Waiting) (now : ℕ) → later.session ≡ live.session
      → ShowSame (shown form setup after app later waiting now) (shown form setup net app live waiting now)
  unfolding shown
  shown-same net after app live later waiting now is =
      rw is (shows-same setup.config (ringing_at app (host_at app.host after)) (ringing_at app (host_at app.host net)) (form.read live.session) waiting now)

  timely-on : (net after : Net S) (lease : Lease) (live later : Live S) (waiting : Waiting) → later.since ≡ live.since → net.moment ≤ after.moment → IsTimely setup net lease live waiting → IsTimely setup after lease later waiting
  timely-on net after lease live later waiting since rises timely = record {
    number_is = timely.number_is;
    kind_is = timely.kind_is;
    since = rw since timely.since;
    until = omega (arith, timely.until, rises);
  }

  shows-by : (net : Net S) (lease : Lease) (live : Live S) (waiting : Waiting) → live_at lease.app net ≡ Some live → slice_get live.inbox 0 ≡ Some waiting → IsTimely setup net lease live waiting
      → IsShown (shown form setup net lease.app live waiting lease.shown.now) lease → IsLeaseOf form setup net lease
  unfolding IsLeaseOf ShowsOf ShowsFirst
  shows-by net lease live waiting live_is first_is timely shows =
      subst (λ o. ShowsOf form setup net lease o) (sym live_is) (subst (λ o. ShowsFirst form setup net lease live o) (sym first_is) (timely, shows))

  stays-first : (net after : Net S) (lease : Lease) (live : Live S) (waiting : Waiting) → StillFirst live waiting (live_at lease.app after) → net.moment ≤ after.moment
      → IsTimely setup net lease live waiting → IsShown (shown form setup net lease.app live waiting lease.shown.now) lease → IsLeaseOf form setup after lease
  unfolding IsShown
  stays-first net after lease live waiting still rises timely shows =
      let same = shown-same net after lease.app live still.later waiting lease.shown.now still.session_is in
      shows-by after lease still.later waiting still.found_is still.first_is (timely-on net after lease live still.later waiting still.since_is rises timely) (same.view ∙ shows.0, same.event ∙ shows.1)

  by-first : (net after : Net S) (lease : Lease) (live : Live S) (first : Option Waiting) → slice_get live.inbox 0 ≡ first
      → ((waiting : Waiting) → slice_get live.inbox 0 ≡ Some waiting → StillFirst live waiting (live_at lease.app after)) → net.moment ≤ after.moment
      → ShowsFirst form setup net lease live first → IsLeaseOf form setup after lease
  unfolding ShowsFirst
  by-first net after lease live None is still rises shows = absurd shows
  by-first net after lease live (Some waiting) is still rises shows = stays-first net after lease live waiting (still waiting is) rises shows.0 shows.1

  by-live : (net after : Net S) (lease : Lease) (found : Option (Live S)) → live_at lease.app net ≡ found
      → ((live : Live S) (waiting : Waiting) → live_at lease.app net ≡ Some live → slice_get live.inbox 0 ≡ Some waiting → StillFirst live waiting (live_at lease.app after)) → net.moment ≤ after.moment
      → ShowsOf form setup net lease found → IsLeaseOf form setup after lease
  unfolding ShowsOf
  by-live net after lease None is still rises shows = absurd shows
  by-live net after lease (Some live) is still rises shows = by-first net after lease live (slice_get live.inbox 0) refl (λ waiting first. still live waiting is first) rises shows

  -- a step of others
  pub lease-stays : (net : Net S) (step : Step) (lease : Lease) → IsAllowed form setup net step → is_own lease.app step ≡ false → IsLeaseOf form setup net lease → IsLeaseOf form setup (after_step form setup net step) lease
  unfolding IsLeaseOf
  lease-stays net step lease allowed other shows =
      by-live net (after_step form setup net step) lease (live_at lease.app net) refl (λ live waiting is first. first-stays form setup lease.app net step live waiting other is first) (moment-rises net step allowed) shows

  -- all steps until the session's own
  pub lease-stays-on : (later : List Step) (net : Net S) (lease : Lease) → IsLawfulFrom form setup net later → All (λ step. is_own lease.app step ≡ false) later → IsLeaseOf form setup net lease
      → IsLeaseOf form setup (chained_from form setup net later) lease
  unfolding chained_from IsLawfulFrom
  lease-stays-on [] net lease lawful others shows = shows
  lease-stays-on (step ∷ later) net lease lawful others shows =
      lease-stays-on later (after_step form setup net step) lease lawful.1 (All-tail (λ step. is_own lease.app step ≡ false) step later others)
      (lease-stays net step lease lawful.0 (All-head (λ step. is_own lease.app step ≡ false) step later others) shows)
