-- After a lawful journal the first event of each live session has been first since a moment that is not
-- after that of the net.
use Rattle.std.proofs.Common.{◌≡◌, ◌≤◌, ℕ, Some, List, [], ◌∷◌, sym, subst, arith}
use Rattle.sc_value.specs.declared.ids.AppId.{AppId}
use Rattle.sc_terms.specs.declared.steps.Step.{Step}
use Rattle.sc_terms.specs.declared.steps.Step.TheVariants as steps
use Rattle.sc_parts.specs.declared.setup.Setup.{Setup}
use Rattle.sc_state.specs.declared.host.Live.{Live}
use Rattle.sc_state.specs.declared.net.Net.{Net}
use Rattle.sc_hosts.specs.Runs.{start, after_step, chained_from, net_from as chained, IsAllowed, IsLawfulFrom, IsLawful}
use Rattle.sc_hosts.specs.Sessions.{Form}
use Rattle.sc_hosts.specs.Steps.{live_at}
use Rattle.sc_moments.proofs.PastHosts.{hosts-later, quiet-past}
use Rattle.sc_moments.proofs.PastNets.{Early, live_at-early, delivered-early, stepped-early}
use Rattle.sc_moments.proofs.RunMoments.{after_step-moment}
use Rattle.sc_moments.specs.Moments.{moment_of}

same-moment : (moment : ℕ) → moment ≤ moment
same-moment moment = omega arith

module _ {S : Type 0} (form : Form S) (setup : Setup) where
  -- a step that is allowed doesn't turn time back
  moment-rises : (net : Net S) (step : Step) → IsAllowed form setup net step → net.moment ≤ moment_of net.moment step
  unfolding IsAllowed moment_of
  moment-rises net (steps.In from message) allowed = same-moment net.moment
  moment-rises net (steps.Bad from bad) allowed = same-moment net.moment
  moment-rises net (steps.Lost place) allowed = same-moment net.moment
  moment-rises net (steps.Tick now) allowed = allowed.0
  moment-rises net (steps.Turn end app event now made) allowed = same-moment net.moment
  moment-rises net (steps.Withdraw app) allowed = same-moment net.moment

  -- where the step begins
  begun-early : (net : Net S) (moment : ℕ) → net.moment ≤ moment → Early net.moment net → Early moment (record net { moment = moment; sent = [] })
  unfolding Early
  begun-early net moment le early = (same-moment moment, hosts-later net.hosts net.moment moment le early.1)

  -- after a step that is allowed
  after_step-early : (net : Net S) (step : Step) → IsAllowed form setup net step → Early net.moment net → Early (after_step form setup net step).moment (after_step form setup net step)
  unfolding after_step
  after_step-early net step allowed early =
      subst (λ (moment : ℕ). Early moment (after_step form setup net step)) (sym (after_step-moment form setup net step))
      (delivered-early (moment_of net.moment step) form setup _
      (stepped-early (moment_of net.moment step) form setup step (record net { sent = [] }) (begun-early net (moment_of net.moment step) (moment-rises net step allowed) early)))

  -- after all steps of a journal
  chained-early : (journal : List Step) (net : Net S) → IsLawfulFrom form setup net journal → Early net.moment net → Early (chained_from form setup net journal).moment (chained_from form setup net journal)
  unfolding chained_from IsLawfulFrom
  chained-early [] net lawful early = early
  chained-early (step ∷ later) net lawful early = chained-early later (after_step form setup net step) lawful.1 (after_step-early net step lawful.0 early)

  start-early : (epoch began : ℕ) → Early {S = S} began (start setup epoch began)
  unfolding Early start
  start-early epoch began = (same-moment began, quiet-past S setup.config.app began)

  -- from the beginning on
  run-early : (epoch began : ℕ) (journal : List Step) → IsLawful form setup epoch began journal → Early (chained form setup epoch began journal).moment (chained form setup epoch began journal)
  unfolding IsLawful chained start
  run-early epoch began journal lawful = chained-early journal (start setup epoch began) lawful (start-early epoch began)

-- since when the first event of a live session has been first
pub first-is-past : {S : Type 0} (form : Form S) (setup : Setup) (epoch began : ℕ) (journal : List Step) (app : AppId) (live : Live S) → IsLawful form setup epoch began journal
    → live_at app (chained form setup epoch began journal) ≡ Some live → live.since ≤ (chained form setup epoch began journal).moment
first-is-past form setup epoch began journal app live lawful found =
    live_at-early (chained form setup epoch began journal).moment app (chained form setup epoch began journal) live found (run-early form setup epoch began journal lawful)
