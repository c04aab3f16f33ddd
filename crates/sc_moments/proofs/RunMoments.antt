-- The moment of a net after a journal is that of the last tick.
use Rattle.std.proofs.Common.{◌≡◌, List, [], ◌∷◌, refl, ap, ◌∙◌}
use Rattle.std.specs.List.{fold}
use Rattle.sc_terms.specs.declared.steps.Step.{Step}
use Rattle.sc_parts.specs.declared.setup.Setup.{Setup}
use Rattle.sc_state.specs.declared.net.Net.{Net}
use Rattle.sc_hosts.specs.Runs.{after_step, chained_from}
use Rattle.sc_hosts.specs.Sessions.{Form}
use Rattle.sc_moments.proofs.NetMoments.{delivered-moment, stepped-moment}
use Rattle.sc_moments.specs.Moments.{moment_of}

-- a step, with all that it makes hosts deliver
pub after_step-moment : {S : Type 0} (form : Form S) (setup : Setup) (net : Net S) (step : Step) → (after_step form setup net step).moment ≡ moment_of net.moment step
unfolding after_step
after_step-moment form setup net step = delivered-moment form setup _ ∙ stepped-moment form setup step (record net { sent = [] })

-- all steps of a journal
pub chained-moment : {S : Type 0} (form : Form S) (setup : Setup) (net : Net S) (journal : List Step) → (chained_from form setup net journal).moment ≡ fold moment_of net.moment journal
unfolding chained_from
chained-moment form setup net [] = refl
chained-moment form setup net (step ∷ later) =
    chained-moment form setup (after_step form setup net step) later ∙ ap (λ moment. fold moment_of moment later) (after_step-moment form setup net step)
