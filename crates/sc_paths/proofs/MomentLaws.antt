-- The moments of a run and its nets.
use Rattle.std.proofs.Common.{◌≡◌, ℕ, List, [], ◌∷◌, ◌++◌, refl}
use Rattle.sc_terms.specs.declared.steps.Step.{Step}
use Rattle.sc_parts.specs.declared.setup.Setup.{Setup}
use Rattle.sc_state.specs.declared.net.Net.{Net}
use Rattle.sc_state.specs.declared.session.Session.{Session}
use Rattle.sc_hosts.specs.Histories.{as_session}
use Rattle.sc_hosts.specs.Runs.{start, after_step, chained_from, net_from as chained}
use Rattle.sc_paths.specs.Moments.{moments_from, moments}

moments_from-append : (begun : List Step) (setup : Setup) (net : Net Session) (later : List Step)
    → moments_from setup net (begun ++ later) ≡ moments_from setup net begun ++ moments_from setup (chained_from as_session setup net begun) later
unfolding moments_from chained_from
moments_from-append [] setup net later = refl
moments_from-append (step ∷ steps) setup net later = rw (moments_from-append steps setup (after_step as_session setup net step) later) refl

-- behind the beginning of a journal the moments go on from the net that it makes
pub moments-append : (setup : Setup) (epoch began : ℕ) (begun later : List Step)
    → moments setup epoch began (begun ++ later) ≡ moments setup epoch began begun ++ moments_from setup (chained as_session setup epoch began begun) later
unfolding moments chained
moments-append setup epoch began begun later = moments_from-append begun setup (start setup epoch began) later
