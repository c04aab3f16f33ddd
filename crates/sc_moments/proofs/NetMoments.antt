-- A step leaves the moment of the net as it is, and a tick makes it its own.
use Rattle.std.proofs.Common.{◌≡◌, refl, ◌∙◌}
use Rattle.sc_terms.specs.declared.steps.Step.{Step}
use Rattle.sc_terms.specs.declared.steps.Step.TheVariants as steps
use Rattle.sc_parts.specs.declared.setup.Setup.{Setup}
use Rattle.sc_state.specs.declared.net.Net.{Net}
use Rattle.sc_hosts.specs.Runs.{after_delivery as delivered}
use Rattle.sc_hosts.specs.Sessions.{Form}
use Rattle.sc_hosts.specs.Steps.{before_delivery as stepped}
use Rattle.sc_moments.specs.Moments.{moment_of}
use Rattle.sc_walks.proofs.AnyChange.{AnyChange, any-hosts, any-turns}
use Rattle.sc_walks.proofs.WalkNets.{delivered-walks}
use Rattle.sc_walks.proofs.WalkSteps.{arrived-walks, bad_by-walks, lost-walks, fired-walks}
use Rattle.sc_walks.proofs.WalkTurns.{turns-walks, withdrawn-walks}
use Rattle.sc_walks.specs.Walks.{NetLaws}

module _ {S : Type 0} where
  -- the moment is as it was
  abbrev SameMoment : Net S → Net S → Type 0
  SameMoment net changed = changed.moment ≡ net.moment

  moment-nets : NetLaws AnyChange SameMoment
  moment-nets = record {
    same = λ net. refl;
    after = λ x y z p q. q ∙ p;
    posts = λ net wire sent. refl;
    places = λ number count host changed net at is. refl;
  }

  pub delivered-moment : (form : Form S) (setup : Setup) (net : Net S) → (delivered form setup net).moment ≡ net.moment
  delivered-moment form setup net = delivered-walks AnyChange SameMoment any-hosts moment-nets form tt setup net

  pub stepped-moment : (form : Form S) (setup : Setup) (step : Step) (net : Net S) → (stepped form setup step net).moment ≡ moment_of net.moment step
  unfolding stepped moment_of
  stepped-moment form setup (steps.In from message) net = arrived-walks AnyChange SameMoment any-hosts moment-nets form tt setup from message net
  stepped-moment form setup (steps.Bad from bad) net = bad_by-walks AnyChange SameMoment any-hosts moment-nets setup.config from bad.heads net
  stepped-moment form setup (steps.Lost place) net = lost-walks AnyChange SameMoment any-hosts moment-nets setup.config place net
  stepped-moment form setup (steps.Tick now) net = fired-walks AnyChange SameMoment any-hosts moment-nets form setup.config now net
  stepped-moment form setup (steps.Turn end app event now made) net = turns-walks AnyChange SameMoment any-hosts moment-nets any-turns form setup app _ now made end net
  stepped-moment form setup (steps.Withdraw app) net = withdrawn-walks AnyChange SameMoment any-hosts moment-nets any-turns form setup app _ net
