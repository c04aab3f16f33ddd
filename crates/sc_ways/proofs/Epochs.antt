-- A step leaves the epoch of a net as it is.
use Rattle.std.proofs.Common.{◌≡◌, Bool, refl, ◌∙◌}
use Rattle.sc_value.specs.declared.ids.AppId.{AppId}
use Rattle.sc_terms.specs.declared.steps.Step.{Step}
use Rattle.sc_parts.specs.declared.setup.Setup.{Setup}
use Rattle.sc_state.specs.declared.net.Net.{Net}
use Rattle.sc_state.specs.declared.orders.Outcome.{Outcome}
use Rattle.sc_hosts.specs.Runs.{after_step}
use Rattle.sc_hosts.specs.Sessions.{Form}
use Rattle.sc_hosts.specs.Steps.{closed_turn}
use Rattle.sc_walks.proofs.AnyChange.{AnyChange, any-hosts, any-turns}
use Rattle.sc_walks.proofs.WalkTurns.{after_step-walks, closed_turn-walks}
use Rattle.sc_walks.specs.Walks.{NetLaws}

module _ {S : Type 0} where
  abbrev pub SameEpoch : Net S → Net S → Type 0
  SameEpoch net changed = changed.epoch ≡ net.epoch

  pub epoch-nets : NetLaws AnyChange SameEpoch
  epoch-nets = record {
    same = λ net. refl;
    after = λ x y z p q. q ∙ p;
    posts = λ net wire sent. refl;
    places = λ number count host changed net at is. refl;
  }

  pub closed_turn-epoch : (setup : Setup) (app : AppId) (done : Outcome) (ends : Bool) (net : Net S) → (closed_turn setup app done ends net).epoch ≡ net.epoch
  closed_turn-epoch setup app done ends net = closed_turn-walks AnyChange SameEpoch any-hosts epoch-nets any-turns setup app done ends net

  pub step-epoch : (form : Form S) (setup : Setup) (net : Net S) (step : Step) → (after_step form setup net step).epoch ≡ net.epoch
  step-epoch form setup net step = after_step-walks AnyChange SameEpoch any-hosts epoch-nets any-turns (λ net now. refl) form tt setup net step
