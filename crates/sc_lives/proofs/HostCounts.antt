-- A step leaves as many hosts as there were, so after any journal there is one for each application.
use Rattle.std.proofs.Common.{◌≡◌, ℕ, zero, suc, List, [], ◌∷◌, length, refl, ap, ◌∙◌}
use Rattle.std.proofs.lemmas.List.{length-map}
use Rattle.sc_value.specs.declared.ids.AppId.{AppId}
use Rattle.sc_value.specs.Lists.{change_nth}
use Rattle.sc_terms.specs.declared.steps.Step.{Step}
use Rattle.sc_parts.specs.declared.setup.Setup.{Setup}
use Rattle.sc_state.specs.Hosts.{Host}
use Rattle.sc_state.specs.declared.net.Net.{Net}
use Rattle.sc_state.specs.declared.orders.Order.{Order}
use Rattle.sc_hosts.specs.Nets.{change_host, after_orders as obeyed}
use Rattle.sc_hosts.specs.Runs.{start, after_step, chained_from, net_from as chained}
use Rattle.sc_hosts.specs.Sessions.{Form}
use Rattle.sc_walks.proofs.AnyChange.{AnyChange, any-hosts, any-turns}
use Rattle.sc_walks.proofs.WalkNets.{obeyed-walks}
use Rattle.sc_walks.proofs.WalkTurns.{after_step-walks}
use Rattle.sc_walks.specs.Walks.{NetLaws}

-- the item at a place is changed
change_nth-hosts : {A : Type 0} (place : ℕ) (change : A → A) (xs : List A) → length (change_nth place change xs) ≡ length xs
unfolding change_nth
change_nth-hosts place change [] = refl
change_nth-hosts zero change (x ∷ xs) = refl
change_nth-hosts (suc place) change (x ∷ xs) = ap suc (change_nth-hosts place change xs)

-- one host is changed
pub change_host-hosts : {S : Type 0} (number : ℕ) (change : Host S → Host S) (net : Net S) → length (change_host number change net).hosts ≡ length net.hosts
change_host-hosts number change net = change_nth-hosts number change net.hosts

module _ {S : Type 0} where
  -- there are as many hosts
  abbrev pub AsMany : Net S → Net S → Type 0
  AsMany net changed = length changed.hosts ≡ length net.hosts

  pub as_many-nets : NetLaws AnyChange AsMany
  as_many-nets = record {
    same = λ net. refl;
    after = λ x y z p q. q ∙ p;
    posts = λ net wire sent. refl;
    places = λ number count host changed net at is. change_host-hosts number (λ was. changed) net;
  }

  pub obeyed-hosts : (setup : Setup) (app : AppId) (given : List Order) (net : Net S) → length (obeyed setup app given net).hosts ≡ length net.hosts
  obeyed-hosts setup app given net = obeyed-walks AnyChange AsMany any-hosts as_many-nets setup app given net

  after_step-hosts : (form : Form S) (setup : Setup) (net : Net S) (step : Step) → length (after_step form setup net step).hosts ≡ length net.hosts
  after_step-hosts form setup net step = after_step-walks AnyChange AsMany any-hosts as_many-nets any-turns (λ net now. refl) form tt setup net step

-- ## All steps of a journal

chained_from-hosts : {S : Type 0} (form : Form S) (setup : Setup) (net : Net S) (journal : List Step) → length (chained_from form setup net journal).hosts ≡ length net.hosts
unfolding chained_from
chained_from-hosts form setup net [] = refl
chained_from-hosts form setup net (step ∷ later) = chained_from-hosts form setup (after_step form setup net step) later ∙ after_step-hosts form setup net step

pub chained-hosts : {S : Type 0} (form : Form S) (setup : Setup) (epoch began : ℕ) (journal : List Step) → length (chained form setup epoch began journal).hosts ≡ length setup.config.app
unfolding chained start
chained-hosts form setup epoch began journal = chained_from-hosts form setup (start setup epoch began) journal ∙ length-map setup.config.app _
