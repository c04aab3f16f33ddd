-- A net whose sessions are changed: the run of a journal, and what it sends.
use Rattle.std.proofs.Common.{refl}
use Rattle.std.specs.Prelude.{◌≡◌, ℕ, zero, suc, List, [], ◌∷◌, Bool, true, false}
use Rattle.sc_forms.proofs.ArrivalMaps.{deliver_first-maps}
use Rattle.sc_forms.proofs.ListMaps.{map-maps, fold-maps}
use Rattle.sc_forms.proofs.NetMaps.{is_busy-maps, weight-maps}
use Rattle.sc_forms.proofs.StepMaps.{stepped-maps}
use Rattle.sc_forms.specs.Simulations.{map_host, map_net, IsSimulation}
use Rattle.sc_hosts.specs.Nets.{is_busy, deliver_first, weight}
use Rattle.sc_hosts.specs.Runs.{quiet_host, start, after_delivery as delivered, after_step, chained_from, net_from as chained, all_sent_from, all_sent}
use Rattle.sc_hosts.specs.Sessions.{Form}
use Rattle.sc_hosts.specs.Settle.{steps, settle}
use Rattle.sc_parts.specs.declared.setup.Setup.{Setup}
use Rattle.sc_state.specs.declared.net.Net.{Net}
use Rattle.sc_terms.specs.declared.steps.Step.{Step}

-- ## Steps until nothing is to do

module _ {A B : Type 0} (g : A → B) (busy : A → Bool) (step : A → A) (weight_of : A → ℕ) (other_busy : B → Bool) (other_step : B → B) (other_weight : B → ℕ)
    (same_busy : (a : A) → other_busy (g a) ≡ busy a) (same_step : (a : A) → other_step (g a) ≡ g (step a)) (same_weight : (a : A) → other_weight (g a) ≡ weight_of a) where
  elim-maps : (b : Bool) (x y : A) (u v : B) → u ≡ g x → v ≡ g y → elim b as (λ b. B) [ true ↦ u | false ↦ v ] ≡ g (elim b as (λ b. A) [ true ↦ x | false ↦ y ])
  elim-maps true x y u v p q = p
  elim-maps false x y u v p q = q

  steps-maps : (k : ℕ) (a : A) → steps other_busy other_step k (g a) ≡ g (steps busy step k a)
  unfolding steps
  steps-maps zero a = refl
  steps-maps (suc k) a = rw (same_busy a, steps) (elim-maps (busy a) _ _ _ _ (rw (same_step a) (steps-maps k (step a))) refl)

  settle-maps : (a : A) → settle other_busy other_step other_weight (g a) ≡ g (settle busy step weight_of a)
  unfolding settle
  settle-maps a = rw (same_weight a) (steps-maps (weight_of a) a)

-- ## The run

pub start-maps : {S T : Type 0} (change : S → T) (setup : Setup) (epoch began : ℕ) → start setup epoch began ≡ map_net change (start setup epoch began)
unfolding start map_net quiet_host map_host
start-maps change setup epoch began = rw (map-maps (λ app. quiet_host) (map_host change) setup.config.app) refl

module _ {S T : Type 0} (change : S → T) where
  pub moment-maps : (net : Net S) → (map_net change net).moment ≡ net.moment
  unfolding map_net
  moment-maps net = refl

module _ {S T : Type 0} (change : S → T) (setup : Setup) (form : Form S) (other : Form T) (like : IsSimulation change setup.config form other) where
  delivered-maps : (net : Net S) → delivered other setup (map_net change net) ≡ map_net change (delivered form setup net)
  unfolding delivered
  delivered-maps net =
      settle-maps (map_net change) is_busy (deliver_first form setup) weight is_busy (deliver_first other setup) weight
      (is_busy-maps change) (deliver_first-maps change setup form other like) (weight-maps change) net

  pub after_step-maps : (net : Net S) (step : Step) → after_step other setup (map_net change net) step ≡ map_net change (after_step form setup net step)
  unfolding after_step map_net
  after_step-maps net step = rw (stepped-maps change setup form other like step (record net { sent = [] })) (delivered-maps _)

  pub chained-maps : (epoch began : ℕ) (journal : List Step) → chained other setup epoch began journal ≡ map_net change (chained form setup epoch began journal)
  unfolding chained chained_from
  chained-maps epoch began journal =
      rw (start-maps change setup epoch began) (fold-maps (map_net change) (after_step form setup) (after_step other setup) after_step-maps journal (start setup epoch began))

  all_sent_from-maps : (journal : List Step) (net : Net S) → all_sent_from other setup (map_net change net) journal ≡ all_sent_from form setup net journal
  unfolding all_sent_from map_net
  all_sent_from-maps [] net = refl
  all_sent_from-maps (step ∷ later) net = rw (after_step-maps net step, all_sent_from-maps later (after_step form setup net step)) refl

  pub all_sent-maps : (epoch began : ℕ) (journal : List Step) → all_sent other setup epoch began journal ≡ all_sent form setup epoch began journal
  unfolding all_sent
  all_sent-maps epoch began journal = rw (start-maps change setup epoch began) (all_sent_from-maps journal (start setup epoch began))
