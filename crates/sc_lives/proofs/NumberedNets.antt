-- A step leaves the serials of all hosts rising.
use Rattle.std.proofs.Common.{ℕ, zero, suc, List, [], ◌∷◌, All, slice_get, subst}
use Rattle.std.proofs.lemmas.List.Elements.{All-head, All-tail}
use Rattle.sc_value.specs.declared.ids.AppId.{AppId}
use Rattle.sc_terms.specs.declared.steps.Step.{Step}
use Rattle.sc_parts.specs.declared.setup.Setup.{Setup}
use Rattle.sc_state.specs.Hosts.{Host}
use Rattle.sc_state.specs.declared.net.Net.{Net}
use Rattle.sc_state.specs.declared.orders.Order.{Order}
use Rattle.sc_hosts.specs.Nets.{host_at, change_host, after_orders as obeyed}
use Rattle.sc_hosts.specs.Runs.{after_delivery as delivered, after_step}
use Rattle.sc_hosts.specs.Sessions.{Form}
use Rattle.sc_hosts.specs.Steps.{before_delivery as stepped}
use Rattle.sc_lives.proofs.NumberedHosts.{StaysNumbered, numbered-hosts, numbered-turns}
use Rattle.sc_lives.proofs.Settling.{change_nth-holds}
use Rattle.sc_lives.specs.Numbers.{IsNumbered, AreNumbered, IsNumberedAt}
use Rattle.sc_walks.proofs.WalkNets.{obeyed-walks, delivered-walks}
use Rattle.sc_walks.proofs.WalkTurns.{stepped-walks, after_step-walks}
use Rattle.sc_walks.specs.Walks.{NetLaws}

-- one host is changed
pub change_host-numbered : {S : Type 0} (number : ℕ) (change : Host S → Host S) (net : Net S) → ((host : Host S) → IsNumbered host → IsNumbered (change host))
    → AreNumbered net → AreNumbered (change_host number change net)
change_host-numbered number change net keeps numbered = change_nth-holds IsNumbered number change keeps net.hosts numbered

-- the host of a number, where there is one
among-numbered : {S : Type 0} (number : ℕ) (hosts : List (Host S)) → All IsNumbered hosts → IsNumberedAt (slice_get hosts number)
among-numbered number [] numbered = tt
among-numbered zero (host ∷ hosts) numbered = All-head IsNumbered host hosts numbered
among-numbered (suc number) (host ∷ hosts) numbered = among-numbered number hosts (All-tail IsNumbered host hosts numbered)

pub host_at-numbered : {S : Type 0} (number : ℕ) (net : Net S) → AreNumbered net → IsNumberedAt (host_at number net)
host_at-numbered number net numbered = among-numbered number net.hosts numbered

module _ {S : Type 0} where
  abbrev pub StayNumbered : Net S → Net S → Type 0
  StayNumbered net changed = AreNumbered net → AreNumbered changed

  pub numbered-nets : NetLaws StaysNumbered StayNumbered
  numbered-nets = record {
    same = λ net numbered. numbered;
    after = λ x y z p q numbered. q (p numbered);
    posts = λ net wire sent numbered. numbered;
    places = λ number count host changed net is keeps numbered.
        change_host-numbered number (λ was. changed) net (λ was any. keeps (subst IsNumberedAt is (host_at-numbered number net numbered))) numbered;
  }

  pub obeyed-numbered : (setup : Setup) (app : AppId) (given : List Order) (net : Net S) → AreNumbered net → AreNumbered (obeyed setup app given net)
  obeyed-numbered setup app given net = obeyed-walks StaysNumbered StayNumbered numbered-hosts numbered-nets setup app given net

  pub delivered-numbered : (form : Form S) (setup : Setup) (net : Net S) → AreNumbered net → AreNumbered (delivered form setup net)
  delivered-numbered form setup net = delivered-walks StaysNumbered StayNumbered numbered-hosts numbered-nets form tt setup net

  pub stepped-numbered : (form : Form S) (setup : Setup) (step : Step) (net : Net S) → AreNumbered net → AreNumbered (stepped form setup step net)
  stepped-numbered form setup step net =
      stepped-walks StaysNumbered StayNumbered numbered-hosts numbered-nets numbered-turns (λ net now numbered. numbered) form tt setup step net

  -- with all that it makes hosts deliver
  pub after_step-numbered : (form : Form S) (setup : Setup) (net : Net S) (step : Step) → AreNumbered net → AreNumbered (after_step form setup net step)
  after_step-numbered form setup net step =
      after_step-walks StaysNumbered StayNumbered numbered-hosts numbered-nets numbered-turns (λ net now numbered. numbered) form tt setup net step
