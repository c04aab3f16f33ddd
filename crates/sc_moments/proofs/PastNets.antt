-- A step leaves a net whose sessions have had their first events since a moment that is not after its
-- own: a message, a lost place, a turn or a withdrawal at the moment that there is, and a tick at its own.
use Rattle.std.proofs.Common.{◌≡◌, ◌≤◌, ℕ, Some, List, subst}
use Rattle.sc_value.specs.declared.ids.AppId.{AppId}
use Rattle.sc_value.specs.declared.message.Sent.{Sent}
use Rattle.sc_terms.specs.declared.steps.Step.{Step}
use Rattle.sc_terms.specs.declared.steps.Step.TheVariants as steps
use Rattle.sc_parts.specs.declared.setup.Setup.{Setup}
use Rattle.sc_state.specs.Hosts.{Host}
use Rattle.sc_state.specs.declared.host.Live.{Live}
use Rattle.sc_state.specs.declared.net.Entry.{Entry}
use Rattle.sc_state.specs.declared.net.Net.{Net}
use Rattle.sc_hosts.specs.Nets.{host_at, change_host}
use Rattle.sc_hosts.specs.Runs.{after_delivery as delivered}
use Rattle.sc_hosts.specs.Sessions.{Form}
use Rattle.sc_hosts.specs.Steps.{live_at, before_delivery as stepped}
use Rattle.sc_moments.proofs.PastHosts.{HostsPast, FoundHost, StaysPast, change_nth-past, nth-past, live_of-past, found-past, past-hosts, past-turns}
use Rattle.sc_moments.specs.Moments.{moment_of}
use Rattle.sc_walks.proofs.WalkNets.{delivered-walks}
use Rattle.sc_walks.proofs.WalkSteps.{arrived-walks, bad_by-walks, lost-walks, fired-walks}
use Rattle.sc_walks.proofs.WalkTurns.{turns-walks, withdrawn-walks}
use Rattle.sc_walks.specs.Walks.{NetLaws}

-- neither the net's moment nor that since when an event has been first is after this one
unfoldable pub Early : {S : Type 0} → ℕ → Net S → Type 0
Early most net = (net.moment ≤ most) × HostsPast most net.hosts

module _ {S : Type 0} (most : ℕ) where
  -- a live session of such a net
  pub live_at-early : (app : AppId) (net : Net S) (live : Live S) → live_at app net ≡ Some live → Early most net → live.since ≤ most
  unfolding Early
  live_at-early app net live e early = found-past most (live_at app net) live e (live_of-past most _ app (nth-past most net.hosts app.host early.1))

  abbrev StaysEarly : Net S → Net S → Type 0
  StaysEarly net changed = Early most net → Early most changed

  posts-early : (net : Net S) (wire : List Entry) (sent : List Sent) → StaysEarly net (record net { wire = wire; sent = sent })
  unfolding Early
  posts-early net wire sent early = early

  places-early : (number count : ℕ) (host changed : Host S) (net : Net S) → host_at number net ≡ Some host → StaysPast most number net.moment net.count host count changed
      → StaysEarly net (record (change_host number (λ was. changed) net) { count = count })
  unfolding Early FoundHost
  places-early number count host changed net is keeps early =
      (early.0, change_nth-past most net.hosts number (λ was. changed) (λ was any. keeps early.0 (subst (FoundHost most) is (nth-past most net.hosts number early.1))) early.1)

  early-nets : NetLaws (StaysPast most) StaysEarly
  early-nets = record {
    same = λ net early. early;
    after = λ x y z p q early. q (p early);
    posts = posts-early;
    places = places-early;
  }

  pub delivered-early : (form : Form S) (setup : Setup) (net : Net S) → Early most net → Early most (delivered form setup net)
  delivered-early form setup net = delivered-walks (StaysPast most) StaysEarly (past-hosts most) early-nets form tt setup net

  pub stepped-early : (form : Form S) (setup : Setup) (step : Step) (net : Net S) → Early most (record net { moment = moment_of net.moment step }) → Early most (stepped form setup step net)
  unfolding stepped moment_of
  stepped-early form setup (steps.In from message) net early = arrived-walks (StaysPast most) StaysEarly (past-hosts most) early-nets form tt setup from message net early
  stepped-early form setup (steps.Bad from bad) net early = bad_by-walks (StaysPast most) StaysEarly (past-hosts most) early-nets setup.config from bad.heads net early
  stepped-early form setup (steps.Lost place) net early = lost-walks (StaysPast most) StaysEarly (past-hosts most) early-nets setup.config place net early
  stepped-early form setup (steps.Tick now) net early = fired-walks (StaysPast most) StaysEarly (past-hosts most) early-nets form setup.config now net early
  stepped-early form setup (steps.Turn end app event now made) net early = turns-walks (StaysPast most) StaysEarly (past-hosts most) early-nets (past-turns most) form setup app _ now made end net early
  stepped-early form setup (steps.Withdraw app) net early = withdrawn-walks (StaysPast most) StaysEarly (past-hosts most) early-nets (past-turns most) form setup app _ net early
