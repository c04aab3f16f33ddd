-- A net whose sessions are changed: what is counted in it.
use Rattle.std.proofs.Common.{refl, sym, ◌∙◌}
use Rattle.std.specs.Prelude.{◌≡◌, ℕ, ◌+◌, List, [], ◌∷◌, Option, None, Some, is_some, length, map, option_map, sum_by}
use Rattle.std.proofs.lemmas.List.{length-map}
use Rattle.sc_forms.proofs.LawfulMaps.{lawful-maps, lawful_back}
use Rattle.sc_forms.proofs.ListMaps.{is_some-maps, option_map_or-maps, if-maps, map-maps, list_all-maps, flat_map-same, sum_by-maps}
use Rattle.sc_forms.proofs.NetMaps.{obeyed-maps}
use Rattle.sc_forms.proofs.RunMaps.{start-maps, moment-maps, after_step-maps, chained-maps, all_sent-maps}
use Rattle.sc_forms.proofs.StepMaps.{live_at-maps, outcome_by-maps, turned_at-maps, turn_of-maps}
use Rattle.sc_forms.specs.Simulations.{map_live, map_host, map_net, IsSimulation}
use Rattle.sc_hosts.specs.EventLists.{waiting_in, after_sending as opened, opened_first, opened_by, before_end, queued_by, queued_from, events_of_session as queued, waiting, purged_by, purged_from, dropped_events as purged, live_from, listing_of}
use Rattle.sc_hosts.specs.Runs.{start, after_step, net_from as chained, live_count, waiting_count, is_idle_host, is_idle, Epoch, net_of, IsLawfulAfter, AreLawful, all_sent_by}
use Rattle.sc_hosts.specs.Sessions.{Form, Turn}
use Rattle.sc_hosts.specs.Steps.{live_at, turn_of}
use Rattle.sc_hosts.specs.Transacting.{is_same_app}
use Rattle.sc_parts.specs.declared.setup.Setup.{Setup}
use Rattle.sc_state.specs.Hosts.{Host}
use Rattle.sc_state.specs.declared.host.Live.{Live}
use Rattle.sc_state.specs.declared.net.Net.{Net}
use Rattle.sc_state.specs.declared.orders.Outcome.{Outcome}
use Rattle.sc_state.specs.declared.queue.Waiting.{Waiting}
use Rattle.sc_terms.specs.declared.calls.CallRecord.{CallRecord}
use Rattle.sc_terms.specs.declared.calls.End.{End}
use Rattle.sc_terms.specs.declared.steps.Step.TheVariants as steps
use Rattle.sc_terms.specs.declared.steps.Step.{Step}
use Rattle.sc_value.specs.declared.ids.AppId.{AppId}

-- ## In a net

module _ {S T : Type 0} (change : S → T) where
  pub live_count-maps : (net : Net S) → live_count (map_net change net) ≡ live_count net
  unfolding live_count map_net map_host
  live_count-maps net = sum_by-maps (map_host change) _ _ (λ host. length-map host.sessions (map_live change)) net.hosts

  waiting_at-maps : (host : Host S) → sum_by (λ live. length live.inbox) (map_host change host).sessions ≡ sum_by (λ live. length live.inbox) host.sessions
  unfolding map_host map_live
  waiting_at-maps host = sum_by-maps (map_live change) _ _ (λ live. refl) host.sessions

  pub waiting_count-maps : (net : Net S) → waiting_count (map_net change net) ≡ waiting_count net
  unfolding waiting_count map_net
  waiting_count-maps net = sum_by-maps (map_host change) _ _ waiting_at-maps net.hosts

  is_idle_host-maps : (host : Host S) → is_idle_host (map_host change host) ≡ is_idle_host host
  unfolding is_idle_host map_host
  is_idle_host-maps host = rw (length-map host.sessions (map_live change)) refl

  pub is_idle-maps : (net : Net S) → is_idle (map_net change net) ≡ is_idle net
  unfolding is_idle map_net
  is_idle-maps net = list_all-maps (map_host change) is_idle_host is_idle_host is_idle_host-maps net.hosts

  waiting_in-maps : (app : AppId) (net : Net S) → waiting_in app (map_net change net) ≡ waiting_in app net
  unfolding waiting_in map_live
  waiting_in-maps app net = rw (live_at-maps change app net, option_map_or-maps) refl

  lives_at-maps : (app : AppId) (net : Net S) → is_some (live_at app (map_net change net)) ≡ is_some (live_at app net)
  lives_at-maps app net = rw (live_at-maps change app net) (is_some-maps (map_live change) (live_at app net))

  count-maps : (net : Net S) → (map_net change net).count ≡ net.count
  unfolding map_net
  count-maps net = refl

  named-maps : (number : ℕ) (lives : List (Live S))
      → ◌≡◌ {A = List AppId} (map (λ live. record { host = number; serial = live.serial }) (map (map_live change) lives)) (map (λ live. record { host = number; serial = live.serial }) lives)
  unfolding map_live
  named-maps number lives = map-maps (map_live change) _ lives

  live_from-maps : (hosts : List (Host S)) (number : ℕ) → live_from number (map (map_host change) hosts) ≡ live_from number hosts
  unfolding live_from map_host
  live_from-maps [] number = refl
  live_from-maps (host ∷ hosts) number = rw (named-maps number host.sessions, live_from-maps hosts (number + 1)) refl

  live_at_hosts-maps : (net : Net S) → live_from 0 (map_net change net).hosts ≡ live_from 0 net.hosts
  unfolding map_net
  live_at_hosts-maps net = live_from-maps net.hosts 0

-- ## As a turn is about to end its session

module _ {S T : Type 0} (change : S → T) (setup : Setup) (form : Form S) (other : Form T) (like : IsSimulation change setup.config form other) where
  opened-maps : (app : AppId) (turn : Turn) (done : Outcome) (net : Net S) → opened other setup app turn done (map_net change net) ≡ map_net change (opened form setup app turn done net)
  unfolding opened map_net
  opened-maps app turn done net = rw (turned_at-maps change setup form other like app net.moment turn done net) (obeyed-maps change setup app done.orders _)

  opened_first-maps : (app : AppId) (live : Live S) (waiting : Option Waiting) (now : ℕ) (made : List CallRecord) (end : End) (net : Net S)
      → opened_first other setup app (map_live change live) waiting now made end (map_net change net) ≡ map_net change (opened_first form setup app live waiting now made end net)
  unfolding opened_first map_live
  opened_first-maps app live None now made end net = refl
  opened_first-maps app live (Some waiting) now made end net =
      rw (turn_of-maps change net app waiting now made end, outcome_by-maps change setup form other like live.session (turn_of net app waiting now made end)) (opened-maps app _ _ net)

  opened_by-maps : (app : AppId) (live : Option (Live S)) (now : ℕ) (made : List CallRecord) (end : End) (net : Net S)
      → opened_by other setup app (option_map (map_live change) live) now made end (map_net change net) ≡ map_net change (opened_by form setup app live now made end net)
  unfolding opened_by map_live
  opened_by-maps app None now made end net = refl
  opened_by-maps app (Some live) now made end net = opened_first-maps app live _ now made end net

  opened_at-maps : (app : AppId) (now : ℕ) (made : List CallRecord) (end : End) (net : Net S)
      → opened_by other setup app (live_at app (map_net change net)) now made end (record (map_net change net) { sent = [] })
      ≡ map_net change (opened_by form setup app (live_at app net) now made end (record net { sent = [] }))
  unfolding map_net
  opened_at-maps app now made end net = rw (live_at-maps change app net) (opened_by-maps app (live_at app net) now made end (record net { sent = [] }))

  before_end-maps : (app : AppId) (net : Net S) (step : Step) → before_end other setup app (map_net change net) step ≡ map_net change (before_end form setup app net step)
  unfolding before_end
  before_end-maps app net (steps.In from message) = refl
  before_end-maps app net (steps.Bad from bad) = refl
  before_end-maps app net (steps.Lost place) = refl
  before_end-maps app net (steps.Tick now) = refl
  before_end-maps app net (steps.Turn end own event now made) = if-maps (map_net change) (is_same_app app own) (opened_at-maps own now made end net) refl
  before_end-maps app net (steps.Withdraw own) = refl

  queued_by-maps : (app : AppId) (net : Net S) (step : Step) → queued_by other setup app (map_net change net) step ≡ queued_by form setup app net step
  unfolding queued_by
  queued_by-maps app net step =
      let after : Net S = after_step form setup net step in
      let before : Net S = before_end form setup app net step in
      rw (after_step-maps change setup form other like net step, before_end-maps app net step, count-maps change net, lives_at-maps change app after, waiting_in-maps change app after, waiting_in-maps change app before) refl

  purged_by-maps : (app : AppId) (net : Net S) (step : Step) → purged_by other setup app (map_net change net) step ≡ purged_by form setup app net step
  unfolding purged_by
  purged_by-maps app net step =
      let after : Net S = after_step form setup net step in
      let before : Net S = before_end form setup app net step in
      rw (after_step-maps change setup form other like net step, before_end-maps app net step, lives_at-maps change app after, waiting_in-maps change app before) refl

-- ## Over a journal

module _ {S T : Type 0} (change : S → T) (setup : Setup) (form : Form S) (other : Form T) (like : IsSimulation change setup.config form other) where
  queued_from-maps : (journal : List Step) (app : AppId) (net : Net S) → queued_from other setup app (map_net change net) journal ≡ queued_from form setup app net journal
  unfolding queued_from
  queued_from-maps [] app net = refl
  queued_from-maps (step ∷ later) app net =
      rw (queued_by-maps change setup form other like app net step, after_step-maps change setup form other like net step, queued_from-maps later app (after_step form setup net step)) refl

  pub queued-maps : (epoch began : ℕ) (app : AppId) (journal : List Step) → queued other setup epoch began app journal ≡ queued form setup epoch began app journal
  unfolding queued
  queued-maps epoch began app journal = rw (start-maps change setup epoch began) (queued_from-maps journal app (start setup epoch began))

  pub waiting-maps : (epoch began : ℕ) (app : AppId) (journal : List Step) → waiting other setup epoch began app journal ≡ waiting form setup epoch began app journal
  unfolding waiting
  waiting-maps epoch began app journal = rw (chained-maps change setup form other like epoch began journal) (waiting_in-maps change app (chained form setup epoch began journal))

  purged_from-maps : (journal : List Step) (app : AppId) (net : Net S) → purged_from other setup app (map_net change net) journal ≡ purged_from form setup app net journal
  unfolding purged_from
  purged_from-maps [] app net = refl
  purged_from-maps (step ∷ later) app net =
      rw (purged_by-maps change setup form other like app net step, after_step-maps change setup form other like net step, purged_from-maps later app (after_step form setup net step)) refl

  pub purged-maps : (epoch began : ℕ) (app : AppId) (journal : List Step) → purged other setup epoch began app journal ≡ purged form setup epoch began app journal
  unfolding purged
  purged-maps epoch began app journal = rw (start-maps change setup epoch began) (purged_from-maps journal app (start setup epoch began))

  pub listing_of-maps : (epoch began : ℕ) (journal : List Step) → listing_of other setup epoch began journal ≡ listing_of form setup epoch began journal
  unfolding listing_of
  listing_of-maps epoch began journal =
      rw (chained-maps change setup form other like epoch began journal, live_at_hosts-maps change (chained form setup epoch began journal), waiting_count-maps change (chained form setup epoch began journal)) refl

  -- ## Epochs

  pub all_sent_by-maps : (epochs : List Epoch) → all_sent_by other setup epochs ≡ all_sent_by form setup epochs
  unfolding all_sent_by
  all_sent_by-maps epochs = flat_map-same _ _ (λ epoch. all_sent-maps change setup form other like epoch.number epoch.began epoch.journal) epochs

  idle_of-maps : (epoch : Epoch) → is_idle (net_of other setup epoch) ≡ is_idle (net_of form setup epoch)
  unfolding net_of
  idle_of-maps epoch = rw (chained-maps change setup form other like epoch.number epoch.began epoch.journal) (is_idle-maps change (chained form setup epoch.number epoch.began epoch.journal))

  moment_of-maps : (epoch : Epoch) → (net_of other setup epoch).moment ≡ (net_of form setup epoch).moment
  unfolding net_of
  moment_of-maps epoch = rw (chained-maps change setup form other like epoch.number epoch.began epoch.journal) (moment-maps change (chained form setup epoch.number epoch.began epoch.journal))

  lawful_after : (epochs : List Epoch) (number began : ℕ) → IsLawfulAfter form setup number began epochs → IsLawfulAfter other setup number began epochs
  unfolding IsLawfulAfter
  lawful_after [] number began lawful = tt
  lawful_after (epoch ∷ []) number began lawful = (lawful.0, lawful.1, lawful-maps change setup form other like number began epoch.journal lawful.2)
  lawful_after (epoch ∷ next ∷ later) number began lawful = (
    lawful.0,
    lawful.1,
    lawful-maps change setup form other like number began epoch.journal lawful.2,
    idle_of-maps epoch ∙ lawful.3,
    rw (moment_of-maps epoch) (lawful_after (next ∷ later) (number + 1) (net_of form setup epoch).moment lawful.4),
  )

  lawful_after_back : (epochs : List Epoch) (number began : ℕ) → IsLawfulAfter other setup number began epochs → IsLawfulAfter form setup number began epochs
  unfolding IsLawfulAfter
  lawful_after_back [] number began lawful = tt
  lawful_after_back (epoch ∷ []) number began lawful = (lawful.0, lawful.1, lawful_back change setup form other like number began epoch.journal lawful.2)
  lawful_after_back (epoch ∷ next ∷ later) number began lawful = (
    lawful.0,
    lawful.1,
    lawful_back change setup form other like number began epoch.journal lawful.2,
    sym (idle_of-maps epoch) ∙ lawful.3,
    lawful_after_back (next ∷ later) (number + 1) (net_of form setup epoch).moment (rw (moment_of-maps epoch) at lawful.4),
  )

  pub are_lawful-maps : (epochs : List Epoch) → AreLawful form setup epochs → AreLawful other setup epochs
  unfolding AreLawful
  are_lawful-maps epochs lawful = lawful_after epochs 0 0 lawful

  pub are_lawful_back : (epochs : List Epoch) → AreLawful other setup epochs → AreLawful form setup epochs
  unfolding AreLawful
  are_lawful_back epochs lawful = lawful_after_back epochs 0 0 lawful
