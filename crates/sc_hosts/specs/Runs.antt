-- The run of a journal: what its steps make of hosts without sessions, from a first moment on;
-- where its steps are allowed; and what it sends. This project's own.
use Rattle.std.specs.Prelude.{◌≡◌, ◌≤◌, ◌<◌, ℕ, ◌+◌, ◌==◌, ◌^◌, List, [], ◌∷◌, ◌++◌, Bool, true, ◌&&◌, Option, None, Some, is_some, length, map, filter, slice_get, sum_by}
use Rattle.std.specs.List.{list_all, flat_map, fold}
use Rattle.sc_value.specs.declared.ids.AppId.{AppId}
use Rattle.sc_value.specs.declared.ids.Place.{Place}
use Rattle.sc_value.specs.declared.message.Message.{Message}
use Rattle.sc_value.specs.declared.message.Message.TheVariants as messages
use Rattle.sc_value.specs.declared.message.Sent.{Sent}
use Rattle.sc_terms.specs.declared.calls.CallRecord.{CallRecord}
use Rattle.sc_terms.specs.declared.calls.End.{End}
use Rattle.sc_terms.specs.declared.steps.Step.{Step}
use Rattle.sc_terms.specs.declared.steps.Step.TheVariants as steps
use Rattle.sc_parts.specs.declared.setup.Setup.{Setup}
use Rattle.sc_state.specs.Hosts.{Host}
use Rattle.sc_state.specs.declared.host.Live.{Live}
use Rattle.sc_state.specs.declared.net.Net.{Net}
use Rattle.sc_state.specs.declared.queue.Waiting.{Waiting}
use Rattle.sc_state.specs.declared.working.Prepared.{Prepared}
use Rattle.sc_model.specs.Settings.{Charters, charters_of}
use Rattle.sc_hosts.specs.Bringing.{Allowed}
use Rattle.sc_hosts.specs.Nets.{deliver_first, host_at, is_busy, weight}
use Rattle.sc_hosts.specs.Preparing.{prepared_session}
use Rattle.sc_hosts.specs.Sessions.{Form}
use Rattle.sc_hosts.specs.Settle.{settle}
use Rattle.sc_hosts.specs.Steps.{before_delivery, live_at, ringing_at}
use Rattle.sc_value.specs.Places.{same_place}
use Rattle.sc_hosts.specs.Transacting.{state_of_client, state_of_server, is_over}

-- ## The run

-- a host as an epoch begins
unfoldable pub quiet_host : {S : Type 0} → Host S
quiet_host = record { clients = []; servers = []; sessions = []; last = 0 }

-- hosts without sessions, one for each application, of this epoch at this moment
unfoldable pub start : {S : Type 0} → Setup → ℕ → ℕ → Net S
start setup epoch began =
    record {
      hosts = map (λ app. quiet_host) setup.config.app;
      wire = [];
      epoch = epoch;
      moment = began;
      count = 0;
      sent = [];
    }

-- the wire is emptied
unfoldable pub after_delivery : {S : Type 0} → Form S → Setup → Net S → Net S
after_delivery form setup net = settle is_busy (deliver_first form setup) weight net

-- a step begins with nothing sent, and ends once the wire is empty
unfoldable pub after_step : {S : Type 0} → Form S → Setup → Net S → Step → Net S
after_step form setup net step =
    after_delivery form setup (before_delivery form setup step (record net { sent = [] }))

-- the net after these steps, from this one on
unfoldable pub chained_from : {S : Type 0} → Form S → Setup → Net S → List Step → Net S
chained_from form setup net journal = fold (after_step form setup) net journal

-- the run of a journal of this epoch, begun at this moment
unfoldable pub net_from : {S : Type 0} → Form S → Setup → ℕ → ℕ → List Step → Net S
net_from form setup epoch began journal = chained_from form setup (start setup epoch began) journal

-- ## What it sends

-- what these steps send outside, from this net on
unfoldable pub all_sent_from : {S : Type 0} → Form S → Setup → Net S → List Step → List Sent
all_sent_from form setup net [] = []
all_sent_from form setup net (step ∷ steps) =
    (after_step form setup net step).sent
    ++ all_sent_from form setup (after_step form setup net step) steps

-- all that is sent outside, in order
unfoldable pub all_sent : {S : Type 0} → Form S → Setup → ℕ → ℕ → List Step → List Sent
all_sent form setup epoch began journal = all_sent_from form setup (start setup epoch began) journal

-- what is sent to one place
unfoldable pub sent_to : Place → List Sent → List Message
sent_to place sent = map (λ s. s.message) (filter (λ s. same_place place s.place) sent)

-- ## Where a step is allowed

-- the turn that a live session may take: of its first event, at a moment since when that is first,
-- with what the charters of its application allow on what is shown
unfoldable pub prepared_turn : {S : Type 0} → Form S → Setup → Net S → AppId → Live S → Waiting → ℕ
    → Prepared
prepared_turn form setup net app live waiting now =
    prepared_session setup.config (ringing_at app (host_at app.host net)) (form.read live.session)
    waiting
    now

-- what the charters of an application allow; where there is no application, nothing
unfoldable pub AllowedBy : Option Charters → Prepared → List CallRecord → End → Type 0
AllowedBy None prepared_turn made end = ⊥
AllowedBy (Some charters) prepared_turn made end =
    Allowed charters.0 charters.1 prepared_turn.view prepared_turn.event made end

-- a turn that may be taken: the session lives, the event is its first, the moment is between that
-- at which the event became first and the net's, and the charters allow what was made
pub record MayTurn {S : Type 0} (form : Form S) (setup : Setup) (net : Net S) (app : AppId)
    (event now : ℕ) (made : List CallRecord) (end : End) : Type 0 where
  pub live : Live S
  pub live_is : live_at app net ≡ Some live
  pub waiting : Waiting
  pub waiting_is : slice_get live.inbox 0 ≡ Some waiting
  pub event_is : waiting.number ≡ event
  pub since : live.since ≤ now
  pub until : now ≤ net.moment
  pub allowed : ∥ AllowedBy (charters_of setup app.host)
      (prepared_turn form setup net app live waiting now)
      made end ∥₁

-- a message that comes has a Via
unfoldable pub HasVia : Message → Type 0
HasVia (messages.Request request) = 0 < length request.head.via
HasVia (messages.Response response) = 0 < length response.head.via

-- a step may be taken of this net: moments don't go back and are 2^63 at most, a withdrawn session
-- lives
unfoldable pub IsAllowed : {S : Type 0} → Form S → Setup → Net S → Step → Type 0
IsAllowed form setup net (steps.In from message) = HasVia message
IsAllowed form setup net (steps.Bad from bad) = Unit {0}
IsAllowed form setup net (steps.Lost place) = Unit {0}
IsAllowed form setup net (steps.Tick now) = (net.moment ≤ now) × (now ≤ 2 ^ 63)
IsAllowed form setup net (steps.Turn end app event now made) =
    MayTurn form setup net app event now made end
IsAllowed form setup net (steps.Withdraw app) = is_some (live_at app net) ≡ true

-- each step is allowed where it is taken, from this net on
unfoldable pub IsLawfulFrom : {S : Type 0} → Form S → Setup → Net S → List Step → Type 0
IsLawfulFrom form setup net [] = Unit {0}
IsLawfulFrom form setup net (step ∷ steps) =
    IsAllowed form setup net step × IsLawfulFrom form setup (after_step form setup net step) steps

-- each step is allowed where it is taken
unfoldable pub IsLawful : {S : Type 0} → Form S → Setup → ℕ → ℕ → List Step → Type 0
IsLawful form setup epoch began journal = IsLawfulFrom form setup (start setup epoch began) journal

-- ## Counts, and epochs

-- how many application sessions live
unfoldable pub live_count : {S : Type 0} → Net S → ℕ
live_count net = sum_by (λ host. length host.sessions) net.hosts

-- how many events wait, in all inboxes
unfoldable pub waiting_count : {S : Type 0} → Net S → ℕ
waiting_count net = sum_by (λ host. sum_by (λ live. length live.inbox) host.sessions) net.hosts

-- no session lives at this host, and no transaction
unfoldable pub is_idle_host : {S : Type 0} → Host S → Bool
is_idle_host host =
    length host.sessions == 0 && list_all (λ client. is_over (state_of_client client)) host.clients
    && list_all (λ server. is_over (state_of_server server)) host.servers

-- no session lives, and no transaction
unfoldable pub is_idle : {S : Type 0} → Net S → Bool
is_idle net = list_all is_idle_host net.hosts

-- a journal with the number of its epoch and its beginning
pub record Epoch : Type 0 where
  pub number : ℕ
  pub began : ℕ
  pub journal : List Step

-- the net after an epoch's journal
unfoldable pub net_of : {S : Type 0} → Form S → Setup → Epoch → Net S
net_of form setup epoch = net_from form setup epoch.number epoch.began epoch.journal

-- epochs follow each other: each begins at the last moment of the one before, which leaves an idle
-- net
unfoldable pub IsLawfulAfter : {S : Type 0} → Form S → Setup → ℕ → ℕ → List Epoch → Type 0
IsLawfulAfter form setup number began [] = Unit {0}
IsLawfulAfter form setup number began (epoch ∷ []) =
    (epoch.number ≡ number) × (epoch.began ≡ began) × IsLawful form setup number began epoch.journal
IsLawfulAfter form setup number began (epoch ∷ next ∷ later) =
    (epoch.number ≡ number) × (epoch.began ≡ began) × IsLawful form setup number began epoch.journal
    × (is_idle (net_of form setup epoch) ≡ true)
    × IsLawfulAfter form setup (number + 1) (net_of form setup epoch).moment (next ∷ later)

-- the epochs of a run: the first has number 0 and begins at moment 0
unfoldable pub AreLawful : {S : Type 0} → Form S → Setup → List Epoch → Type 0
AreLawful form setup epochs = IsLawfulAfter form setup 0 0 epochs

-- all that the epochs send, one after the other
unfoldable pub all_sent_by : {S : Type 0} → Form S → Setup → List Epoch → List Sent
all_sent_by form setup epochs =
    flat_map (λ epoch. all_sent form setup epoch.number epoch.began epoch.journal) epochs
