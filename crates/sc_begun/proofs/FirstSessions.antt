-- After a journal it is so of each live session, where it is so of each that begins with a request without To tag, and stays so by
-- its turns.
use Rattle.std.proofs.Common.{◌≡◌, ℕ, zero, suc, ◌+◌, ◌++◌, Bool, true, false, Option, None, Some, List, [], ◌∷◌, refl}
use Rattle.std.specs.Prelude.{cond, is_some, map, option_and_then, slice_get}
use Rattle.sc_value.specs.Lists.{change_first, change_nth, remove_first}
use Rattle.sc_value.specs.declared.ids.AppId.{AppId}
use Rattle.sc_value.specs.declared.message.Request.{Request}
use Rattle.sc_terms.specs.declared.calls.CallRecord.{CallRecord}
use Rattle.sc_terms.specs.declared.calls.End.{End}
use Rattle.sc_terms.specs.declared.settings.AppEntry.{AppEntry}
use Rattle.sc_terms.specs.declared.settings.Config.{Config}
use Rattle.sc_terms.specs.declared.steps.Step.{Step}
use Rattle.sc_terms.specs.declared.steps.Step.TheVariants as steps
use Rattle.sc_parts.specs.declared.setup.Setup.{Setup}
use Rattle.sc_state.specs.Hosts.{Host}
use Rattle.sc_state.specs.declared.host.Live.{Live}
use Rattle.sc_state.specs.declared.net.Net.{Net}
use Rattle.sc_state.specs.declared.net.Note.{Note}
use Rattle.sc_state.specs.declared.orders.Outcome.{Outcome}
use Rattle.sc_state.specs.declared.queue.Waiting.{Waiting}
use Rattle.sc_state.specs.declared.session.Session.{Session}
use Rattle.sc_hosts.specs.Inboxes.{is_live, live_in, without_answer as quiet, queue, with_event}
use Rattle.sc_hosts.specs.Taking.{begun_live}
use Rattle.sc_hosts.specs.Ticks.{mark_fired}
use Rattle.sc_model.specs.Timers.{DueEntry}
use Rattle.sc_state.specs.declared.queue.Queued.{Queued}
use Rattle.sc_hosts.specs.Nets.{host_at}
use Rattle.sc_hosts.specs.Runs.{after_step, net_from as chained, chained_from, quiet_host, start}
use Rattle.sc_hosts.specs.Sessions.{Form, Turn}
use Rattle.sc_hosts.specs.Steps.{closed_turn, without_application as invalidated, live_at, before_delivery as stepped, net_after_turn as turned, turned_live, turns, turns_first, withdrawn, without_live}
use Rattle.sc_hosts.specs.Transacting.{without_ended}
use Rattle.sc_lasting.specs.Lasting.{All}
use Rattle.sc_lasting.proofs.Parts.{all-append, all-first, all-found, all-removed}
use Rattle.sc_lasting.proofs.Shared.{all-at}
use Rattle.sc_walks.specs.Walks.{HostLaws, NetLaws}
use Rattle.sc_walks.proofs.WalkNets.{obeyed-walks}
use Rattle.sc_walks.proofs.WalkSteps.{bad_by-walks, lost-walks, ticked-walks, with_ready-walks}
use Rattle.sc_begun.specs.Begun.{IsFirst}
use Rattle.sc_begun.proofs.FirstNets.{arrived-keeps, delivered-keeps}

-- ## Lists

all-nth : {A : Type 0} (P : A → Type 0) (place : ℕ) (change : A → A) (xs : List A) → ((x : A) → slice_get xs place ≡ Some x → P x → P (change x)) → All P xs → All P (change_nth place change xs)
unfolding All change_nth
all-nth P place change [] each all = tt
all-nth P zero change (x ∷ xs) each all = (each x refl all.0, all.1)
all-nth P (suc place) change (x ∷ xs) each all = (all.0, all-nth P place change xs each all.1)

module _ {S : Type 0} (Good : S → Type 0) where
  -- each of its sessions is such
  abbrev pub AreGood : Host S → Type 0
  AreGood host = All (λ (live : Live S). Good live.session) host.sessions

  -- its sessions are such where they were
  abbrev Goes : Host S → Host S → Type 0
  Goes host changed = AreGood host → AreGood changed

  if-queued : (serial now : ℕ) (event : Queued) (count : ℕ) (host : Host S) (b : Bool)
      → Goes host (cond b (quiet (record host { sessions = change_first (is_live serial) (with_event (count + 1) now event) host.sessions }) (count + 1)) (quiet host count)).host
  unfolding quiet with_event
  if-queued serial now event count host true = λ all. all-first (λ (live : Live S). Good live.session) (is_live serial) (with_event (count + 1) now event) host.sessions (λ live found good. good) all
  if-queued serial now event count host false = λ all. all

  queue-goes : (serial now : ℕ) (event : Queued) (count : ℕ) (host : Host S) → Goes host (queue serial now event count host).host
  unfolding queue
  queue-goes serial now event count host = if-queued serial now event count host (is_some (live_in serial host))

  marks-goes : (entry : DueEntry) (host : Host S) → Goes host (mark_fired entry host)
  unfolding mark_fired
  marks-goes entry host = λ all. all-first (λ (live : Live S). Good live.session) (is_live entry.app.serial) (λ live. record live { fired = live.fired ++ record { due = entry.due; timer = entry.timer } ∷ [] }) host.sessions (λ live found good. good) all

  -- the same between two states of a host, as a step's walk asks for it
  abbrev H : ℕ → ℕ → ℕ → Host S → ℕ → Host S → Type 0
  H number now count host later changed = Goes host changed

  host-law : (number now : ℕ) → HostLaws {S = S} (λ (form : Form S). ⊥) number now (H number now)
  host-law number now = record {
    same = λ count host all. all;
    after = λ c d e x y z p q all. q (p all);
    passes = λ count host clients servers all. all;
    queues = λ serial event late count host. queue-goes serial now event count host;
    begins = λ form bad config epoch noted request count host. absurd bad;
    marks = λ entry count host. marks-goes entry host;
  }

  -- its sessions are such in each host of a net
  abbrev pub AllGood : Net S → Type 0
  AllGood net = All AreGood net.hosts

  -- they are such in the second net where they were in the first
  abbrev Keeps : Net S → Net S → Type 0
  Keeps x y = AllGood x → AllGood y

  same-host : (host found changed : Host S) (at : Option (Host S)) → at ≡ Some host → at ≡ Some found → Goes found changed → AreGood host → AreGood changed
  same-host host found changed None is same goes = cc
  same-host host found changed (Some there) is same goes = let one : host ≡ found = cc in rw one goes

  net-law : NetLaws H Keeps
  net-law = record {
    same = λ net all. all;
    after = λ x y z p q all. q (p all);
    posts = λ net wire sent all. all;
    places = λ number count host changed net is goes all. all-nth AreGood number (λ _. changed) net.hosts (λ x at. same-host x host changed (host_at number net) at is goes) all;
  }

  module _ (form : Form S) (begins : (config : Config) (app : AppId) (epoch now : ℕ) (noted : Note) (request : Request) → IsFirst request → Good (form.begin config app epoch now noted request))
      (turned_good : (config : Config) (turn : Turn) (session : S) → Good session → Good (form.turned config turn session)) (setup : Setup) where
    begun-goes : (number now : ℕ) (config : Config) (epoch : ℕ) (noted : Note) (request : Request) → IsFirst request → (count : ℕ) (host : Host S)
        → Goes host (record host {
          sessions = host.sessions ++ begun_live form config epoch (record { host = number; serial = host.last + 1 }) now noted request (count + 1) ∷ [];
          last = host.last + 1;
        })
    unfolding begun_live
    begun-goes number now config epoch noted request first count host =
        λ all. all-append (λ (live : Live S). Good live.session) host.sessions _ all (begins config (record { host = number; serial = host.last + 1 }) epoch now noted request first)

    -- ## Turns

    invalidated-keeps : (app : AppId) (session : Session) (inbox : List Waiting) (net : Net S) → Keeps net (invalidated setup app session inbox net)
    unfolding invalidated without_live without_ended
    invalidated-keeps app session inbox net =
        λ all. all-nth AreGood app.host (λ host. without_ended (record host { sessions = remove_first (is_live app.serial) host.sessions })) _ (λ host at good. all-removed (λ (live : Live S). Good live.session) (is_live app.serial) host.sessions good)
        (obeyed-walks H Keeps host-law net-law setup app _ net all)

    closed_turn-keeps : (app : AppId) (done : Outcome) (ends : Bool) (net : Net S) → Keeps net (closed_turn setup app done ends net)
    unfolding closed_turn
    closed_turn-keeps app done true net = invalidated-keeps app done.session _ net
    closed_turn-keeps app done false net = with_ready-walks H Keeps host-law net-law app done _ net

    turned_live-goes : (app : AppId) (now : ℕ) (turn : Turn) (done : Outcome) (host : Host S)
        → Goes host (record host { sessions = change_first (is_live app.serial) (turned_live form setup.config now turn done) host.sessions })
    unfolding turned_live
    turned_live-goes app now turn done host =
        λ all. all-first (λ (live : Live S). Good live.session) (is_live app.serial) (turned_live form setup.config now turn done) host.sessions (λ live found good. turned_good setup.config turn live.session good) all

    turned-keeps : (app : AppId) (turn : Turn) (done : Outcome) (net : Net S) → Keeps net (turned form setup app turn done net)
    unfolding turned
    turned-keeps app turn done net =
        λ all. closed_turn-keeps app done done.ends _
        (obeyed-walks H Keeps host-law net-law setup app done.orders _
        (all-nth AreGood app.host (λ host. record host { sessions = change_first (is_live app.serial) (turned_live form setup.config net.moment turn done) host.sessions }) net.hosts (λ host at good. turned_live-goes app net.moment turn done host good) all))

    turns_first-keeps : (app : AppId) (live : Live S) (waiting : Option Waiting) (now : ℕ) (made : List CallRecord) (end : End) (net : Net S)
        → Keeps net (turns_first form setup app live waiting now made end net)
    unfolding turns_first
    turns_first-keeps app live None now made end net = λ all. all
    turns_first-keeps app live (Some waiting) now made end net = turned-keeps app _ _ net

    turns-keep : (app : AppId) (live : Option (Live S)) (now : ℕ) (made : List CallRecord) (end : End) (net : Net S) → Keeps net (turns form setup app live now made end net)
    unfolding turns
    turns-keep app None now made end net = λ all. all
    turns-keep app (Some live) now made end net = turns_first-keeps app live _ now made end net

    withdrawn-keeps : (app : AppId) (live : Option (Live S)) (net : Net S) → Keeps net (withdrawn form setup app live net)
    unfolding withdrawn
    withdrawn-keeps app None net = λ all. all
    withdrawn-keeps app (Some live) net = invalidated-keeps app _ live.inbox net

    -- ## A whole journal

    stepped-keeps : (step : Step) (net : Net S) → Keeps net (stepped form setup step net)
    unfolding stepped
    stepped-keeps (steps.In from message) net = arrived-keeps H Keeps host-law net-law form begun-goes setup from message net
    stepped-keeps (steps.Bad from bad) net = bad_by-walks H Keeps host-law net-law setup.config from bad.heads net
    stepped-keeps (steps.Lost place) net = lost-walks H Keeps host-law net-law setup.config place net
    stepped-keeps (steps.Tick now) net = ticked-walks H Keeps host-law net-law (λ net now all. all) form setup.config now net
    stepped-keeps (steps.Turn end app event now made) net = turns-keep app _ now made end net
    stepped-keeps (steps.Withdraw app) net = withdrawn-keeps app _ net

    after_step-keeps : (step : Step) (net : Net S) → Keeps net (after_step form setup net step)
    unfolding after_step
    after_step-keeps step net = λ all. delivered-keeps H Keeps host-law net-law form begun-goes setup _ (stepped-keeps step (record net { sent = [] }) all)

    chained-keeps : (journal : List Step) (net : Net S) → Keeps net (chained_from form setup net journal)
    unfolding chained_from
    chained-keeps [] net = λ all. all
    chained-keeps (step ∷ later) net = λ all. chained-keeps later (after_step form setup net step) (after_step-keeps step net all)

    quiet-good : (apps : List AppEntry) → All AreGood (map (λ app. quiet_host {S = S}) apps)
    unfolding All quiet_host
    quiet-good [] = tt
    quiet-good (app ∷ apps) = (tt, quiet-good apps)

    start-good : (epoch began : ℕ) → AllGood (start {S = S} setup epoch began)
    unfolding start
    start-good epoch began = quiet-good setup.config.app

    found-good : (app : AppId) (found : Option (Host S)) (hosts : List (Host S)) (live : Live S) → slice_get hosts app.host ≡ found → option_and_then (live_in app.serial) found ≡ Some live → All AreGood hosts
        → Good live.session
    found-good app None hosts live at is all = cc
    found-good app (Some host) hosts live at is all = all-found (λ (l : Live S). Good l.session) (is_live app.serial) host.sessions live is (all-at (AreGood) hosts app.host host at all)

    -- it is so of each live session
    pub live-good : (epoch began : ℕ) (journal : List Step) (app : AppId) (live : Live S) → live_at app (chained form setup epoch began journal) ≡ Some live → Good live.session
    unfolding chained
    live-good epoch began journal app live is =
        found-good app _ (chained_from form setup (start setup epoch began) journal).hosts live refl is (chained-keeps journal (start setup epoch began) (start-good epoch began))
