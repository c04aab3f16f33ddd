-- A turn of a session stands on top of its history, with the first event that waited.
use Rattle.std.proofs.Common.{◌≡◌, ◌≤◌, ◌<◌, ℕ, ◌++◌, Bool, true, false, Option, None, Some, List, [], ◌∷◌, refl, sym, ap, subst, ◌∙◌, arith}
use Rattle.std.specs.Prelude.{option_map, slice_get, drop}
use Rattle.std.specs.List.{find}
use Rattle.sc_value.specs.Lists.{change_first}
use Rattle.sc_value.proofs.ListFacts.{slice_get-change_nth}
use Rattle.sc_value.specs.declared.ids.AppId.{AppId}
use Rattle.sc_terms.specs.declared.calls.CallRecord.{CallRecord}
use Rattle.sc_terms.specs.declared.calls.End.{End}
use Rattle.sc_terms.specs.declared.steps.Step.TheVariants as steps
use Rattle.sc_parts.specs.declared.setup.Setup.{Setup}
use Rattle.sc_state.specs.Hosts.{Host}
use Rattle.sc_state.specs.declared.host.Live.{Live}
use Rattle.sc_state.specs.declared.net.Net.{Net}
use Rattle.sc_state.specs.declared.orders.Order.{Order}
use Rattle.sc_state.specs.declared.orders.Outcome.{Outcome}
use Rattle.sc_state.specs.declared.queue.Waiting.{Waiting}
use Rattle.sc_state.specs.declared.session.Session.{Session}
use Rattle.sc_hosts.specs.Finishing.{goodbye}
use Rattle.sc_hosts.specs.Histories.{History, as_history}
use Rattle.sc_hosts.specs.Inboxes.{is_live, live_in}
use Rattle.sc_hosts.specs.Nets.{host_at, change_host, after_orders as obeyed}
use Rattle.sc_hosts.specs.Runs.{after_delivery as delivered, after_step}
use Rattle.sc_hosts.specs.Sessions.{Turn}
use Rattle.sc_hosts.specs.Steps.{live_at, live_of, outcome_by, turn_of, turned_live, without_application as invalidated, closed_turn, net_after_turn as turned, turns_first, turns, withdrawn, before_delivery as stepped}
use Rattle.sc_lives.specs.Numbers.{AreNumbered}
use Rattle.sc_lives.proofs.NumberedNets.{change_host-numbered, obeyed-numbered}
use Rattle.sc_lives.proofs.Serials.{change-rising}
use Rattle.sc_once.proofs.Finding.{find-changed}
use Rattle.sc_once.proofs.GrowingHosts.{grow-hosts}
use Rattle.sc_once.proofs.GrowingNets.{grow-nets}
use Rattle.sc_once.proofs.OwnTurns.{changed-known, live-known, without-gone}
use Rattle.sc_once.specs.Growing.{GoneIn, HostGrows, KnownIn, NetGrows}
use Rattle.sc_walks.proofs.WalkNets.{obeyed-walks, delivered-walks}
use Rattle.sc_walks.proofs.WalkSteps.{with_ready-walks}
use Rattle.sc_lived.specs.Lived.{MayTake, Told, told_of}
use Rattle.sc_lived.proofs.LivedHosts.{Keeps, Saying, fine-hosts, mapped}
use Rattle.sc_lived.proofs.LivedNets.{FineAt, FineIn, NetKeeps, fine-nets}

past : (last serial : ℕ) → serial ≤ last → last < serial → ⊥
past last serial known under = omega (arith, known, under)

first-is : (inbox : List Waiting) (waiting : Waiting) → slice_get inbox 0 ≡ Some waiting → waiting ∷ drop 1 inbox ≡ inbox
first-is [] waiting is = cc
first-is (w ∷ ws) waiting is = let same : w ≡ waiting = cc in rw same refl

some-is : {A : Type 0} (x y : A) → Some x ≡ Some y → x ≡ y
some-is x y is = cc

module _ {setup : Setup} {app : AppId} {Says : List Told → History → List Waiting → Type 0} {Unknown : List Told → Type 0} (law : Saying setup app Says Unknown) where
  -- ## What keeps it

  obeys : (given : List Told) (all : List Order) (net : Net History)
      → NetKeeps law given net (obeyed setup app all net)
  obeys given all net = obeyed-walks (Keeps law given) (NetKeeps law given) (fine-hosts law given) (fine-nets law given) setup app all net

  pub delivers : (given : List Told) (net : Net History)
      → NetKeeps law given net (delivered (as_history setup.config) setup net)
  delivers given net = delivered-walks (Keeps law given) (NetKeeps law given) (fine-hosts law given) (fine-nets law given) (as_history setup.config) refl setup net

  -- ## The session goes

  gone-fine : (given : List Told) (host : Option (Host History)) → GoneIn app.serial host → FineAt law given host
  unfolding GoneIn FineAt
  gone-fine given None gone = tt
  gone-fine given (Some host) gone = record {
    unknown = λ under. absurd (past host.last app.serial gone.0 under);
    lives = λ live is. absurd (not-both (live_in app.serial host) live gone.1 is);
  }
    where
      not-both : (found : Option (Live History)) (live : Live History) → found ≡ None → found ≡ Some live → ⊥
      not-both found live none some = cc

  obeyed-known : (all : List Order) (net : Net History) → KnownIn app.serial (host_at app.host net)
      → KnownIn app.serial (host_at app.host (obeyed setup app all net))
  obeyed-known all net = (obeyed-walks (λ number now. HostGrows {S = History} app.serial) (NetGrows app) (grow-hosts app.serial) (grow-nets app) setup app all net).known

  invalidated-fine : (given : List Told) (session : Session) (inbox : List Waiting) (net : Net History) → AreNumbered net
      → KnownIn app.serial (host_at app.host net) → FineIn law given (invalidated setup app session inbox net)
  unfolding invalidated
  invalidated-fine given session inbox net numbered known =
      gone-fine given _ (without-gone app (obeyed setup app (goodbye setup.config session inbox) net) (obeyed-numbered setup app _ net numbered) (obeyed-known _ net known))

  -- ## A turn

  abbrev top : List Told → Turn → List Told
  top given turn = given ++ told_of turn ∷ []

  turned-lived : (given : List Told) (now : ℕ) (turn : Turn) (done : Outcome) (live : Live History)
      → slice_get live.inbox 0 ≡ Some turn.waiting → MayTake setup app live.session turn → Says given live.session live.inbox
      → Says (top given turn) (turned_live (as_history setup.config) setup.config now turn done live).session (turned_live (as_history setup.config) setup.config now turn done live).inbox
  unfolding turned_live as_history
  turned-lived given now turn done live first may lived =
      law.turns given live.session turn (drop 1 live.inbox) may (rw (first-is live.inbox turn.waiting first) lived)

  turned-found : (now : ℕ) (turn : Turn) (done : Outcome) (lives : List (Live History))
      → find (is_live app.serial) (change_first (is_live app.serial) (turned_live (as_history setup.config) setup.config now turn done) lives) ≡ option_map (turned_live (as_history setup.config) setup.config now turn done) (find (is_live app.serial) lives)
  unfolding turned_live
  turned-found now turn done lives = find-changed lives (is_live app.serial) (turned_live (as_history setup.config) setup.config now turn done) (λ live. refl)

  turned-at : (given : List Told) (now : ℕ) (turn : Turn) (done : Outcome) (live : Live History) (found : Option (Host History))
      → live_of app found ≡ Some live → slice_get live.inbox 0 ≡ Some turn.waiting → MayTake setup app live.session turn → KnownIn app.serial found
      → FineAt law given found
      → FineAt law (top given turn) (option_map {T = Host History} {U = Host History} (λ host. record host { sessions = change_first (is_live app.serial) (turned_live (as_history setup.config) setup.config now turn done) host.sessions }) found)
  unfolding FineAt KnownIn
  turned-at given now turn done live None is first may known fine = tt
  turned-at given now turn done live (Some host) is first may known fine =
      let change : Live History → Live History = turned_live (as_history setup.config) setup.config now turn done in record {
        unknown = λ under. absurd (past host.last app.serial known under);
        lives = λ later found. mapped change (λ (l : Live History). Says (top given turn) l.session l.inbox) (live_in app.serial host) later (sym (turned-found now turn done host.sessions) ∙ found)
            (λ old at.
            let same : old ≡ live = some-is old live (sym at ∙ is) in
            turned-lived given now turn done old (ap (λ (l : Live History). slice_get l.inbox 0) same ∙ first) (subst (λ (l : Live History). MayTake setup app l.session turn) (sym same) may) (fine.lives old at));
      }

  -- the net with the turn on top
  abbrev held : Turn → Outcome → Net History → Net History
  held turn done net =
      change_host app.host (λ host. record host { sessions = change_first (is_live app.serial) (turned_live (as_history setup.config) setup.config net.moment turn done) host.sessions }) net

  held-numbered : (turn : Turn) (done : Outcome) (net : Net History) → AreNumbered net → AreNumbered (held turn done net)
  unfolding turned_live
  held-numbered turn done net numbered =
      change_host-numbered app.host _ net (λ host whole. change-rising host.sessions 0 host.last (is_live app.serial) _ (λ live. refl) whole) numbered

  held-fine : (given : List Told) (turn : Turn) (done : Outcome) (net : Net History) (live : Live History) → AreNumbered net
      → live_at app net ≡ Some live → slice_get live.inbox 0 ≡ Some turn.waiting → MayTake setup app live.session turn → FineIn law given net
      → FineIn law (top given turn) (held turn done net)
  held-fine given turn done net live numbered is first may fine =
      rw (slice_get-change_nth app.host (λ (host : Host History). record host { sessions = change_first (is_live app.serial) (turned_live (as_history setup.config) setup.config net.moment turn done) host.sessions }) net.hosts)
      (turned-at given net.moment turn done live (host_at app.host net) is first may (live-known app net live numbered is) fine)

  closed-fine : (given : List Told) (done : Outcome) (ends : Bool) (net : Net History) → AreNumbered net
      → KnownIn app.serial (host_at app.host net) → FineIn law given net → FineIn law given (closed_turn setup app done ends net)
  unfolding closed_turn
  closed-fine given done true net numbered known fine = invalidated-fine given done.session _ net numbered known
  closed-fine given done false net numbered known fine =
      with_ready-walks (Keeps law given) (NetKeeps law given) (fine-hosts law given) (fine-nets law given) app done _ net fine

  turned-fine : (given : List Told) (turn : Turn) (done : Outcome) (net : Net History) (live : Live History) → AreNumbered net
      → live_at app net ≡ Some live → slice_get live.inbox 0 ≡ Some turn.waiting → MayTake setup app live.session turn → FineIn law given net
      → FineIn law (top given turn) (turned (as_history setup.config) setup app turn done net)
  unfolding turned
  turned-fine given turn done net live numbered is first may fine =
      let sent : Net History = obeyed setup app done.orders (held turn done net) in
      closed-fine (top given turn) done done.ends sent (obeyed-numbered setup app done.orders (held turn done net) (held-numbered turn done net numbered))
      (obeyed-known done.orders (held turn done net) (changed-known app _ net (λ host. refl) (live-known app net live numbered is)))
      (obeys (top given turn) done.orders (held turn done net) (held-fine given turn done net live numbered is first may fine))

  -- its own turn
  pub turn-fine : (given : List Told) (net : Net History) (live : Live History) (waiting : Waiting) (event now : ℕ) (made : List CallRecord) (end : End)
      → AreNumbered net → live_at app net ≡ Some live → slice_get live.inbox 0 ≡ Some waiting → waiting.number ≡ event
      → MayTake setup app live.session (turn_of net app waiting now made end) → FineIn law given net
      → FineIn law (given ++ record { event = event; now = now; calls = made; end = end } ∷ []) (after_step (as_history setup.config) setup net (steps.Turn end app event now made))
  unfolding after_step stepped turns turns_first turn_of
  turn-fine given net live waiting event now made end numbered is first same may fine =
      let start : Net History = record net { sent = [] } in
      let turn : Turn = turn_of start app waiting now made end in
      let done : Outcome = outcome_by (as_history setup.config) setup.config live.session turn in
      rw (← same, is, first) (delivers (top given turn) (turned (as_history setup.config) setup app turn done start)
      (turned-fine given turn done start live numbered is first may fine))

  -- its withdrawal
  pub withdrawal-fine : (given : List Told) (net : Net History) (found : Option (Live History)) → live_at app net ≡ found
      → AreNumbered net → FineIn law given net
      → FineIn law given (withdrawn (as_history setup.config) setup app found net)
  unfolding withdrawn
  withdrawal-fine given net None is numbered fine = fine
  withdrawal-fine given net (Some live) is numbered fine = invalidated-fine given _ live.inbox net numbered (live-known app net live numbered is)
