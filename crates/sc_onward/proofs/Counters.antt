-- A session's counter never falls: what a turn has drawn is no more than what the session has drawn when it turns again.
use Rattle.std.proofs.Common.{◌≡◌, ◌≤◌, ◌<◌, ℕ, ◌++◌, Bool, true, false, Option, None, Some, List, [], ◌∷◌, refl, sym, subst, ◌∙◌, arith, append_assoc}
use Rattle.std.specs.Prelude.{map, option_map, slice_get}
use Rattle.std.specs.List.{find}
use Rattle.std.specs.Option.{option_map_or}
use Rattle.sc_value.specs.Lists.{change_first}
use Rattle.sc_value.proofs.ListFacts.{slice_get-change_nth}
use Rattle.sc_value.specs.declared.ids.AppId.{AppId}
use Rattle.sc_terms.specs.declared.calls.CallRecord.{CallRecord}
use Rattle.sc_terms.specs.declared.calls.End.{End}
use Rattle.sc_terms.specs.declared.settings.Config.{Config}
use Rattle.sc_terms.specs.declared.steps.Step.{Step}
use Rattle.sc_terms.specs.declared.steps.Step.TheVariants as steps
use Rattle.sc_parts.specs.declared.setup.Setup.{Setup}
use Rattle.sc_state.specs.Hosts.{Host}
use Rattle.sc_state.specs.declared.host.Live.{Live}
use Rattle.sc_state.specs.declared.net.Net.{Net}
use Rattle.sc_state.specs.declared.orders.Order.{Order}
use Rattle.sc_state.specs.declared.orders.Outcome.{Outcome}
use Rattle.sc_state.specs.declared.queue.Waiting.{Waiting}
use Rattle.sc_state.specs.declared.session.Session.{Session}
use Rattle.sc_hosts.specs.EventLists.{waiting_in, waiting}
use Rattle.sc_hosts.specs.Finishing.{goodbye}
use Rattle.sc_hosts.specs.Histories.{History, after_turn, as_history, session_after, session_of, turned_history}
use Rattle.sc_hosts.specs.Inboxes.{is_live, live_in}
use Rattle.sc_hosts.specs.Nets.{host_at, change_host, after_orders as obeyed}
use Rattle.sc_hosts.specs.Runs.{IsLawful, IsLawfulFrom, after_step, net_from as chained, chained_from, start}
use Rattle.sc_hosts.specs.Sessions.{Turn}
use Rattle.sc_hosts.specs.Steps.{live_at, live_of, outcome_by, turn_of, turned_live, without_application as invalidated, closed_turn, net_after_turn as turned, turns_first, turns, before_delivery as stepped}
use Rattle.sc_lives.specs.Numbers.{AreNumbered}
use Rattle.sc_lives.proofs.NumberedNets.{after_step-numbered, change_host-numbered, obeyed-numbered}
use Rattle.sc_lives.proofs.Serials.{change-rising}
use Rattle.sc_once.proofs.Finding.{find-changed}
use Rattle.sc_once.proofs.GrowingHosts.{grow-hosts}
use Rattle.sc_once.proofs.GrowingNets.{grow-nets}
use Rattle.sc_once.proofs.History.{ended-quiet}
use Rattle.sc_once.proofs.OwnTurns.{changed-known, live-known, without-gone}
use Rattle.sc_once.specs.Growing.{GoneIn, HostGrows, KnownIn, NetGrows}
use Rattle.sc_walks.proofs.WalkNets.{obeyed-walks}
use Rattle.sc_walks.proofs.WalkSteps.{with_ready-walks}
use Rattle.sc_lived.specs.Lived.{Told}
use Rattle.sc_lived.proofs.Accepted.{read-after}
use Rattle.sc_lived.proofs.LivedHosts.{Keeps, Saying, fine-hosts, mapped}
use Rattle.sc_lived.proofs.LivedNets.{FineAt, FineIn, NetKeeps, fine-nets}
use Rattle.sc_lived.proofs.Lives.{said-since, start-numbered}
use Rattle.sc_lived.proofs.OwnTurns.{delivers}
use Rattle.sc_keyed.proofs.Branches.{sends-on-branches}
use Rattle.sc_vias.proofs.RunVias.{on-rises}

through : (a b c : ℕ) → a ≤ b → b ≤ c → a ≤ c
through a b c p q = omega (arith, p, q)

same-number : (n : ℕ) → n ≤ n
same-number n = omega arith

past : (last serial : ℕ) → serial ≤ last → last < serial → ⊥
past last serial known under = omega (arith, known, under)

some-is : {A : Type 0} (x y : A) → Some x ≡ Some y → x ≡ y
some-is x y is = cc

-- ## The counter of a history

abbrev pub drawn_of : Config → History → ℕ
drawn_of config history = (session_of config history).view.counter

-- after one turn more
top-is : (config : Config) (turn : Turn) (history : History) → session_of config (turned_history turn history) ≡ after_turn config turn (session_of config history)
unfolding turned_history session_of session_after
top-is config turn history = read-after config history (turn ∷ history.turns)

after-up : (config : Config) (turn : Turn) (x : Session) → x.view.counter ≤ (after_turn config turn x).view.counter
unfolding after_turn
after-up config turn x = on-rises config x.view.epoch x.view.app _ x.view.counter _ (sends-on-branches config turn.ringing x turn.waiting turn.now turn.calls turn.end)

turn-up : (config : Config) (turn : Turn) (history : History) → drawn_of config history ≤ drawn_of config (turned_history turn history)
turn-up config turn history = subst (λ (x : Session). drawn_of config history ≤ x.view.counter) (sym (top-is config turn history)) (after-up config turn (session_of config history))

-- so many are drawn
abbrev Up : Config → ℕ → List Told → History → List Waiting → Type 0
Up config b given history inbox = b ≤ drawn_of config history

abbrev Never : List Told → Type 0
Never given = ⊥

up-law : (setup : Setup) (app : AppId) (b : ℕ) → Saying setup app (Up setup.config b) Never
up-law setup app b = record {
  queues = λ given history inbox waiting late up. up;
  begins = λ given epoch began noted request number none. absurd none;
  turns = λ given history turn rest may up. through b (drawn_of setup.config history) (drawn_of setup.config (turned_history turn history)) up (turn-up setup.config turn history);
}

-- ## By its turn

module _ (setup : Setup) (app : AppId) (b : ℕ) where
  abbrev law : Saying setup app (Up setup.config b) Never
  law = up-law setup app b

  obeys : (all : List Order) (net : Net History) → NetKeeps law [] net (obeyed setup app all net)
  obeys all net = obeyed-walks (Keeps law []) (NetKeeps law []) (fine-hosts law []) (fine-nets law []) setup app all net

  gone-up : (host : Option (Host History)) → GoneIn app.serial host → FineAt law [] host
  unfolding GoneIn FineAt
  gone-up None gone = tt
  gone-up (Some host) gone = record {
    unknown = λ under. absurd (past host.last app.serial gone.0 under);
    lives = λ live is. absurd (not-both (live_in app.serial host) live gone.1 is);
  }
    where
      not-both : (found : Option (Live History)) (live : Live History) → found ≡ None → found ≡ Some live → ⊥
      not-both found live none some = cc

  obeyed-known : (all : List Order) (net : Net History) → KnownIn app.serial (host_at app.host net) → KnownIn app.serial (host_at app.host (obeyed setup app all net))
  obeyed-known all net = (obeyed-walks (λ number now. HostGrows {S = History} app.serial) (NetGrows app) (grow-hosts app.serial) (grow-nets app) setup app all net).known

  invalidated-up : (session : Session) (inbox : List Waiting) (net : Net History) → AreNumbered net → KnownIn app.serial (host_at app.host net) → FineIn law [] (invalidated setup app session inbox net)
  unfolding invalidated
  invalidated-up session inbox net numbered known =
      gone-up _ (without-gone app (obeyed setup app (goodbye setup.config session inbox) net) (obeyed-numbered setup app _ net numbered) (obeyed-known _ net known))

  turned-found : (now : ℕ) (turn : Turn) (done : Outcome) (lives : List (Live History))
      → find (is_live app.serial) (change_first (is_live app.serial) (turned_live (as_history setup.config) setup.config now turn done) lives) ≡ option_map (turned_live (as_history setup.config) setup.config now turn done) (find (is_live app.serial) lives)
  unfolding turned_live
  turned-found now turn done lives = find-changed lives (is_live app.serial) (turned_live (as_history setup.config) setup.config now turn done) (λ live. refl)

  turned-up : (now : ℕ) (turn : Turn) (done : Outcome) (live : Live History) → b ≤ drawn_of setup.config (turned_history turn live.session)
      → b ≤ drawn_of setup.config (turned_live (as_history setup.config) setup.config now turn done live).session
  unfolding turned_live as_history
  turned-up now turn done live up = up

  turned-at : (now : ℕ) (turn : Turn) (done : Outcome) (live : Live History) (found : Option (Host History)) → live_of app found ≡ Some live
      → b ≤ drawn_of setup.config (turned_history turn live.session) → KnownIn app.serial found
      → FineAt law [] (option_map {T = Host History} {U = Host History} (λ host. record host { sessions = change_first (is_live app.serial) (turned_live (as_history setup.config) setup.config now turn done) host.sessions }) found)
  unfolding FineAt KnownIn
  turned-at now turn done live None is up known = tt
  turned-at now turn done live (Some host) is up known =
      let change : Live History → Live History = turned_live (as_history setup.config) setup.config now turn done in record {
        unknown = λ under. absurd (past host.last app.serial known under);
        lives = λ later found. mapped change (λ (l : Live History). b ≤ drawn_of setup.config l.session) (live_in app.serial host) later (sym (turned-found now turn done host.sessions) ∙ found)
            (λ old at.
            let same : old ≡ live = some-is old live (sym at ∙ is) in
            turned-up now turn done old (subst (λ (l : Live History). b ≤ drawn_of setup.config (turned_history turn l.session)) (sym same) up));
      }

  -- the net with the turn on top
  abbrev held : Turn → Outcome → Net History → Net History
  held turn done net =
      change_host app.host (λ host. record host { sessions = change_first (is_live app.serial) (turned_live (as_history setup.config) setup.config net.moment turn done) host.sessions }) net

  held-numbered : (turn : Turn) (done : Outcome) (net : Net History) → AreNumbered net → AreNumbered (held turn done net)
  unfolding turned_live
  held-numbered turn done net numbered =
      change_host-numbered app.host _ net (λ host whole. change-rising host.sessions 0 host.last (is_live app.serial) _ (λ live. refl) whole) numbered

  held-up : (turn : Turn) (done : Outcome) (net : Net History) (live : Live History) → AreNumbered net → live_at app net ≡ Some live → b ≤ drawn_of setup.config (turned_history turn live.session)
      → FineIn law [] (held turn done net)
  held-up turn done net live numbered is up =
      rw (slice_get-change_nth app.host (λ (host : Host History). record host { sessions = change_first (is_live app.serial) (turned_live (as_history setup.config) setup.config net.moment turn done) host.sessions }) net.hosts)
      (turned-at net.moment turn done live (host_at app.host net) is up (live-known app net live numbered is))

  closed-up : (done : Outcome) (ends : Bool) (net : Net History) → AreNumbered net → KnownIn app.serial (host_at app.host net) → FineIn law [] net → FineIn law [] (closed_turn setup app done ends net)
  unfolding closed_turn
  closed-up done true net numbered known fine = invalidated-up done.session _ net numbered known
  closed-up done false net numbered known fine = with_ready-walks (Keeps law []) (NetKeeps law []) (fine-hosts law []) (fine-nets law []) app done _ net fine

  all-up : (turn : Turn) (done : Outcome) (net : Net History) (live : Live History) → AreNumbered net → live_at app net ≡ Some live → b ≤ drawn_of setup.config (turned_history turn live.session)
      → FineIn law [] (turned (as_history setup.config) setup app turn done net)
  unfolding turned
  all-up turn done net live numbered is up =
      let sent : Net History = obeyed setup app done.orders (held turn done net) in
      closed-up done done.ends sent (obeyed-numbered setup app done.orders (held turn done net) (held-numbered turn done net numbered))
      (obeyed-known done.orders (held turn done net) (changed-known app _ net (λ host. refl) (live-known app net live numbered is)))
      (obeys done.orders (held turn done net) (held-up turn done net live numbered is up))

  -- behind the step of its turn
  own-up : (net : Net History) (live : Live History) (waiting : Waiting) (event now : ℕ) (made : List CallRecord) (end : End) → AreNumbered net → live_at app net ≡ Some live
      → slice_get live.inbox 0 ≡ Some waiting → b ≤ drawn_of setup.config (turned_history (turn_of net app waiting now made end) live.session)
      → FineIn law [] (after_step (as_history setup.config) setup net (steps.Turn end app event now made))
  unfolding after_step stepped turns turns_first turn_of
  own-up net live waiting event now made end numbered is first up =
      let start : Net History = record net { sent = [] } in
      let turn : Turn = turn_of start app waiting now made end in
      let done : Outcome = outcome_by (as_history setup.config) setup.config live.session turn in
      rw (is, first) (delivers law [] (turned (as_history setup.config) setup app turn done start) (all-up turn done start live numbered is up))

  found-up : (found : Option (Host History)) (live : Live History) → FineAt law [] found → live_of app found ≡ Some live → b ≤ drawn_of setup.config live.session
  unfolding FineAt
  found-up None live fine is = cc
  found-up (Some host) live fine is = fine.lives live is

-- ## In a run

pub next-is : (before : List Step) (setup : Setup) (net : Net History) (step : Step)
    → chained_from (as_history setup.config) setup net (before ++ step ∷ []) ≡ after_step (as_history setup.config) setup (chained_from (as_history setup.config) setup net before) step
unfolding chained_from
next-is [] setup net step = refl
next-is (first ∷ before) setup net step = next-is before setup (after_step (as_history setup.config) setup net first) step

numbered-from : (journal : List Step) (setup : Setup) (net : Net History) → AreNumbered net → AreNumbered (chained_from (as_history setup.config) setup net journal)
unfolding chained_from
numbered-from [] setup net numbered = numbered
numbered-from (step ∷ journal) setup net numbered =
    numbered-from journal setup (after_step (as_history setup.config) setup net step) (after_step-numbered (as_history setup.config) setup net step numbered)

some-waits : (inbox : List Waiting) (next : Waiting) → slice_get inbox 0 ≡ Some next → map (λ (w : Waiting). w.number) inbox ≡ [] → ⊥
some-waits [] next at none = cc
some-waits (w ∷ ws) next at none = cc

not-empty : (app : AppId) (net : Net History) (last : Live History) (next : Waiting) → live_at app net ≡ Some last → slice_get last.inbox 0 ≡ Some next → waiting_in app net ≡ [] → ⊥
unfolding waiting_in
not-empty app net last next lives waits none =
    some-waits last.inbox next waits (subst (λ (found : Option (Live History)). option_map_or (λ live. map (λ waiting. waiting.number) live.inbox) found [] ≡ []) lives none)

module _ (setup : Setup) (epoch began : ℕ) (app : AppId) (event now : ℕ) (made : List CallRecord) (end : End) (front later : List Step) where
  abbrev own : Step
  own = steps.Turn end app event now made

  abbrev Old : List Step → Net History
  Old given = chained (as_history setup.config) setup epoch began given

  -- what it has drawn by its turn
  abbrev drawn : Live History → Waiting → ℕ
  drawn live waiting = (outcome_by (as_history setup.config) setup.config live.session (turn_of (Old front) app waiting now made end)).session.view.counter

  drawn-top : (live : Live History) (waiting : Waiting) → drawn live waiting ≤ drawn_of setup.config (turned_history (turn_of (Old front) app waiting now made end) live.session)
  unfolding outcome_by as_history after_turn
  drawn-top live waiting =
      let turn : Turn = turn_of (Old front) app waiting now made end in
      subst (λ (x : Session). drawn live waiting ≤ x.view.counter) (sym (top-is setup.config turn live.session)) (same-number (drawn live waiting))

  abbrev Stays : Live History → Live History → Waiting → Type 0
  Stays live last waiting = drawn live waiting ≤ drawn_of setup.config last.session

  abbrev Whole : Type 0
  Whole = IsLawful (as_history setup.config) setup epoch began (front ++ own ∷ later)

  -- it lives when it turns again, so it did all the time
  gone-not : (live last : Live History) (next : Waiting) → Whole → live_at app (Old front) ≡ Some live → live_at app (after_step (as_history setup.config) setup (Old front) own) ≡ None
      → live_at app (Old (front ++ own ∷ later)) ≡ Some last → slice_get last.inbox 0 ≡ Some next → ⊥
  unfolding waiting
  gone-not live last next lawful lives dead is waits =
      let quiet = ended-quiet (as_history setup.config) setup epoch began front later own app live lawful lives dead in
      not-empty app (Old (front ++ own ∷ later)) last next is waits quiet.1

  since : (live first last : Live History) (waiting : Waiting) → Whole → live_at app (Old front) ≡ Some live → slice_get live.inbox 0 ≡ Some waiting
      → live_at app (after_step (as_history setup.config) setup (Old front) own) ≡ Some first → live_at app (Old (front ++ own ∷ later)) ≡ Some last → Stays live last waiting
  unfolding IsLawful chained
  since live first last waiting lawful lives at living is =
      let b : ℕ = drawn live waiting in
      let begun = start-numbered (up-law setup app b) epoch began in
      let numbered = numbered-from front setup (start setup epoch began) begun in
      let fine = own-up setup app b (Old front) live waiting event now made end numbered lives at (drawn-top live waiting) in
      said-since (up-law setup app b) (front ++ own ∷ []) later (start setup epoch began) first last begun
      (subst (λ (j : List Step). IsLawfulFrom (as_history setup.config) setup (start setup epoch began) j) (sym (append_assoc front (own ∷ []) later)) lawful)
      (subst (λ (n : Net History). live_at app n ≡ Some first) (sym (next-is front setup (start setup epoch began) own)) living)
      (found-up setup app b (host_at app.host (after_step (as_history setup.config) setup (Old front) own)) first fine living)
      (subst (λ (j : List Step). live_at app (chained_from (as_history setup.config) setup (start setup epoch began) j) ≡ Some last) (sym (append_assoc front (own ∷ []) later)) is)

  pub draws-stay : (live last : Live History) (waiting next : Waiting) → Whole → live_at app (Old front) ≡ Some live → slice_get live.inbox 0 ≡ Some waiting
      → live_at app (Old (front ++ own ∷ later)) ≡ Some last → slice_get last.inbox 0 ≡ Some next → Stays live last waiting
  draws-stay live last waiting next lawful lives at is waits = by (live_at app (after_step (as_history setup.config) setup (Old front) own)) refl
    where
      by : (found : Option (Live History)) → live_at app (after_step (as_history setup.config) setup (Old front) own) ≡ found → Stays live last waiting
      by None dead = absurd (gone-not live last next lawful lives dead is waits)
      by (Some first) living = since live first last waiting lawful lives at living is
