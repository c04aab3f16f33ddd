-- At each moment of a lawful run: the request that began a session is what its server transactions know, and what it gave to send has the
-- Record-Route that follows from it.
use Rattle.std.proofs.Common.{◌≡◌, ◌<◌, ◌^◌, ◌⊎◌, inl, inr, ℕ, zero, suc, ◌++◌, Bool, true, false, Option, None, Some, List, [], ◌∷◌, refl, sym, ap, subst, append_assoc, ◌∙◌, arith}
use Rattle.std.specs.Prelude.{◌==◌, ◌&&◌, cond, map, option_and_then, option_map, slice_get}
use Rattle.std.proofs.lemmas.Bool.Decides.{nat_tests}
use Rattle.sc_value.specs.declared.ids.AppId.{AppId}
use Rattle.sc_value.specs.declared.message.Request.{Request}
use Rattle.sc_terms.specs.declared.calls.CallRecord.{CallRecord}
use Rattle.sc_terms.specs.declared.calls.End.{End}
use Rattle.sc_terms.specs.declared.settings.AppEntry.{AppEntry}
use Rattle.sc_terms.specs.declared.calls.ProxyOptions.{ProxyOptions}
use Rattle.sc_terms.specs.declared.steps.Step.{Step}
use Rattle.sc_terms.specs.declared.steps.Step.TheVariants as steps
use Rattle.sc_parts.specs.declared.setup.Setup.{Setup}
use Rattle.sc_state.specs.Hosts.{Host}
use Rattle.sc_state.specs.declared.host.Client.{Client}
use Rattle.sc_state.specs.declared.host.Live.{Live}
use Rattle.sc_state.specs.declared.host.Server.{Server}
use Rattle.sc_state.specs.declared.net.Net.{Net}
use Rattle.sc_state.specs.declared.orders.Order.{Order}
use Rattle.sc_state.specs.declared.queue.Waiting.{Waiting}
use Rattle.sc_state.specs.declared.session.Session.{Session}
use Rattle.sc_model.specs.Names.{IsOf64}
use Rattle.sc_hosts.specs.Histories.{History, as_history, as_session, session_of}
use Rattle.sc_hosts.specs.Inboxes.{live_in}
use Rattle.sc_hosts.specs.Nets.{host_at}
use Rattle.sc_hosts.specs.Runs.{IsAllowed, IsLawful, IsLawfulFrom, MayTurn, after_step, net_from as chained, chained_from, quiet_host, prepared_turn as shown, start}
use Rattle.sc_hosts.specs.Sessions.{Form, Turn}
use Rattle.sc_hosts.specs.Steps.{live_at, outcome_by, turn_of}
use Rattle.sc_hosts.specs.Transacting.{is_same_app}
use Rattle.sc_forms.specs.Simulations.{map_host, map_live}
use Rattle.sc_forms.proofs.HistoryLaws.{chained-histories, live_at-histories}
use Rattle.sc_forms.proofs.NetMaps.{host_at-maps}
use Rattle.sc_lasting.specs.Lasting.{All, IsLife, IsOf}
use Rattle.sc_lasting.proofs.Shared.{all-at}
use Rattle.sc_ways.proofs.Directs.{told-append}
use Rattle.sc_lived.specs.Lived.{AreOfOne, AreTaken, IsLived, MayTake, Told, turns_in as told, told_by, told_of, told_turns, turned_events}
use Rattle.sc_lived.proofs.Accepted.{one-life}
use Rattle.sc_lived.proofs.Sayings.{has-lived}
use Rattle.sc_keyed.specs.Keyed.{AreOn, IsOn}
use Rattle.sc_keyed.proofs.Branches.{sends-on-branches}
use Rattle.sc_keyed.proofs.ClientKeys.{app-is}
use Rattle.sc_proxying.proofs.Rising.{all-numbered}
use Rattle.sc_reached.proofs.Reaching.{serial-is}
use Rattle.sc_paths.specs.Moments.{Moment, moments_from}
use Rattle.sc_begun.proofs.FirstProxies.{lives-proper}
use Rattle.sc_begun.proofs.FirstTurns.{began-first}
use Rattle.sc_vias.proofs.RunVias.{Hold, after-kept, live-named, start-kept}
use Rattle.sc_ways.proofs.OneHop.{IsFine}
use Rattle.sc_ways.proofs.Recorders.{found-small}
use Rattle.sc_recorded.specs.Recorded.{IsTaggedEvent, route_behind as routed}
use Rattle.sc_recorded.proofs.Faithful.{lives-right}
use Rattle.sc_recorded.proofs.Asking.{FirstSays, asked_in}
use Rattle.sc_recorded.proofs.Hosts.{other-name, Good, IsLiveAs, IsReached, IsSent, IsServed}
use Rattle.sc_recorded.proofs.SoundKinds.{Fit, IsSound, TakesTagged, beginning, other-fit, own-fit, sound-kinds}
use Rattle.sc_recorded.proofs.MadeGiven.{AreMade}
use Rattle.sc_recorded.proofs.MadeTurns.{turn-made}
use Rattle.sc_recorded.proofs.Nets.{Goes, Holds}
use Rattle.sc_recorded.proofs.Spans.{asked_of, life-says, says-front}
use Rattle.sc_recorded.proofs.Steps.{StepFits, live-as, step-goes}

-- ## Beginnings of a journal

pub chained-next : {S : Type 0} (before : List Step) (form : Form S) (setup : Setup) (net : Net S) (step : Step)
    → chained_from form setup net (before ++ step ∷ []) ≡ after_step form setup (chained_from form setup net before) step
unfolding chained_from
chained-next [] form setup net step = refl
chained-next (first ∷ before) form setup net step = chained-next before form setup (after_step form setup net first) step

pub lawful-front : {S : Type 0} (before later : List Step) (form : Form S) (setup : Setup) (net : Net S) → IsLawfulFrom form setup net (before ++ later) → IsLawfulFrom form setup net before
unfolding IsLawfulFrom
lawful-front [] later form setup net lawful = tt
lawful-front (step ∷ before) later form setup net lawful = (lawful.0, lawful-front before later form setup (after_step form setup net step) lawful.1)

pub asked-both : (xs ys : List Told) → asked_of (xs ++ ys) ≡ asked_of xs ++ asked_of ys
asked-both [] ys = refl
asked-both (x ∷ xs) ys = ap (λ hs. asked_in x.calls ++ hs) (asked-both xs ys) ∙ sym (append_assoc (asked_in x.calls) (asked_of xs) (asked_of ys))

-- ## Names

kept-from : (setup : Setup) (epoch : ℕ) (journal : List Step) (net : Net Session) → Hold setup.config epoch (λ n. Unit {0}) net → Hold setup.config epoch (λ n. Unit {0}) (chained_from as_session setup net journal)
unfolding chained_from
kept-from setup epoch [] net kept = kept
kept-from setup epoch (step ∷ journal) net kept =
    kept-from setup epoch journal (after_step as_session setup net step) (after-kept setup epoch (λ n. Unit {0}) step net (λ n under. tt) kept)

names-kept : (setup : Setup) (epoch began : ℕ) (before : List Step) → Hold setup.config epoch (λ n. Unit {0}) (chained as_session setup epoch began before)
unfolding chained
names-kept setup epoch began before = kept-from setup epoch before (start setup epoch began) (start-kept setup epoch (λ n. Unit {0}) began)

-- ## Events of a life

last-of : (setup : Setup) (history top : History) (turn : Turn) (earlier : List Turn) → IsLife (IsOf history.request) (λ call. Unit {0}) setup.config top (turn ∷ earlier) → IsOf history.request turn.waiting.event
unfolding IsLife
last-of setup history top turn earlier life = life.0

one-first : (began : Request) (earlier inbox : List Waiting) (waiting : Waiting) → slice_get inbox 0 ≡ Some waiting → AreOfOne began (earlier ++ inbox)
    → (rest : List Waiting) × AreOfOne began ((earlier ++ (waiting ∷ [])) ++ rest)
one-first began earlier [] waiting at one = cc
one-first began earlier (w ∷ inbox) waiting at one =
    (inbox, subst (λ (x : Waiting). AreOfOne began ((earlier ++ (x ∷ [])) ++ inbox)) (some-is w waiting at) (subst (λ (ws : List Waiting). AreOfOne began ws) (sym (append_assoc earlier (w ∷ []) inbox)) one))
  where
    some-is : (x y : Waiting) → Some x ≡ Some y → x ≡ y
    some-is x y is = cc

live-serial : (of : AppId) (found : Option (Host History)) (live : Live History) → option_and_then (live_in of.serial) found ≡ Some live → live.serial ≡ of.serial
live-serial of None live is = cc
live-serial of (Some host) live is = serial-is of.serial host.sessions live is

-- ## Starting

pub quiet-is : {S : Type 0} (apps : List AppEntry) (number : ℕ) (host : Host S) → slice_get (map (λ app. quiet_host {S = S}) apps) number ≡ Some host → host ≡ quiet_host
quiet-is [] number host at = cc
quiet-is (app ∷ apps) zero host at = cc
quiet-is (app ∷ apps) (suc number) host at = quiet-is apps number host at

-- ## One session of a lawful run

module _ (setup : Setup) (epoch began : ℕ) (journal : List Step) (app : AppId) (stays : Bool) (small : epoch < 2 ^ 64) (name : IsOf64 epoch app 0)
    (says : FirstSays stays (asked_of (told app journal))) where
  abbrev Form-of : Form History
  Form-of = as_history setup.config

  abbrev Kind : Option Request → Request → Type 0
  Kind known request = IsSound setup.config epoch app stays known request

  abbrev Kept : Option Request → Net History → Type 0
  Kept known net = Holds Form-of app beginning TakesTagged Kind (sound-kinds setup.config epoch app stays) known net

  abbrev Old : List Step → Net History
  Old before = chained Form-of setup epoch began before

  abbrev New : List Step → Net Session
  New before = chained as_session setup epoch began before

  no-serial : (n : ℕ) → (n ≡ 0) ⊎ (0 < n)
  no-serial zero = inl refl
  no-serial (suc n) = inr (omega arith)

  quiet-good : (number : ℕ) → Good Form-of app beginning TakesTagged Kind (sound-kinds setup.config epoch app stays) None number quiet_host
  unfolding quiet_host All IsReached
  quiet-good number = record { sessions = tt; servers = tt; clients = tt; last = λ here. no-serial app.serial }

  starts : Kept None (start setup epoch began)
  unfolding start All
  starts = record {
    hosts = λ number host at. subst (λ (h : Host History). Good Form-of app beginning TakesTagged Kind (sound-kinds setup.config epoch app stays) None number h)
        (sym (quiet-is setup.config.app number host at)) (quiet-good number);
    wire = tt;
  }

  -- ## A turn

  module _ (before later : List Step) (known : Option Request) (kept : Kept known (Old before)) (lawful : IsLawful Form-of setup epoch began before) where
    module _ (of : AppId) (event now : ℕ) (made : List CallRecord) (end : End) (is : before ++ steps.Turn end of event now made ∷ later ≡ journal)
        (fine : IsFine setup epoch (record { before = New before; step = steps.Turn end of event now made; after = after_step as_session setup (New before) (steps.Turn end of event now made) }))
        (may : MayTurn Form-of setup (Old before) of event now made end)
        (live : Live History) (lives : live_at of (Old before) ≡ Some live) (waiting : Waiting) (at : slice_get live.inbox 0 ≡ Some waiting) where
      abbrev turn : Turn
      turn = turn_of (Old before) of waiting now made end

      abbrev session : Session
      session = session_of setup.config live.session

      new-live : live_at of (New before) ≡ Some (map_live (session_of setup.config) live)
      new-live = live_at-histories setup epoch began of before ∙ ap (λ (found : Option (Live History)). option_map (map_live (session_of setup.config)) found) lives

      named : (session.view.epoch ≡ epoch) × (session.view.app ≡ of)
      unfolding map_live
      named = live-named setup.config epoch (λ n. Unit {0}) of (New before) (map_live (session_of setup.config) live) new-live (names-kept setup epoch began before)

      small-name : IsOf64 epoch of 0
      small-name = found-small epoch (New before) of (map_live (session_of setup.config) live) (host_at of.host (New before)) refl new-live small fine.few_before fine.small_before

      abbrev given : List Order
      given = (outcome_by Form-of setup.config live.session turn).orders

      abbrev drawn : ℕ
      drawn = (outcome_by Form-of setup.config live.session turn).session.view.counter

      -- its requests stand under own Vias
      on : AreOn setup.config epoch of session.view.counter given drawn
      unfolding outcome_by as_history turn_of
      on =
          subst (λ (a : AppId). AreOn setup.config epoch a session.view.counter given drawn) named.1
          (subst (λ (e : ℕ). AreOn setup.config e session.view.app session.view.counter given drawn) named.0
          (sends-on-branches setup.config turn.ringing session waiting now made end))

      as-live : IsLiveAs Form-of app beginning TakesTagged Kind (sound-kinds setup.config epoch app stays) known of.host live
      as-live = live-as Form-of app beginning TakesTagged Kind (sound-kinds setup.config epoch app stays) setup known of (Old before) live lives kept

      same-live : may.live ≡ live
      same-live = some-is may.live live (sym may.live_is ∙ lives)
        where
          some-is : (x y : Live History) → Some x ≡ Some y → x ≡ y
          some-is x y is = cc

      same-waiting : may.waiting ≡ waiting
      same-waiting = some-is may.waiting waiting (sym may.waiting_is ∙ subst (λ (l : Live History). slice_get l.inbox 0 ≡ Some waiting) (sym same-live) at)
        where
          some-is : (x y : Waiting) → Some x ≡ Some y → x ≡ y
          some-is x y is = cc

      -- the application may take it
      may-take : MayTake setup of (record live.session { turns = live.session.turns }) turn
      unfolding shown as_history turn_of
      may-take = subst (λ (w : Waiting). MayTake setup of (record live.session { turns = live.session.turns }) (turn_of (Old before) of w now made end)) same-waiting
          (subst (λ (l : Live History). MayTake setup of (record l.session { turns = l.session.turns }) (turn_of (Old before) of may.waiting now made end)) same-live may.allowed)

      tagged : IsTaggedEvent waiting.event
      tagged = all-at (λ (w : Waiting). IsTaggedEvent w.event) live.inbox 0 waiting at as-live.3

      module _ (here : of ≡ app) where
        abbrev first : Request
        first = live.session.request

        known-is : known ≡ Some first
        known-is = as-live.1 (ap (λ (n : ℕ). record { host = of.host; serial = n }) (live-serial of (host_at of.host (Old before)) live lives) ∙ here)

        lived : IsLived setup app (told app before) live.session live.inbox
        lived = subst (λ (a : AppId). IsLived setup a (told a before) live.session live.inbox) here (has-lived setup epoch began before of live lawful lives)

        said : (b : Bool) → b ≡ true → asked_of (cond b (record { event = event; now = now; calls = made; end = end } ∷ []) []) ≡ asked_in made ++ []
        said true same = refl
        said false same = cc

        same-here : is_same_app app of ≡ true
        same-here = subst (λ (a : AppId). is_same_app app a ≡ true) (sym here) (itself app.host app.serial)
          where
            itself : (h s : ℕ) → (h == h && s == s) ≡ true
            itself h s = grind (arith, nat_tests)

        -- what was asked up to this turn, with it, and later
        asked-is : asked_of (told_turns (turn ∷ live.session.turns)) ++ asked_of (told app later) ≡ asked_of (told app journal)
        unfolding told told_turns turn_of told_by
        asked-is =
            let mine : List ProxyOptions = asked_in made ++ [] in
            ap (λ (hs : List ProxyOptions). hs ++ asked_of (told app later)) (asked-both (told_turns live.session.turns) (told_of turn ∷ []) ∙ ap (λ (ts : List Told). asked_of ts ++ mine) lived.turns_are)
            ∙ append_assoc (asked_of (told app before)) mine (asked_of (told app later))
            ∙ sym (ap (λ (ts : List Told). asked_of ts) (told-append before (steps.Turn end of event now made ∷ later) app)
            ∙ asked-both (told app before) (told app (steps.Turn end of event now made ∷ later))
            ∙ ap (λ (hs : List ProxyOptions). asked_of (told app before) ++ hs)
            (asked-both (told_by app (steps.Turn end of event now made)) (told app later) ∙ ap (λ (hs : List ProxyOptions). hs ++ asked_of (told app later)) (said (is_same_app app of) same-here)))
            ∙ ap (λ (j : List Step). asked_of (told app j)) is

        -- the first call of those that proxied, up to this turn
        first-says : FirstSays stays (asked_of (told_turns (turn ∷ live.session.turns)))
        first-says =
            says-front stays (asked_of (told_turns (turn ∷ live.session.turns))) (asked_of (told app later)) (subst (λ (hs : List ProxyOptions). FirstSays stays hs) (sym asked-is) says)

        taken : AreTaken setup app live.session (turn ∷ live.session.turns)
        unfolding AreTaken
        taken = (subst (λ (a : AppId). MayTake setup a (record live.session { turns = live.session.turns }) turn) here may-take, lived.taken)

        one-with : (rest : List Waiting) × AreOfOne first (turned_events (turn ∷ live.session.turns) ++ rest)
        unfolding turned_events turn_of
        one-with = one-first first (turned_events live.session.turns) live.inbox waiting at lived.events_are

        of-first : IsOf first turn.waiting.event
        unfolding turned_events turn_of
        of-first =
            let one = one-first first (turned_events live.session.turns) live.inbox waiting at lived.events_are in
            last-of setup live.session (record live.session { turns = turn ∷ live.session.turns }) turn live.session.turns
            (one-life setup.config (record live.session { turns = turn ∷ live.session.turns }) one.0 one.1)

        routes-are : AreMade (routed setup.config epoch app stays first.head.record_route) given
        unfolding outcome_by as_history session_of turn_of
        routes-are =
            turn-made setup.config turn session epoch app stays first as-live.0 (began-first setup epoch began before of live lives) (named.0, named.1 ∙ here) tagged
            (all-numbered setup.config live.session live.session.turns) of-first (lives-proper setup.config live.session live.session.turns (one-life setup.config live.session live.inbox lived.events_are))
            (lives-right setup.config live.session live.session.turns as-live.2) (life-says setup app stays live.session turn live.session.turns one-with.0 one-with.1 taken first-says)

        own : All (Fit setup.config epoch app stays known) given
        own =
            own-fit setup.config epoch app stays known first given session.view.counter drawn known-is
            (subst (λ (a : AppId). AreOn setup.config epoch a session.view.counter given drawn) here on) routes-are

      fits-by : (b : Bool) → is_same_app of app ≡ b → All (Fit setup.config epoch app stays known) given
      fits-by true same = own (app-is of app same)
      fits-by false same = other-fit setup.config epoch app stays known of given session.view.counter drawn (λ here. other-name of app same here) small-name name on

      fits : All (Fit setup.config epoch app stays known) given
      fits = fits-by (is_same_app of app) refl

    -- what a step's turn gives to send is of the kind
    step-fits : (step : Step) → before ++ step ∷ later ≡ journal
        → IsFine setup epoch (record { before = New before; step = step; after = after_step as_session setup (New before) step }) → IsAllowed Form-of setup (Old before) step
        → StepFits Form-of app beginning TakesTagged Kind (sound-kinds setup.config epoch app stays) setup known (record (Old before) { sent = [] }) step
    unfolding StepFits IsAllowed turn_of
    step-fits (steps.Turn end of event now made) is fine may = λ live waiting lives at. fits of event now made end is fine may live lives waiting at
    step-fits (steps.In from message) is fine may = tt
    step-fits (steps.Bad from bad) is fine may = tt
    step-fits (steps.Lost place) is fine may = tt
    step-fits (steps.Tick now) is fine may = tt
    step-fits (steps.Withdraw of) is fine may = tt

  -- ## All moments

  -- after the moment it stands so, by what was known of the beginning then: what is known in the end, or nothing
  pub record IsTold (final : Option Request) (moment : Moment) : Type 0 where
    pub known : Option Request
    pub grows : (final ≡ known) ⊎ (known ≡ None)
    pub servers : (number : ℕ) (host : Host Session) → host_at number moment.after ≡ Some host → All (IsServed Form-of app beginning TakesTagged Kind (sound-kinds setup.config epoch app stays) known) host.servers
    pub owns : (number : ℕ) (host : Host Session) → host_at number moment.after ≡ Some host → All (λ (client : Client). IsOn setup.config epoch client.app client.branch client.request × Unit {0}) host.clients
    pub clients : (number : ℕ) (host : Host Session) → host_at number moment.after ≡ Some host → All (IsSent Form-of app beginning TakesTagged Kind (sound-kinds setup.config epoch app stays) known) host.clients

  pub record AreTold (known : Option Request) (run : List Moment) : Type 0 where
    pub final : Option Request
    pub grows : (final ≡ known) ⊎ (known ≡ None)
    pub all : All (IsTold final) run

  grown : (known middle later : Option Request) → (middle ≡ known) ⊎ (known ≡ None) → (later ≡ middle) ⊎ (middle ≡ None) → (later ≡ known) ⊎ (known ≡ None)
  grown known middle later (inl p) (inl q) = inl (q ∙ p)
  grown known middle later (inl p) (inr q) = inr (sym p ∙ q)
  grown known middle later (inr p) q = inr p

  next-old : (before : List Step) (step : Step) → Old (before ++ step ∷ []) ≡ after_step Form-of setup (Old before) step
  unfolding chained
  next-old before step = chained-next before Form-of setup (start setup epoch began) step

  next-new : (before : List Step) (step : Step) → New (before ++ step ∷ []) ≡ after_step as_session setup (New before) step
  unfolding chained
  next-new before step = chained-next before as_session setup (start setup epoch began) step

  lawful-before : (before later : List Step) → before ++ later ≡ journal → IsLawful Form-of setup epoch began journal → IsLawful Form-of setup epoch began before
  unfolding IsLawful
  lawful-before before later is lawful =
      lawful-front before later Form-of setup (start setup epoch began) (subst (λ (j : List Step). IsLawfulFrom Form-of setup (start setup epoch began) j) (sym is) lawful)

  some-host : (found : Option (Host History)) (host : Host Session) → option_map (map_host (session_of setup.config)) found ≡ Some host
      → (old : Host History) × (found ≡ Some old) × (host.servers ≡ old.servers) × (host.clients ≡ old.clients)
  unfolding map_host
  some-host None host is = cc
  some-host (Some old) host is = let same : Some host ≡ Some (map_host (session_of setup.config) old) = sym is in (old, refl, ap (λ (h : Host Session). h.servers) (is-same host _ same), ap (λ (h : Host Session). h.clients) (is-same host _ same))
    where
      is-same : (x y : Host Session) → Some x ≡ Some y → x ≡ y
      is-same x y is = cc

  old-host : (given : List Step) (number : ℕ) (host : Host Session) → host_at number (New given) ≡ Some host
      → (old : Host History) × (host_at number (Old given) ≡ Some old) × (host.servers ≡ old.servers) × (host.clients ≡ old.clients)
  old-host given number host at =
      some-host (host_at number (Old given)) host
      (sym (host_at-maps (session_of setup.config) number (Old given)) ∙ sym (ap (λ (net : Net Session). host_at number net) (chained-histories setup epoch began given)) ∙ at)

  told-at : (given : List Step) (final known : Option Request) (moment : Moment) → (final ≡ known) ⊎ (known ≡ None) → moment.after ≡ New given → Kept known (Old given) → IsTold final moment
  told-at given final known moment grows is kept = record {
    known = known;
    grows = grows;
    servers = λ number host at.
        let old = old-host given number host (subst (λ (net : Net Session). host_at number net ≡ Some host) is at) in
        subst (λ (all : List Server). All (IsServed Form-of app beginning TakesTagged Kind (sound-kinds setup.config epoch app stays) known) all) (sym old.2) (kept.hosts number old.0 old.1).servers;
    owns = λ number host at. ((names-kept setup epoch began given).hosts number host (subst (λ (net : Net Session). host_at number net ≡ Some host) is at)).1;
    clients = λ number host at.
        let old = old-host given number host (subst (λ (net : Net Session). host_at number net ≡ Some host) is at) in
        subst (λ (all : List Client). All (IsSent Form-of app beginning TakesTagged Kind (sound-kinds setup.config epoch app stays) known) all) (sym old.3) (kept.hosts number old.0 old.1).clients;
  }

  told-from : (later before : List Step) (known : Option Request) → before ++ later ≡ journal → IsLawful Form-of setup epoch began journal → IsLawfulFrom Form-of setup (Old before) later
      → All (IsFine setup epoch) (moments_from setup (New before) later) → Kept known (Old before) → AreTold known (moments_from setup (New before) later)
  unfolding moments_from IsLawfulFrom All
  told-from [] before known is lawful rest fine kept = record { final = known; grows = inl refl; all = tt }
  told-from (step ∷ later) before known is lawful rest fine kept =
      let here : List Step = before ++ step ∷ [] in
      let whole : here ++ later ≡ journal = append_assoc before (step ∷ []) later ∙ is in
      let one : Goes Form-of app beginning TakesTagged Kind (sound-kinds setup.config epoch app stays) known (after_step Form-of setup (Old before) step) =
      step-goes Form-of app beginning TakesTagged Kind (sound-kinds setup.config epoch app stays) setup known step (Old before) rest.0
      (step-fits before later known kept (lawful-before before (step ∷ later) is lawful) step is fine.0 rest.0) kept in
      let held : Kept one.later (Old here) = subst (λ (net : Net History). Kept one.later net) (sym (next-old before step)) one.holds in
      let more : AreTold one.later (moments_from setup (New here) later) =
      told-from later here one.later whole lawful (subst (λ (net : Net History). IsLawfulFrom Form-of setup net later) (sym (next-old before step)) rest.1)
      (subst (λ (net : Net Session). All (IsFine setup epoch) (moments_from setup net later)) (sym (next-new before step)) fine.1) held in
      let shifted : AreTold one.later (moments_from setup (after_step as_session setup (New before) step) later) =
      subst (λ (net : Net Session). AreTold one.later (moments_from setup net later)) (next-new before step) more in
      record {
        final = shifted.final;
        grows = grown known one.later shifted.final one.grows shifted.grows;
        all = (told-at here shifted.final one.later _ shifted.grows (sym (next-new before step)) held, shifted.all);
      }

  -- so it is at each moment of the run
  pub run-told : IsLawful Form-of setup epoch began journal → All (IsFine setup epoch) (moments_from setup (start setup epoch began) journal) → AreTold None (moments_from setup (start setup epoch began) journal)
  unfolding IsLawful chained chained_from
  run-told lawful fine = told-from journal [] None refl lawful lawful fine starts
