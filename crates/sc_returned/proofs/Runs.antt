-- At each moment of a lawful run: what server transactions and sessions have of requests that came, and which request each response is to.
use Rattle.std.proofs.Common.{◌≡◌, ◌⊎◌, inl, inr, ℕ, ◌++◌, true, Option, None, Some, List, [], ◌∷◌, refl, sym, ap, subst, append_assoc, append-nil, ◌∙◌}
use Rattle.std.specs.Prelude.{◌==◌, is_some, option_map, slice_get}
use Rattle.std.specs.List.{find}
use Rattle.std.specs.Option.{option_map_or}
use Rattle.sc_value.specs.declared.ids.AppId.{AppId}
use Rattle.sc_value.specs.declared.message.Response.{Response}
use Rattle.sc_terms.specs.declared.calls.CallRecord.{CallRecord}
use Rattle.sc_terms.specs.declared.calls.End.{End}
use Rattle.sc_terms.specs.declared.settings.Config.{Config}
use Rattle.sc_terms.specs.declared.steps.Step.{Step}
use Rattle.sc_terms.specs.declared.steps.Step.TheVariants as steps
use Rattle.sc_parts.specs.declared.setup.Setup.{Setup}
use Rattle.sc_state.specs.Hosts.{Host}
use Rattle.sc_state.specs.declared.host.Live.{Live}
use Rattle.sc_state.specs.declared.host.Server.{Server}
use Rattle.sc_state.specs.declared.net.Net.{Net}
use Rattle.sc_state.specs.declared.orders.Order.{Order}
use Rattle.sc_state.specs.declared.orders.Order.TheVariants as orders
use Rattle.sc_state.specs.declared.proxy.Proxy.{Proxy}
use Rattle.sc_state.specs.declared.queue.Waiting.{Waiting}
use Rattle.sc_state.specs.declared.session.Session.{Session}
use Rattle.sc_model.specs.Dialogs.{tag_of}
use Rattle.sc_model.specs.Settings.{charters_of}
use Rattle.sc_hosts.specs.Branches.{new_proxy}
use Rattle.sc_hosts.specs.Histories.{History, as_history, as_session, begun_history, session_after, session_of, turned_history}
use Rattle.sc_hosts.specs.Nets.{host_at}
use Rattle.sc_hosts.specs.Preparing.{prepared_session as prepared}
use Rattle.sc_hosts.specs.Runs.{AllowedBy, IsAllowed, IsLawful, IsLawfulFrom, MayTurn, after_step, net_from as chained, chained_from, quiet_host, prepared_turn as shown, start}
use Rattle.sc_hosts.specs.Sessions.{Form, Turn}
use Rattle.sc_hosts.specs.Steps.{live_at, outcome_by, ringing_at, turn_of}
use Rattle.sc_forms.specs.Simulations.{map_host}
use Rattle.sc_forms.proofs.HistoryLaws.{chained-histories, lawful_back-histories}
use Rattle.sc_forms.proofs.NetMaps.{host_at-maps}
use Rattle.sc_lasting.specs.Lasting.{All, Directly}
use Rattle.sc_recorded.proofs.Runs.{chained-next, lawful-front, quiet-is}
use Rattle.sc_lasting.proofs.Parts.{all-append, all-found, all-map}
use Rattle.sc_lasting.proofs.Shared.{all-at}
use Rattle.sc_lived.specs.Lived.{AreAccepted, AreTaken, IsLived, MayTake, Told, turns_in as told, told_of, told_turns, turned_events}
use Rattle.sc_lived.proofs.Accepted.{life-done, read-after}
use Rattle.sc_lived.proofs.Sayings.{Read, has-lived, read-at, same-taken}
use Rattle.sc_paths.specs.Moments.{Moment, given_in, moments_from, orders_by}
use Rattle.sc_proxying.specs.Proxying.{HasItsList, as_begun}
use Rattle.sc_proxying.proofs.Listed.{lists-are-had}
use Rattle.sc_keyed.specs.Keyed.{IsIn}
use Rattle.sc_replies.specs.Fields.{Answers, AnswersAll, Incoming, IsAnswerTo, WasBrought}
use Rattle.sc_replies.specs.Replies.{orders_of}
use Rattle.sc_replies.proofs.AnswerTurns.{histories-answer}
use Rattle.sc_ways.proofs.FirstHop.{in-left}
use Rattle.sc_returned.proofs.ArrivalHosts.{AreKept, Arrival, HostIn, Noted, ServerIn}
use Rattle.sc_returned.proofs.ArrivalNets.{AreSingle, Goes, Holds}
use Rattle.sc_returned.proofs.ArrivalSteps.{live-in, step-goes}
use Rattle.sc_returned.proofs.Direct.{IsDirectly, TellsNone, told-direct, turn-direct, turns-tagged}

-- ## Histories

-- the events of the turns of a history are noted
unfoldable LivesOf : List Arrival → AppId → History → Type 0
LivesOf arrivals app history = All (Noted arrivals app) (turned_events history.turns)

more-of : (arrivals new : List Arrival) (app : AppId) (events : List Waiting) → All (Noted arrivals app) events → All (Noted (arrivals ++ new) app) events
more-of arrivals new app events all =
    all-map (Noted arrivals app) (Noted (arrivals ++ new) app) events
    (λ waiting noted came is. in-left (record { number = waiting.number; app = app; came = came }) arrivals new (noted came is)) all

kept-of : (config : Config) → AreKept (as_history config) LivesOf
unfolding LivesOf as_history begun_history turned_history turned_events All
kept-of config = record {
  begins = λ arrivals c app epoch now noted request. tt;
  turned = λ arrivals app c turn history noted all. all-append (Noted arrivals app) (turned_events history.turns) turn.waiting all noted;
  more = λ arrivals new app history all. more-of arrivals new app (turned_events history.turns) all;
}

-- ## Lists, and hosts at the beginning

parts-of : {A : Type 0} (P : A → Type 0) (xs ys : List A) → All P (xs ++ ys) → All P xs × All P ys
unfolding All
parts-of P [] ys all = (tt, all)
parts-of P (x ∷ xs) ys all = let rest = parts-of P xs ys all.1 in ((all.0, rest.0), rest.1)

-- ## Responses

-- the response is to a request that came to this session under its number: it answers it, or the session proxies it, where it is a later
-- one if the session is that one
abbrev pub IsTo : AppId → List Arrival → AppId → ℕ → Response → Type 0
IsTo app arrivals of number response =
    ((came : Incoming) × IsIn (record { number = number; app = of; came = came }) arrivals × IsAnswerTo came response)
    ⊎ ((came : Incoming) × IsIn (record { number = number; app = of; came = came }) arrivals × (of ≡ app → is_some (tag_of came.request.head.to) ≡ true))

unfoldable pub Responds : AppId → List Arrival → Order → Type 0
Responds app arrivals (orders.Respond number response) = (of : AppId) × IsTo app arrivals of number response
Responds app arrivals order = Unit {0}

more-responds : (app : AppId) (arrivals new : List Arrival) (order : Order) → Responds app arrivals order → Responds app (arrivals ++ new) order
unfolding Responds
more-responds app arrivals new (orders.Respond number response) responds = (responds.0, by responds.1)
  where
    by : IsTo app arrivals responds.0 number response → IsTo app (arrivals ++ new) responds.0 number response
    by (inl one) = inl (one.0, in-left (record { number = number; app = responds.0; came = one.0 }) arrivals new one.1, one.2)
    by (inr one) = inr (one.0, in-left (record { number = number; app = responds.0; came = one.0 }) arrivals new one.1, one.2)
more-responds app arrivals new (orders.Begin branch directive region state request) responds = tt
more-responds app arrivals new (orders.Send branch request) responds = tt
more-responds app arrivals new (orders.Acknowledge request) responds = tt
more-responds app arrivals new (orders.Cancel branch) responds = tt
more-responds app arrivals new (orders.CancelNow branch) responds = tt

brought-in : (arrivals : List Arrival) (of : AppId) (events : List Waiting) (number : ℕ) (came : Incoming) → All (Noted arrivals of) events → WasBrought events number came
    → IsIn (record { number = number; app = of; came = came }) arrivals
unfolding WasBrought All
brought-in arrivals of [] number came noted by = absurd by
brought-in arrivals of (waiting ∷ events) number came noted (inl is) = subst (λ (n : ℕ). IsIn (record { number = n; app = of; came = came }) arrivals) is.0 (noted.0 came is.1)
brought-in arrivals of (waiting ∷ events) number came noted (inr later) = brought-in arrivals of events number came noted.1 later

order-responds : (app : AppId) (arrivals : List Arrival) (of : AppId) (events : List Waiting) (session : Session) (order : Order) → All (Noted arrivals of) events
    → ((number : ℕ) (proxy : Proxy) → find (λ (p : Proxy). p.event == number) session.known.proxies ≡ Some proxy → of ≡ app → is_some (tag_of proxy.request.head.to) ≡ true)
    → Answers events session order → Responds app arrivals order
unfolding Answers Responds
order-responds app arrivals of events session (orders.Respond number response) noted later (inl answer) = (of, inl (answer.came, brought-in arrivals of events number answer.came noted answer.brought, answer.answers))
order-responds app arrivals of events session (orders.Respond number response) noted later (inr proxied) =
    let came : Incoming = record { initial = proxied.initial; request = proxied.proxy.request } in
    (of, inr (came, brought-in arrivals of events number came noted proxied.brought, λ here. later number proxied.proxy proxied.found here))
order-responds app arrivals of events session (orders.Begin branch directive region state request) noted later answers = tt
order-responds app arrivals of events session (orders.Send branch request) noted later answers = tt
order-responds app arrivals of events session (orders.Acknowledge request) noted later answers = tt
order-responds app arrivals of events session (orders.Cancel branch) noted later answers = tt
order-responds app arrivals of events session (orders.CancelNow branch) noted later answers = tt

module _ (setup : Setup) (epoch began : ℕ) (journal : List Step) (app : AppId) (none : All (TellsNone app) journal) where
  abbrev Form-of : Form History
  Form-of = as_history setup.config

  abbrev Old : List Step → Net History
  Old before = chained Form-of setup epoch began before

  abbrev New : List Step → Net Session
  New before = chained as_session setup epoch began before

  abbrev Keeps : List Arrival → Net History → Type 0
  Keeps arrivals net = Holds Form-of LivesOf (kept-of setup.config) arrivals net

  starts : Keeps [] (start setup epoch began)
  unfolding start quiet_host All AreSingle
  starts = record {
    below = tt;
    single = tt;
    come = tt;
    hosts = λ number host at. subst (λ (h : Host History). HostIn Form-of LivesOf (kept-of setup.config) [] number h) (sym (quiet-is setup.config.app number host at)) (record { sessions = tt; servers = tt });
  }

  -- ## A turn

  module _ (before later : List Step) (arrivals : List Arrival) (kept : Keeps arrivals (Old before)) (lawful : IsLawful as_session setup epoch began before) where
    module _ (of : AppId) (event now : ℕ) (made : List CallRecord) (end : End) (is : before ++ steps.Turn end of event now made ∷ later ≡ journal)
        (may : MayTurn as_session setup (New before) of event now made end)
        (live : Live Session) (lives : live_at of (New before) ≡ Some live) (waiting : Waiting) (at : slice_get live.inbox 0 ≡ Some waiting) where
      abbrev turn : Turn
      turn = turn_of (New before) of waiting now made end

      read : Read setup (live_at of (Old before)) live
      read = read-at setup epoch began before of live lives

      abbrev history : History
      history = read.old.session

      -- with this turn on top
      abbrev now_history : History
      now_history = record history { turns = turn ∷ history.turns }

      was-noted : All (Noted arrivals of) read.old.inbox × LivesOf arrivals of history
      was-noted = live-in Form-of LivesOf (kept-of setup.config) setup arrivals of (Old before) read.old read.found_is kept

      noted : All (Noted arrivals of) (turned_events (turn ∷ history.turns))
      unfolding LivesOf turned_events turn_of
      noted =
          all-append (Noted arrivals of) (turned_events history.turns) waiting was-noted.1
          (all-at (Noted arrivals of) read.old.inbox 0 waiting (subst (λ (inbox : List Waiting). slice_get inbox 0 ≡ Some waiting) read.inbox_is at) was-noted.0)

      session-is : live.session ≡ session_after setup.config now_history history.turns
      session-is = read.session_is ∙ read-after setup.config now_history history.turns

      given-is : (outcome_by as_session setup.config live.session turn).orders ≡ orders_of setup.config (session_after setup.config now_history history.turns) turn
      unfolding outcome_by as_session
      given-is = ap (λ (session : Session). orders_of setup.config session turn) session-is

      -- where the session is that one, it proxies later requests alone

      same-live : may.live ≡ live
      same-live = some-is may.live live (sym may.live_is ∙ lives)
        where
          some-is : (x y : Live Session) → Some x ≡ Some y → x ≡ y
          some-is x y is = cc

      same-waiting : may.waiting ≡ waiting
      same-waiting = some-is may.waiting waiting (sym may.waiting_is ∙ subst (λ (l : Live Session). slice_get l.inbox 0 ≡ Some waiting) (sym same-live) at)
        where
          some-is : (x y : Waiting) → Some x ≡ Some y → x ≡ y
          some-is x y is = cc

      abbrev Allow : Session → Waiting → Type 0
      Allow session first = ∥ AllowedBy (charters_of setup of.host) (prepared setup.config (ringing_at of (host_at of.host (New before))) session first now) made end ∥₁

      may-take : MayTake setup of (record history { turns = history.turns }) turn
      unfolding shown as_session turn_of
      may-take =
          subst (λ (session : Session). Allow session waiting) read.session_is
          (subst (λ (first : Waiting). Allow live.session first) same-waiting (subst (λ (l : Live Session). Allow l.session may.waiting) same-live may.allowed))

      lived : IsLived setup of (told of before) history read.old.inbox
      lived = has-lived setup epoch began before of read.old (lawful_back-histories setup epoch began before lawful) read.found_is

      taken : AreTaken setup of now_history (turn ∷ history.turns)
      unfolding AreTaken
      taken = (may-take, same-taken setup of history (turn ∷ history.turns) history.turns lived.taken)

      accepted : of ≡ app → AreAccepted Directly (told_turns (turn ∷ history.turns))
      unfolding told_turns turn_of All
      accepted here =
          let split = parts-of (TellsNone app) before (steps.Turn end of event now made ∷ later) (subst (λ (j : List Step). All (TellsNone app) j) (sym is) none) in
          let earlier : AreAccepted Directly (told of before) = told-direct of before (subst (λ (a : AppId). All (TellsNone a) before) (sym here) split.0) in
          all-append (λ (one : Told). All IsDirectly one.calls) (told_turns history.turns) (told_of turn)
          (subst (λ (all : List Told). AreAccepted Directly all) (sym lived.turns_are) earlier)
          (turn-direct of event now made end (subst (λ (a : AppId). TellsNone a (steps.Turn end of event now made)) (sym here) split.1.0))

      proxied-later : (number : ℕ) (proxy : Proxy) → find (λ (p : Proxy). p.event == number) (session_after setup.config now_history (turn ∷ history.turns)).known.proxies ≡ Some proxy → of ≡ app
          → is_some (tag_of proxy.request.head.to) ≡ true
      unfolding session_of new_proxy
      proxied-later number proxy found here =
          let lists : All (HasItsList setup.config now_history (turn ∷ history.turns)) (session_after setup.config now_history (turn ∷ history.turns)).known.proxies = lists-are-had setup.config now_history in
          let list : HasItsList setup.config now_history (turn ∷ history.turns) proxy =
          all-found (HasItsList setup.config now_history (turn ∷ history.turns)) (λ (p : Proxy). p.event == number) (session_after setup.config now_history (turn ∷ history.turns)).known.proxies proxy found lists in
          turns-tagged (turn ∷ history.turns) setup.config now_history (as_begun proxy) list.events arrivals of list.told
          (life-done setup of Directly now_history (turn ∷ history.turns) taken (accepted here)) noted kept.come

      responds : All (Responds app arrivals) (outcome_by as_session setup.config live.session turn).orders
      unfolding AnswersAll
      responds =
          let answers : AnswersAll setup.config now_history (turn ∷ history.turns) = histories-answer setup.config now_history in
          let session : Session = session_after setup.config now_history (turn ∷ history.turns) in
          subst (λ (given : List Order). All (Responds app arrivals) given) (sym given-is)
          (all-map (Answers (turned_events (turn ∷ history.turns)) session) (Responds app arrivals) (orders_of setup.config (session_after setup.config now_history history.turns) turn)
          (λ order one. order-responds app arrivals of (turned_events (turn ∷ history.turns)) session order noted proxied-later one) answers.0)

    -- what a step's turn gives to send

    first-responds : (of : AppId) (event now : ℕ) (made : List CallRecord) (end : End) → before ++ steps.Turn end of event now made ∷ later ≡ journal → MayTurn as_session setup (New before) of event now made end
        → (live : Live Session) → live_at of (New before) ≡ Some live → (found : Option Waiting) → slice_get live.inbox 0 ≡ found
        → All (Responds app arrivals) (option_map_or (λ (waiting : Waiting). (outcome_by as_session setup.config live.session (turn_of (New before) of waiting now made end)).orders) found [])
    unfolding All
    first-responds of event now made end is may live lives None at = tt
    first-responds of event now made end is may live lives (Some waiting) at = responds of event now made end is may live lives waiting at

    turn-responds : (of : AppId) (event now : ℕ) (made : List CallRecord) (end : End) → before ++ steps.Turn end of event now made ∷ later ≡ journal → MayTurn as_session setup (New before) of event now made end
        → (found : Option (Live Session)) → live_at of (New before) ≡ found
        → All (Responds app arrivals)
        (option_map_or (λ (live : Live Session). option_map_or (λ (waiting : Waiting). (outcome_by as_session setup.config live.session (turn_of (New before) of waiting now made end)).orders) (slice_get live.inbox 0) []) found [])
    unfolding All
    turn-responds of event now made end is may None at = tt
    turn-responds of event now made end is may (Some live) at = first-responds of event now made end is may live at (slice_get live.inbox 0) refl

    step-responds : (step : Step) → before ++ step ∷ later ≡ journal → IsAllowed as_session setup (New before) step → All (Responds app arrivals) (orders_by setup (New before) step)
    unfolding orders_by IsAllowed All
    step-responds (steps.Turn end of event now made) is may = turn-responds of event now made end is may (live_at of (New before)) refl
    step-responds (steps.In from message) is may = tt
    step-responds (steps.Bad from bad) is may = tt
    step-responds (steps.Lost place) is may = tt
    step-responds (steps.Tick now) is may = tt
    step-responds (steps.Withdraw of) is may = tt

  -- ## All moments

  -- at this moment it stands so, by all that came until the end
  pub record IsAt (final : List Arrival) (moment : Moment) : Type 0 where
    pub servers : (number : ℕ) (host : Host Session) → host_at number moment.after ≡ Some host → All (ServerIn final) host.servers
    pub replies : All (Responds app final) (given_in setup moment)

  pub record AreAt (arrivals : List Arrival) (run : List Moment) : Type 0 where
    pub final : List Arrival
    pub more : List Arrival
    pub is : final ≡ arrivals ++ more
    pub single : AreSingle final
    pub all : All (IsAt final) run

  next-old : (before : List Step) (step : Step) → Old (before ++ step ∷ []) ≡ after_step Form-of setup (Old before) step
  unfolding chained
  next-old before step = chained-next before Form-of setup (start setup epoch began) step

  next-new : (before : List Step) (step : Step) → New (before ++ step ∷ []) ≡ after_step as_session setup (New before) step
  unfolding chained
  next-new before step = chained-next before as_session setup (start setup epoch began) step

  some-host : (found : Option (Host History)) (host : Host Session) → option_map (map_host (session_of setup.config)) found ≡ Some host → (old : Host History) × (found ≡ Some old) × (host.servers ≡ old.servers)
  unfolding map_host
  some-host None host is = cc
  some-host (Some old) host is = let same : Some host ≡ Some (map_host (session_of setup.config) old) = sym is in (old, refl, ap (λ (h : Host Session). h.servers) (is-same host _ same))
    where
      is-same : (x y : Host Session) → Some x ≡ Some y → x ≡ y
      is-same x y is = cc

  old-host : (given : List Step) (number : ℕ) (host : Host Session) → host_at number (New given) ≡ Some host → (old : Host History) × (host_at number (Old given) ≡ Some old) × (host.servers ≡ old.servers)
  old-host given number host at =
      some-host (host_at number (Old given)) host
      (sym (host_at-maps (session_of setup.config) number (Old given)) ∙ sym (ap (λ (net : Net Session). host_at number net) (chained-histories setup epoch began given)) ∙ at)

  servers-in : (given : List Step) (arrivals : List Arrival) (net : Net Session) → net ≡ New given → Keeps arrivals (Old given) → (number : ℕ) (host : Host Session) → host_at number net ≡ Some host
      → All (ServerIn arrivals) host.servers
  servers-in given arrivals net same kept number host at =
      let old = old-host given number host (subst (λ (n : Net Session). host_at number n ≡ Some host) same at) in
      subst (λ (all : List Server). All (ServerIn arrivals) all) (sym old.2) (kept.hosts number old.0 old.1).servers

  more-servers : (arrivals new : List Arrival) (all : List Server) → All (ServerIn arrivals) all → All (ServerIn (arrivals ++ new)) all
  more-servers arrivals new all each = all-map (ServerIn arrivals) (ServerIn (arrivals ++ new)) all (λ server among. in-left _ arrivals new among) each

  at-from : (later before : List Step) (arrivals : List Arrival) → before ++ later ≡ journal → IsLawful as_session setup epoch began journal → IsLawfulFrom as_session setup (New before) later → Keeps arrivals (Old before)
      → AreAt arrivals (moments_from setup (New before) later)
  unfolding moments_from IsLawfulFrom IsLawful All
  at-from [] before arrivals is lawful rest kept = record { final = arrivals; more = []; is = sym (append-nil arrivals); single = kept.single; all = tt }
  at-from (step ∷ later) before arrivals is lawful rest kept =
      let here : List Step = before ++ step ∷ [] in
      let whole : here ++ later ≡ journal = append_assoc before (step ∷ []) later ∙ is in
      let one : Goes Form-of LivesOf (kept-of setup.config) arrivals (after_step Form-of setup (Old before) step) = step-goes Form-of LivesOf (kept-of setup.config) setup arrivals step (Old before) kept in
      let held : Keeps one.later (Old here) = subst (λ (net : Net History). Keeps one.later net) (sym (next-old before step)) one.holds in
      let more : AreAt one.later (moments_from setup (New here) later) =
      at-from later here one.later whole lawful (subst (λ (net : Net Session). IsLawfulFrom as_session setup net later) (sym (next-new before step)) rest.1) held in
      let shifted : AreAt one.later (moments_from setup (after_step as_session setup (New before) step) later) =
      subst (λ (net : Net Session). AreAt one.later (moments_from setup net later)) (next-new before step) more in
      let all-more : List Arrival = one.more ++ shifted.more in
      let final-is : shifted.final ≡ arrivals ++ all-more = shifted.is ∙ ap (λ (all : List Arrival). all ++ shifted.more) one.is ∙ append_assoc arrivals one.more shifted.more in
      let front : IsLawful as_session setup epoch began before = lawful-front before (step ∷ later) as_session setup (start setup epoch began)
      (subst (λ (j : List Step). IsLawfulFrom as_session setup (start setup epoch began) j) (sym is) lawful) in
      record {
        final = shifted.final;
        more = all-more;
        is = final-is;
        single = shifted.single;
        all = (
          record {
            servers = λ number host at.
                subst (λ (all : List Arrival). All (ServerIn all) host.servers) (sym shifted.is)
                (more-servers one.later shifted.more host.servers (servers-in here one.later (after_step as_session setup (New before) step) (sym (next-new before step)) held number host at));
            replies = subst (λ (all : List Arrival). All (Responds app all) (orders_by setup (New before) step)) (sym final-is)
                (all-map (Responds app arrivals) (Responds app (arrivals ++ all-more)) (orders_by setup (New before) step) (more-responds app arrivals all-more) (step-responds before later arrivals kept front step is rest.0));
          },
          shifted.all,
        );
      }

  -- so it is at each moment of the run
  pub run-at : IsLawful as_session setup epoch began journal → AreAt [] (moments_from setup (start setup epoch began) journal)
  unfolding IsLawful chained chained_from
  run-at lawful = at-from journal [] [] refl lawful lawful starts
