-- The branch of each request that a turn sends is new to the server transactions over inner hops of all hosts: no other session
-- draws it, and this one drew lower ones before.
use Rattle.std.proofs.Common.{◌≡◌, ◌≤◌, ◌<◌, ◌^◌, ◌⊎◌, inl, inr, ℕ, zero, suc, ◌++◌, true, Option, None, Some, List, [], ◌∷◌, refl, sym, ap, subst, ◌∙◌, arith, append_assoc, append-nil}
use Rattle.std.specs.Prelude.{length, map, option_map, slice_get, unwrap_or}
use Rattle.sc_value.specs.declared.ids.AppId.{AppId}
use Rattle.sc_value.specs.declared.message.Request.{Request}
use Rattle.sc_value.specs.declared.parts.Address.{Address}
use Rattle.sc_value.specs.declared.parts.Via.{Via}
use Rattle.sc_terms.specs.declared.calls.CallRecord.{CallRecord}
use Rattle.sc_terms.specs.declared.calls.End.{End}
use Rattle.sc_terms.specs.declared.settings.AppEntry.{AppEntry}
use Rattle.sc_terms.specs.declared.settings.Config.{Config}
use Rattle.sc_terms.specs.declared.steps.Step.{Step}
use Rattle.sc_terms.specs.declared.steps.Step.TheVariants as steps
use Rattle.sc_parts.specs.declared.setup.Setup.{Setup}
use Rattle.sc_state.specs.Hosts.{Host}
use Rattle.sc_state.specs.declared.host.Live.{Live}
use Rattle.sc_state.specs.declared.host.Server.{Server}
use Rattle.sc_state.specs.declared.net.Net.{Net}
use Rattle.sc_state.specs.declared.orders.Order.{Order}
use Rattle.sc_state.specs.declared.orders.Order.TheVariants as orders
use Rattle.sc_state.specs.declared.queue.Waiting.{Waiting}
use Rattle.sc_state.specs.declared.session.Session.{Session}
use Rattle.sc_tokens.specs.Bytes.{Bytes}
use Rattle.sc_model.specs.Names.{IsOf64}
use Rattle.sc_hosts.specs.Histories.{History, as_history, as_session, begun_history, session_of, turned_history}
use Rattle.sc_hosts.specs.Messages.{kin}
use Rattle.sc_hosts.specs.Nets.{host_at}
use Rattle.sc_hosts.specs.Runs.{IsLawful, IsLawfulFrom, MayTurn, after_step, net_from as chained, chained_from, quiet_host, start}
use Rattle.sc_hosts.specs.Sessions.{Turn}
use Rattle.sc_hosts.specs.Steps.{live_at, outcome_by, turn_of}
use Rattle.sc_hosts.specs.Taking.{without_own_route as unrouted}
use Rattle.sc_hosts.specs.Transacting.{same_top}
use Rattle.sc_forms.specs.Simulations.{map_host, map_live}
use Rattle.sc_forms.proofs.HistoryLaws.{chained-histories, lawful_back-histories, live_at-histories}
use Rattle.sc_forms.proofs.NetMaps.{host_at-maps}
use Rattle.sc_forms.proofs.StepMaps.{turn_of-maps}
use Rattle.sc_lasting.specs.Lasting.{All}
use Rattle.sc_lasting.proofs.Parts.{all-map}
use Rattle.sc_lived.proofs.Sayings.{read-at}
use Rattle.sc_paths.specs.Moments.{Moment, moments, moments_from, orders_by}
use Rattle.sc_keyed.specs.Keyed.{AreOn, IsOn}
use Rattle.sc_keyed.proofs.Branches.{sends-on-branches}
use Rattle.sc_hops.specs.Hops.{HasBranchOf}
use Rattle.sc_hops.proofs.OneTurn.{unrouted-vias}
use Rattle.sc_vias.proofs.RunVias.{drawn-is, live-named, on-rises, turn-on}
use Rattle.sc_ways.proofs.OneHop.{allowed-turn, orders-are}
use Rattle.sc_ways.proofs.OwnBranches.{Is64, IsReadyAt, on-one, with-branch, has-via}
use Rattle.sc_ways.proofs.Recorders.{found-small}
use Rattle.sc_ways.proofs.Runs.{run-each}
use Rattle.sc_recorded.specs.Recorded.{IsInner}
use Rattle.sc_recorded.proofs.Hosts.{AreKinds, Good, IsReached, IsServed}
use Rattle.sc_recorded.proofs.Nets.{Goes, Holds, OrderFits}
use Rattle.sc_recorded.proofs.Steps.{StepFits, step-goes}
use Rattle.sc_onward.specs.Onward.{HasNewBranches, HasNoServer, sent_in}
use Rattle.sc_onward.proofs.Counters.{draws-stay, drawn_of, next-is}

below : (a b : ℕ) → a ≤ b → Is64 b → Is64 a
below a b p q = omega (arith, p, q)

lower : (a b c : ℕ) → a < b → b ≤ c → a < c
lower a b c p q = omega (arith, p, q)

clash : (k branch drawn last : ℕ) → k ≡ branch → branch ≤ drawn → drawn ≤ last → last < k → ⊥
clash k branch drawn last is under up above = omega (arith, is, under, up, above)

some-is : {A : Type 0} (x y : A) → Some x ≡ Some y → x ≡ y
some-is x y is = cc

-- ## Requests on other branches

kin-top : (a vias : List Via) → same_top a (unwrap_or (option_map (λ via. via ∷ []) (slice_get vias 0)) []) ≡ same_top a vias
unfolding same_top
kin-top a [] = refl
kin-top a (via ∷ vias) = refl

kin-long : (vias : List Via) → 1 ≤ length vias → 1 ≤ length (unwrap_or (option_map (λ via. via ∷ []) (slice_get vias 0)) [])
kin-long [] some = some
kin-long (via ∷ vias) some = omega arith

-- nothing is asked of a session
abbrev pub Lives : History → Type 0
Lives history = Unit {0}

abbrev pub beginning : History → Request
beginning history = history.request

module _ (sent : Request) where
  -- it has a Via, and its top one is another than that of this request
  abbrev pub IsOther : Option Request → Request → Type 0
  IsOther known request = (1 ≤ length request.head.via) × (HasBranchOf sent request → ⊥)

  kin-other : (known : Option Request) (method : Bytes) (to : Address) (request : Request) → IsOther known request → IsOther known (kin method to request)
  unfolding kin
  kin-other known method to request other = (kin-long request.head.via other.0, λ is. other.1 (sym (kin-top sent.head.via request.head.via) ∙ is))

  popped-other : (known : Option Request) (config : Config) (request : Request) → IsOther known request → IsOther known (unrouted config request)
  popped-other known config request other = (
    subst (λ (vias : List Via). 1 ≤ length vias) (sym (unrouted-vias config request)) other.0,
    λ is. other.1 (subst (λ (vias : List Via). same_top sent.head.via vias ≡ true) (unrouted-vias config request) is),
  )

  pub other-kinds : (config : Config) → AreKinds (as_history config) beginning Lives IsOther
  unfolding as_history begun_history turned_history
  other-kinds config = record {
    begins_of = λ other of number began noted request. refl;
    begins = λ other of number began noted request. tt;
    turned_of = λ other turn history. refl;
    turned = λ other turn history tagged all. tt;
    more = λ began request other. other;
    kin_sound = kin-other;
    routed = λ known routes request other. other;
    popped = popped-other;
    vias = λ known request other. other.0;
  }

  module _ (config : Config) (epoch : ℕ) (app of : AppId) (known : Option Request) where
    abbrev Fit : Order → Type 0
    Fit order = OrderFits (as_history config) app beginning Lives IsOther (other-kinds config) known order

    -- so are those that a turn sends, where each on one of its branches is
    all-fit : (given : List Order) (low high : ℕ) → ((branch : ℕ) (request : Request) → IsOn config epoch of branch request → branch ≤ high → IsOther known request) → AreOn config epoch of low given high
        → All Fit given
    unfolding AreOn OrderFits All
    all-fit [] low high each on = tt
    all-fit (orders.Respond event response ∷ given) low high each on = (tt, all-fit given low high each on)
    all-fit (orders.Begin branch directive region state request ∷ given) low high each on =
        (each branch request on.1 (on-rises config epoch of given branch high on.2), all-fit given branch high each on.2)
    all-fit (orders.Send branch request ∷ given) low high each on = (each branch request on.1 (on-rises config epoch of given branch high on.2), all-fit given branch high each on.2)
    all-fit (orders.Acknowledge request ∷ given) low high each on = (each on.0 request on.2 (on-rises config epoch of given on.0 high on.3), all-fit given on.0 high each on.3)
    all-fit (orders.Cancel branch ∷ given) low high each on = (tt, all-fit given low high each on)
    all-fit (orders.CancelNow branch ∷ given) low high each on = (tt, all-fit given low high each on)

-- ## The order that sends a request

-- it goes on a branch of the turn
record IsDrawn (config : Config) (epoch : ℕ) (app : AppId) (low high : ℕ) (request : Request) : Type 0 where
  branch : ℕ
  above : low < branch
  under : branch ≤ high
  on : IsOn config epoch app branch request

module _ (config : Config) (epoch : ℕ) (app : AppId) (request : Request) where
  abbrev Drawn : ℕ → ℕ → Type 0
  Drawn low high = IsDrawn config epoch app low high request

  from-lower : (low mid high : ℕ) → low < mid → Drawn mid high → Drawn low high
  from-lower low mid high up drawn = record { branch = drawn.branch; above = over low mid drawn.branch up drawn.above; under = drawn.under; on = drawn.on }
    where
      over : (a b c : ℕ) → a < b → b < c → a < c
      over a b c p q = omega (arith, p, q)

  none : None ≡ Some request → ⊥
  none is = cc

  here-drawn : (branch low high : ℕ) (x : Request) → low < branch → branch ≤ high → IsOn config epoch app branch x → Some x ≡ Some request → Drawn low high
  here-drawn branch low high x above under on is =
      record { branch = branch; above = above; under = under; on = subst (λ (r : Request). IsOn config epoch app branch r) (some-is x request is) on }

  -- the request of an order does
  order-drawn : (given : List Order) (place low high : ℕ) (order : Order) → AreOn config epoch app low given high → slice_get given place ≡ Some order → sent_in order ≡ Some request → Drawn low high
  unfolding AreOn sent_in
  order-drawn [] place low high order on at sent = cc
  order-drawn (orders.Begin branch directive region state x ∷ given) zero low high order on at sent =
      here-drawn branch low high x on.0 (on-rises config epoch app given branch high on.2) on.1 (ap sent_in (some-is (orders.Begin branch directive region state x) order at) ∙ sent)
  order-drawn (orders.Send branch x ∷ given) zero low high order on at sent =
      here-drawn branch low high x on.0 (on-rises config epoch app given branch high on.2) on.1 (ap sent_in (some-is (orders.Send branch x) order at) ∙ sent)
  order-drawn (orders.Acknowledge x ∷ given) zero low high order on at sent =
      here-drawn on.0 low high x on.1 (on-rises config epoch app given on.0 high on.3) on.2 (ap sent_in (some-is (orders.Acknowledge x) order at) ∙ sent)
  order-drawn (orders.Respond event response ∷ given) zero low high order on at sent = absurd (none (ap sent_in (some-is (orders.Respond event response) order at) ∙ sent))
  order-drawn (orders.Cancel branch ∷ given) zero low high order on at sent = absurd (none (ap sent_in (some-is (orders.Cancel branch) order at) ∙ sent))
  order-drawn (orders.CancelNow branch ∷ given) zero low high order on at sent = absurd (none (ap sent_in (some-is (orders.CancelNow branch) order at) ∙ sent))
  order-drawn (orders.Respond event response ∷ given) (suc place) low high order on at sent = order-drawn given place low high order on at sent
  order-drawn (orders.Begin branch directive region state x ∷ given) (suc place) low high order on at sent = from-lower low branch high on.0 (order-drawn given place branch high order on.2 at sent)
  order-drawn (orders.Send branch x ∷ given) (suc place) low high order on at sent = from-lower low branch high on.0 (order-drawn given place branch high order on.2 at sent)
  order-drawn (orders.Acknowledge x ∷ given) (suc place) low high order on at sent = from-lower low on.0 high on.1 (order-drawn given place on.0 high order on.3 at sent)
  order-drawn (orders.Cancel branch ∷ given) (suc place) low high order on at sent = order-drawn given place low high order on at sent
  order-drawn (orders.CancelNow branch ∷ given) (suc place) low high order on at sent = order-drawn given place low high order on at sent

-- ## Beginnings of a journal

lawful-front : (before later : List Step) (setup : Setup) (net : Net History) → IsLawfulFrom (as_history setup.config) setup net (before ++ later) → IsLawfulFrom (as_history setup.config) setup net before
unfolding IsLawfulFrom
lawful-front [] later setup net lawful = tt
lawful-front (step ∷ before) later setup net lawful = (lawful.0, lawful-front before later setup (after_step (as_history setup.config) setup net step) lawful.1)

at-split : (P : Moment → Type 0) (front : List Step) (step : Step) (later : List Step) (setup : Setup) (net : Net Session) → All P (moments_from setup net (front ++ step ∷ later))
    → P (record { before = chained_from as_session setup net front; step = step; after = after_step as_session setup (chained_from as_session setup net front) step })
unfolding moments_from All chained_from
at-split P [] step later setup net all = all.0
at-split P (first ∷ front) step later setup net all = at-split P front step later setup (after_step as_session setup net first) all.1

quiet-is : (apps : List AppEntry) (number : ℕ) (host : Host History) → slice_get (map (λ app. quiet_host {S = History}) apps) number ≡ Some host → host ≡ quiet_host
quiet-is [] number host at = cc
quiet-is (app ∷ apps) zero host at = cc
quiet-is (app ∷ apps) (suc number) host at = quiet-is apps number host at

-- ## A lawful run

module _ (setup : Setup) (epoch began : ℕ) (small : epoch < 2 ^ 64) (journal : List Step) (lawful : IsLawful (as_history setup.config) setup epoch began journal)
    (ready : All (IsReadyAt setup epoch) (moments setup epoch began journal)) where
  abbrev Old : List Step → Net History
  Old given = chained (as_history setup.config) setup epoch began given

  abbrev New : List Step → Net Session
  New given = chained as_session setup epoch began given

  abbrev Now : List Step → Step → Moment
  Now front step = record { before = New front; step = step; after = after_step as_session setup (New front) step }

  next-old : (front : List Step) (step : Step) → Old (front ++ step ∷ []) ≡ after_step (as_history setup.config) setup (Old front) step
  unfolding chained
  next-old front step = next-is front setup (start setup epoch began) step

  ready-at : (front : List Step) (step : Step) (later : List Step) → front ++ step ∷ later ≡ journal → IsReadyAt setup epoch (Now front step)
  unfolding moments chained
  ready-at front step later is =
      at-split (IsReadyAt setup epoch) front step later setup (start setup epoch began) (subst (λ (j : List Step). All (IsReadyAt setup epoch) (moments_from setup (start setup epoch began) j)) (sym is) ready)

  lawful-to : (front later : List Step) → front ++ later ≡ journal → IsLawful (as_history setup.config) setup epoch began front
  unfolding IsLawful
  lawful-to front later is =
      lawful-front front later setup (start setup epoch began) (subst (λ (j : List Step). IsLawfulFrom (as_history setup.config) setup (start setup epoch began) j) (sym is) lawful)

  some-host : (found : Option (Host History)) (host : Host Session) → option_map (map_host (session_of setup.config)) found ≡ Some host
      → (old : Host History) × (found ≡ Some old) × (host.servers ≡ old.servers)
  unfolding map_host
  some-host None host is = cc
  some-host (Some old) host is = (old, refl, ap (λ (h : Host Session). h.servers) (some-is host (map_host (session_of setup.config) old) (sym is)))

  old-host : (given : List Step) (number : ℕ) (host : Host Session) → host_at number (New given) ≡ Some host
      → (old : Host History) × (host_at number (Old given) ≡ Some old) × (host.servers ≡ old.servers)
  old-host given number host at =
      some-host (host_at number (Old given)) host
      (sym (host_at-maps (session_of setup.config) number (Old given)) ∙ sym (ap (λ (net : Net Session). host_at number net) (chained-histories setup epoch began given)) ∙ at)

  -- ## What came before a request that is sent

  module _ (app : AppId) (k : ℕ) (sent : Request) (sent-on : IsOn setup.config epoch app k sent) (name : IsOf64 epoch app k) (before tail : List Step) (whole : before ++ tail ≡ journal)
      (last : Live History) (lives-last : live_at app (Old before) ≡ Some last) (next : Waiting) (waits : slice_get last.inbox 0 ≡ Some next) (above : drawn_of setup.config last.session < k) where
    abbrev Kind : Option Request → Request → Type 0
    Kind known request = IsOther sent known request

    abbrev Kept : Option Request → Net History → Type 0
    Kept known net = Holds (as_history setup.config) app beginning Lives Kind (other-kinds sent setup.config) known net

    no-serial : (n : ℕ) → (n ≡ 0) ⊎ (0 < n)
    no-serial zero = inl refl
    no-serial (suc n) = inr (omega arith)

    quiet-good : (number : ℕ) → Good (as_history setup.config) app beginning Lives Kind (other-kinds sent setup.config) None number quiet_host
    unfolding quiet_host All IsReached
    quiet-good number = record { sessions = tt; servers = tt; clients = tt; last = λ here. no-serial app.serial }

    starts : Kept None (start setup epoch began)
    unfolding start All
    starts = record {
      hosts = λ number host at. subst (λ (h : Host History). Good (as_history setup.config) app beginning Lives Kind (other-kinds sent setup.config) None number h)
          (sym (quiet-is setup.config.app number host at)) (quiet-good number);
      wire = tt;
    }

    module _ (of : AppId) (event now : ℕ) (made : List CallRecord) (end : End) (front later : List Step) (is : front ++ steps.Turn end of event now made ∷ later ≡ before)
        (live : Live History) (lives : live_at of (Old front) ≡ Some live) (waiting : Waiting) (first : slice_get live.inbox 0 ≡ Some waiting) (known : Option Request) where
      abbrev turn : Turn
      turn = turn_of (Old front) of waiting now made end

      abbrev session : Session
      session = session_of setup.config live.session

      abbrev given : List Order
      given = (outcome_by (as_history setup.config) setup.config live.session turn).orders

      abbrev drawn : ℕ
      drawn = (outcome_by (as_history setup.config) setup.config live.session turn).session.view.counter

      at-step : IsReadyAt setup epoch (Now front (steps.Turn end of event now made))
      at-step =
          ready-at front (steps.Turn end of event now made) (later ++ tail)
          (sym (append_assoc front (steps.Turn end of event now made ∷ later) tail) ∙ ap (λ (j : List Step). j ++ tail) is ∙ whole)

      new-live : live_at of (New front) ≡ Some (map_live (session_of setup.config) live)
      new-live = live_at-histories setup epoch began of front ∙ ap (λ (found : Option (Live History)). option_map (map_live (session_of setup.config)) found) lives

      named : (session.view.epoch ≡ epoch) × (session.view.app ≡ of)
      unfolding map_live
      named = live-named setup.config epoch Is64 of (New front) (map_live (session_of setup.config) live) new-live at-step.ready.kept

      small-name : IsOf64 epoch of 0
      small-name = found-small epoch (New front) of (map_live (session_of setup.config) live) (host_at of.host (New front)) refl new-live small at-step.fine.few_before at-step.fine.small_before

      on : AreOn setup.config epoch of session.view.counter given drawn
      unfolding outcome_by as_history turn_of
      on =
          subst (λ (a : AppId). AreOn setup.config epoch a session.view.counter given drawn) named.1
          (subst (λ (e : ℕ). AreOn setup.config e session.view.app session.view.counter given drawn) named.0
          (sends-on-branches setup.config turn.ringing session waiting now made end))

      -- in both forms it draws the same
      same-turn : turn_of (New front) of waiting now made end ≡ turn
      same-turn = ap (λ (net : Net Session). turn_of net of waiting now made end) (chained-histories setup epoch began front) ∙ turn_of-maps (session_of setup.config) (Old front) of waiting now made end

      drawn-small : Is64 drawn
      unfolding outcome_by as_session as_history map_live
      drawn-small =
          subst (λ (t : Turn). Is64 (outcome_by as_session setup.config session t).session.view.counter) same-turn
          (subst Is64 (drawn-is setup epoch Is64 (New front) of event now made end (map_live (session_of setup.config) live) waiting new-live first) at-step.drawn)

      stays : of ≡ app → drawn ≤ drawn_of setup.config last.session
      stays here =
          draws-stay setup epoch began of event now made end front later live last waiting next
          (subst (λ (j : List Step). IsLawful (as_history setup.config) setup epoch began j) (sym is) (lawful-to before tail whole)) lives first
          (subst (λ (j : List Step). live_at of (Old j) ≡ Some last) (sym is) (subst (λ (a : AppId). live_at a (Old before) ≡ Some last) (sym here) lives-last)) waits

      one-other : (branch : ℕ) (request : Request) → IsOn setup.config epoch of branch request → branch ≤ drawn → Kind known request
      one-other branch request here under = (
        has-via setup.config epoch of branch request here,
        λ same.
            let one = on-one setup.config epoch app of k branch sent request name (with-branch epoch of branch small-name (below branch drawn under drawn-small)) sent-on here same in
            clash k branch drawn (drawn_of setup.config last.session) one.1 under (stays (sym one.0)) above,
      )

      turn-fits : All (Fit sent setup.config epoch app of known) given
      turn-fits = all-fit sent setup.config epoch app of known given session.view.counter drawn one-other on

    step-fits : (front : List Step) (step : Step) (later : List Step) (known : Option Request) → front ++ step ∷ later ≡ before
        → StepFits (as_history setup.config) app beginning Lives Kind (other-kinds sent setup.config) setup known (record (Old front) { sent = [] }) step
    unfolding StepFits turn_of
    step-fits front (steps.Turn end of event now made) later known is = λ live waiting lives first. turn-fits of event now made end front later is live lives waiting first known
    step-fits front (steps.In from message) later known is = tt
    step-fits front (steps.Bad from bad) later known is = tt
    step-fits front (steps.Lost place) later known is = tt
    step-fits front (steps.Tick now) later known is = tt
    step-fits front (steps.Withdraw of) later known is = tt

    all-kept : (later front : List Step) (known : Option Request) → front ++ later ≡ before → IsLawfulFrom (as_history setup.config) setup (Old front) later → Kept known (Old front)
        → (then : Option Request) × Kept then (Old before)
    unfolding IsLawfulFrom
    all-kept [] front known is rest kept = (known, subst (λ (j : List Step). Kept known (Old j)) (sym (append-nil front) ∙ is) kept)
    all-kept (step ∷ later) front known is rest kept =
        let one : Goes (as_history setup.config) app beginning Lives Kind (other-kinds sent setup.config) known (after_step (as_history setup.config) setup (Old front) step) =
        step-goes (as_history setup.config) app beginning Lives Kind (other-kinds sent setup.config) setup known step (Old front) rest.0 (step-fits front step later known is) kept in
        all-kept later (front ++ step ∷ []) one.later (append_assoc front (step ∷ []) later ∙ is)
        (subst (λ (net : Net History). IsLawfulFrom (as_history setup.config) setup net later) (sym (next-old front step)) rest.1)
        (subst (λ (net : Net History). Kept one.later net) (sym (next-old front step)) one.holds)

    -- no host has a server transaction with its branch
    no-server : HasNoServer sent (New before)
    unfolding HasNoServer IsLawful chained chained_from
    no-server =
        let kept = all-kept before [] None refl (lawful-to before tail whole) starts in
        λ number host at.
        let old = old-host before number host at in
        all-map (IsServed (as_history setup.config) app beginning Lives Kind (other-kinds sent setup.config) kept.0) (λ (server : Server). IsInner server.peer → HasBranchOf sent server.request → ⊥) host.servers
        (λ server admits inner. (admits.2 inner).1)
        (subst (λ (all : List Server). All (IsServed (as_history setup.config) app beginning Lives Kind (other-kinds sent setup.config) kept.0) all) (sym old.2) (kept.1.hosts number old.0 old.1).servers)

  -- ## A turn of the run

  none-at : (place : ℕ) (order : Order) → slice_get [] place ≡ Some order → ⊥
  none-at place order at = cc

  turn-new : (before : List Step) (app : AppId) (event now : ℕ) (made : List CallRecord) (end : End) (later : List Step) → before ++ steps.Turn end app event now made ∷ later ≡ journal
      → (place : ℕ) (order : Order) (request : Request) → slice_get (orders_by setup (New before) (steps.Turn end app event now made)) place ≡ Some order → sent_in order ≡ Some request → HasNoServer request (New before)
  unfolding turn_of
  turn-new before app event now made end later is place order request at sends =
      let here = ready-at before (steps.Turn end app event now made) later is in
      let may : MayTurn as_session setup (New before) app event now made end = allowed-turn setup (New before) app event now made end here.fine.allowed in
      let done = outcome_by as_session setup.config may.live.session (turn_of (New before) app may.waiting now made end) in
      let same : orders_by setup (New before) (steps.Turn end app event now made) ≡ done.orders = orders-are setup (New before) app event now made end may.live may.waiting may.live_is may.waiting_is in
      let most : Is64 done.session.view.counter = subst Is64 (drawn-is setup epoch Is64 (New before) app event now made end may.live may.waiting may.live_is may.waiting_is) here.drawn in
      let on = turn-on setup.config epoch Is64 app (New before) may.live may.waiting now made end may.live_is here.ready.kept in
      let drawn = order-drawn setup.config epoch app request done.orders place may.live.session.view.counter done.session.view.counter order on
      (subst (λ (given : List Order). slice_get given place ≡ Some order) same at) sends in
      let name : IsOf64 epoch app 0 = found-small epoch (New before) app may.live (host_at app.host (New before)) refl may.live_is small here.fine.few_before here.fine.small_before in
      let read = read-at setup epoch began before app may.live may.live_is in
      no-server app drawn.branch request drawn.on (with-branch epoch app drawn.branch name (below drawn.branch done.session.view.counter drawn.under most)) before (steps.Turn end app event now made ∷ later) is
      read.old read.found_is may.waiting (subst (λ (inbox : List Waiting). slice_get inbox 0 ≡ Some may.waiting) read.inbox_is may.waiting_is)
      (subst (λ (s : Session). s.view.counter < drawn.branch) read.session_is drawn.above)

  new-at : (before : List Step) (step : Step) (later : List Step) → before ++ step ∷ later ≡ journal → HasNewBranches setup (Now before step)
  unfolding orders_by
  new-at before (steps.Turn end app event now made) later is = λ place order request at sends. turn-new before app event now made end later is place order request at sends
  new-at before (steps.In from message) later is = λ place order request at sends. absurd (none-at place order at)
  new-at before (steps.Bad from bad) later is = λ place order request at sends. absurd (none-at place order at)
  new-at before (steps.Lost place) later is = λ place order request at sends. absurd (none-at place order at)
  new-at before (steps.Tick now) later is = λ place order request at sends. absurd (none-at place order at)
  new-at before (steps.Withdraw app) later is = λ place order request at sends. absurd (none-at place order at)

-- at each moment
pub all-new : (setup : Setup) (epoch began : ℕ) (journal : List Step) → epoch < 2 ^ 64 → IsLawful as_session setup epoch began journal → All (IsReadyAt setup epoch) (moments setup epoch began journal)
    → All (HasNewBranches setup) (moments setup epoch began journal)
all-new setup epoch began journal small lawful ready =
    run-each setup epoch began journal lawful (HasNewBranches setup) (λ before step later is allowed. new-at setup epoch began small journal (lawful_back-histories setup epoch began journal lawful) ready before step later is)
