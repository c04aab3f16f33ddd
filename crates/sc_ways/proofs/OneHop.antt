-- The turn of a later request: the one request that is queued as it is passed on.
use Rattle.std.proofs.Common.{◌≡◌, ◌≤◌, ◌<◌, ℕ, ◌^◌, true, false, Some, List, [], ◌∷◌, refl, sym, ap, subst, ◌∙◌, arith}
use Rattle.std.specs.Prelude.{drop, length, slice_get, is_some}
use Rattle.std.specs.Cmp.Lexicographic.{as_long}
use Rattle.std.specs.List.{find}
use Rattle.std.specs.Option.{option_map_or}
use Rattle.sc_value.specs.declared.ids.AppId.{AppId}
use Rattle.sc_value.specs.declared.message.Request.{Request}
use Rattle.sc_value.specs.declared.parts.Uri.{Uri}
use Rattle.sc_value.specs.declared.parts.Via.{Via}
use Rattle.sc_tokens.specs.Names.{same_bytes}
use Rattle.sc_terms.specs.declared.calls.CallRecord.{CallRecord}
use Rattle.sc_terms.specs.declared.calls.End.{End}
use Rattle.sc_terms.specs.declared.steps.Step.TheVariants as steps
use Rattle.sc_parts.specs.declared.setup.Setup.{Setup}
use Rattle.sc_state.specs.Hosts.{Host}
use Rattle.sc_state.specs.declared.host.Live.{Live}
use Rattle.sc_state.specs.declared.net.Net.{Net}
use Rattle.sc_state.specs.declared.orders.Order.{Order}
use Rattle.sc_state.specs.declared.queue.Queued.{Queued}
use Rattle.sc_state.specs.declared.queue.Queued.TheVariants as queued
use Rattle.sc_state.specs.declared.queue.Waiting.{Waiting}
use Rattle.sc_state.specs.declared.session.Session.{Session}
use Rattle.sc_model.specs.Names.{IsOf64}
use Rattle.sc_model.specs.Dialogs.{tag_of}
use Rattle.sc_model.specs.DialogRequests.{cancel}
use Rattle.sc_hosts.specs.EventLists.{waiting_in}
use Rattle.sc_hosts.specs.Histories.{as_session}
use Rattle.sc_hosts.specs.Nets.{host_at}
use Rattle.sc_hosts.specs.Runs.{IsAllowed, MayTurn, after_step}
use Rattle.sc_hosts.specs.Steps.{live_at, outcome_by, turn_of}
use Rattle.sc_hosts.specs.Taking.{names, own_uri, without_own_route as unrouted}
use Rattle.sc_hosts.specs.Transacting.{same_via, method_of}
use Rattle.sc_lives.specs.Numbers.{AreNumbered}
use Rattle.sc_once.specs.Growing.{IsBetween}
use Rattle.sc_lasting.specs.Lasting.{All, Numbered}
use Rattle.sc_lasting.proofs.Began.{test-found}
use Rattle.sc_reached.specs.Reached.{AllSmall}
use Rattle.sc_paths.specs.LaterRequests.{has_vias, is_passed_on, later_vias}
use Rattle.sc_paths.specs.Moments.{Got, Moment, given_in, got_in, orders_by, same_vias}
use Rattle.sc_hops.specs.Hops.{HasMoreVias, IsBrought, IsFit, IsPassedBy, IsUntagged}
use Rattle.sc_hops.proofs.Carried.{FitsIn}
use Rattle.sc_hops.proofs.Given.{dated-passed}
use Rattle.sc_hops.proofs.OneTurn.{PassedAt, turn-fits}
use Rattle.sc_ways.proofs.Got.{queued-got}
use Rattle.sc_ways.proofs.Waits.{IsHeld, Waits, turn-is}

-- what is known of a moment of a run
pub record IsFine (setup : Setup) (epoch : ℕ) (moment : Moment) : Type 0 where
  pub numbered : AreNumbered moment.before
  pub within : (app : AppId) → IsBetween (waiting_in app moment.before) 0 moment.before.count
  pub quiet : moment.before.wire ≡ []
  pub at : moment.before.epoch ≡ epoch
  pub sessions : (app : AppId) (live : Live Session) → live_at app moment.before ≡ Some live → Numbered live.session
  pub untagged : All IsUntagged (given_in setup moment)
  pub few : length moment.after.hosts ≤ 2 ^ 64
  pub small : AllSmall moment.after.hosts
  pub few_before : length moment.before.hosts ≤ 2 ^ 64
  pub small_before : AllSmall moment.before.hosts
  pub lasts_after : (number : ℕ) (host : Host Session) → host_at number moment.after ≡ Some host → host.last < 2 ^ 64
  pub lasts : (number : ℕ) (host : Host Session) → host_at number moment.before ≡ Some host → host.last < 2 ^ 64
  pub allowed : IsAllowed as_session setup moment.before moment.step

-- the request that the session passed on as it came to the next one
pub record IsNext (setup : Setup) (epoch : ℕ) (net after : Net Session) (app : AppId) (request : Request) (next : Got) : Type 0 where
  pub live : Live Session
  pub lives : live_at app net ≡ Some live
  pub sent : Request
  pub by : IsPassedBy setup.config live.session request sent
  pub later : Request
  pub is : next.waiting.event ≡ queued.Request later
  pub popped : later ≡ unrouted setup.config sent
  pub uri : Uri
  pub way : own_uri setup.config sent ≡ Some uri
  pub named : names epoch next.app uri ≡ true
  pub held : IsHeld next.app next.waiting after
  pub names : IsOf64 epoch next.app 0
  pub vias : 1 ≤ length later.head.via
  pub tagged : is_some (tag_of sent.head.to) ≡ true
  pub no_cancel : same_bytes (method_of sent) cancel ≡ false

-- this request as it came to the first session
pub record IsFirst (setup : Setup) (request : Request) (epoch : ℕ) (after : Net Session) (got : Got) : Type 0 where
  pub is : got.waiting.event ≡ queued.Request (unrouted setup.config request)
  pub uri : Uri
  pub way : own_uri setup.config request ≡ Some uri
  pub named : names epoch got.app uri ≡ true
  pub held : IsHeld got.app got.waiting after
  pub names : IsOf64 epoch got.app 0
  pub tagged : is_some (tag_of request.head.to) ≡ true
  pub no_cancel : same_bytes (method_of request) cancel ≡ false

-- ## Vias

vias-longer : (vias longer : List Via) → 1 ≤ length vias → length vias ≡ length (drop 1 longer) → 2 ≤ length longer
vias-longer vias [] some same = omega (arith, some, same)
vias-longer vias (via ∷ longer) some same = omega (arith, some, same)

pub record IsLater (more : ℕ) (vias : List Via) (event : Queued) : Type 0 where
  pub later : Request
  pub is : event ≡ queued.Request later
  pub same : same_vias vias (drop more later.head.via) ≡ true

later-of : (more : ℕ) (vias : List Via) (event : Queued) → option_map_or (λ v. same_vias vias (drop more v)) (later_vias event) false ≡ true → IsLater more vias event
unfolding later_vias
later-of more vias (queued.Request request) is = record { later = request; is = refl; same = is }
later-of more vias (queued.Initial region subscriber popped request) is = cc
later-of more vias (queued.Response branch response) is = cc
later-of more vias (queued.Cancelled event) is = cc
later-of more vias (queued.Timer id) is = cc
later-of more vias (queued.BranchTimer branch due) is = cc
later-of more vias queued.Expired is = cc
later-of more vias queued.Ready is = cc

pub later-of-by : (more : ℕ) (vias : List Via) (got : Got) → has_vias more vias got ≡ true → IsLater more vias got.waiting.event
unfolding has_vias
later-of-by more vias got is = later-of more vias got.waiting.event is

passed-by : (got next : Got) (request : Request) → got.waiting.event ≡ queued.Request request → is_passed_on got next ≡ true → IsLater 1 request.head.via next.waiting.event
unfolding is_passed_on later_vias
passed-by got next request is passed = later-of-by 1 request.head.via next (subst (λ (event : Queued). option_map_or (λ vias. has_vias 1 vias next) (later_vias event) false ≡ true) is passed)

pub long-same : (vias longer : List Via) → same_vias vias longer ≡ true → ◌≡◌ {A = ℕ} (length vias) (length longer)
unfolding same_vias
long-same vias longer is = as_long same_via vias longer is

more-vias : (n : ℕ) → 2 ≤ n → 1 ≤ n
more-vias n long = omega (arith, long)

pub fit-request : (Told Sent : Request → Type 0) (setup : Setup) (epoch : ℕ) (app : AppId) (event : Queued) (request : Request) → event ≡ queued.Request request
    → FitsIn Told Sent setup epoch app event → Told request → IsBrought Sent setup.config epoch app request
unfolding IsFit
fit-request Told Sent setup epoch app event request is fits = subst (λ (e : Queued). FitsIn Told Sent setup epoch app e) is fits

-- ## The turn

module _ (setup : Setup) (net : Net Session) (app : AppId) (event now : ℕ) (made : List CallRecord) (end : End) where
  abbrev pub moment : Moment
  moment = record { before = net; step = steps.Turn end app event now made; after = after_step as_session setup net (steps.Turn end app event now made) }

  pub orders-are : (live : Live Session) (waiting : Waiting) → live_at app net ≡ Some live → slice_get live.inbox 0 ≡ Some waiting
      → given_in setup moment ≡ (outcome_by as_session setup.config live.session (turn_of (record net { sent = [] }) app waiting now made end)).orders
  unfolding orders_by turn_of
  orders-are live waiting lives first = rw (lives, first) refl

  pub allowed-turn : IsAllowed as_session setup net (steps.Turn end app event now made) → MayTurn as_session setup net app event now made end
  unfolding IsAllowed
  allowed-turn may = may

  next-by : (got next : Got) (request : Request) → got.waiting.event ≡ queued.Request request → 1 ≤ length request.head.via
      → find (is_passed_on got) (got_in moment) ≡ Some next → net.epoch < 2 ^ 64 → IsFine setup net.epoch moment
      → (live : Live Session) → live_at app net ≡ Some live → slice_get live.inbox 0 ≡ Some (record { number = event; event = queued.Request request })
      → IsNext setup net.epoch net moment.after app request next
  next-by got next request is some found small fine live lives first =
      let orders : All IsUntagged (outcome_by as_session setup.config live.session (turn_of (record net { sent = [] }) app (record { number = event; event = queued.Request request }) now made end)).orders =
      subst (λ (given : List Order). All IsUntagged given) (orders-are live (record { number = event; event = queued.Request request }) lives first) fine.untagged in
      let holds = turn-fits setup net app live event request now made end lives first (fine.sessions app live lives) fine.numbered fine.within fine.quiet orders in
      let Fits : AppId → Queued → Type 0 = FitsIn HasMoreVias (PassedAt setup.config live.session now request) setup net.epoch in
      let one = queued-got Fits net.epoch net.count small moment.after fine.few fine.small (λ number host at. (holds.hosts number host at).0) moment (is_passed_on got) next refl refl found in
      let later = passed-by got next request is (test-found (is_passed_on got) (got_in moment) next found) in
      let long : 2 ≤ length later.later.head.via = vias-longer request.head.via later.later.head.via some (long-same request.head.via (drop 1 later.later.head.via) later.same) in
      let brought = fit-request HasMoreVias (PassedAt setup.config live.session now request) setup net.epoch next.app next.waiting.event later.later later.is (one.0.fits one.1) long in
      record {
        live = live;
        lives = lives;
        sent = brought.sent;
        by = dated-passed setup.config live.session now request brought.sent brought.is;
        later = later.later;
        is = later.is;
        popped = brought.popped;
        uri = brought.uri;
        way = brought.by;
        named = brought.named;
        held = one.0.held;
        names = one.0.names;
        vias = more-vias (length later.later.head.via) long;
        tagged = brought.tagged;
        no_cancel = brought.no_cancel;
      }

  waiting-is : (waiting : Waiting) (request : Request) → waiting.event ≡ queued.Request request → event ≡ waiting.number
      → ◌≡◌ {A = Waiting} waiting (record { number = event; event = queued.Request request })
  waiting-is waiting request is number = subst (λ (n : ℕ). ◌≡◌ {A = Waiting} waiting (record { number = n; event = queued.Request request })) (sym number) (ap (λ (e : Queued). record { number = waiting.number; event = e }) is)

  -- the turn of this event
  pub next-of : (epoch : ℕ) (got next : Got) (request : Request) → got.waiting.event ≡ queued.Request request → 1 ≤ length request.head.via → event ≡ got.waiting.number
      → find (is_passed_on got) (got_in moment) ≡ Some next → epoch < 2 ^ 64 → IsFine setup epoch moment → Waits app got.waiting net
      → IsNext setup epoch net moment.after app request next
  next-of epoch got next request is some number found small fine waits =
      let may = allowed-turn fine.allowed in
      let same : may.waiting ≡ got.waiting = turn-is as_session setup app got.waiting net fine.numbered (fine.within app) event now made end may number waits in
      let first : slice_get may.live.inbox 0 ≡ Some (record { number = event; event = queued.Request request }) = may.waiting_is ∙ ap (λ (w : Waiting). Some w) (same ∙ waiting-is got.waiting request is number) in
      subst (λ (e : ℕ). IsNext setup e net moment.after app request next) fine.at
      (next-by got next request is some found (subst (λ (e : ℕ). e < 2 ^ 64) (sym fine.at) small) (subst (λ (e : ℕ). IsFine setup e moment) (sym fine.at) fine) may.live may.live_is first)
