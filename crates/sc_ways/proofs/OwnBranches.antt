-- A later request that a turn sends is on a branch that no other of its orders and no client transaction has.
use Rattle.std.proofs.Common.{◌≡◌, ◌≤◌, ◌<◌, ◌^◌, ℕ, zero, suc, Bool, inl, inr, Option, None, Some, List, [], ◌∷◌, true, false, refl, sym, ap, subst, ◌∙◌, arith}
use Rattle.std.specs.Prelude.{◌&&◌, length, option_map, option_and_then, slice_get}
use Rattle.std.specs.List.{find}
use Rattle.std.specs.Option.{option_map_or}
use Rattle.sc_value.specs.Params.{branch_name, param_value}
use Rattle.sc_value.specs.declared.ids.AppId.{AppId}
use Rattle.sc_value.specs.declared.message.Request.{Request}
use Rattle.sc_value.specs.declared.parts.Via.{Via}
use Rattle.sc_tokens.specs.Names.{same_name}
use Rattle.sc_terms.specs.declared.calls.CallRecord.{CallRecord}
use Rattle.sc_terms.specs.declared.calls.End.{End}
use Rattle.sc_terms.specs.declared.settings.Config.{Config}
use Rattle.sc_terms.specs.declared.steps.Step.{Step}
use Rattle.sc_terms.specs.declared.steps.Step.TheVariants as steps
use Rattle.sc_parts.specs.declared.setup.Setup.{Setup}
use Rattle.sc_state.specs.Hosts.{Host}
use Rattle.sc_state.specs.declared.host.Client.{Client}
use Rattle.sc_state.specs.declared.host.Live.{Live}
use Rattle.sc_state.specs.declared.net.Net.{Net}
use Rattle.sc_state.specs.declared.orders.Order.{Order}
use Rattle.sc_state.specs.declared.orders.Order.TheVariants as orders
use Rattle.sc_state.specs.declared.session.Session.{Session}
use Rattle.sc_model.specs.Names.{IsOf64, branch_text}
use Rattle.sc_model.proofs.Names.{branch_same}
use Rattle.sc_hosts.specs.Histories.{as_session}
use Rattle.sc_hosts.specs.Inboxes.{is_live}
use Rattle.sc_hosts.specs.Messages.{own_via}
use Rattle.sc_hosts.specs.Nets.{host_at}
use Rattle.sc_hosts.specs.Runs.{IsAllowed, after_step}
use Rattle.sc_hosts.specs.Steps.{live_at, live_of, outcome_by, turn_of}
use Rattle.sc_hosts.specs.Transacting.{branch_of, same_top, same_via, top_via}
use Rattle.sc_hosts.proofs.Deliveries.{same_bytes-equal}
use Rattle.sc_lasting.specs.Lasting.{All}
use Rattle.sc_lasting.proofs.Shared.{all-at, found-behind}
use Rattle.sc_paths.specs.LaterRequests.{Occurrence, SetOut, later_in, set_out, set_out_by}
use Rattle.sc_paths.specs.Moments.{Moment, given_in, moments_from, orders_by}
use Rattle.sc_hops.specs.Hops.{AreOtherBranches, HasBranchOf, HasNoClient, IsOtherBranch}
use Rattle.sc_keyed.specs.Keyed.{AreOn, IsIn, IsOn}
use Rattle.sc_keyed.proofs.ClientKeys.{IsDrawnBy}
use Rattle.sc_keyed.proofs.KeyedHosts.{counter_at, last_number}
use Rattle.sc_keyed.proofs.KeyedNets.{AllKeyed}
use Rattle.sc_keyed.proofs.KeyedTurns.{NoTurn}
use Rattle.sc_vias.specs.Vias.{drawn_by}
use Rattle.sc_vias.proofs.RunVias.{Hold, after-kept, drawn-is, on-rises, turn-on}
use Rattle.sc_ways.proofs.Got.{small-place}
use Rattle.sc_ways.proofs.OneHop.{IsFine, allowed-turn, orders-are}
use Rattle.sc_ways.proofs.Recorders.{found-small}
use Rattle.sc_ways.proofs.Sending.{session-by}

-- the request that set out has a Via, and in the step in which a turn sends it no other order of the turn and no client
-- transaction that was there has its branch
pub record IsOnOwnBranch (setup : Setup) (out : SetOut) (order : ℕ) : Type 0 where
  pub vias : 1 ≤ length out.request.head.via
  pub orders : AreOtherBranches out.request (given_in setup out.moment) order
  pub clients : HasNoClient out.request out.moment.before

-- where a turn sends it, it is on a branch of its own
unfoldable pub HasOwnBranch : Setup → List Moment → Occurrence → Type 0
HasOwnBranch setup run occurrence =
    (order : ℕ) (out : SetOut) → occurrence.order ≡ Some order → set_out setup run occurrence ≡ Some out → IsOnOwnBranch setup out order

-- ## Two own Vias

-- the number has 64 bits
abbrev pub Is64 : ℕ → Type 0
Is64 n = n < 2 ^ 64

pub with-branch : (epoch : ℕ) (app : AppId) (n : ℕ) → IsOf64 epoch app 0 → Is64 n → IsOf64 epoch app n
with-branch epoch app n small less = (small.0, small.1, small.2, less)

pub branch-is : (config : Config) (epoch : ℕ) (app : AppId) (branch : ℕ) → branch_of (own_via config epoch app branch) ≡ branch_text config.salt epoch app branch
unfolding own_via param_value branch_name same_name
branch-is config epoch app branch = refl

first-three : (a b c : Bool) → (a && b && c) ≡ true → a ≡ true
first-three true b c is = refl
first-three false b c is = cc

via-branch : (x y : Via) → same_via x y ≡ true → branch_of x ≡ branch_of y
unfolding same_via
via-branch x y is = same_bytes-equal (branch_of x) (branch_of y) (first-three _ _ _ is)

tops-same : (a b : List Via) (x y : Via) → top_via a ≡ Some x → top_via b ≡ Some y → same_top a b ≡ true → same_via x y ≡ true
unfolding same_top
tops-same a b x y p q is = subst (λ (top : Option Via). option_map_or (same_via x) top false ≡ true) q (subst (λ (top : Option Via). option_map_or (λ v. option_map_or (same_via v) (top_via b) false) top false ≡ true) p is)

-- two requests on own Vias that are the same are of one session and branch
pub on-one : (config : Config) (epoch : ℕ) (a b : AppId) (k m : ℕ) (request other : Request) → IsOf64 epoch a k → IsOf64 epoch b m → IsOn config epoch a k request → IsOn config epoch b m other
    → HasBranchOf request other → (a ≡ b) × (k ≡ m)
unfolding IsOn
on-one config epoch a b k m request other small also on too is =
    let same = via-branch (own_via config epoch a k) (own_via config epoch b m) (tops-same request.head.via other.head.via _ _ on too is) in
    let one = branch_same config.salt epoch epoch a b k m small also (sym (branch-is config epoch a k) ∙ same ∙ branch-is config epoch b m) in
    (one.1, one.2)

less-not : (k m : ℕ) → k < m → k ≡ m → ⊥
less-not k m less is = omega (arith, less, is)

more-not : (k m : ℕ) → m < k → k ≡ m → ⊥
more-not k m less is = omega (arith, less, is)

below : (a b : ℕ) → a ≤ b → Is64 b → Is64 a
below a b p q = omega (arith, p, q)

above-less : (a b c : ℕ) → a ≤ b → b < c → a < c
above-less a b c p q = omega (arith, p, q)

above-most : (a b c : ℕ) → a ≤ b → b < c → a ≤ c
above-most a b c p q = omega (arith, p, q)

under-less : (a b c : ℕ) → a < b → b ≤ c → a < c
under-less a b c p q = omega (arith, p, q)

less-most : (a b : ℕ) → a < b → a ≤ b
less-most a b p = omega (arith, p)

same-number : (n : ℕ) → n ≤ n
same-number n = omega arith

under-length : (a b : ℕ) → a < b → b ≤ 2 ^ 64 → Is64 a
under-length a b p q = omega (arith, p, q)

not-above : (k m low : ℕ) → low < k → m ≤ low → k ≡ m → ⊥
not-above k m low p q r = omega (arith, p, q, r)

some-is : {A : Type 0} (x y : A) → Some x ≡ Some y → x ≡ y
some-is x y is = cc

-- ## The orders of a turn

module _ (config : Config) (epoch : ℕ) (app : AppId) (small : IsOf64 epoch app 0) (request : Request) where
  -- none of those on higher branches has its branch
  behind : (given : List Order) (k low high : ℕ) → Is64 high → k ≤ high → IsOn config epoch app k request → AreOn config epoch app low given high → (k ≤ low) → All (IsOtherBranch request) given
  unfolding AreOn All IsOtherBranch
  behind [] k low high most under on rest above = tt
  behind (orders.Respond event response ∷ given) k low high most under on rest above = (tt, behind given k low high most under on rest above)
  behind (orders.Begin branch directive region state other ∷ given) k low high most under on rest above = (
    λ is. less-not k branch (above-less k low branch above rest.0) (on-one config epoch app app k branch request other (with-branch epoch app k small (below k high under most)) (with-branch epoch app branch small (below branch high (on-rises config epoch app given branch high rest.2) most)) on rest.1 is).1,
    behind given k branch high most under on rest.2 (above-most k low branch above rest.0),
  )
  behind (orders.Send branch other ∷ given) k low high most under on rest above = (
    λ is. less-not k branch (above-less k low branch above rest.0) (on-one config epoch app app k branch request other (with-branch epoch app k small (below k high under most)) (with-branch epoch app branch small (below branch high (on-rises config epoch app given branch high rest.2) most)) on rest.1 is).1,
    behind given k branch high most under on rest.2 (above-most k low branch above rest.0),
  )
  behind (orders.Acknowledge other ∷ given) k low high most under on rest above = (
    λ is. less-not k rest.0 (above-less k low rest.0 above rest.1) (on-one config epoch app app k rest.0 request other (with-branch epoch app k small (below k high under most)) (with-branch epoch app rest.0 small (below rest.0 high (on-rises config epoch app given rest.0 high rest.3) most)) on rest.2 is).1,
    behind given k rest.0 high most under on rest.3 (above-most k low rest.0 above rest.1),
  )
  behind (orders.Cancel branch ∷ given) k low high most under on rest above = (tt, behind given k low high most under on rest above)
  behind (orders.CancelNow branch ∷ given) k low high most under on rest above = (tt, behind given k low high most under on rest above)

  -- one on a lower branch hasn't its branch
  differs : (branch high : ℕ) (other : Request) → Is64 high → IsOn config epoch app branch other → (k : ℕ) → branch < k → k ≤ high → IsOn config epoch app k request
      → HasBranchOf request other → ⊥
  differs branch high other most on k above under mine is =
      more-not k branch above (on-one config epoch app app k branch request other (with-branch epoch app k small (below k high under most)) (with-branch epoch app branch small (below branch high (less-most branch high (under-less branch k high above under)) most)) mine on is).1

  none : None ≡ Some request → ⊥
  none is = cc

  -- the order at this place sends it on a branch of its own
  record IsPlaced (low high : ℕ) (given : List Order) (place : ℕ) : Type 0 where
    branch : ℕ
    above : low < branch
    under : branch ≤ high
    on : IsOn config epoch app branch request
    others : AreOtherBranches request given place

  other-placed : (order : Order) (given : List Order) (place low mid high : ℕ) → low ≤ mid → IsPlaced mid high given place → ((k : ℕ) → mid < k → k ≤ high → IsOn config epoch app k request → IsOtherBranch request order)
      → IsPlaced low high (order ∷ given) (suc place)
  unfolding AreOtherBranches
  other-placed order given place low mid high up rest other = record {
    branch = rest.branch;
    above = above-less low mid rest.branch up rest.above;
    under = rest.under;
    on = rest.on;
    others = (other rest.branch rest.above rest.under rest.on, rest.others);
  }

  placed : (given : List Order) (place low high : ℕ) (order : Order) → Is64 high → AreOn config epoch app low given high → slice_get given place ≡ Some order → later_in order ≡ Some request → IsPlaced low high given place
  unfolding AreOn AreOtherBranches IsOtherBranch later_in
  placed [] place low high order most on at later = cc
  placed (orders.Send branch other ∷ given) zero low high order most on at later =
      let is : other ≡ request = some-is other request (ap later_in (some-is (orders.Send branch other) order at) ∙ later) in
      let mine : IsOn config epoch app branch request = subst (λ (r : Request). IsOn config epoch app branch r) is on.1 in
      let under = on-rises config epoch app given branch high on.2 in
      record { branch = branch; above = on.0; under = under; on = mine; others = behind given branch branch high most under mine on.2 (same-number branch) }
  placed (orders.Acknowledge other ∷ given) zero low high order most on at later =
      let is : other ≡ request = some-is other request (ap later_in (some-is (orders.Acknowledge other) order at) ∙ later) in
      let mine : IsOn config epoch app on.0 request = subst (λ (r : Request). IsOn config epoch app on.0 r) is on.2 in
      let under = on-rises config epoch app given on.0 high on.3 in
      record { branch = on.0; above = on.1; under = under; on = mine; others = behind given on.0 on.0 high most under mine on.3 (same-number on.0) }
  placed (orders.Respond event response ∷ given) zero low high order most on at later = absurd (none (ap later_in (some-is (orders.Respond event response) order at) ∙ later))
  placed (orders.Begin branch directive region state other ∷ given) zero low high order most on at later = absurd (none (ap later_in (some-is (orders.Begin branch directive region state other) order at) ∙ later))
  placed (orders.Cancel branch ∷ given) zero low high order most on at later = absurd (none (ap later_in (some-is (orders.Cancel branch) order at) ∙ later))
  placed (orders.CancelNow branch ∷ given) zero low high order most on at later = absurd (none (ap later_in (some-is (orders.CancelNow branch) order at) ∙ later))
  placed (orders.Respond event response ∷ given) (suc place) low high order most on at later =
      other-placed _ given place low low high (same-number low) (placed given place low high order most on at later) (λ k above under mine. tt)
  placed (orders.Begin branch directive region state other ∷ given) (suc place) low high order most on at later =
      other-placed _ given place low branch high (less-most low branch on.0) (placed given place branch high order most on.2 at later) (differs branch high other most on.1)
  placed (orders.Send branch other ∷ given) (suc place) low high order most on at later =
      other-placed _ given place low branch high (less-most low branch on.0) (placed given place branch high order most on.2 at later) (differs branch high other most on.1)
  placed (orders.Acknowledge other ∷ given) (suc place) low high order most on at later =
      other-placed _ given place low on.0 high (less-most low on.0 on.1) (placed given place on.0 high order most on.3 at later) (differs on.0 high other most on.2)
  placed (orders.Cancel branch ∷ given) (suc place) low high order most on at later =
      other-placed _ given place low low high (same-number low) (placed given place low high order most on at later) (λ k above under mine. tt)
  placed (orders.CancelNow branch ∷ given) (suc place) low high order most on at later =
      other-placed _ given place low low high (same-number low) (placed given place low high order most on at later) (λ k above under mine. tt)

-- ## Client transactions

pub in-all : {A : Type 0} (P : A → Type 0) (xs : List A) (x : A) → All P xs → IsIn x xs → P x
unfolding All IsIn
in-all P [] x all is = absurd is
in-all P (y ∷ xs) x all (inl same) = subst P (sym same) all.0
in-all P (y ∷ xs) x all (inr later) = in-all P xs x all.1 later

pub all-in : {A : Type 0} (P : A → Type 0) (xs : List A) → ((x : A) → IsIn x xs → P x) → All P xs
unfolding All IsIn
all-in P [] each = tt
all-in P (x ∷ xs) each = (each x (inl refl), all-in P xs (λ y within. each y (inr within)))

-- what is asked of the net in which the turn is taken: numbers of 64 bits
pub record IsReady (setup : Setup) (epoch : ℕ) (net : Net Session) : Type 0 where
  pub same : net.epoch ≡ epoch
  pub kept : Hold setup.config epoch Is64 net
  pub keyed : AllKeyed as_session NoTurn 0 0 net
  pub few : length net.hosts ≤ 2 ^ 64
  pub lasts : (number : ℕ) (host : Host Session) → host_at number net ≡ Some host → Is64 host.last

host-found : (app : AppId) (found : Option (Host Session)) (host : Host Session) (live : Live Session) → found ≡ Some host → live_of app found ≡ Some live → find (is_live app.serial) host.sessions ≡ Some live
host-found app found host live at is = ap (live_of app) (sym at) ∙ is

module _ (setup : Setup) (epoch : ℕ) (net : Net Session) (ready : IsReady setup epoch net) (app : AppId) (small : IsOf64 epoch app 0) (live : Live Session) (lives : live_at app net ≡ Some live) where
  client-apart : (number : ℕ) (host : Host Session) (client : Client) (request : Request) (k : ℕ) → host_at number net ≡ Some host → IsIn client host.clients → live.session.view.counter < k → Is64 k
      → IsOn setup.config epoch app k request → HasBranchOf request client.request → ⊥
  unfolding IsDrawnBy as_session
  client-apart number host client request k at within above less on is =
      let keyed = ready.keyed number host at in
      let fits = in-all (λ (c : Client). IsOn setup.config epoch c.app c.branch c.request × Is64 c.branch) host.clients client (ready.kept.hosts number host at).1 within in
      let here : client.app.host ≡ number = keyed.clients.here client within in
      let place : Is64 client.app.host = subst Is64 (sym here) (under-length number (length net.hosts) (small-place net.hosts number host at) ready.few) in
      let serial : Is64 client.app.serial = below client.app.serial host.last (keyed.clients.given client within) (ready.lasts number host at) in
      let one = on-one setup.config epoch app client.app k client.branch request client.request (with-branch epoch app k small less) (small.0, place, serial, fits.1) on fits.0 is in
      let there : host_at app.host net ≡ Some host = subst (λ (n : ℕ). host_at n net ≡ Some host) (sym (ap (λ (a : AppId). a.host) one.0 ∙ here)) at in
      let found : find (is_live app.serial) host.sessions ≡ Some live = host-found app (host_at app.host net) host live there lives in
      let drawn : IsDrawnBy client.branch (counter_at as_session host.sessions app.serial) = subst (λ (a : AppId). IsDrawnBy client.branch (counter_at as_session host.sessions a.serial)) (sym one.0) (keyed.clients.drawn client within) in
      not-above k client.branch live.session.view.counter above (subst (λ (f : Option (Live Session)). IsDrawnBy client.branch (option_map (last_number as_session) f)) found drawn) one.1

  no-client : (request : Request) (k : ℕ) → live.session.view.counter < k → Is64 k → IsOn setup.config epoch app k request → HasNoClient request net
  unfolding HasNoClient
  no-client request k above less on =
      λ number host at. all-in (λ (client : Client). HasBranchOf request client.request → ⊥) host.clients (λ client within. client-apart number host client request k at within above less on)

-- ## One turn

pub has-via : (config : Config) (epoch : ℕ) (app : AppId) (branch : ℕ) (request : Request) → IsOn config epoch app branch request → 1 ≤ length request.head.via
unfolding IsOn
has-via config epoch app branch request on = by request.head.via _ on
  where
    by : (vias : List Via) (x : Via) → top_via vias ≡ Some x → 1 ≤ length vias
    by [] x is = cc
    by (via ∷ vias) x is = omega arith

-- a request that a turn sends as this one of its orders is on a branch of its own
record IsOwn (setup : Setup) (net : Net Session) (step : Step) (place : ℕ) (request : Request) : Type 0 where
  vias : 1 ≤ length request.head.via
  orders : AreOtherBranches request (orders_by setup net step) place
  clients : HasNoClient request net

turn-own : (setup : Setup) (epoch : ℕ) (net : Net Session) (app : AppId) (event now : ℕ) (made : List CallRecord) (end : End) (place : ℕ) (request : Request) → IsReady setup epoch net
    → ((a : AppId) (live : Live Session) → live_at a net ≡ Some live → IsOf64 epoch a 0)
    → IsAllowed as_session setup net (steps.Turn end app event now made) → Is64 (drawn_by setup net (steps.Turn end app event now made))
    → option_and_then later_in (slice_get (orders_by setup net (steps.Turn end app event now made)) place) ≡ Some request
    → IsOwn setup net (steps.Turn end app event now made) place request
unfolding turn_of
turn-own setup epoch net app event now made end place request ready names allowed drawn is =
    let may = allowed-turn setup net app event now made end allowed in
    let live : Live Session = may.live in
    let done = outcome_by as_session setup.config live.session (turn_of net app may.waiting now made end) in
    let same : orders_by setup net (steps.Turn end app event now made) ≡ done.orders = orders-are setup net app event now made end live may.waiting may.live_is may.waiting_is in
    let most : Is64 done.session.view.counter = subst Is64 (drawn-is setup epoch Is64 net app event now made end live may.waiting may.live_is may.waiting_is) drawn in
    let small = names app live may.live_is in
    let on = turn-on setup.config epoch Is64 app net live may.waiting now made end may.live_is ready.kept in
    let sent = found-behind later_in (slice_get (orders_by setup net (steps.Turn end app event now made)) place) request is in
    let own = placed setup.config epoch app small request done.orders place live.session.view.counter done.session.view.counter sent.0 most on
    (subst (λ (given : List Order). slice_get given place ≡ Some sent.0) same sent.1) sent.2 in
    record {
      vias = has-via setup.config epoch app own.branch request own.on;
      orders = subst (λ (given : List Order). AreOtherBranches request given place) (sym same) own.others;
      clients = no-client setup epoch net ready app small live may.live_is request own.branch own.above (below own.branch _ own.under most) own.on;
    }

-- ## A whole run

-- Vias are own before each step, where the numbers that are drawn have 64 bits
pub moments-kept : (setup : Setup) (epoch : ℕ) (given : List Step) (net : Net Session) → All (λ (moment : Moment). Is64 (drawn_by setup moment.before moment.step)) (moments_from setup net given)
    → Hold setup.config epoch Is64 net → All (λ (moment : Moment). Hold setup.config epoch Is64 moment.before) (moments_from setup net given)
unfolding moments_from All
moments-kept setup epoch [] net small kept = tt
moments-kept setup epoch (step ∷ given) net small kept = (
  kept,
  moments-kept setup epoch given (after_step as_session setup net step) small.1 (after-kept setup epoch Is64 step net (λ n under. below n (drawn_by setup net step) under small.0) kept),
)

-- so it is before a step of the run, whose turn draws numbers of 64 bits
pub record IsReadyAt (setup : Setup) (epoch : ℕ) (moment : Moment) : Type 0 where
  pub fine : IsFine setup epoch moment
  pub ready : IsReady setup epoch moment.before
  pub drawn : Is64 (drawn_by setup moment.before moment.step)

pub out-own : (setup : Setup) (epoch : ℕ) (moment : Moment) (order : ℕ) (out : SetOut) → epoch < 2 ^ 64 → IsReadyAt setup epoch moment → set_out_by setup moment moment.step (Some order) ≡ Some out
    → IsOnOwnBranch setup out order
out-own setup epoch moment order out small at by =
    let from = session-by setup moment moment.step order out by in
    let turn : Step = steps.Turn from.end from.app from.event from.now from.made in
    let own = turn-own setup epoch moment.before from.app from.event from.now from.made from.end order from.request at.ready
    (λ a live lives. found-small epoch moment.before a live (host_at a.host moment.before) refl lives small at.fine.few_before at.fine.small_before)
    (subst (λ (s : Step). IsAllowed as_session setup moment.before s) from.step_is at.fine.allowed) (subst (λ (s : Step). Is64 (drawn_by setup moment.before s)) from.step_is at.drawn)
    (subst (λ (s : Step). option_and_then later_in (slice_get (orders_by setup moment.before s) order) ≡ Some from.request) from.step_is from.ordered) in
    subst (λ (o : SetOut). IsOnOwnBranch setup o order) (sym from.out_is) (record {
      vias = own.vias;
      orders = subst (λ (s : Step). AreOtherBranches from.request (orders_by setup moment.before s) order) (sym from.step_is) own.orders;
      clients = own.clients;
    })

own-by : (setup : Setup) (epoch : ℕ) (moment : Moment) (found : Option ℕ) (order : ℕ) (out : SetOut) → epoch < 2 ^ 64 → IsReadyAt setup epoch moment → found ≡ Some order
    → set_out_by setup moment moment.step found ≡ Some out → IsOnOwnBranch setup out order
own-by setup epoch moment found order out small at is by = out-own setup epoch moment order out small at (subst (λ (f : Option ℕ). set_out_by setup moment moment.step f ≡ Some out) is by)

-- each later request that a turn of the run sends
pub own-branches : (setup : Setup) (epoch : ℕ) (run : List Moment) (occurrence : Occurrence) → epoch < 2 ^ 64 → All (IsReadyAt setup epoch) run → HasOwnBranch setup run occurrence
unfolding HasOwnBranch set_out
own-branches setup epoch run occurrence small ready =
    λ order out is sets.
    let by = found-behind (λ (moment : Moment). set_out_by setup moment moment.step occurrence.order) (slice_get run occurrence.step) out sets in
    own-by setup epoch by.0 occurrence.order order out small (all-at (IsReadyAt setup epoch) run occurrence.step by.0 by.1 ready) is by.2
