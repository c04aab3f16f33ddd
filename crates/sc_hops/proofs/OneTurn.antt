-- The turn of a later request queues no request with more Vias than one, but that request as it is passed on.
use Rattle.std.proofs.Common.{◌≡◌, ◌≤◌, ◌<◌, ℕ, Bool, true, false, Option, Some, List, [], ◌∷◌, refl, sym, subst, arith}
use Rattle.std.specs.Prelude.{cond, drop, length, map, option_map, slice_get, unwrap_or}
use Rattle.std.specs.List.{find, All as AllAt}
use Rattle.std.specs.Option.{option_map_or}
use Rattle.std.proofs.lemmas.List.Elements.{All-head, All-tail}
use Rattle.sc_value.specs.declared.ids.AppId.{AppId}
use Rattle.sc_value.specs.declared.message.Request.{Request}
use Rattle.sc_value.specs.declared.parts.Address.{Address}
use Rattle.sc_value.specs.declared.parts.Via.{Via}
use Rattle.sc_terms.specs.declared.calls.CallRecord.{CallRecord}
use Rattle.sc_terms.specs.declared.calls.End.{End}
use Rattle.sc_terms.specs.declared.settings.Config.{Config}
use Rattle.sc_terms.specs.declared.steps.Step.TheVariants as steps
use Rattle.sc_parts.specs.declared.setup.Setup.{Setup}
use Rattle.sc_state.specs.declared.host.Client.{Client}
use Rattle.sc_state.specs.Hosts.{Host}
use Rattle.sc_state.specs.declared.host.Live.{Live}
use Rattle.sc_state.specs.declared.net.Entry.{Entry}
use Rattle.sc_state.specs.declared.net.Net.{Net}
use Rattle.sc_state.specs.declared.orders.Order.{Order}
use Rattle.sc_state.specs.declared.queue.Queued.{Queued}
use Rattle.sc_state.specs.declared.queue.Queued.TheVariants as queued
use Rattle.sc_state.specs.declared.queue.Waiting.{Waiting}
use Rattle.sc_state.specs.declared.session.Session.{Session}
use Rattle.sc_tokens.specs.Bytes.{Bytes}
use Rattle.sc_model.specs.OwnHosts.{is_own}
use Rattle.sc_hosts.specs.EventLists.{waiting_in}
use Rattle.sc_hosts.specs.Finishing.{outcome}
use Rattle.sc_hosts.specs.Histories.{as_session}
use Rattle.sc_hosts.specs.Inboxes.{is_live}
use Rattle.sc_hosts.specs.Messages.{kin}
use Rattle.sc_hosts.specs.Nets.{host_at}
use Rattle.sc_hosts.specs.Runs.{after_step}
use Rattle.sc_hosts.specs.Steps.{live_at, outcome_by, ringing_at, turn_of}
use Rattle.sc_hosts.specs.Taking.{without_own_route as unrouted}
use Rattle.sc_lives.specs.Numbers.{AreNumbered, IsNumbered, IsNumberedAt}
use Rattle.sc_lives.proofs.NumberedNets.{host_at-numbered}
use Rattle.sc_lives.proofs.Serials.{found-rising}
use Rattle.sc_once.specs.Growing.{IsBetween}
use Rattle.sc_lasting.specs.Lasting.{All, Numbered}
use Rattle.sc_lasting.proofs.Parts.{all-map}
use Rattle.sc_hops.specs.Hops.{AreFit, AreKinds, HasMoreVias, IsAny, IsFit, IsOnWay, IsOrdered, IsPassedBy, IsPassedWay, IsSettled, IsUntagged, TakesLater}
use Rattle.sc_hops.proofs.Carried.{FitsIn, Holds}
use Rattle.sc_hops.proofs.Given.{dated-passed, turn-ordered}
use Rattle.sc_hops.proofs.Turned.{turn-holds}

-- ## Requests with more Vias than one

one-at-most : (vias : List Via) → 2 ≤ length (unwrap_or (option_map (λ via. via ∷ []) (slice_get vias 0)) []) → ⊥
one-at-most [] long = omega (arith, long)
one-at-most (via ∷ vias) long = omega (arith, long)

-- a CANCEL, and the ACK to a refusal, have one at most
pub kin-short : (method : Bytes) (to : Address) (request : Request) → HasMoreVias (kin method to request) → ⊥
unfolding kin
kin-short method to request long = one-at-most request.head.via long

pub unrouted-vias : (config : Config) (request : Request) → (unrouted config request).head.via ≡ request.head.via
unfolding unrouted
unrouted-vias config request = by (option_map_or (λ route. is_own config route.uri) (slice_get request.head.route 0) false)
  where
    by : (b : Bool) → (cond b (record request { head = record request.head { route = drop 1 request.head.route } }) request).head.via ≡ request.head.via
    by true = refl
    by false = refl

pub unrouted-long : (config : Config) (request : Request) → HasMoreVias (unrouted config request) → HasMoreVias request
unrouted-long config request long = subst (λ (vias : List Via). 2 ≤ length vias) (unrouted-vias config request) long

-- ## Before a step no event has a number above the count

to-all : {A : Type 0} (P : A → Type 0) (xs : List A) → AllAt P xs → All P xs
unfolding All
to-all P [] all = tt
to-all P (x ∷ xs) all = (All-head P x xs all, to-all P xs (All-tail P x xs all))

below-all : (inbox : List Waiting) (low high : ℕ) → IsBetween (map (λ w. w.number) inbox) low high → All (λ (w : Waiting). w.number ≤ high) inbox
unfolding IsBetween All
below-all [] low high between = tt
below-all (w ∷ inbox) low high between = (top (map (λ w. w.number) inbox) w.number high between.1, below-all inbox w.number high between.1)
  where
    top : (ns : List ℕ) (low high : ℕ) → IsBetween ns low high → low ≤ high
    top [] low high is = is
    top (n ∷ ns) low high is = omega (arith, is.0, top ns n high is.1)

clash : (n most : ℕ) → n ≤ most → most < n → ⊥
clash n most low high = omega (arith, low, high)

numbered-host : (host : Host Session) (found : Option (Host Session)) → found ≡ Some host → IsNumberedAt found → IsNumbered host
numbered-host host found is numbered = subst IsNumberedAt is numbered

live-numbers : (app : AppId) (net : Net Session) (live : Live Session) → live_at app net ≡ Some live → waiting_in app net ≡ map (λ w. w.number) live.inbox
unfolding waiting_in
live-numbers app net live is = rw is refl

pub nothing-above : (Told Sent : Request → Type 0) (setup : Setup) (epoch : ℕ) (net : Net Session) → AreNumbered net → ((app : AppId) → IsBetween (waiting_in app net) 0 net.count)
    → (number : ℕ) (host : Host Session) → host_at number net ≡ Some host → AreFit (FitsIn Told Sent setup epoch) net.count number host.sessions
nothing-above Told Sent setup epoch net numbered within number host at =
    all-map (λ (live : Live Session). find (is_live live.serial) host.sessions ≡ Some live) (λ (live : Live Session). All (λ (w : Waiting). net.count < w.number → FitsIn Told Sent setup epoch (record { host = number; serial = live.serial }) w.event) live.inbox) host.sessions
    (λ live found.
    let app : AppId = record { host = number; serial = live.serial } in
    let lives : live_at app net ≡ Some live = rw at found in
    let between : IsBetween (map (λ w. w.number) live.inbox) 0 net.count = subst (λ (ns : List ℕ). IsBetween ns 0 net.count) (live-numbers app net live lives) (within app) in
    all-map (λ (w : Waiting). w.number ≤ net.count) (λ (w : Waiting). net.count < w.number → FitsIn Told Sent setup epoch app w.event) live.inbox (λ w low high. absurd (clash w.number net.count low high)) (below-all live.inbox 0 net.count between))
    (to-all (λ (live : Live Session). find (is_live live.serial) host.sessions ≡ Some live) host.sessions
    (found-rising host.sessions 0 host.last (numbered-host host (host_at number net) at (host_at-numbered number net numbered))))

pub none-on-way : (P : Entry → Type 0) (wire : List Entry) → wire ≡ [] → All P wire
unfolding All
none-on-way P wire is = rw is tt

pub any-clients : (clients : List Client) → All (λ (client : Client). IsAny client.request) clients
unfolding All
any-clients [] = tt
any-clients (client ∷ clients) = (tt, any-clients clients)

-- ## The turn

-- what is passed on is told of this session
abbrev pub PassedAt : Config → Session → ℕ → Request → Request → Type 0
PassedAt config session now request sent = IsPassedBy config (record session { view = record session.view { now = now } }) request sent

abbrev pub WayAt : Config → Session → ℕ → Request → Request → Type 0
WayAt config session now request sent = IsPassedWay config (record session { view = record session.view { now = now } }) request sent

pub passed-kinds : (config : Config) (session : Session) (now : ℕ) (request : Request) → AreKinds (WayAt config session now request) IsAny HasMoreVias (PassedAt config session now request)
passed-kinds config session now request = record {
  kin_way = λ method to sent sound long tagged. absurd (kin-short method to sent long);
  kin_sound = λ method to sent sound. tt;
  way_sound = λ sent way. tt;
  sent = λ config sent way tagged told. way (unrouted-long config sent told) tagged;
}

module _ (setup : Setup) (net : Net Session) (app : AppId) (live : Live Session) (number : ℕ) (request : Request) (now : ℕ) (made : List CallRecord) (end : End) where
  abbrev event : Waiting
  event = record { number = number; event = queued.Request request }

  turn-orders : (outcome_by as_session setup.config live.session (turn_of (record net { sent = [] }) app event now made end)).orders
      ≡ (outcome setup.config (ringing_at app (host_at app.host net)) live.session event now made end).orders
  unfolding outcome_by turn_of as_session
  turn-orders = refl

  pub turn-fits : live_at app net ≡ Some live → slice_get live.inbox 0 ≡ Some event → Numbered live.session → AreNumbered net
      → ((app : AppId) → IsBetween (waiting_in app net) 0 net.count) → net.wire ≡ []
      → All IsUntagged (outcome_by as_session setup.config live.session (turn_of (record net { sent = [] }) app event now made end)).orders
      → Holds {S = Session} (WayAt setup.config live.session now request) IsAny HasMoreVias (PassedAt setup.config live.session now request) setup net.epoch net.count (passed-kinds setup.config live.session now request) (after_step as_session setup net (steps.Turn end app number now made))
  turn-fits lives first ok numbered within quiet untagged =
      let Sent : Request → Type 0 = PassedAt setup.config live.session now request in
      let Way : Request → Type 0 = WayAt setup.config live.session now request in
      let ordered : All (IsOrdered setup.config Way IsAny) (outcome setup.config (ringing_at app (host_at app.host net)) live.session event now made end).orders =
      turn-ordered setup.config (ringing_at app (host_at app.host net)) live.session number request now made end ok (subst (λ (given : List Order). All IsUntagged given) turn-orders untagged) in
      turn-holds {S = Session} Way IsAny HasMoreVias Sent setup net.epoch net.count (passed-kinds setup.config live.session now request) as_session app net live event number now made end lives first
      (subst (λ (given : List Order). All (IsOrdered setup.config Way IsAny) given) (sym turn-orders) ordered)
      (record { same = refl; hosts = λ number host at. (nothing-above HasMoreVias Sent setup net.epoch net numbered within number host at, any-clients host.clients); wire = none-on-way (λ (entry : Entry). IsOnWay Way entry.message) net.wire quiet })

-- ## As a law

undated : (setup : Setup) (epoch : ℕ) (live : Live Session) (request : Request) (now : ℕ) (app : AppId) (event : Queued) → IsFit HasMoreVias (PassedAt setup.config live.session now request) setup.config epoch app event
    → IsFit HasMoreVias (IsPassedBy setup.config live.session request) setup.config epoch app event
unfolding IsFit
undated setup epoch live request now app (queued.Request later) fits = λ long. let brought = fits long in
    record { sent = brought.sent; is = dated-passed setup.config live.session now request brought.sent brought.is; popped = brought.popped; uri = brought.uri; by = brought.by; named = brought.named; tagged = brought.tagged; no_cancel = brought.no_cancel }
undated setup epoch live request now app (queued.Initial region subscriber popped came) fits = tt
undated setup epoch live request now app (queued.Response branch response) fits = tt
undated setup epoch live request now app (queued.Cancelled number) fits = tt
undated setup epoch live request now app (queued.Timer id) fits = tt
undated setup epoch live request now app (queued.BranchTimer branch due) fits = tt
undated setup epoch live request now app queued.Expired fits = tt
undated setup epoch live request now app queued.Ready fits = tt

-- of what the turn of a later request queues
pub turn-passes : (setup : Setup) (net : Net Session) (app : AppId) (number : ℕ) (request : Request) (now : ℕ) (made : List CallRecord) (end : End) → IsSettled net
    → (takes : TakesLater setup net app number request now made end) → (place : ℕ) (host : Host Session) → host_at place (after_step as_session setup net (steps.Turn end app number now made)) ≡ Some host
    → AreFit (IsFit HasMoreVias (IsPassedBy setup.config takes.live.session request) setup.config net.epoch) net.count place host.sessions
turn-passes setup net app number request now made end settled takes place host at =
    let holds = turn-fits setup net app takes.live number request now made end takes.lives takes.first takes.below settled.numbered settled.within settled.quiet takes.untagged in
    all-map (λ (live : Live Session). All (λ (w : Waiting). net.count < w.number → FitsIn HasMoreVias (PassedAt setup.config takes.live.session now request) setup net.epoch (record { host = place; serial = live.serial }) w.event) live.inbox)
    (λ (live : Live Session). All (λ (w : Waiting). net.count < w.number → IsFit HasMoreVias (IsPassedBy setup.config takes.live.session request) setup.config net.epoch (record { host = place; serial = live.serial }) w.event) live.inbox) host.sessions
    (λ live all. all-map (λ (w : Waiting). net.count < w.number → FitsIn HasMoreVias (PassedAt setup.config takes.live.session now request) setup net.epoch (record { host = place; serial = live.serial }) w.event)
    (λ (w : Waiting). net.count < w.number → IsFit HasMoreVias (IsPassedBy setup.config takes.live.session request) setup.config net.epoch (record { host = place; serial = live.serial }) w.event) live.inbox
    (λ w fits above. undated setup net.epoch takes.live request now (record { host = place; serial = live.serial }) w.event (fits above)) all)
    (holds.hosts place host at).0
