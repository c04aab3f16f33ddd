-- A later request that a session sends comes to the first session ahead of it, where that lives and has room.
use Rattle.std.proofs.Common.{◌≡◌, ◌<◌, ℕ, zero, suc, ◌+◌, ◌++◌, ◌^◌, Bool, true, false, Option, None, Some, List, [], ◌∷◌, refl, sym, ap, subst, ◌∙◌, arith}
use Rattle.std.proofs.lemmas.Bool.Decides.{nat_tests}
use Rattle.std.specs.Prelude.{◌==◌, ◌&&◌, drop, length, option_map, slice_get, unwrap_or}
use Rattle.std.specs.List.{find}
use Rattle.std.specs.Option.{option_map_or}
use Rattle.sc_value.specs.declared.ids.AppId.{AppId}
use Rattle.sc_value.specs.declared.ids.Place.{Place}
use Rattle.sc_value.specs.declared.message.Request.{Request}
use Rattle.sc_value.specs.declared.parts.Address.{Address}
use Rattle.sc_terms.specs.declared.settings.Config.{Config}
use Rattle.sc_terms.specs.declared.steps.Step.{Step}
use Rattle.sc_terms.specs.declared.steps.Step.TheVariants as steps
use Rattle.sc_parts.specs.declared.setup.Setup.{Setup}
use Rattle.sc_state.specs.declared.host.Live.{Live}
use Rattle.sc_state.specs.declared.host.Peer.{Peer}
use Rattle.sc_state.specs.declared.host.Peer.TheVariants as peers
use Rattle.sc_state.specs.declared.net.Net.{Net}
use Rattle.sc_state.specs.declared.orders.Order.{Order}
use Rattle.sc_state.specs.declared.queue.Queued.TheVariants as queued
use Rattle.sc_state.specs.declared.session.Session.{Session}
use Rattle.sc_model.specs.OwnHosts.{is_own}
use Rattle.sc_hosts.specs.Destinations.{next_uri}
use Rattle.sc_hosts.specs.Histories.{as_session}
use Rattle.sc_hosts.specs.Inboxes.{is_full}
use Rattle.sc_hosts.specs.Nets.{host_at}
use Rattle.sc_hosts.specs.Runs.{IsAllowed, IsLawful, MayTurn, after_step, net_from as chained}
use Rattle.sc_hosts.specs.Steps.{live_at, outcome_by, turn_of}
use Rattle.sc_hosts.specs.Taking.{names, without_own_route as unrouted}
use Rattle.sc_lasting.specs.Lasting.{All}
use Rattle.sc_lasting.proofs.Shared.{all-at, found-behind}
use Rattle.sc_paths.specs.LaterRequests.{Occurrence, SetOut, carries, carries_by, has_vias, later_in, later_vias, leads, leads_to, set_out, set_out_by, visits, visits_from}
use Rattle.sc_paths.specs.Moments.{Got, Moment, given_in, got_in, moments, orders_by}
use Rattle.sc_paths.specs.Pieces.{Dialog, Direction, IsPiece, Piece, ahead, along, end_of, list_of_option as listed, recorders}
use Rattle.sc_hops.specs.Hops.{AreOtherBranches, HasNoClient, IsOtherBranch, Sends}
use Rattle.sc_hops.proofs.OneTurn.{unrouted-vias}
use Rattle.sc_ways.specs.Ways.{AreSmallDraws, AreSmallNames, IsApart, IsPrefix, VisitsFirst}
use Rattle.sc_ways.proofs.FirstHop.{first-visited, found-some, none-found, vias-self}
use Rattle.sc_ways.proofs.Law.{prefix}
use Rattle.sc_ways.proofs.OneHop.{allowed-turn, orders-are}
use Rattle.sc_ways.proofs.OwnBranches.{IsOnOwnBranch, out-own}
use Rattle.sc_ways.proofs.Prefix.{IsCarried, carried, outside-by}
use Rattle.sc_ways.proofs.Recorders.{found-small}
use Rattle.sc_ways.proofs.Sending.{sends-by, session-by}
use Rattle.sc_ways.proofs.Waits.{events-live}
use Rattle.sc_onward.specs.Onward.{HasNewBranches, HasNoServer}
use Rattle.sc_onward.proofs.Delivered.{Arrives}
use Rattle.sc_onward.proofs.OneHop.{IsSound, Item, got-item, sends-in}
use Rattle.sc_onward.proofs.Turning.{SendsOn, sent-comes}
use Rattle.sc_onward.proofs.Whole.{run-new, run-sound}

-- ## One of the orders

-- the order at this place, with those before it and behind it
record IsCutAt (given : List Order) (place : ℕ) (order : Order) : Type 0 where
  before : List Order
  rest : List Order
  is : given ≡ before ++ order ∷ rest
  place_is : ◌≡◌ {A = ℕ} place (length before)

cut : (given : List Order) (place : ℕ) (order : Order) → slice_get given place ≡ Some order → IsCutAt given place order
cut [] place order at = cc
cut (first ∷ given) zero order at = record { before = []; rest = given; is = ap (λ (o : Order). o ∷ given) (same first order at); place_is = refl }
  where
    same : (x y : Order) → Some x ≡ Some y → x ≡ y
    same x y is = cc
cut (first ∷ given) (suc place) order at =
    let later = cut given place order at in
    record { before = first ∷ later.before; rest = later.rest; is = ap (λ (os : List Order). first ∷ os) later.is; place_is = ap suc later.place_is }

others-before : (xs : List Order) (y : Order) (rest : List Order) (sent : Request) → AreOtherBranches sent (xs ++ y ∷ rest) (length xs) → All (IsOtherBranch sent) xs
unfolding AreOtherBranches All
others-before [] y rest sent others = tt
others-before (x ∷ xs) y rest sent others = (others.0, others-before xs y rest sent others.1)

-- ## The first of those ahead

both : (a b : Bool) → (a && b) ≡ true → (a ≡ true) × (b ≡ true)
both true b is = (refl, is)
both false b is = cc

first-is : (x y : AppId) (xs ys : List AppId) → x ∷ xs ≡ y ∷ ys → x ≡ y
first-is x y xs ys is = cc

some-length : (n : ℕ) → (suc n == 0) ≡ true → ⊥
some-length n is = grind (arith, nat_tests, is)

-- its next URI is own, and names that session
abbrev pub LeadsTo : Config → ℕ → Request → AppId → Type 0
LeadsTo config epoch request app = (is_own config (next_uri request) ≡ true) × (names epoch app (next_uri request) ≡ true)

end-leads : (config : Config) (epoch : ℕ) (app : AppId) (request : Request) → leads config epoch [] (Some app) request ≡ true → LeadsTo config epoch request app
unfolding leads leads_to next_uri
end-leads config epoch app request is = by request.head.route is
  where
    by : (routes : List Address) → (length routes == 0 && (is_own config request.uri && names epoch app request.uri)) ≡ true
        → (is_own config (unwrap_or (option_map (λ route. route.uri) (slice_get routes 0)) request.uri) ≡ true) × (names epoch app (unwrap_or (option_map (λ route. route.uri) (slice_get routes 0)) request.uri) ≡ true)
    by [] is = both (is_own config request.uri) (names epoch app request.uri) is
    by (route ∷ routes) is = absurd (some-length (length routes) (both (suc (length routes) == 0) (is_own config request.uri && names epoch app request.uri) is).0)

route-leads : (config : Config) (epoch : ℕ) (app : AppId) (apps : List AppId) (end : Option AppId) (request : Request) → leads config epoch (app ∷ apps) end request ≡ true → LeadsTo config epoch request app
unfolding leads leads_to next_uri
route-leads config epoch app apps end request is = by (slice_get request.head.route 0) (leads config epoch apps end (unrouted config request)) is
  where
    by : (found : Option Address) (rest : Bool) → (option_map_or (λ route. is_own config route.uri && names epoch app route.uri) found false && rest) ≡ true
        → (is_own config (unwrap_or (option_map (λ route. route.uri) found) request.uri) ≡ true) × (names epoch app (unwrap_or (option_map (λ route. route.uri) found) request.uri) ≡ true)
    by None rest is = cc
    by (Some route) rest is = both (is_own config route.uri) (names epoch app route.uri) (both (is_own config route.uri && names epoch app route.uri) rest is).0

pub ahead-leads : (config : Config) (epoch : ℕ) (apps : List AppId) (end : Option AppId) (request : Request) (app : AppId) (more : List AppId) → apps ++ listed end ≡ app ∷ more → leads config epoch apps end request ≡ true
    → LeadsTo config epoch request app
ahead-leads config epoch [] None request app more is leading = cc
ahead-leads config epoch [] (Some end) request app more is leading = subst (λ (a : AppId). LeadsTo config epoch request a) (first-is end app [] more is) (end-leads config epoch end request leading)
ahead-leads config epoch (first ∷ apps) end request app more is leading =
    subst (λ (a : AppId). LeadsTo config epoch request a) (first-is first app (apps ++ listed end) more is) (route-leads config epoch first apps end request leading)

has-own : (config : Config) (request : Request) (got : Got) → got.waiting.event ≡ queued.Request (unrouted config request) → has_vias 0 request.head.via got ≡ true
unfolding has_vias later_vias
has-own config request got is = rw (is, unrouted-vias config request) (vias-self request.head.via)

-- ## The turn

module _ (setup : Setup) (epoch : ℕ) (small : epoch < 2 ^ 64) (moment : Moment) (sound : IsSound setup epoch moment) (new : HasNewBranches setup moment) (place : ℕ) (out : SetOut)
    (by : set_out_by setup moment moment.step (Some place) ≡ Some out) (run : List Moment) (dialog : Dialog) (direction : Direction) (piece : Piece)
    (is : IsCarried setup.config run dialog direction piece out) (app : AppId) (more : List AppId) (first : ahead run direction piece ≡ app ∷ more)
    (was last : Live Session) (there : live_at app moment.before ≡ Some was) (ends : live_at app moment.after ≡ Some last) (room : is_full last ≡ false) where
  abbrev net : Net Session
  net = moment.before

  sent-found : find (has_vias 0 out.request.head.via) (got_in moment) ≡ None → ⊥
  unfolding ahead HasNoServer
  sent-found none =
      let from = session-by setup moment moment.step place out by in
      let turn : Step = steps.Turn from.end from.app from.event from.now from.made in
      let may : MayTurn as_session setup net from.app from.event from.now from.made from.end =
      allowed-turn setup net from.app from.event from.now from.made from.end (subst (λ (s : Step). IsAllowed as_session setup net s) from.step_is sound.ready.fine.allowed) in
      let request-is : out.request ≡ from.request = ap (λ (o : SetOut). o.request) from.out_is in
      let moment-is : ◌≡◌ {A = Moment} out.moment moment = ap (λ (o : SetOut). o.moment) from.out_is in
      let order = found-behind later_in (slice_get (given_in setup moment) place) from.request from.ordered in
      let parts = cut (given_in setup moment) place order.0 order.1 in
      let given : given_in setup moment ≡ (outcome_by as_session setup.config may.live.session (turn_of (record net { sent = [] }) from.app may.waiting from.now from.made from.end)).orders =
      ap (λ (s : Step). orders_by setup net s) from.step_is ∙ orders-are setup net from.app from.event from.now from.made from.end may.live may.waiting may.live_is may.waiting_is in
      let own : IsOnOwnBranch setup out place = out-own setup epoch moment place out small sound.ready by in
      let after-is : moment.after ≡ after_step as_session setup net turn = sound.after ∙ ap (λ (s : Step). after_step as_session setup net s) from.step_is in
      let leading = ahead-leads setup.config out.moment.before.epoch (along direction (recorders run piece)) (end_of direction piece) out.request app more first is.leading in
      let on : SendsOn setup net from.app may.live may.waiting from.event from.now from.made from.end epoch app out.request parts.before parts.rest order.0 = record {
        lives = may.live_is;
        first = may.waiting_is;
        given = sym given ∙ parts.is;
        sends = subst (λ (r : Request). Sends r order.0) (sym request-is) (sends-by order.0 from.request order.2);
        others = others-before parts.before order.0 parts.rest out.request
            (subst (λ (n : ℕ). AreOtherBranches out.request (parts.before ++ order.0 ∷ parts.rest) n) parts.place_is
            (subst (λ (os : List Order). AreOtherBranches out.request os place) parts.is (subst (λ (m : Moment). AreOtherBranches out.request (given_in setup m) place) moment-is own.orders)));
        clients = subst (λ (m : Moment). HasNoClient out.request m.before) moment-is own.clients;
        servers = new place order.0 out.request order.1 (sends-in order.0 out.request (subst (λ (r : Request). Sends r order.0) (sym request-is) (sends-by order.0 from.request order.2)));
        own = leading.0;
        named = subst (λ (e : ℕ). names e app (next_uri out.request) ≡ true) (ap (λ (m : Moment). m.before.epoch) moment-is ∙ sound.ready.fine.at) leading.1;
        no_cancel = is.no_cancel;
        tagged = is.tagged;
        small = found-small epoch net app was (host_at app.host net) refl there small sound.ready.fine.few_before sound.ready.fine.small_before;
        at = sound.ready.fine.at;
        quiet = sound.ready.fine.quiet;
        numbered = sound.ready.fine.numbered;
        within = sound.within;
        few = sound.ready.fine.few_before;
        less = subst (λ (n : Net Session). n.count < 2 ^ 64) after-is sound.less;
        was = was;
        there = there;
        last = last;
        ends = subst (λ (n : Net Session). live_at app n ≡ Some last) after-is ends;
        room = room;
      } in
      let come : Arrives setup out.request app net.count moment.after =
      subst (λ (n : Net Session). Arrives setup out.request app net.count n) (sym after-is)
      (sent-comes setup net from.app may.live may.waiting from.event from.now from.made from.end epoch app out.request parts.before parts.rest order.0 on) in
      let inbox : last.inbox ≡ come.held.first ++ come.waiting ∷ come.held.rest = sym (events-live app moment.after last ends) ∙ come.held.is in
      found-some (has_vias 0 out.request.head.via) (Item app come.waiting) (got_in moment) (got-item moment app last come.waiting come.held.first come.held.rest ends inbox come.above)
      (has-own setup.config out.request (Item app come.waiting) come.is) none

-- ## The run

inside-only : (host : ℕ) (sender : Peer) → sender ≡ peers.Inside host → (place : Place) → sender ≡ peers.Outside place → ⊥
inside-only host sender inside place outside = cc

module _ (setup : Setup) (epoch began : ℕ) (journal : List Step) (dialog : Dialog) (direction : Direction) (piece : Piece) (occurrence : Occurrence)
    (lawful : IsLawful as_session setup epoch began journal) (names-small : AreSmallNames setup epoch (chained as_session setup epoch began journal) piece) (drawn : AreSmallDraws setup (moments setup epoch began journal)) where
  abbrev Run : List Moment
  Run = moments setup epoch began journal

  by-order : (found : Option ℕ) (moment : Moment) (out : SetOut) (host : ℕ) → set_out_by setup moment moment.step found ≡ Some out → out.sender ≡ peers.Inside host
      → (place : ℕ) × (set_out_by setup moment moment.step (Some place) ≡ Some out)
  by-order (Some place) moment out host by sender = (place, by)
  by-order None moment out host by sender =
      let from = outside-by setup moment moment.step out by in
      absurd (inside-only host out.sender sender from.place (ap (λ (o : SetOut). o.sender) from.out_is))

  -- it is queued
  some-found : (out : SetOut) (host : ℕ) → set_out setup Run occurrence ≡ Some out → out.sender ≡ peers.Inside host
      → carries_by setup.config Run dialog direction piece out ≡ true → (app : AppId) (more : List AppId) → ahead Run direction piece ≡ app ∷ more → (was last : Live Session)
      → live_at app out.moment.before ≡ Some was → live_at app out.moment.after ≡ Some last → is_full last ≡ false → find (has_vias 0 out.request.head.via) (got_in out.moment) ≡ None → ⊥
  unfolding set_out
  some-found out host set sender carries app more first was last there ends room none =
      let by = found-behind (λ (moment : Moment). set_out_by setup moment moment.step occurrence.order) (slice_get Run occurrence.step) out set in
      let order = by-order occurrence.order by.0 out host by.2 sender in
      let from = session-by setup by.0 by.0.step order.0 out order.1 in
      let same : ◌≡◌ {A = Moment} out.moment by.0 = ap (λ (o : SetOut). o.moment) from.out_is in
      sent-found setup epoch names-small.within by.0
      (all-at (IsSound setup epoch) Run occurrence.step by.0 by.1 (run-sound setup epoch began journal lawful (record { within = names-small.within; hosts = names-small.hosts; events = names-small.events }) drawn))
      (all-at (HasNewBranches setup) Run occurrence.step by.0 by.1 (run-new setup epoch began journal lawful (record { within = names-small.within; hosts = names-small.hosts; events = names-small.events }) drawn)) order.0 out order.1 Run dialog direction piece (carried setup.config Run dialog direction piece out carries) app more first was last
      (subst (λ (m : Moment). live_at app m.before ≡ Some was) same there) (subst (λ (m : Moment). live_at app m.after ≡ Some last) same ends) room
      (subst (λ (m : Moment). find (has_vias 0 out.request.head.via) (got_in m) ≡ None) same none)

  pub sent-first : IsPiece setup epoch Run dialog piece → IsApart Run dialog piece → carries setup Run dialog direction piece occurrence ≡ true → (out : SetOut) (host : ℕ)
      → set_out setup Run occurrence ≡ Some out → out.sender ≡ peers.Inside host → (app : AppId) (more : List AppId) → ahead Run direction piece ≡ app ∷ more
      → (was last : Live Session) → live_at app out.moment.before ≡ Some was → live_at app out.moment.after ≡ Some last → is_full last ≡ false → VisitsFirst app more (visits setup Run occurrence)
  unfolding carries visits
  sent-first is apart carries-it out host set sender app more first was last there ends room =
      let begins : IsPrefix (visits setup Run occurrence) (app ∷ more) =
      subst (λ (apps : List AppId). IsPrefix (visits setup Run occurrence) apps) first (prefix setup epoch began journal dialog direction piece occurrence lawful is apart names-small drawn carries-it) in
      let carried-out : carries_by setup.config Run dialog direction piece out ≡ true =
      subst (λ (o : Option SetOut). option_map_or (carries_by setup.config Run dialog direction piece) o false ≡ true) set carries-it in
      first-visited app more (visits setup Run occurrence) begins
      (λ none. some-found out host set sender carried-out app more first was last there ends room
      (none-found (find (has_vias 0 out.request.head.via) (got_in out.moment)) (drop (occurrence.step + 1) Run)
      (subst (λ (o : Option SetOut). option_map_or (λ (x : SetOut). visits_from (find (has_vias 0 x.request.head.via) (got_in x.moment)) (drop (occurrence.step + 1) Run)) o [] ≡ []) set none)))
