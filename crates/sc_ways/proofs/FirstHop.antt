-- A later request from outside comes to the first session ahead of it, where that lives and has room.
use Rattle.std.proofs.Common.{◌≡◌, ◌<◌, inl, inr, ℕ, zero, suc, ◌+◌, ◌++◌, ◌^◌, Bool, true, false, Option, None, Some, List, [], ◌∷◌, refl, sym, ap, subst, ◌∙◌, arith}
use Rattle.std.specs.Prelude.{◌==◌, ◌&&◌, cond, drop, filter, map, nat_lt, slice_get}
use Rattle.std.specs.Char.{to_ascii_lowercase}
use Rattle.std.specs.List.{find, flat_map}
use Rattle.std.specs.Option.{option_map_or}
use Rattle.std.proofs.lemmas.Bool.Decides.{nat_tests}
use Rattle.sc_tokens.specs.Names.{same_bytes, same_name}
use Rattle.sc_value.specs.declared.ids.AppId.{AppId}
use Rattle.sc_value.specs.declared.ids.Place.{Place}
use Rattle.sc_value.specs.declared.message.Message.TheVariants as messages
use Rattle.sc_value.specs.declared.message.Request.{Request}
use Rattle.sc_value.specs.declared.parts.Uri.{Uri}
use Rattle.sc_value.specs.declared.parts.Via.{Via}
use Rattle.sc_terms.specs.declared.steps.Step.{Step}
use Rattle.sc_terms.specs.declared.steps.Step.TheVariants as steps
use Rattle.sc_parts.specs.declared.setup.Setup.{Setup}
use Rattle.sc_state.specs.Hosts.{Host}
use Rattle.sc_state.specs.declared.host.Live.{Live}
use Rattle.sc_state.specs.declared.host.Peer.{Peer}
use Rattle.sc_state.specs.declared.host.Peer.TheVariants as peers
use Rattle.sc_state.specs.declared.net.Net.{Net}
use Rattle.sc_state.specs.declared.queue.Queued.TheVariants as queued
use Rattle.sc_state.specs.declared.session.Session.{Session}
use Rattle.sc_tokens.specs.Bytes.{Bytes}
use Rattle.sc_hosts.specs.EventLists.{live_from}
use Rattle.sc_hosts.specs.Histories.{as_session}
use Rattle.sc_hosts.specs.Inboxes.{is_full, is_live}
use Rattle.sc_hosts.specs.Nets.{host_at, is_busy}
use Rattle.sc_hosts.specs.Runs.{IsLawful, after_step, net_from as chained, start}
use Rattle.sc_hosts.specs.Steps.{inbox_of, live_at, live_of, before_delivery as stepped}
use Rattle.sc_hosts.specs.Taking.{names, own_uri, without_own_route as unrouted}
use Rattle.sc_hosts.specs.Transacting.{branch_of, port_of, same_via}
use Rattle.sc_hosts.proofs.Deliveries.{none-delivered}
use Rattle.sc_keyed.specs.Keyed.{IsIn}
use Rattle.sc_keyed.proofs.Apart.{found-in}
use Rattle.sc_reached.specs.Reached.{IsLaterFor, IsQueuedAlone}
use Rattle.sc_reached.proofs.Reaching.{reaches, serial-is}
use Rattle.sc_hops.proofs.OneTurn.{unrouted-vias}
use Rattle.sc_paths.specs.LaterRequests.{Occurrence, SetOut, carries, carries_by, has_vias, is_turn_of, later_vias, leads, set_out, set_out_by, visits, visits_from}
use Rattle.sc_paths.specs.Moments.{Got, Moment, got_in, moments, same_vias, waiting_at}
use Rattle.sc_paths.specs.Pieces.{Dialog, Direction, IsPiece, Piece, ahead, along, end_of, list_of_option as listed, recorders}
use Rattle.sc_lasting.proofs.Shared.{all-at, found-behind}
use Rattle.sc_ways.specs.Ways.{AreSmallDraws, AreSmallNames, IsApart, IsPrefix, VisitsFirst}
use Rattle.sc_ways.proofs.Law.{prefix}
use Rattle.sc_ways.proofs.OneHop.{IsFine}
use Rattle.sc_ways.proofs.Outside.{at, none-claims}
use Rattle.sc_ways.proofs.Popping.{comes, comes-at-end}
use Rattle.sc_ways.proofs.Prefix.{IsCarried, carried, outside-by}
use Rattle.sc_ways.proofs.Recorders.{found-small}
use Rattle.sc_ways.proofs.Runs.{cut-at, run-fine}
use Rattle.sc_ways.proofs.Sending.{session-by}

-- ## Lists

pub in-left : {A : Type 0} (x : A) (xs ys : List A) → IsIn x xs → IsIn x (xs ++ ys)
unfolding IsIn
in-left x [] ys there = absurd there
in-left x (y ∷ xs) ys (inl is) = inl is
in-left x (y ∷ xs) ys (inr later) = inr (in-left x xs ys later)

pub in-right : {A : Type 0} (x : A) (xs ys : List A) → IsIn x ys → IsIn x (xs ++ ys)
unfolding IsIn
in-right x [] ys there = there
in-right x (y ∷ xs) ys there = inr (in-right x xs ys there)

pub in-last : {A : Type 0} (x : A) (xs : List A) → IsIn x (xs ++ x ∷ [])
unfolding IsIn
in-last x [] = inl refl
in-last x (y ∷ xs) = inr (in-last x xs)

pub in-map : {A B : Type 0} (f : A → B) (x : A) (xs : List A) → IsIn x xs → IsIn (f x) (map f xs)
unfolding IsIn
in-map f x [] there = absurd there
in-map f x (y ∷ xs) (inl is) = inl (ap f is)
in-map f x (y ∷ xs) (inr later) = inr (in-map f x xs later)

pub in-flat : {A B : Type 0} (f : A → List B) (x : A) (b : B) (xs : List A) → IsIn x xs → IsIn b (f x) → IsIn b (flat_map f xs)
unfolding IsIn
in-flat f x b [] there given = absurd there
in-flat f x b (y ∷ xs) (inl is) given = in-left b (f y) (flat_map f xs) (subst (λ z. IsIn b (f z)) is given)
in-flat f x b (y ∷ xs) (inr later) given = in-right b (f y) (flat_map f xs) (in-flat f x b xs later given)

pub in-filter : {A : Type 0} (test : A → Bool) (x : A) (xs : List A) → test x ≡ true → IsIn x xs → IsIn x (filter test xs)
unfolding IsIn
in-filter test x [] is there = absurd there
in-filter {A = A} test x (y ∷ xs) is (inl same) = first (test y) (subst (λ z. test z ≡ true) same is) refl
  where
    first : (b : Bool) → test y ≡ true → test y ≡ b → IsIn x (cond b (y ∷ filter test xs) (filter test xs))
    first true is there = inl same
    first false is there = cc
in-filter {A = A} test x (y ∷ xs) is (inr later) = by (test y) (in-filter test x xs is later)
  where
    by : (b : Bool) → IsIn x (filter test xs) → IsIn x (cond b (y ∷ filter test xs) (filter test xs))
    by true there = inr there
    by false there = there

pub found-some : {A : Type 0} (test : A → Bool) (x : A) (xs : List A) → IsIn x xs → test x ≡ true → find test xs ≡ None → ⊥
unfolding IsIn
found-some test x [] there is none = there
found-some {A = A} test x (y ∷ xs) (inl same) is none = by (test y) (subst (λ z. test z ≡ true) same is) refl none
  where
    by : (b : Bool) → test y ≡ true → test y ≡ b → cond b (Some y) (find test xs) ≡ None → ⊥
    by true is there none = cc
    by false is there none = cc
found-some {A = A} test x (y ∷ xs) (inr later) is none = by (test y) none (found-some test x xs later is)
  where
    by : (b : Bool) → cond b (Some y) (find test xs) ≡ None → (find test xs ≡ None → ⊥) → ⊥
    by true none rest = cc
    by false none rest = rest none

-- ## Vias are their own

same-digit : (n : ℕ) → (n == n) ≡ true
same-digit n = grind (arith, nat_tests)

same-self : (bytes : Bytes) → same_bytes bytes bytes ≡ true
same-self [] = refl
same-self (b ∷ bs) = rw (same-digit b, same-self bs) refl

three : (a b c : Bool) → a ≡ true → b ≡ true → c ≡ true → (a && b && c) ≡ true
three true true true p q r = refl
three true true false p q r = r
three true false c p q r = cc
three false b c p q r = cc

via-self : (via : Via) → same_via via via ≡ true
unfolding same_via same_name
via-self via = three _ _ _ (same-self (branch_of via)) (same-self (map to_ascii_lowercase via.host)) (same-digit (port_of via))

pub vias-self : (vias : List Via) → same_vias vias vias ≡ true
unfolding same_vias
vias-self [] = refl
vias-self (via ∷ vias) = rw (via-self via) (vias-self vias)

-- ## The event is among those that the step queued

next-host : (n number place : ℕ) → n ≡ number + suc place → n ≡ number + 1 + place
next-host n number place is = omega (arith, is)

this-host : (n number : ℕ) → n ≡ number + zero → n ≡ number
this-host n number is = omega (arith, is)

live-in : (hosts : List (Host Session)) (number place n : ℕ) (host : Host Session) (live : Live Session) → slice_get hosts place ≡ Some host → n ≡ number + place → IsIn live host.sessions
    → IsIn (record { host = n; serial = live.serial }) (live_from number hosts)
unfolding live_from
live-in [] number place n host live at is lives = cc
live-in (first ∷ hosts) number zero n host live at is lives =
    let same : first ≡ host = cc in
    subst (λ (m : ℕ). IsIn (record { host = m; serial = live.serial }) (map (λ (l : Live Session). record { host = number; serial = l.serial }) first.sessions ++ live_from (number + 1) hosts)) (sym (this-host n number is))
    (in-left (record { host = number; serial = live.serial }) (map (λ (l : Live Session). record { host = number; serial = l.serial }) first.sessions) (live_from (number + 1) hosts)
    (in-map (λ (l : Live Session). record { host = number; serial = l.serial }) live first.sessions (subst (λ (h : Host Session). IsIn live h.sessions) (sym same) lives)))
live-in (first ∷ hosts) number (suc place) n host live at is lives =
    in-right (record { host = n; serial = live.serial }) _ (live_from (number + 1) hosts) (live-in hosts (number + 1) place n host live at (next-host n number place is) lives)

pub some-live : (app : AppId) (found : Option (Host Session)) (net : Net Session) (live : Live Session) → host_at app.host net ≡ found → live_of app found ≡ Some live → IsIn app (live_from 0 net.hosts)
some-live app None net live at is = cc
some-live app (Some host) net live at is =
    subst (λ (n : ℕ). IsIn (record { host = app.host; serial = n }) (live_from 0 net.hosts)) (serial-is app.serial host.sessions live is)
    (live-in net.hosts 0 app.host app.host host live at (zero-more app.host) (found-in (is_live app.serial) host.sessions live is))
  where
    zero-more : (n : ℕ) → n ≡ 0 + n
    zero-more n = omega arith

above : (n : ℕ) → nat_lt n (n + 1) ≡ true
above n = grind (arith, nat_tests)

module _ (setup : Setup) (place : Place) (request : Request) (net : Net Session) where
  abbrev got : AppId → Got
  got app = record { app = app; waiting = record { number = net.count + 1; event = queued.Request (unrouted setup.config request) } }

  queued-in : (app : AppId) (live later : Live Session) (after : Net Session) → live_at app after ≡ Some later
      → later.inbox ≡ live.inbox ++ record { number = net.count + 1; event = queued.Request (unrouted setup.config request) } ∷ []
      → IsIn (got app) (got_in (record { before = net; step = steps.In place (messages.Request request); after = after }))
  unfolding got_in waiting_at inbox_of
  queued-in app live later after lives inbox =
      in-filter (λ (g : Got). nat_lt net.count g.waiting.number) (got app) _ (above net.count)
      (in-flat (waiting_at after) app (got app) (live_from 0 after.hosts) (some-live app (host_at app.host after) after later refl lives)
      (rw (lives, inbox) (in-map (λ waiting. record { app = app; waiting = waiting }) (got app).waiting _ (in-last (got app).waiting live.inbox))))

  has-own : (app : AppId) → has_vias 0 request.head.via (got app) ≡ true
  unfolding has_vias later_vias
  has-own app = rw (unrouted-vias setup.config request) (vias-self request.head.via)

-- ## The first of those ahead

-- the own URI by which the request goes leads there
pub record ComesTo (setup : Setup) (epoch : ℕ) (request : Request) (app : AppId) : Type 0 where
  pub uri : Uri
  pub by : own_uri setup.config request ≡ Some uri
  pub named : names epoch app uri ≡ true

first-is : (x y : AppId) (xs ys : List AppId) → x ∷ xs ≡ y ∷ ys → x ≡ y
first-is x y xs ys is = cc

pub ahead-comes : (setup : Setup) (epoch : ℕ) (request : Request) (apps : List AppId) (end : Option AppId) (app : AppId) (more : List AppId) → apps ++ listed end ≡ app ∷ more
    → leads setup.config epoch apps end request ≡ true → ComesTo setup epoch request app
ahead-comes setup epoch request [] None app more is leading = cc
ahead-comes setup epoch request [] (Some end) app more is leading =
    let to = comes-at-end setup.config epoch end request leading in
    record { uri = to.uri; by = to.by; named = subst (λ (a : AppId). names epoch a to.uri ≡ true) (first-is end app [] more is) to.named }
ahead-comes setup epoch request (first ∷ apps) end app more is leading =
    let to = comes setup.config epoch first apps end request leading in
    record { uri = to.uri; by = to.by; named = subst (λ (a : AppId). names epoch a to.uri ≡ true) (first-is first app (apps ++ listed end) more is) to.named }

-- ## The moment

pub idle : (net : Net Session) → net.wire ≡ [] → is_busy net ≡ false
unfolding is_busy
idle net is = rw is refl

module _ (setup : Setup) (epoch : ℕ) (small : epoch < 2 ^ 64) (place : Place) (request : Request) (net : Net Session) (fine : IsFine setup epoch (at setup place request net)) where
  abbrev begins : Net Session
  begins = record net { sent = [] }

  reached : (app : AppId) (live : Live Session) → IsLaterFor setup place request begins app live → find (has_vias 0 request.head.via) (got_in (at setup place request net)) ≡ None → ⊥
  unfolding after_step
  reached app live to none =
      let alone : IsQueuedAlone app live (queued.Request (unrouted setup.config request)) begins (stepped as_session setup (steps.In place (messages.Request request)) begins) = reaches as_session setup place request begins app live to in
      let came : Net Session = stepped as_session setup (steps.In place (messages.Request request)) begins in
      let after-is : after_step as_session setup net (steps.In place (messages.Request request)) ≡ came = none-delivered as_session setup came (idle came (alone.wire ∙ fine.quiet)) in
      found-some (has_vias 0 request.head.via) (got setup place request net app) (got_in (at setup place request net))
      (queued-in setup place request net app live alone.later (after_step as_session setup net (steps.In place (messages.Request request)))
      (subst (λ (n : Net Session). live_at app n ≡ Some alone.later) (sym after-is) alone.lives) alone.inbox)
      (has-own setup place request net app) none

  small-here : net.epoch < 2 ^ 64
  small-here = subst (λ (e : ℕ). e < 2 ^ 64) (sym fine.at) small

  -- it keeps to the way, and the first of those ahead lives and has room: so it is queued
  nothing-else : (run : List Moment) (dialog : Dialog) (direction : Direction) (piece : Piece)
      → IsCarried setup.config run dialog direction piece (record { moment = at setup place request net; sender = peers.Outside place; request = request })
      → (app : AppId) (more : List AppId) → ahead run direction piece ≡ app ∷ more → (live : Live Session) → live_at app net ≡ Some live → is_full live ≡ false
      → find (has_vias 0 request.head.via) (got_in (at setup place request net)) ≡ None → ⊥
  unfolding ahead
  nothing-else run dialog direction piece is app more first live lives room none =
      let to = ahead-comes setup net.epoch request (along direction (recorders run piece)) (end_of direction piece) app more first is.leading in
      reached app live (record {
        later = record { no_cancel = is.no_cancel; tagged = is.tagged; unclaimed = none-claims setup place request net.hosts 0 is.unclaimed };
        uri = to.uri;
        by = to.by;
        named = to.named;
        lives = lives;
        room = room;
        within = found-small net.epoch net app live (host_at app.host net) refl lives small-here fine.few_before fine.small_before;
        count = fine.few_before;
        small = fine.small_before;
      }) none

-- ## The run

visits-some : (got : Got) (later : List Moment) → visits_from (Some got) later ≡ [] → ⊥
unfolding visits_from
visits-some got [] none = cc
visits-some got (moment ∷ later) none = by (is_turn_of got moment.step) _ _ none (λ rest. visits-some got later rest)
  where
    by : (b : Bool) (xs ys : List AppId) → cond b (got.app ∷ xs) ys ≡ [] → (ys ≡ [] → ⊥) → ⊥
    by true xs ys none rest = cc
    by false xs ys none rest = rest none

pub none-found : (found : Option Got) (later : List Moment) → visits_from found later ≡ [] → found ≡ None
none-found None later none = refl
none-found (Some got) later none = absurd (visits-some got later none)

-- a request that came from outside came by this step
pub record CameBy (moment : Moment) (place : Place) (out : SetOut) : Type 0 where
  pub request : Request
  pub out_is : out ≡ record { moment = moment; sender = peers.Outside place; request = request }
  pub step_is : moment.step ≡ steps.In place (messages.Request request)

pub came-by : (setup : Setup) (moment : Moment) (order : Option ℕ) (place : Place) (out : SetOut) → set_out_by setup moment moment.step order ≡ Some out → out.sender ≡ peers.Outside place → CameBy moment place out
came-by setup moment None place out is sender =
    let from = outside-by setup moment moment.step out is in
    let same : from.place ≡ place = same-place from.place place (sym (ap (λ (o : SetOut). o.sender) from.out_is) ∙ sender) in
    record {
      request = from.request;
      out_is = subst (λ (p : Place). out ≡ record { moment = moment; sender = peers.Outside p; request = from.request }) same from.out_is;
      step_is = subst (λ (p : Place). moment.step ≡ steps.In p (messages.Request from.request)) same from.step_is;
    }
  where
    same-place : (a b : Place) → ◌≡◌ {A = Peer} (peers.Outside a) (peers.Outside b) → a ≡ b
    same-place a b is = cc
came-by setup moment (Some order) place out is sender =
    let from = session-by setup moment moment.step order out is in absurd (inside from.app.host (sym (ap (λ (o : SetOut). o.sender) from.out_is) ∙ sender))
  where
    inside : (host : ℕ) → ◌≡◌ {A = Peer} (peers.Inside host) (peers.Outside place) → ⊥
    inside host is = cc

pub first-visited : (app : AppId) (more visited : List AppId) → IsPrefix visited (app ∷ more) → (visited ≡ [] → ⊥) → VisitsFirst app more visited
unfolding IsPrefix
first-visited app more [] starts some = absurd (some refl)
first-visited app more (first ∷ rest) starts some = record {
  rest = rest;
  is = ap (λ (a : AppId). a ∷ rest) starts.0;
  begins = starts.1;
  whole = λ none. ap (λ (apps : List AppId). first ∷ apps) (nothing rest (subst (λ (apps : List AppId). IsPrefix rest apps) none starts.1)) ∙ ap (λ (a : AppId). a ∷ []) starts.0;
}
  where
    nothing : (rest : List AppId) → IsPrefix rest [] → rest ≡ []
    nothing [] is = refl
    nothing (x ∷ rest) is = absurd is

module _ (setup : Setup) (epoch began : ℕ) (journal : List Step) (dialog : Dialog) (direction : Direction) (piece : Piece) (occurrence : Occurrence)
    (lawful : IsLawful as_session setup epoch began journal) (names-small : AreSmallNames setup epoch (chained as_session setup epoch began journal) piece) where
  abbrev Run : List Moment
  Run = moments setup epoch began journal

  abbrev found-of : SetOut → Option Got
  found-of out = find (has_vias 0 out.request.head.via) (got_in out.moment)

  some-found : (out : SetOut) (place : Place) → set_out setup Run occurrence ≡ Some out → out.sender ≡ peers.Outside place → carries_by setup.config Run dialog direction piece out ≡ true
      → (app : AppId) (more : List AppId) → ahead Run direction piece ≡ app ∷ more → (live : Live Session) → live_at app out.moment.before ≡ Some live → is_full live ≡ false → found-of out ≡ None → ⊥
  unfolding set_out moments
  some-found out place set sender carries app more first live lives room none =
      let by = found-behind (λ (moment : Moment). set_out_by setup moment moment.step occurrence.order) (slice_get Run occurrence.step) out set in
      let came = came-by setup by.0 occurrence.order place out by.2 sender in
      let cut = cut-at journal setup (start setup epoch began) occurrence.step by.0 by.1 in
      let step-is : cut.step ≡ steps.In place (messages.Request came.request) = sym (ap (λ (m : Moment). m.step) cut.is) ∙ came.step_is in
      let there : ◌≡◌ {A = Moment} by.0 (at setup place came.request cut.net) =
      cut.is ∙ ap (λ (s : Step). record { before = cut.net; step = s; after = after_step as_session setup cut.net s }) step-is in
      let whole : ◌≡◌ {A = SetOut} out (record { moment = at setup place came.request cut.net; sender = peers.Outside place; request = came.request }) =
      came.out_is ∙ ap (λ (m : Moment). record { moment = m; sender = peers.Outside place; request = came.request }) there in
      let fine : IsFine setup epoch (at setup place came.request cut.net) =
      subst (λ (m : Moment). IsFine setup epoch m) there (all-at (IsFine setup epoch) Run occurrence.step by.0 by.1 (run-fine setup epoch began journal lawful names-small.hosts names-small.events)) in
      nothing-else setup epoch names-small.within place came.request cut.net fine Run dialog direction piece
      (carried setup.config Run dialog direction piece _ (subst (λ (o : SetOut). carries_by setup.config Run dialog direction piece o ≡ true) whole carries)) app more first live
      (subst (λ (o : SetOut). live_at app o.moment.before ≡ Some live) whole lives) room (subst (λ (o : SetOut). found-of o ≡ None) whole none)

  pub visits-first : IsPiece setup epoch Run dialog piece → IsApart Run dialog piece → AreSmallDraws setup Run → carries setup Run dialog direction piece occurrence ≡ true
      → (out : SetOut) (place : Place) → set_out setup Run occurrence ≡ Some out → out.sender ≡ peers.Outside place → (app : AppId) (more : List AppId) → ahead Run direction piece ≡ app ∷ more
      → (live : Live Session) → live_at app out.moment.before ≡ Some live → is_full live ≡ false → VisitsFirst app more (visits setup Run occurrence)
  unfolding carries visits
  visits-first is apart drawn carries-it out place set sender app more first live lives room =
      let begins : IsPrefix (visits setup Run occurrence) (app ∷ more) =
      subst (λ (apps : List AppId). IsPrefix (visits setup Run occurrence) apps) first (prefix setup epoch began journal dialog direction piece occurrence lawful is apart names-small drawn carries-it) in
      let carried-out : carries_by setup.config Run dialog direction piece out ≡ true =
      subst (λ (o : Option SetOut). option_map_or (carries_by setup.config Run dialog direction piece) o false ≡ true) set carries-it in
      first-visited app more (visits setup Run occurrence) begins
      (λ none. some-found out place set sender carried-out app more first live lives room
      (none-found (found-of out) (drop (occurrence.step + 1) Run)
      (subst (λ (o : Option SetOut). option_map_or (λ (x : SetOut). visits_from (find (has_vias 0 x.request.head.via) (got_in x.moment)) (drop (occurrence.step + 1) Run)) o [] ≡ []) set none)))
