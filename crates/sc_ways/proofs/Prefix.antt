-- A later request that keeps to the way of an INVITE visits a beginning of those that stayed on it.
use Rattle.std.proofs.Common.{◌≡◌, ◌≤◌, ◌<◌, ℕ, ◌+◌, ◌++◌, ◌^◌, Bool, true, false, Option, None, Some, List, [], ◌∷◌, refl, sym, ap, subst, ◌∙◌, arith}
use Rattle.std.specs.Prelude.{◌==◌, ◌&&◌, ◌||◌, drop, is_none, is_some, length, not, option_and_then, slice_get}
use Rattle.std.specs.List.{find, list_any}
use Rattle.std.specs.Option.{option_map_or}
use Rattle.sc_value.specs.declared.ids.AppId.{AppId}
use Rattle.sc_value.specs.declared.ids.Place.{Place}
use Rattle.sc_value.specs.declared.message.Message.TheVariants as messages
use Rattle.sc_value.specs.declared.message.Request.{Request}
use Rattle.sc_value.specs.declared.parts.Uri.{Uri}
use Rattle.sc_value.specs.declared.parts.Via.{Via}
use Rattle.sc_tokens.specs.Names.{same_bytes}
use Rattle.sc_terms.specs.declared.calls.CallRecord.{CallRecord}
use Rattle.sc_terms.specs.declared.calls.End.{End}
use Rattle.sc_terms.specs.declared.settings.Config.{Config}
use Rattle.sc_terms.specs.declared.steps.Step.{Step}
use Rattle.sc_terms.specs.declared.steps.Step.TheVariants as steps
use Rattle.sc_parts.specs.declared.setup.Setup.{Setup}
use Rattle.sc_state.specs.declared.host.Peer.TheVariants as peers
use Rattle.sc_state.specs.declared.net.Net.{Net}
use Rattle.sc_state.specs.declared.session.Session.{Session}
use Rattle.sc_tokens.specs.Bytes.{Bytes}
use Rattle.sc_model.specs.DialogRequests.{cancel}
use Rattle.sc_model.specs.Dialogs.{tag_of}
use Rattle.sc_model.specs.Names.{IsOf64}
use Rattle.sc_hosts.specs.Histories.{as_session}
use Rattle.sc_hosts.specs.Runs.{HasVia, IsAllowed, after_step}
use Rattle.sc_hosts.specs.Taking.{names, own_uri, without_own_route as unrouted, server_for}
use Rattle.sc_hosts.specs.Transacting.{method_of}
use Rattle.sc_lasting.specs.Lasting.{All}
use Rattle.sc_lasting.proofs.Shared.{all-at, found-behind}
use Rattle.sc_paths.specs.LaterRequests.{Occurrence, SetOut, carries, carries_by, has_tags, has_vias, is_between, later_in, is_new, leads, set_out, set_out_by, visits, visits_from}
use Rattle.sc_paths.specs.Moments.{Got, Moment, given_in, got_in, moments_from}
use Rattle.sc_paths.specs.Pieces.{Dialog, Direction, From_caller, From_callee, Piece, ahead, along, end_of, list_of_option as listed, recorders}
use Rattle.sc_hops.proofs.OneTurn.{unrouted-vias}
use Rattle.sc_ways.specs.Ways.{IsPrefix}
use Rattle.sc_hops.specs.Hops.{GoesAs}
use Rattle.sc_hops.proofs.OwnBranch.{goes-itself}
use Rattle.sc_reached.proofs.Naming.{names-one}
use Rattle.sc_ways.proofs.Follows.{EndsAt, Goes, end-follows, unrouted-call, way-follows}
use Rattle.sc_ways.proofs.OwnBranches.{HasOwnBranch, IsOnOwnBranch}
use Rattle.sc_ways.proofs.OneHop.{IsFine, IsFirst, moment}
use Rattle.sc_ways.proofs.Outside.{at, first-of}
use Rattle.sc_ways.proofs.Sending.{sent-first, session-by}
use Rattle.sc_ways.proofs.Popping.{comes, comes-at-end, leads-same}
use Rattle.sc_ways.proofs.Runs.{all-behind, cut-at}
use Rattle.sc_ways.proofs.Waits.{Held}

-- ## Booleans

pub and-first : (a b : Bool) → (a && b) ≡ true → a ≡ true
and-first true b is = refl
and-first false b is = cc

pub and-second : (a b : Bool) → (a && b) ≡ true → b ≡ true
and-second true b is = is
and-second false b is = cc

not-true : (b : Bool) → not b ≡ true → b ≡ false
not-true true is = cc
not-true false is = refl

-- ## What sets out

-- a request from outside, at this place of the run
pub record IsOutside (moment : Moment) (step : Step) (out : SetOut) : Type 0 where
  pub place : Place
  pub request : Request
  pub step_is : step ≡ steps.In place (messages.Request request)
  pub out_is : out ≡ record { moment = moment; sender = peers.Outside place; request = request }

pub outside-by : (setup : Setup) (moment : Moment) (step : Step) (out : SetOut) → set_out_by setup moment step None ≡ Some out → IsOutside moment step out
unfolding set_out_by
outside-by setup moment (steps.In place (messages.Request request)) out is =
    record { place = place; request = request; step_is = refl; out_is = sym (some-is (record { moment = moment; sender = peers.Outside place; request = request }) out is) }
  where
    some-is : (x y : SetOut) → Some x ≡ Some y → x ≡ y
    some-is x y is = cc
outside-by setup moment (steps.In place (messages.Response response)) out is = cc
outside-by setup moment (steps.Bad place bad) out is = cc
outside-by setup moment (steps.Lost place) out is = cc
outside-by setup moment (steps.Tick now) out is = cc
outside-by setup moment (steps.Turn end app event now made) out is = cc
outside-by setup moment (steps.Withdraw app) out is = cc

-- ## What it carries

pub record IsCarried (config : Config) (run : List Moment) (dialog : Dialog) (direction : Direction) (piece : Piece) (out : SetOut) : Type 0 where
  pub no_cancel : same_bytes (method_of out.request) cancel ≡ false
  pub unclaimed : list_any (λ host. is_some (server_for out.sender out.request host)) out.moment.before.hosts ≡ false
  pub call : same_bytes out.request.head.call_id dialog.call_id ≡ true
  pub tagged : is_some (tag_of out.request.head.to) ≡ true
  pub leading : leads config out.moment.before.epoch (along direction (recorders run piece)) (end_of direction piece) out.request ≡ true
  pub alone : (not (length (ahead run direction piece) == 0) || is_none (own_uri config out.request)) ≡ true

tagged-between : (from to : Option Bytes) (request : Request) → is_between from to request ≡ true → is_some (tag_of request.head.to) ≡ true
unfolding is_between
tagged-between from to request is = and-first _ _ (and-first _ _ is)

has-tag : (dialog : Dialog) (direction : Direction) (request : Request) → has_tags dialog direction request ≡ true → is_some (tag_of request.head.to) ≡ true
unfolding has_tags
has-tag dialog From_caller request is = tagged-between dialog.caller dialog.callee request is
has-tag dialog From_callee request is = tagged-between dialog.callee dialog.caller request is

new-parts : (out : SetOut) → is_new out ≡ true
    → (same_bytes (method_of out.request) cancel ≡ false) × (list_any (λ host. is_some (server_for out.sender out.request host)) out.moment.before.hosts ≡ false)
unfolding is_new
new-parts out is = (not-true _ (and-first _ _ is), not-true _ (and-second _ _ is))

pub carried : (config : Config) (run : List Moment) (dialog : Dialog) (direction : Direction) (piece : Piece) (out : SetOut) → carries_by config run dialog direction piece out ≡ true
    → IsCarried config run dialog direction piece out
unfolding carries_by
carried config run dialog direction piece out is =
    let four = and-first _ _ is in
    let three = and-first _ _ four in
    let two = and-first _ _ three in
    let new = new-parts out (and-first _ _ two) in record {
      no_cancel = new.0;
      unclaimed = new.1;
      call = and-second _ _ two;
      tagged = has-tag dialog direction out.request (and-second _ _ three);
      leading = and-second _ _ four;
      alone = and-second _ _ is;
    }

-- ## The first visit

some-is : (x y : Uri) → Some x ≡ Some y → x ≡ y
some-is x y is = cc

module _ (setup : Setup) (epoch : ℕ) (small : epoch < 2 ^ 64) (call_id : Bytes) (request : Request) where
  abbrev Ends : Option AppId → List Moment → Type 0
  Ends end run = (app : AppId) → end ≡ Some app → EndsAt setup epoch small call_id app run

  starts : (after : Net Session) (got : Got) → IsFirst setup request epoch after got → 1 ≤ length request.head.via → same_bytes request.head.call_id call_id ≡ true
      → Goes setup epoch small call_id after got (unrouted setup.config request)
  starts after got first vias call = record {
    waits = Held first.held;
    is = first.is;
    vias = subst (λ (v : List Via). 1 ≤ length v) (sym (unrouted-vias setup.config request)) vias;
    call = subst (λ (bytes : Bytes). same_bytes bytes call_id ≡ true) (sym (unrouted-call setup.config request)) call;
  }

  one-name : (app other : AppId) (uri way : Uri) → own_uri setup.config request ≡ Some uri → own_uri setup.config request ≡ Some way → names epoch app uri ≡ true → names epoch other way ≡ true
      → IsOf64 epoch app 0 → IsOf64 epoch other 0 → app ≡ other
  one-name app other uri way by at p q one two =
      names-one epoch app other uri one two p (subst (λ (u : Uri). names epoch other u ≡ true) (sym (some-is uri way (sym by ∙ at))) q)

  nobody : (uri : Uri) → own_uri setup.config request ≡ Some uri → (not (length ([] ++ listed {A = AppId} None) == 0) || is_none (own_uri setup.config request)) ≡ true → ⊥
  nobody uri by alone = none-own (own_uri setup.config request) by alone
    where
      none-own : (found : Option Uri) → found ≡ Some uri → is_none found ≡ true → ⊥
      none-own None by is = cc
      none-own (Some u) by is = cc

  first-follows : (later : List Step) (apps : List AppId) (end : Option AppId) (after : Net Session) (got : Got) → All (IsFine setup epoch) (moments_from setup after later)
      → Ends end (moments_from setup after later) → All (λ (a : AppId). IsOf64 epoch a 0) (apps ++ listed end) → leads setup.config epoch apps end request ≡ true
      → (not (length (apps ++ listed end) == 0) || is_none (own_uri setup.config request)) ≡ true → 1 ≤ length request.head.via → same_bytes request.head.call_id call_id ≡ true
      → IsFirst setup request epoch after got → IsPrefix (visits_from (Some got) (moments_from setup after later)) (apps ++ listed end)
  unfolding All
  first-follows later [] None after got fine ends all leading alone vias call first = absurd (nobody first.uri first.way alone)
  first-follows later [] (Some end) after got fine ends all leading alone vias call first =
      let at = comes-at-end setup.config epoch end request leading in
      let same : got.app ≡ end = one-name got.app end first.uri at.uri first.way at.by first.named at.named first.names all.0 in
      subst (λ (a : AppId). IsPrefix (visits_from (Some got) (moments_from setup after later)) (a ∷ [])) same
      (end-follows setup epoch small call_id later after got (unrouted setup.config request) fine (subst (λ (a : AppId). EndsAt setup epoch small call_id a (moments_from setup after later)) (sym same) (ends end refl)) (starts after got first vias call))
  first-follows later (app ∷ apps) end after got fine ends all leading alone vias call first =
      let at = comes setup.config epoch app apps end request leading in
      let same : got.app ≡ app = one-name got.app app first.uri at.uri first.way at.by first.named at.named first.names all.0 in
      subst (λ (a : AppId). IsPrefix (visits_from (Some got) (moments_from setup after later)) (a ∷ (apps ++ listed end))) same
      (way-follows setup epoch small call_id later apps end after got (unrouted setup.config request) fine ends all.1 at.rest (starts after got first vias call))

-- ## The moment at which it sets out

found-follows : (found : Option Got) (later : List Moment) (all : List AppId) → ((got : Got) → found ≡ Some got → IsPrefix (visits_from (Some got) later) all) → IsPrefix (visits_from found later) all
unfolding visits_from IsPrefix
found-follows None later all each = tt
found-follows (Some got) later all each = each got refl

abbrev EndsIn : Setup → (epoch : ℕ) → epoch < 2 ^ 64 → Bytes → Option AppId → List Moment → Type 0
EndsIn setup epoch small call_id end run = (app : AppId) → end ≡ Some app → EndsAt setup epoch small call_id app run

-- as it came to the first session it leads as it did where it set out
own-same : (config : Config) (request other : Request) → GoesAs request other → own_uri config other ≡ own_uri config request
unfolding own_uri
own-same config request other goes = rw (goes.route, goes.uri) refl

record IsFollowed (setup : Setup) (epoch : ℕ) (request : Request) (after : Net Session) (got : Got) : Type 0 where
  sent : Request
  goes : GoesAs request sent
  first : IsFirst setup sent epoch after got
  vias : 1 ≤ length sent.head.via

module _ (setup : Setup) (epoch : ℕ) (small : epoch < 2 ^ 64) (run : List Moment) (dialog : Dialog) (direction : Direction) (piece : Piece) where
  abbrev Names : Type 0
  Names = All (λ (a : AppId). IsOf64 epoch a 0) (ahead run direction piece)

  -- what follows of a moment at which a request set out, with the moments behind it
  abbrev Follow : SetOut → List Moment → Type 0
  Follow out rest =
      IsFine setup epoch out.moment → All (IsFine setup epoch) rest → EndsIn setup epoch small dialog.call_id (end_of direction piece) rest
      → IsCarried setup.config run dialog direction piece out → Names
      → IsPrefix (visits_from (find (has_vias 0 out.request.head.via) (got_in out.moment)) rest) (ahead run direction piece)

  follows-first : (out : SetOut) (after : Net Session) (later : List Step) → out.moment.before.epoch ≡ epoch → IsCarried setup.config run dialog direction piece out → Names
      → All (IsFine setup epoch) (moments_from setup after later) → EndsIn setup epoch small dialog.call_id (end_of direction piece) (moments_from setup after later)
      → ((got : Got) → find (has_vias 0 out.request.head.via) (got_in out.moment) ≡ Some got → IsFollowed setup epoch out.request after got)
      → IsPrefix (visits_from (find (has_vias 0 out.request.head.via) (got_in out.moment)) (moments_from setup after later)) (ahead run direction piece)
  unfolding ahead
  follows-first out after later at is names fine ends firsts =
      let leading : leads setup.config epoch (along direction (recorders run piece)) (end_of direction piece) out.request ≡ true =
      subst (λ (e : ℕ). leads setup.config e (along direction (recorders run piece)) (end_of direction piece) out.request ≡ true) at is.leading in
      found-follows (find (has_vias 0 out.request.head.via) (got_in out.moment)) (moments_from setup after later) _
      (λ got found.
      let one = firsts got found in
      first-follows setup epoch small dialog.call_id one.sent later (along direction (recorders run piece)) (end_of direction piece) after got fine ends names
      (leads-same (along direction (recorders run piece)) setup.config epoch (end_of direction piece) one.sent out.request one.goes.route one.goes.uri ∙ leading)
      (subst (λ (own : Option Uri). (not (length (along direction (recorders run piece) ++ listed (end_of direction piece)) == 0) || is_none own) ≡ true) (sym (own-same setup.config out.request one.sent one.goes)) is.alone)
      one.vias (subst (λ (bytes : Bytes). same_bytes bytes dialog.call_id ≡ true) (sym one.goes.call_id) is.call) one.first)

  -- ## From outside

  has-via : (net : Net Session) (place : Place) (request : Request) → IsAllowed as_session setup net (steps.In place (messages.Request request)) → 1 ≤ length request.head.via
  unfolding IsAllowed HasVia
  has-via net place request some = omega (arith, some)

  abbrev Here : Net Session → Place → Request → SetOut
  Here net place request = record { moment = at setup place request net; sender = peers.Outside place; request = request }

  follows-outside : (net : Net Session) (place : Place) (request : Request) (later : List Step) → Follow (Here net place request) (moments_from setup (at setup place request net).after later)
  follows-outside net place request later = λ fine rest ends is names.
      follows-first (Here net place request) (at setup place request net).after later fine.at is names rest ends
      (λ got found. record {
        sent = request;
        goes = goes-itself request;
        first = first-of setup place request epoch net request.head.via got small fine is.no_cancel is.tagged is.unclaimed found;
        vias = has-via net place request fine.allowed;
      })

  -- ## By a turn

  follows-turn : (net : Net Session) (app : AppId) (event now : ℕ) (made : List CallRecord) (end : End) (place : ℕ) (request : Request) (later : List Step)
      → (let there : Moment = moment setup net app event now made end in
      let out : SetOut = record { moment = there; sender = peers.Inside app.host; request = request } in
      option_and_then later_in (slice_get (given_in setup there) place) ≡ Some request → IsOnOwnBranch setup out place → Follow out (moments_from setup there.after later))
  follows-turn net app event now made end place request later = λ ordered own fine rest ends is names.
      let there : Moment = moment setup net app event now made end in
      follows-first (record { moment = there; sender = peers.Inside app.host; request = request }) there.after later fine.at is names rest ends
      (λ got found.
      let one = sent-first setup net app event now made end epoch place request got ordered small fine own.vias own.orders own.clients found in
      record { sent = one.sent; goes = one.goes; first = one.first; vias = one.vias })

-- ## A whole run

-- what is so of each request that sets out of a run, it may come from outside or by a turn
module _ (setup : Setup) (net : Net Session) (given : List Step) (Goal : SetOut → List Moment → Type 0)
    (outside : (before : Net Session) (place : Place) (request : Request) (later : List Step)
    → Goal (record { moment = at setup place request before; sender = peers.Outside place; request = request }) (moments_from setup (at setup place request before).after later))
    (turned : (before : Net Session) (app : AppId) (event now : ℕ) (made : List CallRecord) (end : End) (order : ℕ) (request : Request) (later : List Step)
    → (let there : Moment = moment setup before app event now made end in
    let out : SetOut = record { moment = there; sender = peers.Inside app.host; request = request } in
    option_and_then later_in (slice_get (given_in setup there) order) ≡ Some request → IsOnOwnBranch setup out order → Goal out (moments_from setup there.after later))) where
  abbrev Steps : List Moment
  Steps = moments_from setup net given

  -- from outside
  out-outside : (place : ℕ) (moment : Moment) (out : SetOut) → slice_get Steps place ≡ Some moment → set_out_by setup moment moment.step None ≡ Some out → Goal out (drop (place + 1) Steps)
  out-outside place moment out taken by =
      let from = outside-by setup moment moment.step out by in
      let cut = cut-at given setup net place moment taken in
      let step_is : cut.step ≡ steps.In from.place (messages.Request from.request) = sym (ap (λ (m : Moment). m.step) cut.is) ∙ from.step_is in
      let there : Moment = at setup from.place from.request cut.net in
      let here : SetOut = record { moment = there; sender = peers.Outside from.place; request = from.request } in
      let moment_is : ◌≡◌ {A = Moment} moment there = cut.is ∙ ap (λ (s : Step). record { before = cut.net; step = s; after = after_step as_session setup cut.net s }) step_is in
      let rest_is : drop (place + 1) Steps ≡ moments_from setup there.after cut.later = cut.rest ∙ ap (λ (s : Step). moments_from setup (after_step as_session setup cut.net s) cut.later) step_is in
      let out_is : ◌≡◌ {A = SetOut} out here = from.out_is ∙ ap (λ (m : Moment). record { moment = m; sender = peers.Outside from.place; request = from.request }) moment_is in
      subst (λ (o : SetOut). Goal o (drop (place + 1) Steps)) (sym out_is)
      (subst (λ (r : List Moment). Goal here r) (sym rest_is) (outside cut.net from.place from.request cut.later))

  -- by a turn
  out-turn : (place order : ℕ) (moment : Moment) (out : SetOut) → slice_get Steps place ≡ Some moment → set_out_by setup moment moment.step (Some order) ≡ Some out → IsOnOwnBranch setup out order
      → Goal out (drop (place + 1) Steps)
  out-turn place order there out taken by own =
      let from = session-by setup there there.step order out by in
      let cut = cut-at given setup net place there taken in
      let step_is : cut.step ≡ steps.Turn from.end from.app from.event from.now from.made = sym (ap (λ (m : Moment). m.step) cut.is) ∙ from.step_is in
      let here : Moment = moment setup cut.net from.app from.event from.now from.made from.end in
      let moment_is : ◌≡◌ {A = Moment} there here = cut.is ∙ ap (λ (s : Step). record { before = cut.net; step = s; after = after_step as_session setup cut.net s }) step_is in
      let rest_is : drop (place + 1) Steps ≡ moments_from setup here.after cut.later = cut.rest ∙ ap (λ (s : Step). moments_from setup (after_step as_session setup cut.net s) cut.later) step_is in
      let out_is : ◌≡◌ {A = SetOut} out (record { moment = here; sender = peers.Inside from.app.host; request = from.request }) =
      from.out_is ∙ ap (λ (m : Moment). record { moment = m; sender = peers.Inside from.app.host; request = from.request }) moment_is in
      subst (λ (o : SetOut). Goal o (drop (place + 1) Steps)) (sym out_is)
      (subst (λ (r : List Moment). Goal (record { moment = here; sender = peers.Inside from.app.host; request = from.request }) r) (sym rest_is)
      (turned cut.net from.app from.event from.now from.made from.end order from.request cut.later
      (subst (λ (m : Moment). option_and_then later_in (slice_get (given_in setup m) order) ≡ Some from.request) moment_is from.ordered) (subst (λ (o : SetOut). IsOnOwnBranch setup o order) out_is own)))

  pub out-by : (order : Option ℕ) (place : ℕ) (moment : Moment) (out : SetOut) → slice_get Steps place ≡ Some moment → set_out_by setup moment moment.step order ≡ Some out
      → ((n : ℕ) → order ≡ Some n → IsOnOwnBranch setup out n) → Goal out (drop (place + 1) Steps)
  out-by None place moment out taken by own = out-outside place moment out taken by
  out-by (Some order) place moment out taken by own = out-turn place order moment out taken by (own order refl)

pub moment-of : (setup : Setup) (moment : Moment) (step : Step) (order : Option ℕ) (out : SetOut) → set_out_by setup moment step order ≡ Some out → out.moment ≡ moment
moment-of setup moment step None out by = ap (λ (o : SetOut). o.moment) (outside-by setup moment step out by).out_is
moment-of setup moment step (Some order) out by = ap (λ (o : SetOut). o.moment) (session-by setup moment step order out by).out_is

module _ (setup : Setup) (epoch : ℕ) (small : epoch < 2 ^ 64) (net : Net Session) (given : List Step) (dialog : Dialog) (direction : Direction) (piece : Piece) where
  abbrev Run : List Moment
  Run = moments_from setup net given

  abbrev Ahead : Type 0
  Ahead = All (λ (a : AppId). IsOf64 epoch a 0) (ahead Run direction piece)

  abbrev Goal : SetOut → List Moment → Type 0
  Goal out rest = Follow setup epoch small Run dialog direction piece out rest

  visits-by : (occurrence : Occurrence) (found : Option SetOut) → set_out setup Run occurrence ≡ found → HasOwnBranch setup Run occurrence
      → option_map_or (carries_by setup.config Run dialog direction piece) found false ≡ true → All (IsFine setup epoch) Run → EndsIn setup epoch small dialog.call_id (end_of direction piece) Run → Ahead
      → IsPrefix (option_map_or (λ out. visits_from (find (has_vias 0 out.request.head.via) (got_in out.moment)) (drop (occurrence.step + 1) Run)) found []) (ahead Run direction piece)
  unfolding set_out HasOwnBranch
  visits-by occurrence None is own carries fine ends all = cc
  visits-by occurrence (Some out) is own carries fine ends all =
      let by = found-behind (λ (moment : Moment). set_out_by setup moment moment.step occurrence.order) (slice_get Run occurrence.step) out is in
      out-by setup net given Goal (follows-outside setup epoch small Run dialog direction piece) (follows-turn setup epoch small Run dialog direction piece) occurrence.order occurrence.step by.0 out by.1 by.2
      (λ order at. own order out at is)
      (subst (λ (m : Moment). IsFine setup epoch m) (sym (moment-of setup by.0 by.0.step occurrence.order out by.2)) (all-at (IsFine setup epoch) Run occurrence.step by.0 by.1 fine))
      (all-behind (IsFine setup epoch) (occurrence.step + 1) Run fine) (λ app end. all-behind _ (occurrence.step + 1) Run (ends app end)) (carried setup.config Run dialog direction piece out carries) all

  pub run-follows : (occurrence : Occurrence) → HasOwnBranch setup Run occurrence → carries setup Run dialog direction piece occurrence ≡ true → All (IsFine setup epoch) Run
      → EndsIn setup epoch small dialog.call_id (end_of direction piece) Run → Ahead → IsPrefix (visits setup Run occurrence) (ahead Run direction piece)
  unfolding carries visits
  run-follows occurrence own carried fine ends all = visits-by occurrence _ refl own carried fine ends all
