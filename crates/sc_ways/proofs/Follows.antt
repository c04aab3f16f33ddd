-- A later request that leads over some sessions visits a beginning of them.
use Rattle.std.proofs.Common.{◌≡◌, ◌≤◌, ◌<◌, ℕ, ◌++◌, ◌^◌, Bool, true, false, Option, None, Some, List, [], ◌∷◌, refl, sym, ap, subst, ◌∙◌, arith}
use Rattle.std.specs.Prelude.{◌==◌, ◌&&◌, cond, drop, length, slice_get}
use Rattle.std.specs.List.{find}
use Rattle.std.specs.Option.{option_map_or}
use Rattle.std.proofs.lemmas.Bool.Decides.{nat_tests}
use Rattle.sc_value.specs.declared.ids.AppId.{AppId}
use Rattle.sc_value.specs.declared.message.Request.{Request}
use Rattle.sc_value.specs.declared.parts.Uri.{Uri}
use Rattle.sc_tokens.specs.Names.{same_bytes}
use Rattle.sc_terms.specs.declared.calls.CallRecord.{CallRecord}
use Rattle.sc_terms.specs.declared.calls.End.{End}
use Rattle.sc_terms.specs.declared.settings.Config.{Config}
use Rattle.sc_terms.specs.declared.steps.Step.{Step}
use Rattle.sc_terms.specs.declared.steps.Step.TheVariants as steps
use Rattle.sc_terms.specs.declared.views.SessionView.{SessionView}
use Rattle.sc_terms.specs.declared.views.View.{View}
use Rattle.sc_value.specs.declared.ids.SessId.{SessId}
use Rattle.sc_parts.specs.declared.setup.Setup.{Setup}
use Rattle.sc_state.specs.declared.host.Live.{Live}
use Rattle.sc_state.specs.declared.net.Net.{Net}
use Rattle.sc_state.specs.declared.queue.Queued.TheVariants as queued
use Rattle.sc_state.specs.declared.session.Session.{Session}
use Rattle.sc_tokens.specs.Bytes.{Bytes}
use Rattle.sc_model.specs.Names.{IsOf64}
use Rattle.sc_model.specs.OwnHosts.{is_own}
use Rattle.sc_hosts.specs.Histories.{as_session}
use Rattle.sc_hosts.specs.Legs.{session_for}
use Rattle.sc_hosts.specs.Looking.{is_proxy, session_in}
use Rattle.sc_hosts.specs.Messages.{on_branch, passed_request}
use Rattle.sc_hosts.specs.Runs.{after_step}
use Rattle.sc_hosts.specs.Steps.{live_at}
use Rattle.sc_hosts.specs.Taking.{names, own_uri, without_own_route as unrouted}
use Rattle.sc_hosts.specs.Transacting.{is_same_app}
use Rattle.sc_lasting.specs.Lasting.{All}
use Rattle.sc_reached.proofs.Naming.{names-one}
use Rattle.sc_paths.specs.LaterRequests.{is_passed_on, is_turn_of, leads, visits_from}
use Rattle.sc_paths.specs.Moments.{Got, Moment, got_in, moments_from}
use Rattle.sc_paths.specs.Pieces.{list_of_option as listed}
use Rattle.sc_ways.specs.Ways.{IsPrefix, TakesNoProxy}
use Rattle.sc_ways.proofs.OneHop.{IsFine, IsNext, next-of}
use Rattle.sc_ways.proofs.Popping.{comes, comes-at-end, leads-out, passed-leads}
use Rattle.sc_ways.proofs.Waits.{Held, IsNotTurn, Waits, wait-step}

same-app : (a b : AppId) → is_same_app a b ≡ true → a ≡ b
same-app a b is = ap (λ (p : ℕ × ℕ). record { host = p.0; serial = p.1 }) (pair (first a.host b.host _ is) (second a.serial b.serial _ is))
  where
    pair : {a b c d : ℕ} → a ≡ b → c ≡ d → ◌≡◌ {A = ℕ × ℕ} (a, c) (b, d)
    pair p q = rw (p, q) refl

    first : (a b : ℕ) (x : Bool) → (a == b && x) ≡ true → a ≡ b
    first a b x is = grind (arith, nat_tests, is)

    second : (c d : ℕ) (x : Bool) → (x && c == d) ≡ true → c ≡ d
    second c d x is = grind (arith, nat_tests, is)

equal : (a b : ℕ) → (a == b) ≡ true → a ≡ b
equal a b is = grind (arith, nat_tests, is)

parts : (a b : Bool) → (a && b) ≡ true → (a ≡ true) × (b ≡ true)
parts true b is = (refl, is)
parts false b is = cc

clash : (b : Bool) → b ≡ true → b ≡ false → ⊥
clash b p q = cc

some-is : (x y : Uri) → Some x ≡ Some y → x ≡ y
some-is x y is = cc

-- a step that isn't its turn
not-turn : (got : Got) (step : Step) → is_turn_of got step ≡ false → IsNotTurn got.app got.waiting.number step
unfolding is_turn_of IsNotTurn
not-turn got (steps.In from message) is = tt
not-turn got (steps.Bad from bad) is = tt
not-turn got (steps.Lost place) is = tt
not-turn got (steps.Tick now) is = tt
not-turn got (steps.Turn end app event now made) is = is
not-turn got (steps.Withdraw app) is = tt

-- the Call-ID stays
pub unrouted-call : (config : Config) (request : Request) → (unrouted config request).head.call_id ≡ request.head.call_id
unfolding unrouted
unrouted-call config request = by (option_map_or (λ route. is_own config route.uri) (slice_get request.head.route 0) false)
  where
    by : (b : Bool) → (cond b (record request { head = record request.head { route = drop 1 request.head.route } }) request).head.call_id ≡ request.head.call_id
    by true = refl
    by false = refl

branch-call : (config : Config) (view : View) (branch : ℕ) (request : Request) → (on_branch config view branch (passed_request request)).head.call_id ≡ request.head.call_id
unfolding on_branch passed_request
branch-call config view branch request = refl

module _ (setup : Setup) (epoch : ℕ) (small : epoch < 2 ^ 64) (call_id : Bytes) where
  -- in this run no request of the Call-ID comes to the session in the SipSession of a proxy
  abbrev pub EndsAt : AppId → List Moment → Type 0
  EndsAt app run = All (TakesNoProxy call_id app) run

  -- the event waits where the request is to go on
  pub record Goes (net : Net Session) (got : Got) (request : Request) : Type 0 where
    pub waits : Waits got.app got.waiting net
    pub is : got.waiting.event ≡ queued.Request request
    pub vias : 1 ≤ length request.head.via
    pub call : same_bytes request.head.call_id call_id ≡ true

  next-call : (net after : Net Session) (app : AppId) (request : Request) (next : Got) → same_bytes request.head.call_id call_id ≡ true
      → (on : IsNext setup epoch net after app request next) → same_bytes on.later.head.call_id call_id ≡ true
  next-call net after app request next call on =
      let same : on.later.head.call_id ≡ request.head.call_id =
      ap (λ (r : Request). r.head.call_id) on.popped ∙ (unrouted-call setup.config on.sent ∙ (ap (λ (r : Request). r.head.call_id) on.by.is ∙ branch-call setup.config on.by.view on.by.branch request)) in
      subst (λ (bytes : Bytes). same_bytes bytes call_id ≡ true) (sym same) call

  -- as it comes to the next session
  pub goes-on : (net after : Net Session) (app : AppId) (request : Request) (next : Got) → same_bytes request.head.call_id call_id ≡ true
      → (on : IsNext setup epoch net after app request next) → Goes after next on.later
  goes-on net after app request next call on = record { waits = Held on.held; is = on.is; vias = on.vias; call = next-call net after app request next call on }

  -- ## At the end of the way

  ends-there : (net after : Net Session) (app : AppId) (request : Request) (next : Got) → same_bytes request.head.call_id call_id ≡ true
      → ((live : Live Session) → live_at app net ≡ Some live → (r : Request) → same_bytes r.head.call_id call_id ≡ true → (sess : SessId) (found : SessionView) → session_for live.session r ≡ Some sess
      → session_in live.session.view sess ≡ Some found → is_proxy found.role ≡ false)
      → IsNext setup epoch net after app request next → ⊥
  ends-there net after app request next call none on =
      clash (is_proxy on.by.found.role) on.by.proxy (none on.live on.lives request call on.by.sess on.by.found on.by.for on.by.there)

  none-there : (app : AppId) (moment : Moment) → TakesNoProxy call_id app moment
      → (live : Live Session) → live_at app moment.before ≡ Some live → (r : Request) → same_bytes r.head.call_id call_id ≡ true → (sess : SessId) (found : SessionView) → session_for live.session r ≡ Some sess
      → session_in live.session.view sess ≡ Some found → is_proxy found.role ≡ false
  unfolding TakesNoProxy
  none-there app moment none = none

  end-visits : (found : Option Got) (app : AppId) (later : List Moment) → ((next : Got) → found ≡ Some next → ⊥) → IsPrefix (app ∷ visits_from found later) (app ∷ [])
  unfolding visits_from IsPrefix
  end-visits None app later none = (refl, tt)
  end-visits (Some next) app later none = absurd (none next refl)

  -- the turn is that of the event
  pub record IsTurn (got : Got) (step : Step) : Type 0 where
    pub event : ℕ
    pub now : ℕ
    pub made : List CallRecord
    pub end : End
    pub number : event ≡ got.waiting.number
    pub is : step ≡ steps.Turn end got.app event now made

  pub turn-of : (got : Got) (step : Step) → is_turn_of got step ≡ true → IsTurn got step
  unfolding is_turn_of
  turn-of got (steps.In from message) is = cc
  turn-of got (steps.Bad from bad) is = cc
  turn-of got (steps.Lost place) is = cc
  turn-of got (steps.Tick now) is = cc
  turn-of got (steps.Turn end app event now made) is =
      let both = parts (is_same_app app got.app) (event == got.waiting.number) is in
      record { event = event; now = now; made = made; end = end; number = equal event got.waiting.number both.1; is = ap (λ (a : AppId). steps.Turn end a event now made) (same-app app got.app both.0) }
  turn-of got (steps.Withdraw app) is = cc

  abbrev At : Net Session → Step → Moment
  At net step = record { before = net; step = step; after = after_step as_session setup net step }

  -- what a turn of the event passes on
  pub passes : (net : Net Session) (got next : Got) (request : Request) (step : Step) → is_turn_of got step ≡ true → IsFine setup epoch (At net step) → Goes net got request
      → find (is_passed_on got) (got_in (At net step)) ≡ Some next → IsNext setup epoch net (after_step as_session setup net step) got.app request next
  passes net got next request step is fine goes found =
      let turn = turn-of got step is in
      subst (λ (s : Step). IsNext setup epoch net (after_step as_session setup net s) got.app request next) (sym turn.is)
      (next-of setup net got.app turn.event turn.now turn.made turn.end epoch got next request goes.is goes.vias turn.number
      (subst (λ (s : Step). find (is_passed_on got) (got_in (At net s)) ≡ Some next) turn.is found) small (subst (λ (s : Step). IsFine setup epoch (At net s)) turn.is fine) goes.waits)

  pub waits-on : (net : Net Session) (got : Got) (request : Request) (step : Step) → is_turn_of got step ≡ false → IsFine setup epoch (At net step) → Goes net got request
      → Goes (after_step as_session setup net step) got request
  waits-on net got request step is fine goes = record {
    waits = wait-step as_session setup got.app got.waiting net fine.numbered (fine.within got.app) step fine.allowed (not-turn got step is) goes.waits;
    is = goes.is;
    vias = goes.vias;
    call = goes.call;
  }

  abbrev Run : Net Session → List Step → List Moment
  Run net steps = moments_from setup net steps

  end-step : (b : Bool) (net : Net Session) (got : Got) (request : Request) (step : Step) (later : List Moment) → is_turn_of got step ≡ b → IsFine setup epoch (At net step) → Goes net got request
      → TakesNoProxy call_id got.app (At net step) → (b ≡ false → IsPrefix (visits_from (Some got) later) (got.app ∷ []))
      → IsPrefix (cond b (got.app ∷ visits_from (find (is_passed_on got) (got_in (At net step))) later) (visits_from (Some got) later)) (got.app ∷ [])
  end-step true net got request step later is fine goes none rest =
      end-visits _ got.app later (λ next found. ends-there net (after_step as_session setup net step) got.app request next goes.call (none-there got.app (At net step) none) (passes net got next request step is fine goes found))
  end-step false net got request step later is fine goes none rest = rest refl

  -- it visits no more than the session at the end
  pub end-follows : (given : List Step) (net : Net Session) (got : Got) (request : Request) → All (IsFine setup epoch) (Run net given) → EndsAt got.app (Run net given) → Goes net got request
      → IsPrefix (visits_from (Some got) (Run net given)) (got.app ∷ [])
  unfolding moments_from visits_from IsPrefix All
  end-follows [] net got request fine ends goes = (refl, tt)
  end-follows (step ∷ given) net got request fine ends goes =
      end-step (is_turn_of got step) net got request step (Run (after_step as_session setup net step) given) refl fine.0 goes ends.0
      (λ is. end-follows given (after_step as_session setup net step) got request fine.1 ends.1 (waits-on net got request step is fine.0 goes))

  -- ## On the way

  abbrev Ends : Option AppId → List Moment → Type 0
  Ends end run = (app : AppId) → end ≡ Some app → EndsAt app run

  pub named-same : (app other : AppId) (uri way : Uri) (sent : Request) → own_uri setup.config sent ≡ Some uri → own_uri setup.config sent ≡ Some way → names epoch app uri ≡ true
      → names epoch other way ≡ true → IsOf64 epoch app 0 → IsOf64 epoch other 0 → app ≡ other
  named-same app other uri way sent by at p q one two =
      names-one epoch app other uri one two p (subst (λ (u : Uri). names epoch other u ≡ true) (sym (some-is uri way (sym by ∙ at))) q)

  prefix-from : (app other : AppId) (first : AppId) (apps visits : List AppId) → app ≡ other → IsPrefix visits (app ∷ apps) → IsPrefix (first ∷ visits) (first ∷ other ∷ apps)
  unfolding IsPrefix
  prefix-from app other first apps visits same is = (refl, subst (λ (a : AppId). IsPrefix visits (a ∷ apps)) same is)

  all-ends : (app : AppId) → All (λ (a : AppId). IsOf64 epoch a 0) (app ∷ []) → IsOf64 epoch app 0
  unfolding All
  all-ends app all = all.0

  pub sent-leads : (apps : List AppId) (end : Option AppId) (net after : Net Session) (app : AppId) (request : Request) (next : Got) → leads setup.config epoch apps end request ≡ true
      → (on : IsNext setup epoch net after app request next) → leads setup.config epoch apps end on.sent ≡ true
  sent-leads apps end net after app request next leads-on on =
      subst (λ (r : Request). leads setup.config epoch apps end r ≡ true) (sym on.by.is) (passed-leads setup.config epoch on.by.view on.by.branch apps end request ∙ leads-on)

  -- from where the request was passed on
  on-follows : (given : List Step) (apps : List AppId) (end : Option AppId) (net before : Net Session) (app : AppId) (request : Request) (next : Got)
      → ((apps : List AppId) (got : Got) (request : Request) → All (λ (a : AppId). IsOf64 epoch a 0) (apps ++ listed end) → leads setup.config epoch apps end request ≡ true → Goes net got request
      → IsPrefix (visits_from (Some got) (Run net given)) (got.app ∷ (apps ++ listed end)))
      → All (IsFine setup epoch) (Run net given) → Ends end (Run net given) → All (λ (a : AppId). IsOf64 epoch a 0) (apps ++ listed end)
      → same_bytes request.head.call_id call_id ≡ true → leads setup.config epoch apps end request ≡ true → IsNext setup epoch before net app request next
      → IsPrefix (app ∷ visits_from (Some next) (Run net given)) (app ∷ (apps ++ listed end))
  unfolding All
  on-follows given [] None net before app request next again fine ends all call leads-on on =
      absurd (leads-out setup.config epoch on.sent (sent-leads [] None before net app request next leads-on on) on.by.own)
  on-follows given [] (Some end) net before app request next again fine ends all call leads-on on =
      let at = comes-at-end setup.config epoch end on.sent (sent-leads [] (Some end) before net app request next leads-on on) in
      let same : next.app ≡ end = named-same next.app end on.uri at.uri on.sent on.way at.by on.named at.named on.names (all-ends end all) in
      prefix-from next.app end app [] _ same (end-follows given net next on.later fine (subst (λ (a : AppId). EndsAt a (Run net given)) (sym same) (ends end refl)) (goes-on before net app request next call on))
  on-follows given (first ∷ apps) end net before app request next again fine ends all call leads-on on =
      let at = comes setup.config epoch first apps end on.sent (sent-leads (first ∷ apps) end before net app request next leads-on on) in
      let same : next.app ≡ first = named-same next.app first on.uri at.uri on.sent on.way at.by on.named at.named on.names all.0 in
      prefix-from next.app first app (apps ++ listed end) _ same
      (again apps next on.later all.1 (subst (λ (r : Request). leads setup.config epoch apps end r ≡ true) (sym on.popped) at.rest) (goes-on before net app request next call on))

  found-follows : (found : Option Got) (app : AppId) (apps : List AppId) (later : List Moment)
      → ((next : Got) → found ≡ Some next → IsPrefix (app ∷ visits_from (Some next) later) (app ∷ apps)) → IsPrefix (app ∷ visits_from found later) (app ∷ apps)
  unfolding visits_from IsPrefix
  found-follows None app apps later rest = (refl, tt)
  found-follows (Some next) app apps later rest = rest next refl

  way-step : (b : Bool) (got : Got) (step : Step) (found : Option Got) (all : List AppId) (later : List Moment) → is_turn_of got step ≡ b
      → (is_turn_of got step ≡ true → (next : Got) → found ≡ Some next → IsPrefix (got.app ∷ visits_from (Some next) later) (got.app ∷ all))
      → (is_turn_of got step ≡ false → IsPrefix (visits_from (Some got) later) (got.app ∷ all))
      → IsPrefix (cond b (got.app ∷ visits_from found later) (visits_from (Some got) later)) (got.app ∷ all)
  way-step true got step found all later is turned waits = found-follows found got.app all later (turned is)
  way-step false got step found all later is turned waits = waits is

  -- where it waits in a session from where it leads over these, it visits that one and a beginning of them
  pub way-follows : (given : List Step) (apps : List AppId) (end : Option AppId) (net : Net Session) (got : Got) (request : Request) → All (IsFine setup epoch) (Run net given)
      → Ends end (Run net given) → All (λ (a : AppId). IsOf64 epoch a 0) (apps ++ listed end) → leads setup.config epoch apps end request ≡ true → Goes net got request
      → IsPrefix (visits_from (Some got) (Run net given)) (got.app ∷ (apps ++ listed end))
  unfolding moments_from visits_from IsPrefix All
  way-follows [] apps end net got request fine ends all leads-on goes = (refl, tt)
  way-follows (step ∷ given) apps end net got request fine ends all leads-on goes =
      let after : Net Session = after_step as_session setup net step in
      way-step (is_turn_of got step) got step (find (is_passed_on got) (got_in (At net step))) (apps ++ listed end) (Run after given) refl
      (λ is next found. on-follows given apps end after net got.app request next
      (λ apps got request all leads-on goes. way-follows given apps end after got request fine.1 (λ app at. (ends app at).1) all leads-on goes)
      fine.1 (λ app at. (ends app at).1) all goes.call leads-on (passes net got next request step is fine.0 goes found))
      (λ is. way-follows given apps end after got request fine.1 (λ app at. (ends app at).1) all leads-on (waits-on net got request step is fine.0 goes))
