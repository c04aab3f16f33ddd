-- A later request that leads over some sessions visits all of them, or stops in one.
use Rattle.std.proofs.Common.{◌≡◌, ◌⊎◌, inl, inr, ◌<◌, ℕ, ◌++◌, ◌^◌, Bool, true, false, Option, None, Some, List, [], ◌∷◌, refl, sym, ap, subst, ◌∙◌}
use Rattle.std.specs.Prelude.{cond, drop, is_some, slice_get}
use Rattle.std.specs.List.{find}
use Rattle.std.specs.Option.{option_map_or}
use Rattle.sc_value.specs.declared.ids.AppId.{AppId}
use Rattle.sc_value.specs.declared.message.Request.{Request}
use Rattle.sc_value.specs.declared.parts.Address.{Address}
use Rattle.sc_tokens.specs.Names.{same_bytes}
use Rattle.sc_terms.specs.declared.settings.Config.{Config}
use Rattle.sc_terms.specs.declared.steps.Step.{Step}
use Rattle.sc_parts.specs.declared.setup.Setup.{Setup}
use Rattle.sc_state.specs.declared.net.Net.{Net}
use Rattle.sc_state.specs.declared.queue.Waiting.{Waiting}
use Rattle.sc_state.specs.declared.session.Session.{Session}
use Rattle.sc_tokens.specs.Bytes.{Bytes}
use Rattle.sc_model.specs.DialogRequests.{cancel}
use Rattle.sc_model.specs.Dialogs.{tag_of}
use Rattle.sc_model.specs.Names.{IsOf64}
use Rattle.sc_model.specs.OwnHosts.{is_own}
use Rattle.sc_hosts.specs.Destinations.{next_uri}
use Rattle.sc_hosts.specs.Histories.{as_session}
use Rattle.sc_hosts.specs.Runs.{IsAllowed, MayTurn, after_step}
use Rattle.sc_hosts.specs.Taking.{names, without_own_route as unrouted}
use Rattle.sc_hosts.specs.Transacting.{method_of}
use Rattle.sc_lasting.specs.Lasting.{All}
use Rattle.sc_paths.specs.LaterRequests.{is_passed_on, is_turn_of, leads, visits_from}
use Rattle.sc_paths.specs.Moments.{Got, Moment, got_in, moments_from}
use Rattle.sc_paths.specs.Pieces.{list_of_option as listed}
use Rattle.sc_ways.proofs.FirstHop.{found-some}
use Rattle.sc_ways.proofs.Follows.{EndsAt, Goes, IsTurn, end-follows, goes-on, named-same, passes, sent-leads, turn-of, waits-on}
use Rattle.sc_ways.proofs.OneHop.{IsFine, IsNext, allowed-turn}
use Rattle.sc_ways.proofs.Popping.{comes, comes-at-end, leads-out}
use Rattle.sc_ways.proofs.Waits.{turn-is}
use Rattle.sc_onward.specs.Onward.{ComesNext, TurnsTo}
use Rattle.sc_onward.proofs.Sent.{LeadsTo, ahead-leads}
use Rattle.sc_onward.proofs.Whole.{prefix-whole, visits-one}
use Rattle.sc_halted.specs.Halted.{IsHalted}
use Rattle.sc_recorded.proofs.Hosts.{unrouted-to}
use Rattle.sc_journeys.specs.Journeys.{Halts}

-- ## Without the own Route

unrouted-method : (config : Config) (request : Request) → method_of (unrouted config request) ≡ method_of request
unfolding unrouted
unrouted-method config request = by (option_map_or (λ route. is_own config route.uri) (slice_get request.head.route 0) false)
  where
    by : (b : Bool) → method_of (cond b (record request { head = record request.head { route = drop 1 request.head.route } }) request) ≡ method_of request
    by true = refl
    by false = refl

pub still-tagged : (config : Config) (request : Request) → is_some (tag_of request.head.to) ≡ true → is_some (tag_of (unrouted config request).head.to) ≡ true
still-tagged config request tagged = subst (λ (to : Address). is_some (tag_of to) ≡ true) (sym (unrouted-to config request)) tagged

pub still-other : (config : Config) (request : Request) → same_bytes (method_of request) cancel ≡ false → same_bytes (method_of (unrouted config request)) cancel ≡ false
still-other config request other = subst (λ (method : Bytes). same_bytes method cancel ≡ false) (sym (unrouted-method config request)) other

-- ## Turns

-- what is known of each turn to a later request that is to go to a session
pub record GoesOrHalts (setup : Setup) (epoch : ℕ) (moment : Moment) : Type 0 where
  pub known : (got : Got) (to : AppId) → IsOf64 epoch to 0 → (turn : TurnsTo setup moment got to) → ComesNext moment got to ⊎ IsHalted setup moment got to turn

first-of64 : (epoch : ℕ) (apps : List AppId) (to : AppId) (more : List AppId) → apps ≡ to ∷ more → All (λ (a : AppId). IsOf64 epoch a 0) apps → IsOf64 epoch to 0
unfolding All
first-of64 epoch apps to more is all = by (subst (λ (xs : List AppId). All (λ (a : AppId). IsOf64 epoch a 0) xs) is all)
  where
    by : All (λ (a : AppId). IsOf64 epoch a 0) (to ∷ more) → IsOf64 epoch to 0
    by all = all.0

module _ (setup : Setup) (epoch : ℕ) (small : epoch < 2 ^ 64) (call_id : Bytes) where
  abbrev At : Net Session → Step → Moment
  At net step = record { before = net; step = step; after = after_step as_session setup net step }

  abbrev Run : Net Session → List Step → List Moment
  Run net given = moments_from setup net given

  -- it waits, with a To tag, and is no CANCEL
  pub record Travels (net : Net Session) (got : Got) (request : Request) : Type 0 where
    pub goes : Goes setup epoch small call_id net got request
    pub tagged : is_some (tag_of request.head.to) ≡ true
    pub no_cancel : same_bytes (method_of request) cancel ≡ false

  next-travels : (net after : Net Session) (app : AppId) (request : Request) (next : Got) → same_bytes request.head.call_id call_id ≡ true → (on : IsNext setup epoch net after app request next)
      → Travels after next on.later
  next-travels net after app request next call on = record {
    goes = goes-on setup epoch small call_id net after app request next call on;
    tagged = subst (λ (r : Request). is_some (tag_of r.head.to) ≡ true) (sym on.popped) (still-tagged setup.config on.sent on.tagged);
    no_cancel = subst (λ (r : Request). same_bytes (method_of r) cancel ≡ false) (sym on.popped) (still-other setup.config on.sent on.no_cancel);
  }

  travels-on : (net : Net Session) (got : Got) (request : Request) (step : Step) → is_turn_of got step ≡ false → IsFine setup epoch (At net step) → Travels net got request
      → Travels (after_step as_session setup net step) got request
  travels-on net got request step is fine travels =
      record { goes = waits-on setup epoch small call_id net got request step is fine travels.goes; tagged = travels.tagged; no_cancel = travels.no_cancel }

  -- ## Its turn

  module _ (net : Net Session) (step : Step) (fine : IsFine setup epoch (At net step)) (halting : GoesOrHalts setup epoch (At net step)) (got : Got) (request : Request) (travels : Travels net got request)
      (is : is_turn_of got step ≡ true) where
    abbrev turn : IsTurn setup epoch small call_id got step
    turn = turn-of setup epoch small call_id got step is

    may : MayTurn as_session setup net got.app turn.event turn.now turn.made turn.end
    may = allowed-turn setup net got.app turn.event turn.now turn.made turn.end (subst (λ (s : Step). IsAllowed as_session setup net s) turn.is fine.allowed)

    same-event : may.waiting ≡ got.waiting
    same-event =
        turn-is as_session setup got.app got.waiting net fine.numbered (fine.within got.app) turn.event turn.now turn.made turn.end may turn.number travels.goes.waits

    turns-to : (to : AppId) → LeadsTo setup.config epoch request to → TurnsTo setup (At net step) got to
    turns-to to leading = record {
      event = turn.event;
      now = turn.now;
      made = turn.made;
      end = turn.end;
      step = turn.is;
      request = request;
      is = travels.goes.is;
      no_cancel = travels.no_cancel;
      tagged = travels.tagged;
      live = may.live;
      lives = may.live_is;
      first = may.waiting_is ∙ ap (λ (w : Waiting). Some w) same-event;
      own = leading.0;
      named = subst (λ (e : ℕ). names e to (next_uri request) ≡ true) (sym fine.at) leading.1;
    }

    stops-there : (to : AppId) → IsOf64 epoch to 0 → LeadsTo setup.config epoch request to → find (is_passed_on got) (got_in (At net step)) ≡ None
        → (turn : TurnsTo setup (At net step) got to) × IsHalted setup (At net step) got to turn
    unfolding ComesNext
    stops-there to short leading none = by (halting.known got to short (turns-to to leading))
      where
        by : ComesNext (At net step) got to ⊎ IsHalted setup (At net step) got to (turns-to to leading) → (turn : TurnsTo setup (At net step) got to) × IsHalted setup (At net step) got to turn
        by (inl comes) = absurd (found-some (is_passed_on got) comes.0 (got_in (At net step)) comes.2 comes.3 none)
        by (inr halted) = (turns-to to leading, halted)

  -- ## The sessions that it visits

  abbrev pub Outcome : List AppId → Got → List Moment → Type 0
  Outcome all got later = (visits_from (Some got) later ≡ got.app ∷ all) ⊎ Halts setup got later

  -- what its turn is, where it doesn't go all the way
  abbrev StopsOn : Net Session → Step → Got → List Moment → Type 0
  StopsOn net step got later =
      ((to : AppId) × (turn : TurnsTo setup (At net step) got to) × IsHalted setup (At net step) got to turn)
      ⊎ ((next : Got) × (is_turn_of got step ≡ true) × (find (is_passed_on got) (got_in (At net step)) ≡ Some next) × Halts setup next later)

  abbrev EndsFor : Option AppId → List Moment → Type 0
  EndsFor end run = (app : AppId) → end ≡ Some app → EndsAt setup epoch small call_id app run

  abbrev AreOf64 : List AppId → Type 0
  AreOf64 apps = All (λ (a : AppId). IsOf64 epoch a 0) apps

  all-one : (app : AppId) → AreOf64 (app ∷ []) → IsOf64 epoch app 0
  unfolding All
  all-one app all = all.0

  -- at the end of the way it visits that session alone
  pub end-whole : (given : List Step) (net : Net Session) (got : Got) (request : Request) → All (IsFine setup epoch) (Run net given) → EndsAt setup epoch small call_id got.app (Run net given)
      → Goes setup epoch small call_id net got request → visits_from (Some got) (Run net given) ≡ got.app ∷ []
  end-whole given net got request fine ends goes =
      prefix-whole (visits_from (Some got) (Run net given)) (got.app ∷ []) (end-follows setup epoch small call_id given net got request fine ends goes) (visits-one (Run net given) got)

  -- what is known of the sessions behind
  abbrev Again : Net Session → List Step → Option AppId → Type 0
  Again net given end =
      (apps : List AppId) (got : Got) (request : Request) → AreOf64 (apps ++ listed end) → leads setup.config epoch apps end request ≡ true → Travels net got request
      → Outcome (apps ++ listed end) got (Run net given)

  named-first : (app other : AppId) (apps visited : List AppId) → app ≡ other → visited ≡ app ∷ apps → visited ≡ other ∷ apps
  named-first app other apps visited same is = is ∙ ap (λ (a : AppId). a ∷ apps) same

  on-next : (given : List Step) (apps : List AppId) (end : Option AppId) (net before : Net Session) (app : AppId) (request : Request) (next : Got) → Again net given end
      → All (IsFine setup epoch) (Run net given) → EndsFor end (Run net given) → AreOf64 (apps ++ listed end) → same_bytes request.head.call_id call_id ≡ true
      → leads setup.config epoch apps end request ≡ true → IsNext setup epoch before net app request next
      → (visits_from (Some next) (Run net given) ≡ apps ++ listed end) ⊎ Halts setup next (Run net given)
  unfolding All
  on-next given [] None net before app request next again fine ends all call leading on =
      absurd (leads-out setup.config epoch on.sent (sent-leads setup epoch small call_id [] None before net app request next leading on) on.by.own)
  on-next given [] (Some end) net before app request next again fine ends all call leading on =
      let at = comes-at-end setup.config epoch end on.sent (sent-leads setup epoch small call_id [] (Some end) before net app request next leading on) in
      let same : next.app ≡ end = named-same setup epoch small call_id next.app end on.uri at.uri on.sent on.way at.by on.named at.named on.names (all-one end all) in
      inl (named-first next.app end [] (visits_from (Some next) (Run net given)) same
      (end-whole given net next on.later fine (subst (λ (a : AppId). EndsAt setup epoch small call_id a (Run net given)) (sym same) (ends end refl))
      (goes-on setup epoch small call_id before net app request next call on)))
  on-next given (first ∷ apps) end net before app request next again fine ends all call leading on =
      let at = comes setup.config epoch first apps end on.sent (sent-leads setup epoch small call_id (first ∷ apps) end before net app request next leading on) in
      let same : next.app ≡ first = named-same setup epoch small call_id next.app first on.uri at.uri on.sent on.way at.by on.named at.named on.names all.0 in
      by same (again apps next on.later all.1 (subst (λ (r : Request). leads setup.config epoch apps end r ≡ true) (sym on.popped) at.rest) (next-travels before net app request next call on))
    where
      by : next.app ≡ first → Outcome (apps ++ listed end) next (Run net given) → (visits_from (Some next) (Run net given) ≡ first ∷ (apps ++ listed end)) ⊎ Halts setup next (Run net given)
      by same (inl whole) = inl (named-first next.app first (apps ++ listed end) (visits_from (Some next) (Run net given)) same whole)
      by same (inr halts) = inr halts

  on-none : (net : Net Session) (step : Step) (fine : IsFine setup epoch (At net step)) (halting : GoesOrHalts setup epoch (At net step)) (got : Got) (request : Request) (travels : Travels net got request)
      (is : is_turn_of got step ≡ true) (apps : List AppId) (end : Option AppId) (later : List Moment) → AreOf64 (apps ++ listed end) → leads setup.config epoch apps end request ≡ true
      → find (is_passed_on got) (got_in (At net step)) ≡ None → (◌≡◌ {A = List AppId} [] (apps ++ listed end)) ⊎ StopsOn net step got later
  on-none net step fine halting got request travels is apps end later all leading none = by (apps ++ listed end) refl
    where
      by : (ahead : List AppId) → apps ++ listed end ≡ ahead → (◌≡◌ {A = List AppId} [] (apps ++ listed end)) ⊎ StopsOn net step got later
      by [] empty = inl (sym empty)
      by (to ∷ more) first =
          let stop =
          stops-there net step fine halting got request travels is to (first-of64 epoch (apps ++ listed end) to more first all)
          (ahead-leads setup.config epoch apps end request to more first leading) none in
          inr (inl (to, stop.0, stop.1))

  on-turn : (found : Option Got) (given : List Step) (apps : List AppId) (end : Option AppId) (net : Net Session) (step : Step) (got : Got) (request : Request)
      → find (is_passed_on got) (got_in (At net step)) ≡ found → is_turn_of got step ≡ true → Again (after_step as_session setup net step) given end → IsFine setup epoch (At net step)
      → GoesOrHalts setup epoch (At net step) → All (IsFine setup epoch) (Run (after_step as_session setup net step) given) → EndsFor end (Run (after_step as_session setup net step) given)
      → AreOf64 (apps ++ listed end) → leads setup.config epoch apps end request ≡ true → Travels net got request
      → (visits_from found (Run (after_step as_session setup net step) given) ≡ apps ++ listed end) ⊎ StopsOn net step got (Run (after_step as_session setup net step) given)
  unfolding visits_from
  on-turn None given apps end net step got request none is again here halting fine ends all leading travels =
      on-none net step here halting got request travels is apps end (Run (after_step as_session setup net step) given) all leading none
  on-turn (Some next) given apps end net step got request found is again here halting fine ends all leading travels =
      by (on-next given apps end (after_step as_session setup net step) net got.app request next again fine ends all travels.goes.call leading
      (passes setup epoch small call_id net got next request step is here travels.goes found))
    where
      by : (visits_from (Some next) (Run (after_step as_session setup net step) given) ≡ apps ++ listed end) ⊎ Halts setup next (Run (after_step as_session setup net step) given)
          → (visits_from (Some next) (Run (after_step as_session setup net step) given) ≡ apps ++ listed end) ⊎ StopsOn net step got (Run (after_step as_session setup net step) given)
      by (inl whole) = inl whole
      by (inr halts) = inr (inr (next, is, found, halts))

  travel-step : (b : Bool) (net : Net Session) (step : Step) (got : Got) (all : List AppId) (later : List Moment) → is_turn_of got step ≡ b
      → (is_turn_of got step ≡ true → (visits_from (find (is_passed_on got) (got_in (At net step))) later ≡ all) ⊎ StopsOn net step got later)
      → (is_turn_of got step ≡ false → Outcome all got later)
      → (cond b (got.app ∷ visits_from (find (is_passed_on got) (got_in (At net step))) later) (visits_from (Some got) later) ≡ got.app ∷ all) ⊎ Halts setup got (At net step ∷ later)
  unfolding Halts
  travel-step true net step got all later is turned waits = by (turned is)
    where
      by : (visits_from (find (is_passed_on got) (got_in (At net step))) later ≡ all) ⊎ StopsOn net step got later
          → (got.app ∷ visits_from (find (is_passed_on got) (got_in (At net step))) later ≡ got.app ∷ all) ⊎ Halts setup got (At net step ∷ later)
      by (inl whole) = inl (ap (λ (apps : List AppId). got.app ∷ apps) whole)
      by (inr stops) = inr (inr stops)
  travel-step false net step got all later is turned waits = by (waits is)
    where
      by : Outcome all got later → (visits_from (Some got) later ≡ got.app ∷ all) ⊎ Halts setup got (At net step ∷ later)
      by (inl whole) = inl whole
      by (inr halts) = inr (inl (is, halts))

  -- where it waits in a session from where it leads over these, it visits all of them, or stops
  pub travel : (given : List Step) (apps : List AppId) (end : Option AppId) (net : Net Session) (got : Got) (request : Request) → All (IsFine setup epoch) (Run net given)
      → All (GoesOrHalts setup epoch) (Run net given) → EndsFor end (Run net given) → AreOf64 (apps ++ listed end) → leads setup.config epoch apps end request ≡ true → Travels net got request
      → Outcome (apps ++ listed end) got (Run net given)
  unfolding moments_from visits_from Halts All
  travel [] apps end net got request fine halting ends all leading travels = inr tt
  travel (step ∷ given) apps end net got request fine halting ends all leading travels =
      let after : Net Session = after_step as_session setup net step in
      travel-step (is_turn_of got step) net step got (apps ++ listed end) (Run after given) refl
      (λ is. on-turn (find (is_passed_on got) (got_in (At net step))) given apps end net step got request refl is
      (λ apps got request all leading travels. travel given apps end after got request fine.1 halting.1 (λ app at. (ends app at).1) all leading travels)
      fine.0 halting.0 fine.1 (λ app at. (ends app at).1) all leading travels)
      (λ is. travel given apps end after got request fine.1 halting.1 (λ app at. (ends app at).1) all leading (travels-on net got request step is fine.0 travels))
