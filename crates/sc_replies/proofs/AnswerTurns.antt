-- Each response that a turn of a history gives to send answers the request that its event brought, or is forwarded to one that is proxied.
use Rattle.std.proofs.Common.{◌≡◌, inl, inr, ℕ, ◌+◌, ◌++◌, ◌==◌, Bool, true, false, Option, None, Some, List, [], ◌∷◌, refl, sym, ap, subst, arith}
use Rattle.std.specs.Prelude.{◌&&◌, ◌||◌, cond, is_some, not, option_and_then}
use Rattle.std.specs.List.{find, fold, list_any}
use Rattle.std.proofs.lemmas.Bool.Decides.{nat_tests}
use Rattle.sc_tokens.specs.Names.{same_bytes}
use Rattle.sc_value.specs.declared.ids.AppId.{AppId}
use Rattle.sc_value.specs.declared.ids.ReqId.{ReqId}
use Rattle.sc_value.specs.declared.message.Request.{Request}
use Rattle.sc_value.specs.declared.parts.Uri.{Uri}
use Rattle.sc_terms.specs.declared.calls.CallRecord.{CallRecord}
use Rattle.sc_terms.specs.declared.calls.End.{End}
use Rattle.sc_terms.specs.declared.calls.ProxyOptions.{ProxyOptions}
use Rattle.sc_terms.specs.declared.settings.Config.{Config}
use Rattle.sc_terms.specs.declared.steps.Step.{Step}
use Rattle.sc_terms.specs.declared.views.RequestView.{RequestView}
use Rattle.sc_terms.specs.declared.views.SessionView.{SessionView}
use Rattle.sc_terms.specs.declared.views.View.{View}
use Rattle.sc_parts.specs.declared.setup.Setup.{Setup}
use Rattle.sc_state.specs.declared.host.Live.{Live}
use Rattle.sc_state.specs.declared.orders.Order.{Order}
use Rattle.sc_state.specs.declared.orders.Order.TheVariants as orders
use Rattle.sc_state.specs.declared.proxy.Proxy.{Proxy}
use Rattle.sc_state.specs.declared.queue.Queued.{Queued}
use Rattle.sc_state.specs.declared.queue.Queued.TheVariants as queued
use Rattle.sc_state.specs.declared.queue.Waiting.{Waiting}
use Rattle.sc_state.specs.declared.session.Kept.{Kept}
use Rattle.sc_state.specs.declared.session.Known.{Known}
use Rattle.sc_state.specs.declared.session.Session.{Session}
use Rattle.sc_state.specs.declared.working.Prepared.{Prepared}
use Rattle.sc_state.specs.declared.working.Working.{Working}
use Rattle.sc_model.specs.SessionStates.{ack}
use Rattle.sc_hosts.specs.Acting.{all_act, drafts_ended, after_fault as faulted, hops_spent, is_request_event, passed_later, passed_on, passed_request_of, passes_later, sent_proxy}
use Rattle.sc_hosts.specs.Branches.{new_proxy, with_targets}
use Rattle.sc_hosts.specs.Effects.{first_play as begun}
use Rattle.sc_hosts.specs.Finishing.{after_all_calls as finished, is_ended, is_session_ready, without_unneeded as lightened, outcome, outcome_of, session_in_play, swept, swept_one, without_acks}
use Rattle.sc_hosts.specs.Giving.{answering}
use Rattle.sc_hosts.specs.Histories.{History, after_turn, as_session, session_after}
use Rattle.sc_hosts.specs.Legs.{first_known, first_view, fresh}
use Rattle.sc_hosts.specs.Looking.{without_sip_session as removed, request_in, same_request}
use Rattle.sc_hosts.specs.Preparing.{kept_of, prepared_session as prepared, proxy_of}
use Rattle.sc_hosts.specs.PreparingResponses.{change_proxy, is_invalid}
use Rattle.sc_hosts.specs.Runs.{IsLawful, net_from as chained}
use Rattle.sc_hosts.specs.Sessions.{Turn}
use Rattle.sc_hosts.specs.Steps.{live_at}
use Rattle.sc_hosts.specs.ViewChanges.{is_owed}
use Rattle.sc_hosts.specs.Working.{event_of, proxies, proxies_first, starts, worked_all}
use Rattle.sc_walked.specs.SessionWalks.{Brings, Each, IsKeptProxy, SessionLaws, with_legs}
use Rattle.sc_walked.proofs.WalkCalls.{worked_all-walks}
use Rattle.sc_walked.proofs.WalkEnds.{all_act-goes, done-any, drafts_ended-goes, faulted-goes}
use Rattle.sc_walked.proofs.WalkParts.{answered-walks, each-first, tidy-walks}
use Rattle.sc_lasting.specs.Lasting.{All}
use Rattle.sc_lasting.proofs.Began.{same-number, test-found}
use Rattle.sc_lasting.proofs.Parts.{all-both, all-found, all-map, each-weaker, removed-only}
use Rattle.sc_lived.specs.Lived.{turns_in as told, turned_events}
use Rattle.sc_lived.proofs.Sayings.{session-lived}
use Rattle.sc_replies.specs.Fields.{Answers, AnswersAll, HasAnsweredAll, Incoming, IsProxied, WasBrought, incoming}
use Rattle.sc_replies.specs.Came.{Came, came_by_event as brought, came_of}
use Rattle.sc_replies.specs.Replies.{orders_of}
use Rattle.sc_replies.proofs.AnswerEvents.{AreOf, GoesOn, dropped, events-law, forgotten, more-of, shown-on}
use Rattle.sc_replies.proofs.AnswerOrders.{AllGive, Gives, IsPassed, calls-give, finished-gives}
use Rattle.sc_replies.proofs.AnswerShown.{first-gives, shown-of}
use Rattle.sc_replies.proofs.Brought.{ProxyBy, ProxyFits}
use Rattle.sc_replies.proofs.CameProxies.{ProxyCame}
use Rattle.sc_replies.proofs.Fine.{FineAt, lives-fine}

-- as proxies begin to act
abbrev pub told_at : Config → Session → Turn → Working
told_at config x turn =
    faulted config (prepared config turn.ringing x turn.waiting turn.now).req turn.end (drafts_ended (worked_all config (prepared config turn.ringing x turn.waiting turn.now) turn.calls))

-- ## What a session knows, through a turn

module _ (By : ℕ → Incoming → Type 0) where
  abbrev OfSession : Session → Type 0
  OfSession x = AreOf By x.view x.known

  abbrev OfTurn : Working → Type 0
  OfTurn working = AreOf By working.play.view working.known

  ready-law : SessionLaws queued.Ready (λ call. Unit {0}) (GoesOn By)
  unfolding Brings
  ready-law = events-law By queued.Ready (λ x sess initial passed request brings. brings)

  calls-of : (config : Config) (shown : Prepared) (made : List CallRecord) → AreOf By shown.view shown.known → OfTurn (worked_all config shown made)
  calls-of config shown made ok =
      let begins : Session = record { view = shown.view; known = shown.known } in
      worked_all-walks queued.Ready (λ call. Unit {0}) (GoesOn By) ready-law config begins shown made (done-any made (λ call. Unit {0}) (λ call. tt) (begun shown.view)) (ready-law.same begins) ok

  left-of : (working : Working) → OfTurn working → OfTurn (drafts_ended working)
  left-of working ok = drafts_ended-goes queued.Ready (λ call. Unit {0}) (GoesOn By) ready-law working ok

  faulted-of : (config : Config) (req : Option ReqId) (end : End) (working : Working) → OfTurn working → OfTurn (faulted config req end working)
  faulted-of config req end working ok = faulted-goes queued.Ready (λ call. Unit {0}) (GoesOn By) ready-law config req end working ok

  acted-of : (config : Config) (working : Working) → OfTurn working → OfTurn (all_act config working)
  acted-of config working ok = all_act-goes queued.Ready (λ call. Unit {0}) (GoesOn By) ready-law config working ok

  -- a later request is passed on

  if-turn : (b : Bool) (y z : Working) → OfTurn y → OfTurn z → OfTurn (cond b y z)
  if-turn true y z p q = p
  if-turn false y z p q = q

  spent-of : (config : Config) (request : RequestView) (working : Working) → OfTurn working → OfTurn (hops_spent config request working)
  unfolding hops_spent answering
  spent-of config request working ok =
      if-turn (is_owed request) _ working (answered-walks queued.Ready (λ call. Unit {0}) (GoesOn By) ready-law (record { view = working.play.view; known = working.known }) (Some request) 483 ok) ok

  if-drawn : (b : Bool) (view : View) (y z : Working) → AreOf By view y.known → AreOf By view z.known → AreOf By view (cond b y z).known
  if-drawn true view y z p q = p
  if-drawn false view y z p q = q

  on-of : (config : Config) (kept : Kept) (working : Working) → OfTurn working → OfTurn (passed_on config kept working)
  unfolding passed_on
  on-of config kept working ok = if-drawn (same_bytes kept.request.method ack) (record working.play.view { counter = working.play.view.counter + 1 }) _ _ ok ok

  later-of : (config : Config) (request : RequestView) (kept : Option Kept) (working : Working) → OfTurn working → OfTurn (passed_later config request kept working)
  unfolding passed_later
  later-of config request None working ok = ok
  later-of config request (Some kept) working ok =
      if-turn (request.initial || not request.proxied || is_invalid working.known request.sess) working (cond (request.hops == 0) (hops_spent config request working) (passed_on config kept working)) ok
      (if-turn (request.hops == 0) (hops_spent config request working) (passed_on config kept working) (spent-of config request working ok) (on-of config kept working ok))

  request-of : (config : Config) (found : Option RequestView) (working : Working) → OfTurn working → OfTurn (passed_request_of config found working)
  unfolding passed_request_of
  request-of config None working ok = ok
  request-of config (Some request) working ok = later-of config request (kept_of working.known request.id) working ok

  passes-of : (config : Config) (event : Queued) (req : Option ReqId) (working : Working) → OfTurn working → OfTurn (passes_later config event req working)
  unfolding passes_later
  passes-of config event req working ok =
      if-turn (is_request_event event) (passed_request_of config (option_and_then (request_in working.play.view) req) working) working (request-of config (option_and_then (request_in working.play.view) req) working ok) ok

  finished-of : (config : Config) (event : Queued) (req : Option ReqId) (end : End) (working : Working) → OfTurn working → OfTurn (finished config event req end working)
  unfolding finished
  finished-of config event req end working ok =
      passes-of config event req (all_act config (faulted config req end (drafts_ended working)))
      (acted-of config (faulted config req end (drafts_ended working)) (faulted-of config req end (drafts_ended working) (left-of working ok)))

  -- what goes away

  if-view : (b : Bool) (known : Known) (v w : View) → AreOf By v known → AreOf By w known → AreOf By (cond b v w) known
  if-view true known v w p q = p
  if-view false known v w p q = q

  swept-of : (sessions : List SessionView) (before : Known) (then view : View) (known : Known) → AreOf By view known → AreOf By (fold (swept_one before then) view sessions) known
  unfolding swept_one
  swept-of [] before then view known ok = ok
  swept-of (s ∷ sessions) before then view known ok =
      swept-of sessions before then (swept_one before then view s) known
      (if-view (s.ready_flag && not s.gone && is_session_ready before then s) known (removed s.id view) view (shown-on By view (removed s.id view) known (removed-only s.id view) ok) ok)

  sweep-of : (x : Session) → OfSession x → OfSession (swept x)
  unfolding swept
  sweep-of x ok =
      let y : Session = record x { view = fold (swept_one x.known x.view) x.view x.view.sessions } in
      tidy-walks queued.Ready (λ call. Unit {0}) (GoesOn By) ready-law y (swept-of x.view.sessions x.known x.view x.view x.known ok)

  light-of : (x : Session) → OfSession x → OfSession (lightened x)
  unfolding lightened
  light-of x ok = forgotten By _ x.view x.known ok

  play-of : (working : Working) → OfTurn working → OfSession (session_in_play working)
  unfolding session_in_play without_acks
  play-of working ok = dropped By _ working.play.view working.known ok

  if-session : (b : Bool) (y z : Session) → OfSession y → OfSession z → OfSession (cond b y z)
  if-session true y z p q = p
  if-session false y z p q = q

  outcome-of : (event : Queued) (working : Working) → OfTurn working → OfSession (outcome_of event working).session
  unfolding outcome_of
  outcome-of event working ok =
      let x : Session = session_in_play working in
      light-of (cond (is_ended event working) x (swept x)) (if-session (is_ended event working) x (swept x) (play-of working ok) (sweep-of x (play-of working ok)))

  turn-of : (config : Config) (turn : Turn) (x : Session) → ((came : Incoming) → incoming turn.waiting.event ≡ Some came → By turn.waiting.number came) → OfSession x → OfSession (after_turn config turn x)
  unfolding after_turn outcome
  turn-of config turn x by ok =
      let shown : Prepared = prepared config turn.ringing x turn.waiting turn.now in
      let worked : Working = worked_all config shown turn.calls in
      outcome-of turn.waiting.event (finished config turn.waiting.event shown.req turn.end worked)
      (finished-of config turn.waiting.event shown.req turn.end worked (calls-of config shown turn.calls (shown-of By config turn.ringing x turn.waiting turn.now turn.waiting.event refl by ok)))

  -- ## What it gives

  module _ (Passed : ℕ → Type 0) where
    work-gives : (config : Config) (shown : Prepared) (made : List CallRecord) → AreOf By shown.view shown.known → AllGive By Passed shown.orders → AllGive By Passed (worked_all config shown made).orders
    unfolding worked_all starts
    work-gives config shown made ok all = calls-give By Passed made config (starts shown) (λ more. calls-of config shown more ok) all

    pub turn-gives : (config : Config) (turn : Turn) (x : Session) → ((came : Incoming) → incoming turn.waiting.event ≡ Some came → By turn.waiting.number came) → OfSession x
        → All (IsPassed By Passed) (told_at config x turn).known.proxies → AllGive By Passed (orders_of config x turn)
    unfolding outcome outcome_of
    turn-gives config turn x by ok passed =
        let shown : Prepared = prepared config turn.ringing x turn.waiting turn.now in
        let worked : Working = worked_all config shown turn.calls in
        let of : AreOf By shown.view shown.known = shown-of By config turn.ringing x turn.waiting turn.now turn.waiting.event refl by ok in
        let left : OfTurn (drafts_ended worked) = left-of worked (calls-of config shown turn.calls of) in
        finished-gives By Passed config turn.waiting.event shown.req turn.end worked left
        (acted-of config (faulted config shown.req turn.end (drafts_ended worked)) (faulted-of config shown.req turn.end (drafts_ended worked) left)) passed
        (work-gives config shown turn.calls of (first-gives By Passed config turn.ringing x turn.waiting turn.now by ok))

-- ## What is proxied stays so

-- one of them goes by this event
abbrev goes_by : ℕ → List Proxy → Bool
goes_by number all = list_any (λ (proxy : Proxy). proxy.event == number) all

abbrev Stay : List Proxy → List Proxy → Type 0
Stay ps qs = (number : ℕ) → goes_by number ps ≡ true → goes_by number qs ≡ true

or-true : (a b c : Bool) → (b ≡ true → c ≡ true) → (a || b) ≡ true → (a || c) ≡ true
or-true true b c later is = refl
or-true false b c later is = later is

abbrev SameEvent : Proxy → Proxy → Type 0
SameEvent p q = q.event ≡ p.event

each-stays : (ps qs : List Proxy) → Each SameEvent ps qs → Stay ps qs
unfolding Each
each-stays [] [] each = λ number is. is
each-stays [] (q ∷ qs) each = absurd each
each-stays (p ∷ ps) [] each = absurd each
each-stays (p ∷ ps) (q ∷ qs) each = λ number is.
    subst (λ (event : ℕ). ((event == number) || goes_by number qs) ≡ true) (sym each.0)
    (or-true (p.event == number) (goes_by number ps) (goes_by number qs) (each-stays ps qs each.1 number) is)

kept-stays : (ps qs : List Proxy) → Each IsKeptProxy ps qs → Stay ps qs
kept-stays ps qs each = each-stays ps qs (each-weaker IsKeptProxy SameEvent ps qs (λ p q kept. kept.same.event) each)

more-stays : (ps : List Proxy) (new : Proxy) → Stay ps (ps ++ new ∷ [])
more-stays [] new = λ number is. absurd (none is)
  where
    none : false ≡ true → ⊥
    none is = cc
more-stays (p ∷ ps) new = λ number is. or-true (p.event == number) (goes_by number ps) (goes_by number (ps ++ new ∷ [])) (more-stays ps new number) is

targets-event : (uris : List Uri) (p : Proxy) → (with_targets uris p).event ≡ p.event
unfolding with_targets
targets-event uris p = refl

if-stays : (ps : List Proxy) (b : Bool) (k l : Known) → Stay ps k.proxies → Stay ps l.proxies → Stay ps (cond b k l).proxies
if-stays ps true k l p q = p
if-stays ps false k l p q = q

first-stays : (req : ReqId) (uris : List Uri) (how : ProxyOptions) (kept : Option Kept) (known : Known) → Stay known.proxies (proxies_first req uris how kept known).proxies
unfolding proxies_first
first-stays req uris how None known = λ number is. is
first-stays req uris how (Some kept) known = more-stays known.proxies (with_targets uris (new_proxy req kept.sess (event_of kept.way) kept.request (Some how)))

turned-stays : (req : ReqId) (uris : List Uri) (how : ProxyOptions) (known : Known) → Stay known.proxies (proxies req uris how known).proxies
unfolding proxies
turned-stays req uris how known =
    if-stays known.proxies (is_some (proxy_of known req)) (change_proxy req (with_targets uris) known) (proxies_first req uris how (kept_of known req) known)
    (each-stays known.proxies (change_proxy req (with_targets uris) known).proxies (each-first SameEvent known.proxies (λ p. same_request p.req req) (with_targets uris) (λ p. refl) (targets-event uris)))
    (first-stays req uris how (kept_of known req) known)

abbrev StaysOn : Session → Session → Type 0
StaysOn x y = Stay x.known.proxies y.known.proxies

staying-law : SessionLaws queued.Ready (λ call. Unit {0}) StaysOn
unfolding Brings with_legs
staying-law = record {
  same = λ x number is. is;
  after = λ x y z p q number is. q number (p number is);
  dates = λ x now number is. is;
  expires = λ x due number is. is;
  flags = λ x flag number is. is;
  times = λ x timers next number is. is;
  attributes = λ x fields number is. is;
  counts = λ x number is. is;
  numbers = λ x number is. is;
  moves = λ x sessions same number is. is;
  renews = λ x requests same number is. is;
  drops = λ x test number is. is;
  same_legs = λ x legs same number is. is;
  same_proxies = λ x all same. kept-stays x.known.proxies all same;
  forgets = λ x test number is. is;
  unlinks = λ x sess does number is. is;
  removes = λ x sess number is. is;
  receives = λ x event sess initial passed request brings. absurd brings;
  shows = λ x request again number is. is;
  sends = λ x draft request number is. is;
  sends_none = λ x draft number is. is;
  begins = λ x number is. is;
  derives = λ x req sess original came tag is number has. has;
  begins_leg = λ play known req uri request kept is does found has. legs-stay play.view known kept;
  links = λ play known a b is does number has. has;
  turns = λ play known req uris how request is does found. turned-stays req uris how known;
  passes = λ x req kept is. more-stays x.known.proxies (sent_proxy kept (x.view.counter + 1));
}
  where
    legs-stay : (view : View) (known : Known) (kept : Option Kept) → Stay known.proxies (with_legs view kept known).proxies
    legs-stay view known None = λ number is. is
    legs-stay view known (Some kept) = λ number is. is

-- what follows as a turn ends

if-in : (ps : List Proxy) (b : Bool) (y z : Working) → Stay ps y.known.proxies → Stay ps z.known.proxies → Stay ps (cond b y z).known.proxies
if-in ps true y z p q = p
if-in ps false y z p q = q

spent-stays : (config : Config) (request : RequestView) (working : Working) → Stay working.known.proxies (hops_spent config request working).known.proxies
unfolding hops_spent answering
spent-stays config request working = if-in working.known.proxies (is_owed request) _ working (λ number is. is) (λ number is. is)

on-stays : (config : Config) (kept : Kept) (working : Working) → Stay working.known.proxies (passed_on config kept working).known.proxies
unfolding passed_on
on-stays config kept working = if-in working.known.proxies (same_bytes kept.request.method ack) _ _ (λ number is. is) (more-stays working.known.proxies (sent_proxy kept (working.play.view.counter + 1)))

later-stays : (config : Config) (request : RequestView) (kept : Option Kept) (working : Working) → Stay working.known.proxies (passed_later config request kept working).known.proxies
unfolding passed_later
later-stays config request None working = λ number is. is
later-stays config request (Some kept) working =
    if-in working.known.proxies (request.initial || not request.proxied || is_invalid working.known request.sess) working (cond (request.hops == 0) (hops_spent config request working) (passed_on config kept working)) (λ number is. is)
    (if-in working.known.proxies (request.hops == 0) (hops_spent config request working) (passed_on config kept working) (spent-stays config request working) (on-stays config kept working))

request-stays : (config : Config) (found : Option RequestView) (working : Working) → Stay working.known.proxies (passed_request_of config found working).known.proxies
unfolding passed_request_of
request-stays config None working = λ number is. is
request-stays config (Some request) working = later-stays config request (kept_of working.known request.id) working

passes-stay : (config : Config) (event : Queued) (req : Option ReqId) (working : Working) → Stay working.known.proxies (passes_later config event req working).known.proxies
unfolding passes_later
passes-stay config event req working =
    if-in working.known.proxies (is_request_event event) (passed_request_of config (option_and_then (request_in working.play.view) req) working) working (request-stays config (option_and_then (request_in working.play.view) req) working) (λ number is. is)

left-stays : (event : Queued) (working : Working) → Stay working.known.proxies (outcome_of event working).session.known.proxies
unfolding outcome_of lightened session_in_play swept
left-stays event working = by (is_ended event working)
  where
    by : (b : Bool) → Stay working.known.proxies (lightened (cond b (session_in_play working) (swept (session_in_play working)))).known.proxies
    by true = λ number is. is
    by false = λ number is. is

-- what is proxied as proxies begin to act is proxied after the turn
told-stays : (config : Config) (x : Session) (turn : Turn) → Stay (told_at config x turn).known.proxies (after_turn config turn x).known.proxies
unfolding after_turn outcome finished
told-stays config x turn = λ number is.
    let told : Working = told_at config x turn in
    let acted : Working = all_act config told in
    let req : Option ReqId = (prepared config turn.ringing x turn.waiting turn.now).req in
    left-stays turn.waiting.event (passes_later config turn.waiting.event req acted) number
    (passes-stay config turn.waiting.event req acted number (all_act-goes queued.Ready (λ call. Unit {0}) StaysOn staying-law config told number is))

itself : (n : ℕ) → (n == n) ≡ true
itself n = grind (arith, nat_tests)

any-later : (b c : Bool) → c ≡ true → (b || c) ≡ true
any-later true c is = refl
any-later false c is = is

each-goes : (ps : List Proxy) → All (λ (p : Proxy). goes_by p.event ps ≡ true) ps
unfolding All
each-goes [] = tt
each-goes (p ∷ ps) = (
  subst (λ (b : Bool). (b || goes_by p.event ps) ≡ true) (sym (itself p.event)) refl,
  all-map (λ (q : Proxy). goes_by q.event ps ≡ true) (λ (q : Proxy). goes_by q.event (p ∷ ps) ≡ true) ps (λ q is. any-later (p.event == q.event) (goes_by q.event ps) is) (each-goes ps),
)

-- ## A life

pub brought-first : (events more : List Waiting) (number : ℕ) (came : Incoming) → WasBrought events number came → WasBrought (events ++ more) number came
unfolding WasBrought
brought-first [] more number came by = absurd by
brought-first (waiting ∷ events) more number came (inl is) = inl is
brought-first (waiting ∷ events) more number came (inr later) = inr (brought-first events more number came later)

brought-last : (events : List Waiting) (waiting : Waiting) (came : Incoming) → incoming waiting.event ≡ Some came → WasBrought (events ++ waiting ∷ []) waiting.number came
unfolding WasBrought
brought-last [] waiting came is = inl (refl, is)
brought-last (first ∷ events) waiting came is = inr (brought-last events waiting came is)

abbrev BroughtIn : List Turn → ℕ → Incoming → Type 0
BroughtIn turns number came = WasBrought (turned_events turns) number came

before-of : (config : Config) (history : History) (turn : Turn) (earlier : List Turn) → OfSession (BroughtIn earlier) (session_after config history earlier) → OfSession (BroughtIn (turn ∷ earlier)) (session_after config history earlier)
unfolding turned_events
before-of config history turn earlier ok =
    let x : Session = session_after config history earlier in
    more-of (BroughtIn earlier) (BroughtIn (turn ∷ earlier)) x.view x.known (λ number came by. brought-first (turned_events earlier) (turn.waiting ∷ []) number came by) ok

own-brought : (turn : Turn) (earlier : List Turn) (came : Incoming) → incoming turn.waiting.event ≡ Some came → BroughtIn (turn ∷ earlier) turn.waiting.number came
unfolding turned_events
own-brought turn earlier came is = brought-last (turned_events earlier) turn.waiting came is

pub lives-of : (turns : List Turn) (config : Config) (history : History) → OfSession (BroughtIn turns) (session_after config history turns)
unfolding session_after fresh first_view first_known All
lives-of [] config history = (tt, tt, tt, tt, tt)
lives-of (turn ∷ earlier) config history =
    turn-of (BroughtIn (turn ∷ earlier)) config turn (session_after config history earlier) (own-brought turn earlier) (before-of config history turn earlier (lives-of earlier config history))

-- what is proxied an event brought

abbrev CameBy : List Turn → Came → Type 0
CameBy turns one = (initial : Bool) × BroughtIn turns one.event (record { initial = initial; request = one.request })

new-came : (turn : Turn) (earlier : List Turn) (x : Session) (event : Queued) → event ≡ turn.waiting.event → All (CameBy (turn ∷ earlier)) (brought x turn.waiting.number event)
unfolding brought All incoming
new-came turn earlier x (queued.Initial region subscriber popped request) is = ((true, own-brought turn earlier (record { initial = true; request = request }) (ap incoming (sym is))), tt)
new-came turn earlier x (queued.Request request) is = ((false, own-brought turn earlier (record { initial = false; request = request }) (ap incoming (sym is))), tt)
new-came turn earlier x (queued.Response branch response) is = tt
new-came turn earlier x (queued.Cancelled event) is = tt
new-came turn earlier x (queued.Timer id) is = tt
new-came turn earlier x (queued.BranchTimer branch due) is = tt
new-came turn earlier x queued.Expired is = tt
new-came turn earlier x queued.Ready is = tt

old-came : (turn : Turn) (earlier : List Turn) (one : Came) → CameBy earlier one → CameBy (turn ∷ earlier) one
unfolding turned_events
old-came turn earlier one by = (by.0, brought-first (turned_events earlier) (turn.waiting ∷ []) one.event (record { initial = by.0; request = one.request }) by.1)

all-came : (turns : List Turn) (config : Config) (history : History) → All (CameBy turns) (came_of config history turns)
unfolding came_of All
all-came [] config history = tt
all-came (turn ∷ earlier) config history =
    let x : Session = session_after config history earlier in
    all-both (CameBy (turn ∷ earlier)) (came_of config history earlier) (brought x turn.waiting.number turn.waiting.event)
    (all-map (CameBy earlier) (CameBy (turn ∷ earlier)) (came_of config history earlier) (old-came turn earlier) (all-came earlier config history)) (new-came turn earlier x turn.waiting.event refl)

abbrev ProxiedBy : List Turn → Proxy → Type 0
ProxiedBy turns proxy = (initial : Bool) × BroughtIn turns proxy.event (record { initial = initial; request = proxy.request })

one-proxied : (turns : List Turn) (came : List Came) (next : ℕ) (proxy : Proxy) → All (CameBy turns) came → ProxyFits next came proxy → ProxyCame came proxy → ProxiedBy turns proxy
one-proxied turns came next proxy all fits has =
    let test : Came → Bool = λ other. other.id.0 == proxy.req.0 in
    let by : CameBy turns has.0 = all-found (CameBy turns) test came has.0 has.1 all in
    let is : ProxyBy proxy has.0 = all-found (λ (one : Came). one.id.0 ≡ proxy.req.0 → ProxyBy proxy one) test came has.0 has.1 fits.1 (same-number has.0.id.0 proxy.req.0 (test-found test came has.0 has.1)) in (
      by.0,
      subst (λ (request : Request). BroughtIn turns proxy.event (record { initial = by.0; request = request })) is.1
          (subst (λ (event : ℕ). BroughtIn turns event (record { initial = by.0; request = has.0.request })) is.0 by.1),
    )

all-proxied : (turns : List Turn) (came : List Came) (next : ℕ) (all : List Proxy) → All (CameBy turns) came → All (ProxyFits next came) all → All (ProxyCame came) all → All (ProxiedBy turns) all
unfolding All
all-proxied turns came next [] by fits has = tt
all-proxied turns came next (proxy ∷ all) by fits has = (one-proxied turns came next proxy by fits.0 has.0, all-proxied turns came next all by fits.1 has.1)

pub lives-proxied : (turns : List Turn) (config : Config) (history : History) → All (ProxiedBy turns) (session_after config history turns).known.proxies
lives-proxied turns config history =
    let x : Session = session_after config history turns in
    let fine : FineAt (came_of config history turns) x = lives-fine turns config history in
    all-proxied turns (came_of config history turns) x.view.next_request x.known.proxies (all-came turns config history) fine.0.3 fine.2

-- ## The laws

abbrev Proxied : Session → ℕ → Type 0
Proxied session number = goes_by number session.known.proxies ≡ true

first-if : (b c : Bool) (test : Proxy → Bool) (p : Proxy) (ps : List Proxy) → test p ≡ b → list_any test ps ≡ c → (b || c) ≡ true → (c ≡ true → (q : Proxy) × (find test ps ≡ Some q))
    → (q : Proxy) × (cond b (Some p) (find test ps) ≡ Some q)
first-if true c test p ps has any is later = (p, refl)
first-if false c test p ps has any is later = later is

any-found : (test : Proxy → Bool) (ps : List Proxy) → list_any test ps ≡ true → (q : Proxy) × (find test ps ≡ Some q)
any-found test [] is = cc
any-found test (p ∷ ps) is = first-if (test p) (list_any test ps) test p ps refl refl is (any-found test ps)

is-proxied : (turns : List Turn) (session : Session) (number : ℕ) → All (ProxiedBy turns) session.known.proxies → Proxied session number → IsProxied (turned_events turns) session number
is-proxied turns session number all is =
    let test : Proxy → Bool = λ p. p.event == number in
    let found = any-found test session.known.proxies is in
    let by : ProxiedBy turns found.0 = all-found (ProxiedBy turns) test session.known.proxies found.0 found.1 all in
    record {
      proxy = found.0;
      found = found.1;
      initial = by.0;
      brought = subst (λ (event : ℕ). BroughtIn turns event (record { initial = by.0; request = found.0.request })) (same-number found.0.event number (test-found test session.known.proxies found.0 found.1)) by.1;
    }

order-answers : (turns : List Turn) (session : Session) (order : Order) → All (ProxiedBy turns) session.known.proxies → Gives (BroughtIn turns) (Proxied session) order
    → Answers (turned_events turns) session order
unfolding Gives Answers
order-answers turns session (orders.Respond number response) all (inl one) = inl (record { came = one.0; brought = one.1; answers = one.2 })
order-answers turns session (orders.Respond number response) all (inr passed) = inr (is-proxied turns session number all passed)
order-answers turns session (orders.Begin branch directive region state request) all gives = tt
order-answers turns session (orders.Send branch request) all gives = tt
order-answers turns session (orders.Acknowledge request) all gives = tt
order-answers turns session (orders.Cancel branch) all gives = tt
order-answers turns session (orders.CancelNow branch) all gives = tt

told-proxied : (config : Config) (x : Session) (turn : Turn) → All (λ (p : Proxy). Proxied (after_turn config turn x) p.event) (told_at config x turn).known.proxies
told-proxied config x turn =
    let ps : List Proxy = (told_at config x turn).known.proxies in
    all-map (λ (p : Proxy). goes_by p.event ps ≡ true) (λ (p : Proxy). Proxied (after_turn config turn x) p.event) ps (λ p is. told-stays config x turn p.event is) (each-goes ps)

turns-answer : (turns : List Turn) (config : Config) (history : History) → AnswersAll config history turns
unfolding AnswersAll session_after
turns-answer [] config history = tt
turns-answer (turn ∷ earlier) config history =
    let x : Session = session_after config history earlier in
    let after : Session = after_turn config turn x in (
      all-map (Gives (BroughtIn (turn ∷ earlier)) (Proxied after)) (Answers (turned_events (turn ∷ earlier)) after) (orders_of config x turn) (λ order gives. order-answers (turn ∷ earlier) after order (lives-proxied (turn ∷ earlier) config history) gives)
          (turn-gives (BroughtIn (turn ∷ earlier)) (Proxied after) config turn x (own-brought turn earlier) (before-of config history turn earlier (lives-of earlier config history)) (told-proxied config x turn)),
      turns-answer earlier config history,
    )

pub histories-answer : (config : Config) (history : History) → AnswersAll config history history.turns
histories-answer config history = turns-answer history.turns config history

pub session-answers : (setup : Setup) (epoch began : ℕ) (journal : List Step) (app : AppId) (live : Live Session)
    → IsLawful as_session setup epoch began journal → live_at app (chained as_session setup epoch began journal) ≡ Some live
    → HasAnsweredAll setup app (told app journal) live.session live.inbox
session-answers setup epoch began journal app live lawful is =
    let lived = session-lived setup epoch began journal app live lawful is in
    record { lived = lived; answers = histories-answer setup.config lived.history }
