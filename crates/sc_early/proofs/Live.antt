-- Live sessions of the kind that gives provisional responses reliably.
use Rattle.std.proofs.Common.{◌≡◌, ◌<◌, ℕ, ◌++◌, Bool, true, false, Option, None, Some, List, [], ◌∷◌, refl, sym, ap, subst, ◌∙◌, arith, append_assoc}
use Rattle.std.proofs.Math.Logic.{∥∥₁_map}
use Rattle.std.specs.Prelude.{◌^◌, ◌&&◌, codes, cond, option_and_then, option_map}
use Rattle.std.specs.List.{find}
use Rattle.sc_tokens.specs.Names.{same_bytes}
use Rattle.sc_tokens.specs.Bytes.{Bytes}
use Rattle.sc_value.specs.declared.ids.AppId.{AppId}
use Rattle.sc_value.specs.declared.ids.Region.{Region}
use Rattle.sc_value.specs.declared.ids.ReqId.{ReqId}
use Rattle.sc_value.specs.declared.message.Request.{Request}
use Rattle.sc_value.specs.declared.parts.Address.{Address}
use Rattle.sc_terms.specs.declared.charters.Charter.TheVariants as charters
use Rattle.sc_terms.specs.declared.events.Event.{Event}
use Rattle.sc_terms.specs.declared.events.Event.TheVariants as events
use Rattle.sc_terms.specs.declared.settings.Config.{Config}
use Rattle.sc_terms.specs.declared.steps.Step.{Step}
use Rattle.sc_terms.specs.declared.views.RequestView.{RequestView}
use Rattle.sc_terms.specs.declared.views.View.{View}
use Rattle.sc_parts.specs.declared.setup.Setup.{Setup}
use Rattle.sc_state.specs.declared.host.Live.{Live}
use Rattle.sc_state.specs.declared.queue.Queued.{Queued}
use Rattle.sc_state.specs.declared.queue.Queued.TheVariants as queued
use Rattle.sc_state.specs.declared.queue.Waiting.{Waiting}
use Rattle.sc_state.specs.declared.session.Session.{Session}
use Rattle.sc_model.specs.SessionStates.{invite}
use Rattle.sc_hosts.specs.Bringing.{servlet_script}
use Rattle.sc_hosts.specs.Effects.{first_play as begun}
use Rattle.sc_hosts.specs.HelperParts.{lists_option, strict_number}
use Rattle.sc_hosts.specs.Histories.{History, as_history, as_session, session_after, session_of}
use Rattle.sc_hosts.specs.Legs.{FIRST_SESSION, first_view, fresh}
use Rattle.sc_hosts.specs.Offers.{after_word, early_script, is_invite_of, rel_option, session_progress}
use Rattle.sc_hosts.specs.Preparing.{prepared_session as prepared, prepared_for}
use Rattle.sc_hosts.specs.PreparingRequests.{next_id, with_received_request as received, showing}
use Rattle.sc_hosts.specs.Runs.{IsLawful, net_from as chained}
use Rattle.sc_hosts.specs.Scripting.{attribute}
use Rattle.sc_hosts.specs.Sessions.{Turn}
use Rattle.sc_hosts.specs.Steps.{live_at}
use Rattle.sc_hosts.specs.Words.{prack}
use Rattle.sc_walks.specs.Walks.{IsLate}
use Rattle.sc_lived.specs.Lived.{AreLate, AreOfOne, Begins, HasLived, IsLived, Told, turns_in as told, turned_events}
use Rattle.sc_lived.proofs.Sayings.{has-lived, session-lived}
use Rattle.sc_promised.specs.Reliable.{Act, IsSound, Late, Offers, Pracks, remembered_of}
use Rattle.sc_promised.proofs.Traces.{offers-counted}
use Rattle.sc_remembered.specs.Acts.{shown_in}
use Rattle.sc_remembered.proofs.Shown.{shown-kept}
use Rattle.sc_remembered.specs.Early.{IsUnknown, MakesActs, act_of}
use Rattle.sc_remembered.specs.Played.{event_in}
use Rattle.sc_remembered.proofs.Played.{life-plays}
use Rattle.sc_remembered.proofs.Chains.{acts-are-traces}
use Rattle.sc_early.specs.EarlyLives.{AreUnknown, AreWhole, HasActs, HasRoom, HasUnknown, IsEarly}
use Rattle.sc_early.proofs.Clear.{played-make-acts}
use Rattle.sc_early.proofs.FirstOffer.{first-sound}
use Rattle.sc_early.proofs.ToldFirst.{NotFirst, later-told}

-- ## The events of a life

late-in : (ws : List Waiting) (w : Waiting) (more : List Waiting) → AreLate (ws ++ w ∷ more) → IsLate w.event
unfolding AreLate
late-in [] w more late = late.0
late-in (v ∷ ws) w more late = late-in ws w more late.1

late-behind : (ws : List Waiting) (v w : Waiting) (more : List Waiting) → (began : Request) → AreOfOne began ((ws ++ v ∷ []) ++ w ∷ more) → IsLate w.event
unfolding AreOfOne AreLate
late-behind [] v w more began one = one.1.0
late-behind (f ∷ ws) v w more began one = late-in (ws ++ v ∷ []) w more one.1

-- the events of the turns but the last one, and then that one and those that wait
earlier-one : (began : Request) (turn : Turn) (earlier : List Turn) (inbox : List Waiting) → AreOfOne began (turned_events (turn ∷ earlier) ++ inbox)
    → AreOfOne began (turned_events earlier ++ turn.waiting ∷ inbox)
unfolding turned_events
earlier-one began turn earlier inbox one = subst (AreOfOne began) (append_assoc (turned_events earlier) (turn.waiting ∷ []) inbox) one

later-one : (began : Request) (turn before : Turn) (earlier : List Turn) (inbox : List Waiting) → AreOfOne began (turned_events (before ∷ earlier) ++ turn.waiting ∷ inbox) → IsLate turn.waiting.event
unfolding turned_events
later-one began turn before earlier inbox one = late-behind (turned_events earlier) before.waiting turn.waiting inbox began one

first-one : (began : Request) (turn : Turn) (inbox : List Waiting) → AreOfOne began (turned_events [] ++ turn.waiting ∷ inbox) → Begins began turn.waiting.event
unfolding turned_events AreOfOne
first-one began turn inbox one = one.0

-- ## Later events

late-unknown : (view : View) (told : Event) → NotFirst told → IsUnknown view told
unfolding NotFirst IsUnknown
late-unknown view (events.Initial req sess region subscriber popped request) late = absurd late
late-unknown view (events.Request req sess request) late = tt
late-unknown view (events.Response req sess response) late = tt
late-unknown view (events.Branch req sess response) late = tt
late-unknown view (events.Cancelled req sess) late = tt
late-unknown view (events.Timer id info) late = tt
late-unknown view events.Expired late = tt
late-unknown view events.Ready late = tt

some-act : (a b : Act) → Some a ≡ Some b → a ≡ b
some-act a b is = cc

prack-sound : (view : View) (req : ReqId) (request : Request) (b : Bool) (found : Option RequestView) (act : Act)
    → cond b (option_map (λ (invited : RequestView). Pracks invited.id req request) found) None ≡ Some act → IsSound (begun view) act
unfolding IsSound
prack-sound view req request true None act is = cc
prack-sound view req request true (Some invited) act is = subst (IsSound (begun view)) (some-act (Pracks invited.id req request) act is) tt
prack-sound view req request false found act is = cc

timer-sound : (view : View) (id : _) (found : Option ℕ) (act : Act) → option_map (λ (n : ℕ). Late (record { 0 = n }) id) found ≡ Some act → IsSound (begun view) act
unfolding IsSound
timer-sound view id None act is = cc
timer-sound view id (Some n) act is = subst (IsSound (begun view)) (some-act (Late (record { 0 = n }) id) act is) tt

late-sound : (view : View) (told : Event) (act : Act) → NotFirst told → act_of view told ≡ Some act → IsSound (begun view) act
unfolding NotFirst act_of
late-sound view (events.Initial req sess region subscriber popped request) act late is = absurd late
late-sound view (events.Request req sess request) act late is = prack-sound view req request (same_bytes request.method prack) (find (is_invite_of sess) view.requests) act is
late-sound view (events.Response req sess response) act late is = cc
late-sound view (events.Branch req sess response) act late is = cc
late-sound view (events.Cancelled req sess) act late is = cc
late-sound view (events.Timer id info) act late is = timer-sound view id (option_and_then strict_number (after_word (codes "rel") info)) act is
late-sound view events.Expired act late is = cc
late-sound view events.Ready act late is = cc

-- ## The first event

some-told : (e f : Event) → Some e ≡ Some f → e ≡ f
some-told e f is = cc

-- nothing is remembered, and no timer ran
record IsNew (x : Session) : Type 0 where
  fields : x.view.attributes ≡ []
  timers : x.view.timers ≡ []
  next_timer : x.view.next_timer ≡ 1
  next_request : x.view.next_request ≡ 1

fresh-new : (config : Config) (history : History) → IsNew (session_after config history [])
unfolding session_after fresh first_view
fresh-new config history = record { fields = refl; timers = refl; next_timer = refl; next_request = refl }

first-unknown : (view : View) (told : Event) → view.attributes ≡ [] → IsUnknown view told
unfolding IsUnknown attribute remembered_of
first-unknown view (events.Initial req sess region subscriber popped request) none = rw none refl
first-unknown view (events.Request req sess request) none = tt
first-unknown view (events.Response req sess response) none = tt
first-unknown view (events.Branch req sess response) none = tt
first-unknown view (events.Cancelled req sess) none = tt
first-unknown view (events.Timer id info) none = tt
first-unknown view events.Expired none = tt
first-unknown view events.Ready none = tt

offer-sound : (view : View) (req : ReqId) (request : Request) (b : Bool) (act : Act) → view.attributes ≡ [] → view.timers ≡ [] → view.next_timer ≡ 1 → req.0 ≡ 1 → request.head.cseq.number < 2 ^ 64
    → cond b (Some (Offers req request 183 session_progress [])) None ≡ Some act → IsSound (begun view) act
offer-sound view req request true act fields timers next own small is =
    subst (IsSound (begun view)) (some-act (Offers req request 183 session_progress []) act is) (first-sound view req request fields timers next (number-small req.0 own) small)
  where
    number-small : (n : ℕ) → n ≡ 1 → n < 2 ^ 64
    number-small n own = omega (arith, own)
offer-sound view req request false act fields timers next own small is = cc

-- what the request that begins a session is told as
abbrev first_told : Session → Region → Bytes → Option Address → Request → Event
first_told x region subscriber popped request = events.Initial (next_id x) FIRST_SESSION region subscriber popped request

told-sound : (x : Session) (view : View) (region : Region) (subscriber : Bytes) (popped : Option Address) (request : Request) (act : Act)
    → view.attributes ≡ [] → view.timers ≡ [] → view.next_timer ≡ 1 → x.view.next_request ≡ 1 → request.head.cseq.number < 2 ^ 64
    → act_of view (first_told x region subscriber popped request) ≡ Some act → IsSound (begun view) act
unfolding act_of
told-sound x view region subscriber popped request act fields timers next own small is =
    offer-sound view (next_id x) request (same_bytes request.method invite && lists_option rel_option request) act fields timers next own small is

for-sound : (config : Config) (ringing : List ℕ) (x : Session) (number : ℕ) (began : Request) (event : Queued) (told : Event) (act : Act) → IsNew x → Begins began event → began.head.cseq.number < 2 ^ 64
    → (prepared_for config ringing x number event).event ≡ Some told → act_of (prepared_for config ringing x number event).view told ≡ Some act
    → IsSound (begun (prepared_for config ringing x number event).view) act
unfolding Begins prepared_for showing received
for-sound config ringing x number began (queued.Initial region subscriber popped request) told act new begins small is makes =
    let view : View = (received x number FIRST_SESSION true false request).view in
    told-sound x view region subscriber popped request act new.fields new.timers new.next_timer new.next_request (subst (λ (r : Request). r.head.cseq.number < 2 ^ 64) (sym begins) small)
    (ap (act_of view) (some-told (first_told x region subscriber popped request) told is) ∙ makes)
for-sound config ringing x number began (queued.Request request) told act new begins small is makes = absurd begins
for-sound config ringing x number began (queued.Response branch response) told act new begins small is makes = absurd begins
for-sound config ringing x number began (queued.Cancelled event) told act new begins small is makes = absurd begins
for-sound config ringing x number began (queued.Timer id) told act new begins small is makes = absurd begins
for-sound config ringing x number began (queued.BranchTimer branch due) told act new begins small is makes = absurd begins
for-sound config ringing x number began queued.Expired told act new begins small is makes = absurd begins
for-sound config ringing x number began queued.Ready told act new begins small is makes = absurd begins

turn-sound : (config : Config) (x : Session) (turn : Turn) (began : Request) (told : Event) (act : Act) → IsNew x → Begins began turn.waiting.event → began.head.cseq.number < 2 ^ 64
    → event_in config x turn ≡ Some told → act_of (shown_in config x turn) told ≡ Some act → IsSound (begun (shown_in config x turn)) act
unfolding prepared
turn-sound config x turn began told act new begins small is makes =
    for-sound config turn.ringing (record x { view = record x.view { now = turn.now } }) turn.waiting.number began turn.waiting.event told act
    (record { fields = new.fields; timers = new.timers; next_timer = new.next_timer; next_request = new.next_request }) begins small is makes

-- ## A life

pub whole-life : (turns : List Turn) (config : Config) (history : History) (inbox : List Waiting) → AreOfOne history.request (turned_events turns ++ inbox) → history.request.head.cseq.number < 2 ^ 64
    → AreWhole config history turns
unfolding AreWhole
whole-life [] config history inbox one small = tt
whole-life (turn ∷ []) config history inbox one small = (
  λ told act is makes. turn-sound config (session_after config history []) turn history.request told act (fresh-new config history)
      (first-one history.request turn inbox (earlier-one history.request turn [] inbox one)) small is makes,
  tt,
)
whole-life (turn ∷ before ∷ earlier) config history inbox one small =
    let rest = earlier-one history.request turn (before ∷ earlier) inbox one in
    let late : IsLate turn.waiting.event = later-one history.request turn before earlier inbox rest in (
      λ told act is makes. late-sound (shown_in config (session_after config history (before ∷ earlier)) turn) told act (later-told config (session_after config history (before ∷ earlier)) turn told late is) makes,
      whole-life (before ∷ earlier) config history (turn.waiting ∷ inbox) rest small,
    )

pub unknown-life : (turns : List Turn) (config : Config) (history : History) (inbox : List Waiting) → AreOfOne history.request (turned_events turns ++ inbox) → AreUnknown config history turns
unfolding AreUnknown
unknown-life [] config history inbox one = tt
unknown-life (turn ∷ []) config history inbox one = (
  λ told is. first-unknown (shown_in config (session_after config history []) turn) told
      (shown-kept config turn.ringing (session_after config history []) turn.waiting turn.now ∙ (fresh-new config history).fields),
  tt,
)
unknown-life (turn ∷ before ∷ earlier) config history inbox one =
    let rest = earlier-one history.request turn (before ∷ earlier) inbox one in
    let late : IsLate turn.waiting.event = later-one history.request turn before earlier inbox rest in (
      λ told is. late-unknown (shown_in config (session_after config history (before ∷ earlier)) turn) told (later-told config (session_after config history (before ∷ earlier)) turn told late is),
      unknown-life (before ∷ earlier) config history (turn.waiting ∷ inbox) rest,
    )

-- ## What the application might do

early-scripted : (view : View) (event : Event) → servlet_script charters.Early view event ≡ Some (early_script view event)
unfolding servlet_script
early-scripted view event = refl

-- ## The laws

acts-of : (config : Config) (history : History) (n : ℕ) → MakesActs config history n history.turns → HasActs config history n
acts-of config history n made =
    let chain = acts-are-traces config history n made.acts made.are in
    record { acts = made.acts; are = made.are; chain = chain; counted = offers-counted made.acts n chain }

lived-acts : (setup : Setup) (app : AppId) (given : List Told) (history : History) (inbox : List Waiting) (n : ℕ) → IsEarly setup app → n < 2 ^ 64 → history.request.head.cseq.number < 2 ^ 64
    → HasRoom (session_of setup.config history) → IsLived setup app given history inbox → ∥ HasActs setup.config history n ∥₁
lived-acts setup app given history inbox n early small number room lived =
    ∥∥₁_map (life-plays charters.Early early_script early-scripted history.turns setup app history early lived.taken)
    (λ played. acts-of setup.config history n (played-make-acts setup.config history n small room played (whole-life history.turns setup.config history inbox lived.events_are number)))

pub live-unknown : (setup : Setup) (epoch began : ℕ) (journal : List Step) (app : AppId) (live : Live History)
    → IsLawful (as_history setup.config) setup epoch began journal → live_at app (chained (as_history setup.config) setup epoch began journal) ≡ Some live
    → AreUnknown setup.config live.session live.session.turns
live-unknown setup epoch began journal app live lawful is =
    unknown-life live.session.turns setup.config live.session live.inbox (has-lived setup epoch began journal app live lawful is).events_are

pub session-unknown : (setup : Setup) (epoch began : ℕ) (journal : List Step) (app : AppId) (live : Live Session)
    → IsLawful as_session setup epoch began journal → live_at app (chained as_session setup epoch began journal) ≡ Some live
    → HasUnknown setup app (told app journal) live.session live.inbox
session-unknown setup epoch began journal app live lawful is =
    let lived = session-lived setup epoch began journal app live lawful is in
    record { lived = lived; unknown = unknown-life lived.history.turns setup.config lived.history live.inbox lived.lived.events_are }

pub live-acts : (setup : Setup) (epoch began : ℕ) (journal : List Step) (app : AppId) (live : Live History) (n : ℕ)
    → IsLawful (as_history setup.config) setup epoch began journal → live_at app (chained (as_history setup.config) setup epoch began journal) ≡ Some live
    → IsEarly setup app → n < 2 ^ 64 → live.session.request.head.cseq.number < 2 ^ 64 → HasRoom (session_of setup.config live.session) → ∥ HasActs setup.config live.session n ∥₁
live-acts setup epoch began journal app live n lawful is early small number room =
    lived-acts setup app (told app journal) live.session live.inbox n early small number room (has-lived setup epoch began journal app live lawful is)

pub session-acts : (setup : Setup) (app : AppId) (journal : List Step) (live : Live Session) (n : ℕ) → (lived : HasLived setup app (told app journal) live.session live.inbox)
    → IsEarly setup app → n < 2 ^ 64 → lived.history.request.head.cseq.number < 2 ^ 64 → HasRoom live.session → ∥ HasActs setup.config lived.history n ∥₁
session-acts setup app journal live n lived early small number room =
    lived-acts setup app (told app journal) lived.history live.inbox n early small number
    (subst (λ (x : Session). HasRoom x) lived.is room) lived.lived
