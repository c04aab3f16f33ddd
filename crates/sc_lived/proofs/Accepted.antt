-- What an application might do at each turn of a life, as the calls of the life that were accepted.
use Rattle.std.proofs.Common.{◌≡◌, ◌++◌, Bool, true, false, Option, None, Some, List, [], ◌∷◌, refl, ap, subst, ◌∙◌}
use Rattle.std.proofs.Math.Logic.{∥∥₁_map, ∥∥₁_elim}
use mathlib.Core.Bool.{Bool-set}
use Rattle.sc_value.specs.declared.ids.AppId.{AppId}
use Rattle.sc_value.specs.declared.message.Request.{Request}
use Rattle.sc_terms.specs.declared.calls.Call.{Call}
use Rattle.sc_terms.specs.declared.calls.CallAnswer.{CallAnswer}
use Rattle.sc_terms.specs.declared.calls.CallRecord.{CallRecord}
use Rattle.sc_terms.specs.declared.calls.End.{End}
use Rattle.sc_terms.specs.declared.calls.Refusal.{Refusal}
use Rattle.sc_terms.specs.declared.charters.Charter.{Charter}
use Rattle.sc_terms.specs.declared.charters.ListenerCharter.{ListenerCharter}
use Rattle.sc_terms.specs.declared.events.Event.{Event}
use Rattle.sc_terms.specs.declared.settings.Config.{Config}
use Rattle.sc_terms.specs.declared.views.View.{View}
use Rattle.sc_parts.specs.declared.setup.Setup.{Setup}
use Rattle.sc_state.specs.declared.queue.Queued.{Queued}
use Rattle.sc_state.specs.declared.queue.Queued.TheVariants as queued
use Rattle.sc_state.specs.declared.queue.Waiting.{Waiting}
use Rattle.sc_state.specs.declared.session.Session.{Session}
use Rattle.sc_state.specs.declared.working.Play.{Play}
use Rattle.sc_state.specs.declared.working.Prepared.{Prepared}
use Rattle.sc_model.specs.Settings.{Charters, charters_of}
use Rattle.sc_hosts.specs.Bringing.{Allowed, Called, IsSilent, is_listened}
use Rattle.sc_hosts.specs.Effects.{answer_to_call as accepted, after_listed, answer_by, answer_of, first_play as begun}
use Rattle.sc_hosts.specs.Histories.{History, after_turn, session_after, session_of}
use Rattle.sc_hosts.specs.Preparing.{prepared_session as prepared}
use Rattle.sc_hosts.specs.Refusals.{refusal}
use Rattle.sc_hosts.specs.Runs.{AllowedBy}
use Rattle.sc_hosts.specs.Scripting.{IsAnswered, IsAnsweredFrom, is_refused}
use Rattle.sc_hosts.specs.Sessions.{Turn}
use Rattle.sc_walked.specs.SessionWalks.{AreDone}
use Rattle.sc_walked.proofs.WalkEnds.{done-any, done-more, done-nothing}
use Rattle.sc_walks.specs.Walks.{IsLate}
use Rattle.sc_lasting.specs.Lasting.{All, IsLife, IsOf, IsSince}
use Rattle.sc_lasting.proofs.Shared.{all-front, all-last}
use Rattle.sc_promised.proofs.Attributes.{accepted-stands}
use Rattle.sc_lived.specs.Lived.{AreAccepted, AreLate, AreOfOne, AreTaken, Begins, MayTake, Told, told_of, told_turns, turned_events}

-- ## What a turn may bring is answered

none-answered : (view : View) (made : List CallRecord) → made ≡ [] → IsAnswered view made
unfolding IsAnsweredFrom
none-answered view made is = rw is tt

called-answered : (charter : Charter) (listener : Option ListenerCharter) (view : View) (event : Event) (listened : Bool) (made : List CallRecord) (end : End)
    → Called charter listener view event listened made end → IsAnswered view made
unfolding Called IsSilent
called-answered charter listener view event false made end is = is.0
called-answered charter None view event true made end is = none-answered view made is.0
called-answered charter (Some listener) view event true made end is = is.0

pub allowed-answered : (charters : Option Charters) (shown : Prepared) (event : Option Event) (made : List CallRecord) (end : End)
    → shown.event ≡ event → AllowedBy charters shown made end → IsAnswered shown.view made
unfolding AllowedBy Allowed IsSilent
allowed-answered None shown event made end is allowed = absurd allowed
allowed-answered (Some charters) shown None made end is allowed =
    none-answered shown.view made (subst (λ (e : Option Event). Allowed charters.0 charters.1 shown.view e made end) is allowed).0
allowed-answered (Some charters) shown (Some event) made end is allowed =
    called-answered charters.0 charters.1 shown.view event (is_listened event) made end (subst (λ (e : Option Event). Allowed charters.0 charters.1 shown.view e made end) is allowed).1

-- ## A call that was accepted isn't listed as refused

by-none : (play : Play) (call : Call) (found : Option Refusal) → found ≡ None → answer_by play call found ≡ accepted play call
unfolding answer_by
by-none play call None is = refl
by-none play call (Some refused) is = cc

answer-stands : (play : Play) (call : Call) (answer : CallAnswer) → answer ≡ answer_of play call → refusal play call ≡ None
    → is_refused answer ≡ false
unfolding answer_of
answer-stands play call answer right is =
    ap is_refused (right ∙ by-none play call (refusal play call) is) ∙ accepted-stands play call

answered-done : (Does : Call → Type 0) (made : List CallRecord) (play : Play) → ∥ IsAnsweredFrom play made ∥₁
    → All (λ (made : CallRecord). is_refused made.answer ≡ false → Does made.call) made → AreDone Does play made
unfolding IsAnsweredFrom All
answered-done Does [] play right each = done-nothing Does play
answered-done Does (m ∷ made) play right each =
    done-more Does m made play (λ is. each.0 (∥∥₁_elim right (Bool-set _ _) (λ r. answer-stands play m.call m.answer r.1 is)))
    (answered-done Does made (after_listed play m.call) (∥∥₁_map right (λ r. r.2)) each.1)

-- ## Over a life

-- the turns that a history is said to have don't matter to what it was after some
same-after : (config : Config) (history : History) (turns ts : List Turn)
    → session_after config (record history { turns = turns }) ts ≡ session_after config history ts
unfolding session_after
same-after config history turns [] = refl
same-after config history turns (turn ∷ ts) = ap (after_turn config turn) (same-after config history turns ts)

pub read-after : (config : Config) (history : History) (turns : List Turn)
    → session_of config (record history { turns = turns }) ≡ session_after config history turns
unfolding session_of
read-after config history turns = same-after config history turns turns

turn-done : (setup : Setup) (app : AppId) (Does : Call → Type 0) (history : History) (earlier : List Turn) (turn : Turn)
    → MayTake setup app (record history { turns = earlier }) turn
    → All (λ (made : CallRecord). is_refused made.answer ≡ false → Does made.call) turn.calls
    → AreDone Does (begun (prepared setup.config turn.ringing (session_after setup.config history earlier) turn.waiting turn.now).view) turn.calls
turn-done setup app Does history earlier turn may each =
    let shown : Session → Prepared = λ session. prepared setup.config turn.ringing session turn.waiting turn.now in
    subst (λ (session : Session). AreDone Does (begun (shown session).view) turn.calls) (read-after setup.config history earlier)
    (answered-done Does turn.calls (begun (shown (session_of setup.config (record history { turns = earlier }))).view)
    (∥∥₁_map may (allowed-answered (charters_of setup app.host) (shown (session_of setup.config (record history { turns = earlier }))) _ turn.calls turn.end refl)) each)

pub since-done : (setup : Setup) (app : AppId) (Does : Call → Type 0) (history : History) (earlier later : List Turn)
    → AreTaken setup app history (later ++ earlier) → AreAccepted Does (told_turns later)
    → IsSince (λ event. Unit {0}) Does setup.config history earlier later
unfolding IsSince AreTaken told_turns
since-done setup app Does history earlier [] taken each = tt
since-done setup app Does history earlier (turn ∷ later) taken each =
    let split = all-last (λ (turn : Told). All (λ (made : CallRecord). is_refused made.answer ≡ false → Does made.call) turn.calls) (told_turns later) (told_of turn) each in
    (tt, turn-done setup app Does history (later ++ earlier) turn taken.0 split.1, since-done setup app Does history earlier later taken.1 split.0)

pub life-done : (setup : Setup) (app : AppId) (Does : Call → Type 0) (history : History) (turns : List Turn)
    → AreTaken setup app history turns → AreAccepted Does (told_turns turns)
    → IsLife (λ event. Unit {0}) Does setup.config history turns
unfolding IsLife AreTaken told_turns
life-done setup app Does history [] taken each = tt
life-done setup app Does history (turn ∷ earlier) taken each =
    let split = all-last (λ (turn : Told). All (λ (made : CallRecord). is_refused made.answer ≡ false → Does made.call) turn.calls) (told_turns earlier) (told_of turn) each in
    (tt, turn-done setup app Does history earlier turn taken.0 split.1, life-done setup app Does history earlier taken.1 split.0)

-- ## Events

pub begins-of : (began : Request) (event : Queued) → Begins began event → IsOf began event
unfolding Begins IsOf
begins-of began (queued.Initial region subscriber popped request) is = is
begins-of began (queued.Request request) is = absurd is
begins-of began (queued.Response branch response) is = absurd is
begins-of began (queued.Cancelled event) is = absurd is
begins-of began (queued.Timer id) is = absurd is
begins-of began (queued.BranchTimer branch due) is = absurd is
begins-of began queued.Expired is = absurd is
begins-of began queued.Ready is = absurd is

pub late-of : (began : Request) (event : Queued) → IsLate event → IsOf began event
unfolding IsLate IsOf
late-of began (queued.Initial region subscriber popped request) late = absurd late
late-of began (queued.Request request) late = tt
late-of began (queued.Response branch response) late = tt
late-of began (queued.Cancelled event) late = tt
late-of began (queued.Timer id) late = tt
late-of began (queued.BranchTimer branch due) late = tt
late-of began queued.Expired late = tt
late-of began queued.Ready late = tt

abbrev AreOf : Request → List Waiting → Type 0
AreOf began ws = All (λ (waiting : Waiting). IsOf began waiting.event) ws

late-all : (began : Request) (ws : List Waiting) → AreLate ws → AreOf began ws
unfolding AreLate All
late-all began [] late = tt
late-all began (w ∷ ws) late = (late-of began w.event late.0, late-all began ws late.1)

one-all : (began : Request) (ws : List Waiting) → AreOfOne began ws → AreOf began ws
unfolding AreOfOne All
one-all began [] one = absurd one
one-all began (w ∷ ws) one = (begins-of began w.event one.0, late-all began ws one.1)

life-of : (config : Config) (history : History) (turns : List Turn) → AreOf history.request (turned_events turns)
    → IsLife (IsOf history.request) (λ call. Unit {0}) config history turns
unfolding IsLife turned_events
life-of config history [] all = tt
life-of config history (turn ∷ earlier) all =
    let split = all-last (λ (waiting : Waiting). IsOf history.request waiting.event) (turned_events earlier) turn.waiting all in
    (split.1, done-any turn.calls (λ call. Unit {0}) (λ call. tt) _, life-of config history earlier split.0)

-- a life of one beginning
pub one-life : (config : Config) (history : History) (inbox : List Waiting)
    → AreOfOne history.request (turned_events history.turns ++ inbox)
    → IsLife (IsOf history.request) (λ call. Unit {0}) config history history.turns
one-life config history inbox one = life-of config history history.turns (all-front _ (turned_events history.turns) inbox (one-all history.request _ one))

-- any calls
pub any-accepted : (given : List Told) → AreAccepted (λ call. Unit {0}) given
unfolding All
any-accepted [] = tt
any-accepted (turn ∷ given) = (each turn.calls, any-accepted given)
  where
    each : (made : List CallRecord) → All (λ (made : CallRecord). is_refused made.answer ≡ false → Unit {0}) made
    each [] = tt
    each (m ∷ made) = ((λ is. tt), each made)
