-- Over the life of a session, what it proxied with options says what the first of its accepted calls that proxied asked for.
use Rattle.std.proofs.Common.{◌≡◌, ◌<◌, ℕ, ◌+◌, ◌++◌, Bool, true, false, Option, None, Some, List, [], ◌∷◌, refl, ap, append_assoc, sym, subst, ◌∙◌, arith, append-nil}
use Rattle.std.proofs.Math.Logic.{∥∥₁_map, ∥∥₁_elim}
use mathlib.Core.Bool.{Bool-set}
use Rattle.std.specs.Prelude.{cond, is_some, not, ◌&&◌}
use Rattle.std.specs.List.{flat_map, fold}
use Rattle.sc_value.specs.declared.ids.AppId.{AppId}
use Rattle.sc_value.specs.declared.ids.ReqId.{ReqId}
use Rattle.sc_value.specs.declared.message.Request.{Request}
use Rattle.sc_terms.specs.declared.calls.Call.{Call}
use Rattle.sc_terms.specs.declared.calls.CallAnswer.{CallAnswer}
use Rattle.sc_terms.specs.declared.calls.CallRecord.{CallRecord}
use Rattle.sc_terms.specs.declared.calls.ProxyOptions.{ProxyOptions}
use Rattle.sc_terms.specs.declared.calls.Refusal.{Refusal}
use Rattle.sc_terms.specs.declared.settings.Config.{Config}
use Rattle.sc_terms.specs.declared.views.SessionView.{SessionView}
use Rattle.sc_parts.specs.declared.setup.Setup.{Setup}
use Rattle.sc_state.specs.declared.queue.Queued.{Queued}
use Rattle.sc_state.specs.declared.queue.Queued.TheVariants as queued
use Rattle.sc_state.specs.declared.queue.Waiting.{Waiting}
use Rattle.sc_state.specs.declared.session.Session.{Session}
use Rattle.sc_state.specs.declared.working.Play.{Play}
use Rattle.sc_state.specs.declared.working.Prepared.{Prepared}
use Rattle.sc_state.specs.declared.working.Working.{Working}
use Rattle.sc_model.specs.Settings.{charters_of}
use Rattle.sc_hosts.specs.Acting.{all_act, drafts_ended, after_fault as faulted, is_request_event, passes_later}
use Rattle.sc_hosts.specs.Effects.{after_listed, answer_by, answer_of, first_play as begun}
use Rattle.sc_hosts.specs.Finishing.{after_all_calls as finished, is_ended, is_session_ready, without_unneeded as lightened, outcome, outcome_of, session_in_play, swept, swept_one, without_acks}
use Rattle.sc_hosts.specs.Histories.{History, after_turn, session_after, session_of}
use Rattle.sc_hosts.specs.Legs.{FIRST_SESSION, first_known, first_view, fresh}
use Rattle.sc_hosts.specs.Looking.{without_sip_session as removed}
use Rattle.sc_hosts.specs.Preparing.{prepared_session as prepared, prepared_for}
use Rattle.sc_hosts.specs.PreparingRequests.{request_view, showing}
use Rattle.sc_hosts.specs.Refusals.{refusal}
use Rattle.sc_hosts.specs.Scripting.{IsAnsweredFrom, is_refused}
use Rattle.sc_hosts.specs.Sessions.{Turn}
use Rattle.sc_hosts.specs.Working.{worked_all}
use Rattle.sc_walked.specs.SessionWalks.{SessionLaws}
use Rattle.sc_walked.proofs.WalkEnds.{all_act-goes, drafts_ended-goes, faulted-goes}
use Rattle.sc_walked.proofs.WalkParts.{fold-walks, if-view, tidy-walks}
use Rattle.sc_walks.specs.Walks.{IsLate}
use Rattle.sc_lasting.specs.Lasting.{All}
use Rattle.sc_lasting.proofs.Parts.{all-append, all-filter, received-holds}
use Rattle.sc_lived.specs.Lived.{AreLate, AreOfOne, AreTaken, Begins, MayTake, Told, told_of, told_turns, turned_events}
use Rattle.sc_lived.proofs.Accepted.{allowed-answered, read-after}
use Rattle.sc_promised.proofs.Attributes.{accepted-stands}
use Rattle.sc_recorded.proofs.Asking.{AreListed, FirstSays, Stands, asked_in}
use Rattle.sc_recorded.proofs.Settled.{Held, IsBased, IsOne, Open, SaysSo, any-firm, held-law, ready-late}
use Rattle.sc_recorded.proofs.Settling.{acting-says, based-played, calls-stand, later-based, shown-stands, turn-stands}

-- ## What a turn may bring is listed as it was answered

by-found : (play : Play) (call : Call) (found : Option Refusal) → is_refused (answer_by play call found) ≡ is_some found
unfolding answer_by is_refused
by-found play call None = accepted-stands play call
by-found play call (Some refused) = refl

one-listed : (play : Play) (call : Call) (answer : CallAnswer) → answer ≡ answer_of play call → is_refused answer ≡ is_some (refusal play call)
unfolding answer_of
one-listed play call answer right = ap is_refused right ∙ by-found play call (refusal play call)

answered-listed : (made : List CallRecord) (play : Play) → ∥ IsAnsweredFrom play made ∥₁ → AreListed play made
unfolding IsAnsweredFrom AreListed
answered-listed [] play right = tt
answered-listed (m ∷ made) play right =
    (∥∥₁_elim right (Bool-set _ _) (λ r. one-listed play m.call m.answer r.1), answered-listed made (after_listed play m.call) (∥∥₁_map right (λ r. r.2)))

may-listed : (setup : Setup) (app : AppId) (history : History) (earlier : List Turn) (turn : Turn) → MayTake setup app (record history { turns = earlier }) turn
    → AreListed (begun (prepared setup.config turn.ringing (session_after setup.config history earlier) turn.waiting turn.now).view) turn.calls
may-listed setup app history earlier turn may =
    let shown : Session → Prepared = λ session. prepared setup.config turn.ringing session turn.waiting turn.now in
    subst (λ (session : Session). AreListed (begun (shown session).view) turn.calls) (read-after setup.config history earlier)
    (answered-listed turn.calls (begun (shown (session_of setup.config (record history { turns = earlier }))).view)
    (∥∥₁_map may (allowed-answered (charters_of setup app.host) (shown (session_of setup.config (record history { turns = earlier }))) _ turn.calls turn.end refl)))

-- ## The first turn

above : (n : ℕ) → n ≡ 1 → 1 < n + 1
above n is = omega (arith, is)

first-shown : (config : Config) (ringing : List ℕ) (x : Session) (number : ℕ) (began : Request) (event : Queued) → Begins began event → x.view.next_request ≡ 1 → All IsOne x.view.requests → Open x.known.proxies x.known.kept
    → IsBased (prepared_for config ringing x number event).view × Open (prepared_for config ringing x number event).known.proxies (prepared_for config ringing x number event).known.kept
unfolding prepared_for showing Begins IsOne request_view
first-shown config ringing x number began (queued.Initial region subscriber popped request) begins next ones clear =
    received-holds (λ v k. IsBased v × Open k.proxies k.kept) x number FIRST_SESSION true false request
    (λ invited. ((above x.view.next_request next, all-append IsOne x.view.requests _ ones (λ came first. next)), clear))
first-shown config ringing x number began (queued.Request request) begins next ones clear = absurd begins
first-shown config ringing x number began (queued.Response branch response) begins next ones clear = absurd begins
first-shown config ringing x number began (queued.Cancelled event) begins next ones clear = absurd begins
first-shown config ringing x number began (queued.Timer id) begins next ones clear = absurd begins
first-shown config ringing x number began (queued.BranchTimer branch due) begins next ones clear = absurd begins
first-shown config ringing x number began queued.Expired begins next ones clear = absurd begins
first-shown config ringing x number began queued.Ready begins next ones clear = absurd begins

abbrev Goes : Session → Session → Type 0
Goes y z = Held (λ ps ks. Unit {0}) y.view y.known → Held (λ ps ks. Unit {0}) z.view z.known

law : SessionLaws queued.Ready (λ call. Unit {0}) Goes
law = held-law (λ call. Unit {0}) (λ ps ks. Unit {0}) any-firm queued.Ready ready-late

sweeps : (x : Session) → Goes x (swept x)
unfolding swept swept_one
sweeps x held =
    let y : Session = record x { view = fold (swept_one x.known x.view) x.view x.view.sessions } in
    tidy-walks queued.Ready (λ call. Unit {0}) Goes law y
    (fold-walks queued.Ready (λ call. Unit {0}) Goes law x.view.sessions (swept_one x.known x.view)
    (λ (z : Session) (s : SessionView). if-view queued.Ready (λ call. Unit {0}) Goes law (s.ready_flag && not s.gone && is_session_ready x.known x.view s) z (removed s.id z.view) z.view (law.removes z s.id) (law.same z)) x held)

light-based : (b : Bool) (y z : Session) → IsBased y.view → IsBased z.view → IsBased (lightened (cond b y z)).view
unfolding lightened
light-based true y z p q = p
light-based false y z p q = q

left-based : (event : Queued) (working : Working) → IsBased working.play.view → IsBased (outcome_of event working).session.view
unfolding outcome_of session_in_play without_acks
left-based event working based =
    let y : Session = session_in_play working in
    let ok : IsBased y.view = (based.0, all-filter IsOne _ working.play.view.requests based.1) in
    light-based (is_ended event working) y (swept y) ok (sweeps y (ok, tt)).0

first-passes : (config : Config) (began : Request) (event : Queued) → Begins began event → (req : Option ReqId) (working : Working) → IsBased working.play.view → IsBased (passes_later config event req working).play.view
unfolding passes_later is_request_event Begins
first-passes config began (queued.Initial region subscriber popped request) begins req working based = based
first-passes config began (queued.Request request) begins req working based = absurd begins
first-passes config began (queued.Response branch response) begins req working based = absurd begins
first-passes config began (queued.Cancelled event) begins req working based = absurd begins
first-passes config began (queued.Timer id) begins req working based = absurd begins
first-passes config began (queued.BranchTimer branch due) begins req working based = absurd begins
first-passes config began queued.Expired begins req working based = absurd begins
first-passes config began queued.Ready begins req working based = absurd begins

first-based : (stays : Bool) (config : Config) (turn : Turn) (x : Session) (began : Request) → Begins began turn.waiting.event → IsBased (prepared config turn.ringing x turn.waiting turn.now).view
    → IsBased (after_turn config turn x).view
unfolding after_turn outcome finished
first-based stays config turn x began begins based =
    let shown : Prepared = prepared config turn.ringing x turn.waiting turn.now in
    let played : Working = worked_all config shown turn.calls in
    let acting : Working = faulted config shown.req turn.end (drafts_ended played) in
    let acts = all_act-goes queued.Ready (λ call. Unit {0}) Goes law config acting
    (faulted-goes queued.Ready (λ call. Unit {0}) Goes law config shown.req turn.end (drafts_ended played) (drafts_ended-goes queued.Ready (λ call. Unit {0}) Goes law played (based-played stays config turn x based, tt))) in
    left-based turn.waiting.event (passes_later config turn.waiting.event shown.req (all_act config acting)) (first-passes config began turn.waiting.event begins shown.req (all_act config acting) acts.0)

-- ## All turns

-- the options of all accepted calls that proxied
abbrev pub asked_of : List Told → List ProxyOptions
asked_of given = flat_map (λ (t : Told). asked_in t.calls) given

asked-append : (ts : List Told) (t : Told) → asked_of (ts ++ t ∷ []) ≡ asked_of ts ++ asked_in t.calls
asked-append [] t = append-nil (asked_in t.calls)
asked-append (u ∷ ts) t = ap (λ hs. asked_in u.calls ++ hs) (asked-append ts t) ∙ sym (append_assoc (asked_in u.calls) (asked_of ts) (asked_in t.calls))

pub says-front : (stays : Bool) (xs ys : List ProxyOptions) → FirstSays stays (xs ++ ys) → FirstSays stays xs
unfolding FirstSays
says-front stays [] ys says = tt
says-front stays (x ∷ xs) ys says = says

last-late : (waitings : List Waiting) (waiting : Waiting) (rest : List Waiting) → AreLate ((waitings ++ waiting ∷ []) ++ rest) → IsLate waiting.event
unfolding AreLate
last-late [] waiting rest late = late.0
last-late (w ∷ waitings) waiting rest late = last-late waitings waiting rest late.1

later-late : (began : Request) (waitings : List Waiting) (w waiting : Waiting) (rest : List Waiting) → AreOfOne began (((waitings ++ w ∷ []) ++ waiting ∷ []) ++ rest) → IsLate waiting.event
unfolding AreOfOne
later-late began [] w waiting rest one = last-late [] waiting rest one.1
later-late began (v ∷ waitings) w waiting rest one = last-late (waitings ++ w ∷ []) waiting rest one.1

of-front : (began : Request) (waitings : List Waiting) (waiting : Waiting) (rest : List Waiting) → AreOfOne began ((waitings ++ waiting ∷ []) ++ rest) → AreOfOne began (waitings ++ (waiting ∷ rest))
of-front began waitings waiting rest one = subst (λ (ws : List Waiting). AreOfOne began ws) (append_assoc waitings (waiting ∷ []) rest) one

module _ (setup : Setup) (app : AppId) (stays : Bool) (history : History) where
  abbrev at : List Turn → Session
  at turns = session_after setup.config history turns

  abbrev shown_at : Turn → List Turn → Prepared
  shown_at turn earlier = prepared setup.config turn.ringing (at earlier) turn.waiting turn.now

  -- after these turns it stands so
  unfoldable IsRunning : List Turn → Type 0
  IsRunning [] = Unit {0}
  IsRunning (turn ∷ earlier) = IsBased (at (turn ∷ earlier)).view × Stands stays (asked_of (told_turns (turn ∷ earlier))) (at (turn ∷ earlier)).known.proxies (at (turn ∷ earlier)).known.kept

  shown-runs : (earlier : List Turn) (turn : Turn) (rest : List Waiting) → AreOfOne history.request (turned_events (turn ∷ earlier) ++ rest) → IsRunning earlier
      → IsBased (shown_at turn earlier).view × Stands stays (asked_of (told_turns earlier)) (shown_at turn earlier).known.proxies (shown_at turn earlier).known.kept
  unfolding IsRunning turned_events told_turns Stands session_after fresh first_view first_known prepared AreOfOne All
  shown-runs [] turn rest one runs =
      first-shown setup.config turn.ringing (record (at []) { view = record (at []).view { now = turn.now } }) turn.waiting.number history.request turn.waiting.event one.0 refl tt tt
  shown-runs (t ∷ earlier) turn rest one runs =
      shown-stands stays setup.config turn (at (t ∷ earlier)) (asked_of (told_turns (t ∷ earlier))) (later-late history.request (turned_events earlier) t.waiting turn.waiting rest one) runs.0 runs.1

  played-runs : (earlier : List Turn) (turn : Turn) (rest : List Waiting) → AreOfOne history.request (turned_events (turn ∷ earlier) ++ rest) → AreTaken setup app history (turn ∷ earlier)
      → FirstSays stays (asked_of (told_turns earlier) ++ asked_in turn.calls) → IsRunning earlier
      → Stands stays (asked_of (told_turns earlier) ++ asked_in turn.calls) (worked_all setup.config (shown_at turn earlier) turn.calls).known.proxies (worked_all setup.config (shown_at turn earlier) turn.calls).known.kept
  unfolding AreTaken
  played-runs earlier turn rest one taken says runs =
      let shown = shown-runs earlier turn rest one runs in
      calls-stand stays setup.config turn (at earlier) (asked_of (told_turns earlier)) shown.0 shown.1 (may-listed setup app history earlier turn taken.0) says

  after-based : (earlier : List Turn) (turn : Turn) (rest : List Waiting) → AreOfOne history.request (turned_events (turn ∷ earlier) ++ rest) → IsRunning earlier → IsBased (after_turn setup.config turn (at earlier)).view
  unfolding IsRunning turned_events AreOfOne
  after-based [] turn rest one runs = first-based stays setup.config turn (at []) history.request one.0 (shown-runs [] turn rest one runs).0
  after-based (t ∷ earlier) turn rest one runs = later-based stays setup.config turn (at (t ∷ earlier)) (later-late history.request (turned_events earlier) t.waiting turn.waiting rest one) runs.0

  life-runs : (turns : List Turn) (rest : List Waiting) → AreOfOne history.request (turned_events turns ++ rest) → AreTaken setup app history turns → FirstSays stays (asked_of (told_turns turns)) → IsRunning turns
  unfolding IsRunning turned_events AreTaken told_turns session_after
  life-runs [] rest one taken says = tt
  life-runs (turn ∷ earlier) rest one taken says =
      let is = asked-append (told_turns earlier) (told_of turn) in
      let told : FirstSays stays (asked_of (told_turns earlier) ++ asked_in turn.calls) = subst (λ (hs : List ProxyOptions). FirstSays stays hs) is says in
      let before = life-runs earlier (turn.waiting ∷ rest) (of-front history.request (turned_events earlier) turn.waiting rest one) taken.1 (says-front stays (asked_of (told_turns earlier)) (asked_in turn.calls) told) in
      let played = played-runs earlier turn rest one taken told before in (
        after-based earlier turn rest one before,
        subst (λ (hs : List ProxyOptions). Stands stays hs (after_turn setup.config turn (at earlier)).known.proxies (after_turn setup.config turn (at earlier)).known.kept) (sym is)
            (turn-stands stays setup.config turn (at earlier) (asked_of (told_turns earlier) ++ asked_in turn.calls) (shown-runs earlier turn rest one before).0 played),
      )

  -- as the proxies of a further turn act
  pub life-says : (turn : Turn) (earlier : List Turn) (rest : List Waiting) → AreOfOne history.request (turned_events (turn ∷ earlier) ++ rest) → AreTaken setup app history (turn ∷ earlier)
      → FirstSays stays (asked_of (told_turns (turn ∷ earlier)))
      → All (SaysSo stays) (faulted setup.config (shown_at turn earlier).req turn.end (drafts_ended (worked_all setup.config (shown_at turn earlier) turn.calls))).known.proxies
  unfolding turned_events AreTaken told_turns
  life-says turn earlier rest one taken says =
      let told : FirstSays stays (asked_of (told_turns earlier) ++ asked_in turn.calls) = subst (λ (hs : List ProxyOptions). FirstSays stays hs) (asked-append (told_turns earlier) (told_of turn)) says in
      let before = life-runs earlier (turn.waiting ∷ rest) (of-front history.request (turned_events earlier) turn.waiting rest one) taken.1 (says-front stays (asked_of (told_turns earlier)) (asked_in turn.calls) told) in
      acting-says stays setup.config turn (at earlier) (asked_of (told_turns earlier) ++ asked_in turn.calls) (played-runs earlier turn rest one taken told before)
