-- The life of a live application session: its turns are those that the journal tells of it, and
-- only its first event began it (JSR 289 section 6).
use Rattle.std.specs.Prelude.{◌≡◌, ℕ, List, [], ◌∷◌, ◌++◌, false, if◌then◌else◌}
use Rattle.sc_value.specs.declared.ids.AppId.{AppId}
use Rattle.sc_value.specs.declared.message.Request.{Request}
use Rattle.sc_terms.specs.declared.calls.Call.{Call}
use Rattle.sc_terms.specs.declared.calls.CallRecord.{CallRecord}
use Rattle.sc_terms.specs.declared.calls.End.{End}
use Rattle.sc_terms.specs.declared.steps.Step.{Step}
use Rattle.sc_terms.specs.declared.steps.Step.TheVariants as steps
use Rattle.sc_parts.specs.declared.setup.Setup.{Setup}
use Rattle.sc_state.specs.declared.queue.Queued.{Queued}
use Rattle.sc_state.specs.declared.queue.Queued.TheVariants as queued
use Rattle.sc_state.specs.declared.queue.Waiting.{Waiting}
use Rattle.sc_state.specs.declared.session.Session.{Session}
use Rattle.sc_hosts.specs.Histories.{History, session_of}
use Rattle.sc_model.specs.Settings.{charters_of}
use Rattle.sc_hosts.specs.Preparing.{prepared_session}
use Rattle.sc_hosts.specs.Runs.{AllowedBy}
use Rattle.sc_hosts.specs.Sessions.{Turn}
use Rattle.sc_hosts.specs.Transacting.{is_same_app}
use Rattle.sc_hosts.specs.Scripting.{is_refused}
use Rattle.sc_lasting.specs.Lasting.{All}
use Rattle.sc_walks.specs.Walks.{IsLate}

-- a turn as a journal tells it: the number of its event, its moment, and what the application did
pub record Told : Type 0 where
  pub event : ℕ
  pub now : ℕ
  pub calls : List CallRecord
  pub end : End

-- the turn as a journal tells it
abbrev pub told_of : Turn → Told
told_of turn =
    record { event = turn.waiting.number; now = turn.now; calls = turn.calls; end = turn.end }

-- the turn that a step tells of a session, if it is one
unfoldable pub told_by : AppId → Step → List Told
told_by app (steps.Turn end other event now calls) =
    if is_same_app app other then record { event = event; now = now; calls = calls; end = end } ∷ []
    else []
told_by app step = []

-- the turns that a journal tells of a session
unfoldable pub turns_in : AppId → List Step → List Told
turns_in app [] = []
turns_in app (step ∷ later) = told_by app step ++ turns_in app later

-- those of a history, the oldest first
unfoldable pub told_turns : List Turn → List Told
told_turns [] = []
told_turns (turn ∷ earlier) =
    told_turns earlier ++ told_of turn ∷ []

-- their events
unfoldable pub turned_events : List Turn → List Waiting
turned_events [] = []
turned_events (turn ∷ earlier) = turned_events earlier ++ turn.waiting ∷ []

-- the event brings the request that began the session
unfoldable pub Begins : Request → Queued → Type 0
Begins began (queued.Initial region subscriber popped request) = request ≡ began
Begins began event = ⊥

-- each event is one that comes after the first of a session
unfoldable pub AreLate : List Waiting → Type 0
AreLate [] = Unit {0}
AreLate (waiting ∷ later) = IsLate waiting.event × AreLate later

-- the first event brings the request that began the session, and no later one is an initial one
unfoldable pub AreOfOne : Request → List Waiting → Type 0
AreOfOne began [] = ⊥
AreOfOne began (first ∷ later) = Begins began first.event × AreLate later

-- the application may take this turn at what the session was
abbrev pub MayTake : Setup → AppId → History → Turn → Type 0
MayTake setup app history turn =
    ∥ AllowedBy (charters_of setup app.host)
    (prepared_session setup.config turn.ringing (session_of setup.config history) turn.waiting
    turn.now)
    turn.calls turn.end ∥₁

-- it might take each of these, the newest first
unfoldable pub AreTaken : Setup → AppId → History → List Turn → Type 0
AreTaken setup app history [] = Unit {0}
AreTaken setup app history (turn ∷ earlier) =
    MayTake setup app (record history { turns = earlier }) turn × AreTaken setup app history earlier

-- the history of this session: its turns are these, each one that its application might take, and
-- the events that they took are, with those that wait, of one beginning
pub record IsLived (setup : Setup) (app : AppId) (given : List Told) (history : History)
    (inbox : List Waiting) : Type 0 where
  pub app_is : history.app ≡ app
  pub turns_are : told_turns history.turns ≡ given
  pub taken : AreTaken setup app history history.turns
  pub events_are : AreOfOne history.request (turned_events history.turns ++ inbox)

-- what the session is comes of such a history
pub record HasLived (setup : Setup) (app : AppId) (given : List Told) (session : Session)
    (inbox : List Waiting) : Type 0 where
  pub history : History
  pub is : session ≡ session_of setup.config history
  pub lived : IsLived setup app given history inbox

-- the history is what it was, with more turns, which are these
pub record IsMoreOf (first : History) (given : List Told) (history : History) : Type 0 where
  pub turns : List Turn
  pub is : history ≡ record first { turns = turns ++ first.turns }
  pub turns_are : told_turns turns ≡ given

-- what two sessions are comes of two such histories
pub record HasMore (setup : Setup) (first : Session) (given : List Told)
    (session : Session) : Type 0 where
  pub before : History
  pub history : History
  pub was : first ≡ session_of setup.config before
  pub is : session ≡ session_of setup.config history
  pub more : IsMoreOf before given history

-- each call of these turns that wasn't refused is of this kind
abbrev pub AreAccepted : (Call → Type 0) → List Told → Type 0
AreAccepted Does given =
    All
    (λ (turn : Told).
    All (λ (made : CallRecord). is_refused made.answer ≡ false → Does made.call) turn.calls)
    given
