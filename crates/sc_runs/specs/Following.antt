-- Which journals follow the lines of a script. This project's own.
use Rattle.std.specs.Prelude.{◌≡◌, ◌⊎◌, ℕ, List, [], ◌∷◌, ◌++◌, Bool, Option, None, Some, option_map, is_some, slice_get, if◌then◌else◌, ◌&&◌, nat_le}
use Rattle.std.specs.Option.{option_and_then}
use Rattle.sc_value.specs.declared.ids.AppId.{AppId}
use Rattle.sc_value.specs.declared.ids.Place.{Place}
use Rattle.sc_terms.specs.declared.calls.CallRecord.{CallRecord}
use Rattle.sc_terms.specs.declared.calls.End.{End}
use Rattle.sc_terms.specs.declared.steps.Line.{Line}
use Rattle.sc_terms.specs.declared.steps.Line.TheVariants as lines
use Rattle.sc_terms.specs.declared.steps.Step.{Step}
use Rattle.sc_terms.specs.declared.steps.Step.TheVariants as steps
use Rattle.sc_parts.specs.declared.setup.Setup.{Setup}
use Rattle.sc_state.specs.declared.host.Live.{Live}
use Rattle.sc_state.specs.declared.net.Net.{Net}
use Rattle.sc_tokens.specs.Bytes.{Bytes}
use Rattle.sc_hosts.specs.Runs.{after_step, chained_from, start}
use Rattle.sc_hosts.specs.Sessions.{Form}
use Rattle.sc_hosts.specs.Steps.{live_at}
use Rattle.sc_value.specs.Places.{same_place}
use Rattle.sc_runs.specs.Hearing.{Hears, HearsPart}
use Rattle.sc_runs.specs.Next.{next_event}

-- ## Turns

-- the number of the first event that waits for a session
unfoldable pub first_number : {S : Type 0} → Option (Live S) → Option ℕ
first_number live =
    option_map (λ waiting. waiting.number) (option_and_then (λ live. slice_get live.inbox 0) live)

-- one turn of this event at this moment; none where there is no event
unfoldable pub IsTurnOf : AppId → ℕ → Option ℕ → List Step → Type 0
IsTurnOf app now None taken = taken ≡ []
IsTurnOf app now (Some event) taken =
    (calls : List CallRecord) × (end : End) × (taken ≡ steps.Turn end app event now calls ∷ [])

-- the steps are turns, each of the lowest event that waits, at the last moment
unfoldable pub IsPartRun : {S : Type 0} → Form S → Setup → Net S → List Step → Type 0
IsPartRun form setup net [] = Unit {0}
IsPartRun form setup net (steps.Turn end app event now calls ∷ later) =
    (next_event net ≡ Some (record { app = app; number = event })) × (now ≡ net.moment)
    × IsPartRun form setup (after_step form setup net (steps.Turn end app event now calls)) later
IsPartRun form setup net (step ∷ later) = ⊥

-- and none waits after the last
unfoldable pub IsWholeRun : {S : Type 0} → Form S → Setup → Net S → List Step → Type 0
IsWholeRun form setup net turns =
    IsPartRun form setup net turns × (next_event (chained_from form setup net turns) ≡ None)

-- ## A line

-- what is kept of each place's stream, until its next message is whole
abbrev pub Streams : Type 0
Streams = Place → Bytes

-- nothing is kept of any place
abbrev pub no_bytes : Streams
no_bytes place = []

-- these bytes are kept of the place, and of the others as before
unfoldable pub IsKept : Streams → Place → Bytes → Streams → Type 0
IsKept before place bytes after =
    (other : Place) → after other ≡ (if same_place other place then bytes else before other)

-- an application session is ended where it lives
unfoldable pub withdrawal : AppId → Bool → List Step
withdrawal app lives = if lives then steps.Withdraw app ∷ [] else []

-- so late may a moment be
abbrev pub MOST_MOMENT : ℕ
MOST_MOMENT = 9223372036854775808

-- the clock reaches a moment that isn't below the last one; the ticks of a script that is read rise
unfoldable pub tick_to : ℕ → ℕ → List Step
tick_to moment now = if nat_le moment now && nat_le now MOST_MOMENT then steps.Tick now ∷ [] else []

-- the line makes these steps, and this is then kept of the streams
unfoldable pub Does : {S : Type 0} → Form S → Setup → Net S → Streams → Line → List Step → Streams
    → Type 0
Does form setup net kept (lines.In place text) taken after =
    (rest : Bytes) × Hears place (kept place ++ text) taken rest × IsKept kept place rest after
Does form setup net kept (lines.Turn app) taken after =
    IsTurnOf app net.moment (first_number (live_at app net)) taken × (after ≡ kept)
Does form setup net kept lines.Run taken after = IsWholeRun form setup net taken × (after ≡ kept)
Does form setup net kept (lines.Tick now) taken after =
    (taken ≡ tick_to net.moment now) × (after ≡ kept)
Does form setup net kept (lines.Lost place) taken after =
    (taken ≡ steps.Lost place ∷ []) × IsKept kept place [] after
Does form setup net kept (lines.Drop app) taken after =
    (taken ≡ withdrawal app (is_some (live_at app net))) × (after ≡ kept)
Does form setup net kept lines.End taken after = (taken ≡ []) × (after ≡ kept)

-- the steps are a beginning of those that the line makes
unfoldable pub DoesPart : {S : Type 0} → Form S → Setup → Net S → Streams → Line → List Step
    → Type 0
DoesPart form setup net kept (lines.In place text) taken =
    HearsPart place (kept place ++ text) taken
DoesPart form setup net kept lines.Run taken = IsPartRun form setup net taken
DoesPart form setup net kept line taken = taken ≡ []

-- ## All lines

-- the steps are, line by line, what these lines say, from this net on and with this kept of the
-- streams
unfoldable pub FollowsFrom : {S : Type 0} → Form S → Setup → Net S → Streams → List Line → List Step
    → Type 0
FollowsFrom form setup net kept [] taken = taken ≡ []
FollowsFrom form setup net kept (line ∷ later) taken =
    (made : List Step) × (rest : List Step) × (after : Streams)
    × (taken ≡ made ++ rest) × Does form setup net kept line made after
    × FollowsFrom form setup (chained_from form setup net made) after later rest

-- the steps are a beginning of that
unfoldable pub UptoFrom : {S : Type 0} → Form S → Setup → Net S → Streams → List Line → List Step
    → Type 0
UptoFrom form setup net kept [] taken = taken ≡ []
UptoFrom form setup net kept (line ∷ later) taken =
    DoesPart form setup net kept line taken
    ⊎ ((made : List Step) × (rest : List Step) × (after : Streams)
    × (taken ≡ made ++ rest) × Does form setup net kept line made after
    × UptoFrom form setup (chained_from form setup net made) after later rest)

-- a journal of epoch 0, begun at 0, is line by line what a script says
unfoldable pub Follows : {S : Type 0} → Form S → Setup → List Line → List Step → Type 0
Follows form setup lines journal = FollowsFrom form setup (start setup 0 0) no_bytes lines journal

-- it is a beginning of that
unfoldable pub Upto : {S : Type 0} → Form S → Setup → List Line → List Step → Type 0
Upto form setup lines journal = UptoFrom form setup (start setup 0 0) no_bytes lines journal
