-- A server between its rounds, and where they end. This project's own.
use Rattle.std.specs.Prelude.{◌≡◌, ◌≤◌, ◌+◌, ◌*◌, ◌⊎◌, ℕ, List, [], Option, None, Some, length}
use Rattle.std.specs.Option.{is_some}
use Rattle.sc_journal.specs.Kept.{Kept}
use Rattle.sc_terms.specs.declared.steps.Step.{Step}
use Rattle.sc_parts.specs.declared.setup.Setup.{Setup}
use Rattle.sc_model.specs.Settings.{IsSetup}
use Rattle.sc_switch.specs.Standing.{Known}
use Rattle.sc_switch.specs.declared.ran.Ran.{Ran}
use Rattle.sc_switch.specs.declared.ran.Status.{Status}
use Rattle.sc_switch.specs.declared.ran.Status.TheVariants as statuses
use Rattle.sc_edge.specs.Edges.{EdgeState}
use Rattle.sc_edge.specs.Faults.{Rose, one_more}
use Rattle.sc_courses.specs.Asking.{AreAlmostEven, AreAnswers, AreEven, Asked, Given, Sources}
use Rattle.sc_courses.specs.Courses.{Beginning, Told, after}
use Rattle.sc_courses.specs.Due.{IsDue}
use Rattle.sc_courses.specs.Endings.{HasToEnd}
use Rattle.sc_outs.specs.Owing.{left_at, nothing}
use Rattle.sc_value.specs.declared.ids.Place.{Place}
use Rattle.sc_serve.specs.declared.server.Server.{Server}
use Rattle.sc_serve.specs.declared.stop.Stop.{Stop}
use Rattle.sc_serve.specs.declared.stop.Stop.TheVariants as stops
use Rattle.sc_rounds.specs.Moving.{EndedAfter}
use Rattle.sc_rounds.specs.Serving.{Ended, Serves, running}
use Rattle.sc_streams.specs.Streaming.{bytes_of}
use Rattle.sc_serve.specs.Closing.{Closes, ClosesAll}
use Rattle.sc_serve.specs.Polls.{counted_on}
use Rattle.sc_serve.specs.Served.{Leaves}

-- it stands between two rounds, and closed only places that were given up, and each of them but for
-- those that it remembers
pub record Holds (from : Beginning) (edge : EdgeState) (told : Told) (server : Server)
    : Type 0 where
  pub serves : Serves from edge told server.core server.streams
  pub closes : Closes from.edge edge server.broken
  pub closes_all : ClosesAll from.edge edge (bytes_of server.streams) server.broken

-- the run ended, and it closed only such places
pub record Halted (from : Beginning) (edge : EdgeState) (told : Told) (known : Known) : Type 0 where
  pub ended : Ended from edge told known
  pub closes : Closes from.edge edge []

-- the same, once the clock and the orders answered so
pub record HaltedAfter (from : Beginning) (given : Given) (edge : EdgeState) (told : Told)
    (known : Known) : Type 0 where
  pub ended : EndedAfter from given edge told known
  pub closes : Closes from.edge edge []

-- it stands between two rounds as before
unfoldable pub Goes : Server → Server → EdgeState → EdgeState → Told → Told → Type 0
Goes old new edge edge2 told told2 =
    (from : Beginning) → Holds from edge told old → Holds from edge2 told2 new

-- the run ended
unfoldable pub Halts : Server → Server → EdgeState → EdgeState → Told → Told → Type 0
Halts old new edge edge2 told told2 =
    (from : Beginning) → Holds from edge told old → Halted from edge2 told2 new.core.switch

-- a fault of the listener was counted where the cause is one
unfoldable pub Blames : EdgeState → EdgeState → Stop → Type 0
Blames edge edge2 stops.JournalFull = Unit {0}
Blames edge edge2 stops.Edge = Rose edge.faults edge2.faults
Blames edge edge2 stops.NoMemory = Unit {0}

-- for want of room a step is due there, under right settings
unfoldable pub IsDueAt : Known → Stop → Type 0
IsDueAt known stops.JournalFull =
    IsSetup known.setup → IsDue known.setup (running known) known.journal
IsDueAt known stops.Edge = Unit {0}
IsDueAt known stops.NoMemory = Unit {0}

-- ## Polls

-- the edge was polled once, or it wasn't, as in no more than 15 rounds before
abbrev pub Hears : Server → Server → EdgeState → EdgeState → Type 0
Hears old new edge edge2 =
    ((new.unpolled ≡ 0) × (edge2.polls ≡ one_more edge.polls))
    ⊎ ((new.unpolled ≡ old.unpolled + 1) × (new.unpolled ≤ 15) × (edge2.polls ≡ edge.polls))

-- no poll was made, and none is owed
pub record IsUnheard (old new : Server) (edge edge2 : EdgeState) : Type 0 where
  pub unpolled : new.unpolled ≡ old.unpolled
  pub polls : edge2.polls ≡ edge.polls

-- in so many rounds the edge was polled once each at most, and each round without a poll is one of
-- 15 in a row at most
pub record PollsOn (old new : Server) (edge edge2 : EdgeState) (rounds : ℕ) : Type 0 where
  pub polls : ℕ
  pub counted : edge2.polls ≡ counted_on edge.polls polls
  pub most : polls ≤ rounds
  pub least : old.unpolled ≤ 15 → rounds + old.unpolled ≤ 16 * polls + new.unpolled
  pub bound : old.unpolled ≤ 15 → new.unpolled ≤ 15

-- the same of rounds of which the last one may have had a poll alone
pub record PollsPart (old : Server) (edge edge2 : EdgeState) (rounds : ℕ) : Type 0 where
  pub polls : ℕ
  pub counted : edge2.polls ≡ counted_on edge.polls polls
  pub most : polls ≤ rounds + 1
  pub least : old.unpolled ≤ 15 → rounds + old.unpolled ≤ 16 * polls + 15

-- ## Once the clock and the orders were asked

-- it stands as before, once both were asked
unfoldable pub Works : Server → Server → EdgeState → Told → Told → Sources → Sources → Type 0
Works old new edge told told2 sources sources2 =
    (given : Given) × AreAnswers 1 1 given × Asked sources sources2 given
    × ((from : Beginning) → Holds from edge told old → Holds (after from given) edge told2 new)

-- the run ended, where orders were asked for
unfoldable pub WorksPart : Server → Server → EdgeState → Told → Told → Sources → Sources → Type 0
WorksPart old new edge told told2 sources sources2 =
    (given : Given) × (length given.orders ≡ 1) × AreAlmostEven given × Asked sources sources2 given
    × ((from : Beginning) → Holds from edge told old
    → HaltedAfter from given edge told2 new.core.switch)

-- it stands between two rounds as before, and in each round both were asked once, and the edge was
-- polled once at most
unfoldable pub GoesOn : Server → Server → EdgeState → EdgeState → Told → Told → Sources → Sources
    → Type 0
GoesOn old new edge edge2 told told2 sources sources2 =
    (given : Given) × (AreEven given × PollsOn old new edge edge2 (length given.orders))
    × Asked sources sources2 given
    × ((from : Beginning) → Holds from edge told old → Holds (after from given) edge2 told2 new)

-- the run ended, where it had obeyed the orders, but maybe for the last one
unfoldable pub HaltsOn : Server → Server → EdgeState → EdgeState → Told → Told → Sources → Sources
    → Type 0
HaltsOn old new edge edge2 told told2 sources sources2 =
    (given : Given) × (AreAlmostEven given × PollsPart old edge edge2 (length given.orders))
    × Asked sources sources2 given
    × ((from : Beginning) → Holds from edge told old
    → HaltedAfter from given edge2 told2 new.core.switch)

-- where it stood so, the epoch that runs now hasn't to end
abbrev pub IsOver : Server → Server → EdgeState → Told → Type 0
IsOver old new edge told =
    (from : Beginning) → Holds from edge told old
    → HasToEnd from.setup (running new.core.switch) → ⊥

-- it stands behind its last round, with nothing left to be put and no place to be closed, the
-- notice was told what lived behind the last step, and the epoch hasn't to end
unfoldable pub FinishesOn : Server → Server → EdgeState → EdgeState → Told → Told → Sources
    → Sources → Type 0
FinishesOn old new edge edge2 told told2 sources sources2 =
    GoesOn old new edge edge2 told told2 sources sources2
    × ((place : Place) → left_at new.core.outs place ≡ []) × (new.broken ≡ [])
    × (new.core.unlisted ≡ 0) × IsOver old new edge told

-- a switch that took no step
abbrev pub fresh : Setup → Known
fresh setup =
    record {
      setup = setup;
      epoch = 0;
      began = 0;
      handed = [];
      journal = [];
      left = [];
      kept = [];
      leases = 0;
    }

-- a server that took no step
pub record IsNew (server : Server) : Type 0 where
  pub switch : server.core.switch ≡ fresh server.core.switch.setup
  pub as_set : server.core.turning.epoch_steps ≡ server.core.switch.setup.config.epoch_steps
  pub recording : server.core.turning.recording
      ≡ is_some server.core.switch.setup.config.recording
  pub outs : server.core.outs ≡ nothing
  pub handed : server.core.handed ≡ 0
  pub unlisted : server.core.unlisted ≡ 0
  pub streams : server.streams ≡ []
  pub broken : server.broken ≡ []
  pub unpolled : server.unpolled ≡ 0

-- the status of a run that couldn't go on
abbrev pub status_of_stop : Stop → Status
status_of_stop stops.JournalFull = statuses.JournalFull
status_of_stop stops.Edge = statuses.Edge
status_of_stop stops.NoMemory = statuses.NoMemory

-- the journal is there, with these items
unfoldable pub HasItems : Option (Kept Step) → List Step → Type 0
HasItems None items = ⊥
HasItems (Some journal) items = journal.items ≡ items

-- a run has its journal
pub record IsServed (from : Beginning) (now : EdgeState) (told : Told) (ran : Ran) : Type 0 where
  pub journal : Kept Step
  pub journal_is : ran.journal ≡ Some journal
  pub leaves : Leaves from now told ran journal
