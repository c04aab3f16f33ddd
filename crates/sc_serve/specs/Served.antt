-- What `serve` promises: when each status comes, and what was heard, taken, put and told until
-- then. This project's own.
use Rattle.std.specs.Prelude.{◌≡◌, List, [], ◌∷◌, ◌++◌, Option, None, Some, true, codes, length}
use Rattle.std.specs.Option.{is_some}
use Rattle.sc_terms.specs.declared.steps.Step.{Step}
use Rattle.sc_parts.specs.declared.setup.Setup.{Setup}
use Rattle.sc_tokens.specs.Bytes.{Bytes}
use Rattle.sc_journal.specs.Kept.{Kept}
use Rattle.sc_model.specs.Settings.{Charters}
use Rattle.sc_edge.specs.Edges.{EdgeState}
use Rattle.sc_edge.specs.Faults.{Rose}
use Rattle.sc_hosts.specs.Histories.{as_session}
use Rattle.sc_hosts.specs.Runs.{AreLawful, Epoch}
use Rattle.sc_switch.specs.declared.ran.Ran.{Ran}
use Rattle.sc_switch.specs.declared.ran.Status.{Status}
use Rattle.sc_switch.specs.declared.ran.Status.TheVariants as statuses
use Rattle.sc_replay.specs.Replaying.{IsUnset, TellsConfig, TellsTable, app_names}
use Rattle.sc_replay.specs.Commands.{settled_names}
use Rattle.sc_runs.specs.Following.{Streams}
use Rattle.sc_outs.specs.Deeds.{Deed}
use Rattle.sc_outs.specs.Puts.{TookParts, TookWhole}
use Rattle.sc_courses.specs.Asking.{AreAlmostEven, AreEven, Asked, Given, Sources, TickedPart, later_moments, none_given, ticks_taken}
use Rattle.sc_courses.specs.Courses.{AreDeeds, Beginning, TellsEpochs, TellsListings, Told}
use Rattle.sc_courses.specs.Ordering.{Obeys, ObeysPart, beginning_point}
use Rattle.sc_courses.specs.Due.{IsDue}
use Rattle.sc_courses.specs.Endings.{AreInTime, HasToEnd}
use Rattle.sc_courses.specs.Marks.{Hearing, HearingPart}
use Rattle.sc_courses.specs.Reports.{TellsLast, TellsLengths, TellsSuch}
use Rattle.sc_courses.specs.Seconds.{HandsInTime}
use Rattle.sc_serve.specs.Closing.{Closes, ClosesAll, ClosesEach}
use Rattle.sc_serve.specs.Polls.{PollsOften}

-- CONFIG and DAR of `serve CONFIG DAR`, none of other words
abbrev pub served_names : List Bytes → Option (Bytes × Bytes)
served_names words = settled_names (codes "serve") words

-- the set-up of a run: the configuration, the table for its applications, and the catalogue's kinds
pub record IsSetUp (names : List Bytes) (kinds : List Charters) (configs dars : Option Bytes)
    (setup : Setup) : Type 0 where
  pub config : TellsConfig names configs setup.config
  pub table : TellsTable (app_names setup.config) dars setup.dar
  pub kinds_is : setup.kinds ≡ kinds

-- the words name texts of which this is the set-up
unfoldable pub IsAsked : Option (Bytes × Bytes) → List Bytes → List Charters
    → (Bytes → Option Bytes) → Setup → Type 0
IsAsked (Some asked) names kinds holds setup =
    IsSetUp names kinds (holds asked.0) (holds asked.1) setup
IsAsked None names kinds holds setup = ⊥

-- ## How a run ends

-- at `Done` all that came was heard, and all that is sent to a place that isn't gone was taken; at
-- `Edge` the edge counted a fault of its listener
unfoldable pub ComesAt : EdgeState → EdgeState → List Deed → Status → Type 0
ComesAt first now deeds statuses.Done =
    ((streams : Streams) × Hearing first.polled now.polled deeds streams)
    × TookWhole first now deeds
ComesAt first now deeds statuses.Usage = ⊥
ComesAt first now deeds (statuses.Config kind key) = ⊥
ComesAt first now deeds (statuses.Dar line kind) = ⊥
ComesAt first now deeds statuses.JournalFull = Unit {0}
ComesAt first now deeds statuses.Edge = Rose first.faults now.faults
ComesAt first now deeds statuses.NoMemory = Unit {0}
ComesAt first now deeds (statuses.Script at kind) = ⊥
ComesAt first now deeds statuses.Read = ⊥
ComesAt first now deeds statuses.Write = ⊥

-- the last epoch, of which so much was handed on
abbrev pub last_epoch : Ran → List Step → Kept Step → Epoch
last_epoch ran handed journal =
    record { number = ran.epoch; began = ran.began; journal = handed ++ journal.items }

-- what a run leaves: its epochs are lawful; the notice was told of all but the last, and what lived
-- at points on the way; the steps that were heard are a beginning of what the edge's answers make;
-- of what each step sends parts were taken, place by place; each moment of the clock that was later
-- than all before is a Tick step, and each order for a session that lived then is its withdrawal,
-- at `Done` the last ones too, and no other is; at `Done` the last listing that was told is of the
-- last step; each length of each epoch's journal was told once, in order; where steps are recorded,
-- each part that was handed on was taken within a second, and so was what is left (`seconds`); at
-- `JournalFull` a step is due that the journal has no room for; and each epoch ended where it had
-- to and no later, at `Done` the last one hasn't to; the clock and the orders were asked equally
-- often, but in the last round maybe the orders alone, at `Done` not so; and the edge was polled at
-- most once more than orders were asked for, and they at most 16 times for each poll and 15 times
-- besides; and, where the edge tells its answers and its closes, only places were closed that gave
-- a text which is no message or is too long, and at `Done` each of these was closed
-- (`closes_each`), as often as it gave one (`closes_all`)
pub record Leaves (from : Beginning) (now : EdgeState) (told : Told) (ran : Ran)
    (journal : Kept Step) : Type 0 where
  pub ended : List Epoch
  pub handed : List Step
  pub deeds : List Deed
  pub tells : TellsEpochs from.told told (record { ended = ended; handed = handed })
  pub lawful : AreLawful as_session from.setup (ended ++ last_epoch ran handed journal ∷ [])
  pub deeds_are : AreDeeds from.setup (ended ++ last_epoch ran handed journal ∷ []) deeds
  pub heard : HearingPart from.edge.polled now.polled deeds
  pub took : TookParts from.edge now deeds
  pub comes : ComesAt from.edge now deeds ran.status
  pub ticks : TickedPart from.moments deeds
  pub ticked : ran.status ≡ statuses.Done → ticks_taken deeds ≡ later_moments 0 from.moments
  pub orders : ObeysPart from.setup beginning_point from.orders
      (record { ended = ended; running = last_epoch ran handed journal })
  pub ordered : ran.status ≡ statuses.Done
      → Obeys from.setup beginning_point from.orders
      (record { ended = ended; running = last_epoch ran handed journal })
  pub listings : TellsListings from.setup from.told told
      (record { ended = ended; running = last_epoch ran handed journal })
  pub listed : ran.status ≡ statuses.Done
      → TellsLast from.setup from.told told (ended ++ last_epoch ran handed journal ∷ [])
  pub lengths : TellsLengths from.told told ended (length (handed ++ journal.items))
  pub seconds : is_some from.setup.config.recording ≡ true
      → TellsSuch from.told told (HandsInTime journal.items)
  pub due : ran.status ≡ statuses.JournalFull
      → IsDue from.setup (last_epoch ran handed journal) journal.items
  pub in_time : AreInTime from.setup
      (record { ended = ended; running = last_epoch ran handed journal })
  pub asked : AreAlmostEven (record { moments = from.moments; orders = from.orders })
  pub asked_all : ran.status ≡ statuses.Done
      → AreEven (record { moments = from.moments; orders = from.orders })
  pub polled : PollsOften from.edge now (length from.orders)
  pub closes : Closes from.edge now []
  pub closes_all : ran.status ≡ statuses.Done
      → (streams : Streams) × ClosesAll from.edge now streams []
  pub closes_each : ran.status ≡ statuses.Done → ClosesEach from.edge now
  pub over : ran.status ≡ statuses.Done → HasToEnd from.setup (last_epoch ran handed journal) → ⊥

-- ## How a call ends

-- the journal is there exactly where the settings were accepted, and the run is one with them; else
-- the edge, the clock and the orders weren't asked and the notice was told nothing. `read` says
-- that the shelf's count of faults rose
unfoldable pub Serves : List Bytes → List Charters → Option Bytes → Option Bytes → Type 0
    → EdgeState → EdgeState → Told → Told → Sources → Sources → Ran → Option (Kept Step) → Type 0
Serves names kinds configs dars read first now told told2 sources sources2 ran None =
    IsUnset names configs dars read ran.status × (now ≡ first) × (told2 ≡ told)
    × Asked sources sources2 none_given
Serves names kinds configs dars read first now told told2 sources sources2 ran (Some journal) =
    (setup : Setup) × IsSetUp names kinds configs dars setup
    × (given : Given) × Asked sources sources2 given
    × Leaves
    (record {
      setup = setup;
      told = told;
      edge = first;
      moments = given.moments;
      orders = given.orders;
    }) now told2 ran journal

-- how the call ends for these words
unfoldable pub ServesWords : Option (Bytes × Bytes) → List Bytes → List Charters
    → (Bytes → Option Bytes) → Type 0 → EdgeState → EdgeState → Told → Told → Sources → Sources
    → Ran → Type 0
ServesWords (Some asked) names kinds holds read first now told told2 sources sources2 ran =
    Serves names kinds (holds asked.0) (holds asked.1) read first now told told2 sources sources2
    ran ran.journal
ServesWords None names kinds holds read first now told told2 sources sources2 ran =
    (ran.status ≡ statuses.Usage) × (ran.journal ≡ None) × (now ≡ first) × (told2 ≡ told)
    × Asked sources sources2 none_given
