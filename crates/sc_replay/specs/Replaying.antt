-- What `replay` promises: when each status comes, and what the journal and the sink then hold. This
-- project's own.
use Rattle.std.specs.Prelude.{◌≡◌, ℕ, ◌⊎◌, List, [], ◌∷◌, Option, None, Some, Ok, Err, codes, map, get_or}
use Rattle.sc_terms.specs.declared.settings.Config.{Config}
use Rattle.sc_terms.specs.declared.settings.Dar.{Dar}
use Rattle.sc_terms.specs.declared.steps.Line.{Line}
use Rattle.sc_terms.specs.declared.steps.Step.{Step}
use Rattle.sc_parts.specs.declared.setup.Setup.{Setup}
use Rattle.sc_tokens.specs.Bytes.{Bytes}
use Rattle.sc_config.specs.ReadSettings.{settings_of}
use Rattle.sc_dar.specs.Tables.{table_of}
use Rattle.sc_journal.specs.Kept.{Kept}
use Rattle.sc_edge.specs.Shelving.{GivesAll}
use Rattle.sc_edge.specs.Taking.{Takes, TakesPart}
use Rattle.sc_hosts.specs.Histories.{as_session}
use Rattle.sc_hosts.specs.Runs.{IsLawful}
use Rattle.sc_moments.specs.Moments.{ticks_of, ticks_in}
use Rattle.sc_runs.specs.Following.{Follows, Upto}
use Rattle.sc_runs.specs.Outputs.{journal_records, output}
use Rattle.sc_script.specs.ScriptTexts.{script_of}
use Rattle.sc_model.specs.Settings.{Charters}
use Rattle.sc_switch.specs.declared.ran.Status.{Status}
use Rattle.sc_switch.specs.declared.ran.Status.TheVariants as statuses
use Rattle.sc_follow.specs.Leading.{IsDueWithoutRoom}

-- ## The words

-- the name of the command
unfoldable pub replay_word : Bytes
replay_word = codes "replay"

-- the words are `replay CONFIG DAR SCRIPT`
pub record IsReplay (words : List Bytes) : Type 0 where
  pub config : Bytes
  pub dar : Bytes
  pub script : Bytes
  pub words_are : words ≡ replay_word ∷ config ∷ dar ∷ script ∷ []

-- what the shelf tells of the three texts
pub record Told : Type 0 where
  pub config : Option Bytes
  pub dar : Option Bytes
  pub script : Option Bytes

-- what it tells under the names that the words give
abbrev pub told_by : (Bytes → Option Bytes) → List Bytes → Told
told_by holds words =
    record {
      config = holds (get_or words 1 []);
      dar = holds (get_or words 2 []);
      script = holds (get_or words 3 []);
    }

-- ## What is accepted

-- the settings are those of a configuration, of the text that is told where one is; `names` are
-- those of the catalogue's kinds
pub record TellsConfig (names : List Bytes) (told : Option Bytes) (config : Config) : Type 0 where
  pub text : Bytes
  pub told_is : GivesAll text told
  pub config_is : settings_of text names ≡ Ok config

-- the table is that of a routing table's text, of the one that is told where one is; `names` are
-- those of the applications
pub record TellsTable (names : List Bytes) (told : Option Bytes) (dar : Dar) : Type 0 where
  pub text : Bytes
  pub told_is : GivesAll text told
  pub table_is : table_of text names ≡ Ok dar

-- the names of the applications, in order
abbrev pub app_names : Config → List Bytes
app_names config = map (λ app. app.name) config.app

-- the set-up of a run: the configuration, the table for its applications, and the catalogue's kinds
pub record TellsSetup (names : List Bytes) (kinds : List Charters) (told : Told)
    (setup : Setup) : Type 0 where
  pub config : TellsConfig names told.config setup.config
  pub table : TellsTable (app_names setup.config) told.dar setup.dar
  pub kinds_is : setup.kinds ≡ kinds

-- a configuration that is told has this first fault
unfoldable pub IsConfigFault : List Bytes → Option Bytes → ℕ → Bytes → Type 0
IsConfigFault names None kind key = Unit {0}
IsConfigFault names (Some text) kind key = settings_of text names ≡ Err (kind, key)

-- a routing table's text that is told has this first fault
unfoldable pub IsTableFault : List Bytes → Option Bytes → ℕ → ℕ → Type 0
IsTableFault names None line kind = Unit {0}
IsTableFault names (Some text) line kind =
    table_of text names ≡ Err (record { line = line; kind = kind })

-- the settings are accepted, and the table for their applications isn't
unfoldable pub IsTableRefused : List Bytes → Option Bytes → Option Bytes → ℕ → ℕ → Type 0
IsTableRefused names told_config told_dar line kind =
    (config : Config) × TellsConfig names told_config config
    × IsTableFault (app_names config) told_dar line kind

-- a script that is told has this first fault
unfoldable pub IsScriptFault : Option Bytes → ℕ → ℕ → Type 0
IsScriptFault None at kind = Unit {0}
IsScriptFault (Some text) at kind = script_of text ≡ Err (record { at = at; kind = kind })

-- the lines are those of a script, of the text that is told where one is
pub record TellsScript (told : Option Bytes) (lines : List Line) : Type 0 where
  pub text : Bytes
  pub told_is : GivesAll text told
  pub script_is : script_of text ≡ Ok lines

-- ## When each status comes

-- of a run with these settings: `read` and `write` say that the shelf's and the sink's count of
-- faults rose
unfoldable pub ComesIn : Setup → Option Bytes → Type 0 → Type 0 → Status → Type 0
ComesIn setup told read write statuses.Done = Unit {0}
ComesIn setup told read write statuses.Usage = ⊥
ComesIn setup told read write (statuses.Config kind key) = ⊥
ComesIn setup told read write (statuses.Dar line kind) = ⊥
ComesIn setup told read write statuses.JournalFull = Unit {0}
ComesIn setup told read write statuses.Edge = ⊥
ComesIn setup told read write statuses.NoMemory = Unit {0}
ComesIn setup told read write (statuses.Script at kind) = IsScriptFault told at kind
ComesIn setup told read write statuses.Read = read
ComesIn setup told read write statuses.Write = write

-- of a call whose settings were not accepted
unfoldable pub IsUnset : List Bytes → Option Bytes → Option Bytes → Type 0 → Status → Type 0
IsUnset names config dar read statuses.Done = ⊥
IsUnset names config dar read statuses.Usage = ⊥
IsUnset names config dar read (statuses.Config kind key) = IsConfigFault names config kind key
IsUnset names config dar read (statuses.Dar line kind) = IsTableRefused names config dar line kind
IsUnset names config dar read statuses.JournalFull = ⊥
IsUnset names config dar read statuses.Edge = ⊥
IsUnset names config dar read statuses.NoMemory = Unit {0}
IsUnset names config dar read (statuses.Script at kind) = ⊥
IsUnset names config dar read statuses.Read = read
IsUnset names config dar read statuses.Write = ⊥

-- ## What a run leaves

-- the journal follows the lines of the script, and has all their ticks
unfoldable pub Replays : Setup → Option Bytes → List Step → Type 0
Replays setup told journal =
    (lines : List Line) × TellsScript told lines × Follows as_session setup lines journal
    × (ticks_of journal ≡ ticks_in lines)

-- it follows them so far
unfoldable pub ReplaysPart : Setup → Option Bytes → List Step → Type 0
ReplaysPart setup told journal =
    (lines : List Line) × TellsScript told lines × Upto as_session setup lines journal

-- it follows them up to a step without room
unfoldable pub ReplaysFull : Setup → Option Bytes → List Step → Type 0
ReplaysFull setup told journal =
    (lines : List Line) × TellsScript told lines × Upto as_session setup lines journal
    × IsDueWithoutRoom setup lines journal

-- no step was taken, and the sink took nothing
unfoldable pub LeavesNothing : Option Bytes → Option Bytes → List Step → Type 0
LeavesNothing old new journal = (journal ≡ []) × (new ≡ old)

-- what is left at each status, in the journal and of the output in the sink: `old` and `new` are
-- what it took before and after
unfoldable pub Leaves : Setup → Option Bytes → Type 0 → Option Bytes → Option Bytes → Status
    → List Step → Type 0
Leaves setup told write old new statuses.Done journal =
    Replays setup told journal × Takes old new (output as_session setup journal)
Leaves setup told write old new statuses.Usage journal = ⊥
Leaves setup told write old new (statuses.Config kind key) journal = ⊥
Leaves setup told write old new (statuses.Dar line kind) journal = ⊥
Leaves setup told write old new statuses.JournalFull journal =
    ReplaysFull setup told journal
    × (Takes old new (journal_records as_session setup journal)
    ⊎ (write × TakesPart old new (journal_records as_session setup journal)))
Leaves setup told write old new statuses.Edge journal = ⊥
Leaves setup told write old new statuses.NoMemory journal =
    (ReplaysPart setup told journal × TakesPart old new (output as_session setup journal))
    ⊎ LeavesNothing old new journal
Leaves setup told write old new (statuses.Script at kind) journal = LeavesNothing old new journal
Leaves setup told write old new statuses.Read journal = LeavesNothing old new journal
Leaves setup told write old new statuses.Write journal =
    Replays setup told journal × TakesPart old new (output as_session setup journal)

-- ## How a call ends

-- with right words: the journal is there exactly where the settings were accepted, and it is that
-- of a run with them; else the sink took nothing. `old` and `new` are what it took before and after
unfoldable pub Ends : List Bytes → List Charters → Told → Type 0 → Type 0 → Option Bytes
    → Option Bytes → Status → Option (Kept Step) → Type 0
Ends names kinds told read write old new status None =
    IsUnset names told.config told.dar read status × (new ≡ old)
Ends names kinds told read write old new status (Some journal) =
    (setup : Setup)
    × TellsSetup names kinds told setup
    × ComesIn setup told.script read write status
    × IsLawful as_session setup 0 0 journal.items
    × Leaves setup told.script write old new status journal.items
