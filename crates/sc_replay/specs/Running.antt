-- What the parts of `replay` answer. This project's own.
use Rattle.std.specs.Prelude.{◌≡◌, ◌⊎◌, List, Option, Some}
use Rattle.sc_terms.specs.declared.steps.Line.{Line}
use Rattle.sc_terms.specs.declared.steps.Step.{Step}
use Rattle.sc_parts.specs.declared.setup.Setup.{Setup}
use Rattle.sc_tokens.specs.Bytes.{Bytes}
use Rattle.sc_journal.specs.Kept.{Kept}
use Rattle.sc_edge.specs.Taking.{Takes, TakesPart}
use Rattle.sc_hosts.specs.Histories.{as_session}
use Rattle.sc_hosts.specs.Runs.{IsLawful}
use Rattle.sc_runs.specs.Following.{Follows, Upto}
use Rattle.sc_runs.specs.Outputs.{journal_records, output}
use Rattle.sc_follow.specs.Leading.{IsDueWithoutRoom}
use Rattle.sc_switch.specs.declared.ran.Ran.{Ran}
use Rattle.sc_switch.specs.declared.ran.Status.{Status}
use Rattle.sc_switch.specs.declared.ran.Status.TheVariants as statuses
use Rattle.sc_replay.specs.declared.running.RunRefused.{RunRefused}
use Rattle.sc_replay.specs.declared.running.RunRefused.TheVariants as runs
use Rattle.sc_replay.specs.declared.reading.ScriptUnread.{ScriptUnread}
use Rattle.sc_replay.specs.declared.reading.ScriptUnread.TheVariants as unread
use Rattle.sc_replay.specs.Replaying.{IsScriptFault, IsConfigFault, IsTableFault, ComesIn, Leaves}

-- why the output isn't whole; `write` says that the sink's count of faults rose
unfoldable pub IsCutShort : Setup → List Line → Type 0 → Option Bytes → Option Bytes → List Step
    → RunRefused → Type 0
IsCutShort setup lines write old new journal runs.JournalFull =
    Upto as_session setup lines journal × IsDueWithoutRoom setup lines journal
    × (Takes old new (journal_records as_session setup journal)
    ⊎ (write × TakesPart old new (journal_records as_session setup journal)))
IsCutShort setup lines write old new journal runs.NoMemory =
    Upto as_session setup lines journal × TakesPart old new (output as_session setup journal)
IsCutShort setup lines write old new journal runs.Write =
    write × Follows as_session setup lines journal
    × TakesPart old new (output as_session setup journal)

-- why the bytes were not put to their end
unfoldable pub IsUnput : Type 0 → Option Bytes → Option Bytes → Bytes → RunRefused → Type 0
IsUnput write old new bytes runs.JournalFull = ⊥
IsUnput write old new bytes runs.NoMemory = TakesPart old new bytes
IsUnput write old new bytes runs.Write = write × TakesPart old new bytes

-- what was put of the records of a run that found no room in the journal
unfoldable pub IsPutWithoutEnd : Setup → Type 0 → Option Bytes → Option Bytes → List Step
    → RunRefused → Type 0
IsPutWithoutEnd setup write old new journal runs.JournalFull =
    Takes old new (journal_records as_session setup journal)
    ⊎ (write × TakesPart old new (journal_records as_session setup journal))
IsPutWithoutEnd setup write old new journal runs.NoMemory =
    TakesPart old new (output as_session setup journal)
IsPutWithoutEnd setup write old new journal runs.Write = ⊥

-- why there are no lines; `read` says that the shelf's count of faults rose
unfoldable pub IsUnread : Option Bytes → Type 0 → ScriptUnread → Type 0
IsUnread told read unread.Failed = read
IsUnread told read (unread.Refused at kind) = IsScriptFault told at kind
IsUnread told read unread.NoMemory = Unit {0}

-- why there are no settings
unfoldable pub IsConfigUnread : List Bytes → Option Bytes → Type 0 → Status → Type 0
IsConfigUnread names told read statuses.Done = ⊥
IsConfigUnread names told read statuses.Usage = ⊥
IsConfigUnread names told read (statuses.Config kind key) = IsConfigFault names told kind key
IsConfigUnread names told read (statuses.Dar line kind) = ⊥
IsConfigUnread names told read statuses.JournalFull = ⊥
IsConfigUnread names told read statuses.Edge = ⊥
IsConfigUnread names told read statuses.NoMemory = Unit {0}
IsConfigUnread names told read (statuses.Script at kind) = ⊥
IsConfigUnread names told read statuses.Read = read
IsConfigUnread names told read statuses.Write = ⊥

-- why there is no routing table
unfoldable pub IsTableUnread : List Bytes → Option Bytes → Type 0 → Status → Type 0
IsTableUnread names told read statuses.Done = ⊥
IsTableUnread names told read statuses.Usage = ⊥
IsTableUnread names told read (statuses.Config kind key) = ⊥
IsTableUnread names told read (statuses.Dar line kind) = IsTableFault names told line kind
IsTableUnread names told read statuses.JournalFull = ⊥
IsTableUnread names told read statuses.Edge = ⊥
IsTableUnread names told read statuses.NoMemory = Unit {0}
IsTableUnread names told read (statuses.Script at kind) = ⊥
IsTableUnread names told read statuses.Read = read
IsTableUnread names told read statuses.Write = ⊥

-- what a run on a switch with these settings answers
pub record IsRan (setup : Setup) (told : Option Bytes) (read write : Type 0)
    (old new : Option Bytes) (ran : Ran) : Type 0 where
  pub journal : Kept Step
  pub journal_is : ran.journal ≡ Some journal
  pub comes : ComesIn setup told read write ran.status
  pub lawful : IsLawful as_session setup 0 0 journal.items
  pub leaves : Leaves setup told write old new ran.status journal.items
