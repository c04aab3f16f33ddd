-- A run that is recorded, and what its recording has. Recordings are this project's own.
use Rattle.std.specs.Prelude.{◌≡◌, List, [], ◌++◌, Option, None, Some}
use Rattle.sc_edge.specs.declared.notice.Noted.{Noted}
use Rattle.sc_tokens.specs.Bytes.{Bytes}
use Rattle.sc_journal.specs.Kept.{Kept}
use Rattle.sc_terms.specs.declared.steps.Step.{Step}
use Rattle.sc_courses.specs.Courses.{TellsEpochs, Told}
use Rattle.sc_hosts.specs.Runs.{Epoch}
use Rattle.sc_play.specs.Played.{ended_text}
use Rattle.sc_recorder.specs.Recorded.{IsRecorded}
use Rattle.sc_recorder.specs.declared.writing.Unrecorded.{Unrecorded}
use Rattle.sc_recorder.specs.declared.writing.Unrecorded.TheVariants as unrecorded
use Rattle.sc_recording.specs.StepTexts.{steps_text}
use Rattle.sc_switch.specs.declared.ran.Ran.{Ran}
use Rattle.sc_switch.specs.declared.ran.Status.{Status}
use Rattle.sc_switch.specs.declared.ran.Status.TheVariants as statuses

-- the text of the steps that a journal has, where there is one
unfoldable pub kept_text : Option (Kept Step) → Bytes
kept_text None = []
kept_text (Some journal) = steps_text journal.items

-- the status of a run whose recording failed so, or didn't
unfoldable pub status_after : Option Unrecorded → Status → Status
status_after None status = status
status_after (Some unrecorded.Failed) status = statuses.Write
status_after (Some unrecorded.NoMemory) status = statuses.NoMemory

-- of what the sink took, where it tells that: it is the recording of the run whose notice was told
-- this and whose journal has this left: of the epochs that ended, and of the steps of the last one;
-- or a part from its front where something failed
unfoldable pub IsRecordingOf : Option Unrecorded → Option Bytes → Told → Option (Kept Step) → Type 0
IsRecordingOf cause took told journal =
    (ended : List Epoch) (handed : List Step)
    → TellsEpochs (Some []) told (record { ended = ended; handed = handed })
    → IsRecorded cause took (ended_text ended ++ (steps_text handed ++ kept_text journal))

-- there was a run as is served, whose notice was told all from the beginning, and the sink took its
-- recording
pub record IsTaped (serves : Told → Ran → Type 0) (status : Status)
    (took : Option Bytes) : Type 0 where
  pub told : List (Noted (Kept Step))
  pub ran : Ran
  pub served : serves (Some told) ran
  pub cause : Option Unrecorded
  pub status_is : status ≡ status_after cause ran.status
  pub recording : IsRecordingOf cause took (Some told) ran.journal
