-- What a recorder's sink took. Recordings are this project's own.
use Rattle.std.specs.Prelude.{◌≡◌, ℕ, List, [], ◌++◌, take, Option, None, Some, Result, Ok, Err, ⊤}
use Rattle.std.specs.List.{flat_map}
use Rattle.sc_tokens.specs.Bytes.{Bytes}
use Rattle.sc_edge.specs.Taking.{Takes, TakesPart}
use Rattle.sc_edge.specs.Telling.{IsTold}
use Rattle.sc_edge.specs.declared.notice.Noted.{Noted}
use Rattle.sc_edge.specs.declared.notice.Noted.TheVariants as noted
use Rattle.sc_journal.specs.Kept.{Kept}
use Rattle.sc_recording.specs.StepTexts.{epoch_text, steps_text}
use Rattle.sc_terms.specs.declared.steps.Step.{Step}
use Rattle.sc_recorder.specs.declared.writing.Unrecorded.{Unrecorded}

-- where nothing had failed, the sink took all of the text, or something has failed and it took a
-- part from its front; after a failure it takes nothing
unfoldable pub Records : Option Unrecorded → Option Unrecorded → Option Bytes → Option Bytes → Bytes
    → Type 0
Records None None old new text = Takes old new text
Records None (Some cause) old new text = TakesPart old new text
Records (Some before) new_cause old new text = (new_cause ≡ Some before) × (new ≡ old)

-- the first failure is remembered
unfoldable pub cause_after : Option Unrecorded → Result ⊤ Unrecorded → Option Unrecorded
cause_after before (Ok put) = before
cause_after before (Err cause) = Some cause

-- the text of what a notice is told: the steps, and the end of an epoch; a count of steps and what
-- lives have none
unfoldable pub noted_text : Noted (Kept Step) → Bytes
noted_text (noted.Step count) = []
noted_text (noted.Part journal) = steps_text journal.items
noted_text (noted.Epoch number began journal) = steps_text journal.items ++ epoch_text number began
noted_text (noted.List listing) = []

-- the text of all that a notice was told
unfoldable pub told_text : List (Noted (Kept Step)) → Bytes
told_text items = flat_map noted_text items

-- a recorder: the notice and the sink that it has, what it was told, and the first failure
pub record Recording (N K : Type 0) : Type 0 where
  pub inner : N
  pub out : K
  pub told : List (Noted (Kept Step))
  pub cause : Option Unrecorded

-- of what the sink took, where it tells that: it is the text, or a part from its front where
-- something failed
unfoldable pub IsRecorded : Option Unrecorded → Option Bytes → Bytes → Type 0
IsRecorded None took text = IsTold took text
IsRecorded (Some cause) took text = (count : ℕ) × IsTold took (take count text)
