-- What `check` promises. This project's own.
use Rattle.std.specs.Prelude.{◌≡◌, ℕ, Option, Some, None, List, [], ◌∷◌, ◌++◌, length, sum_by, codes, decimal}
use Rattle.sc_terms.specs.declared.settings.Config.{Config}
use Rattle.sc_terms.specs.declared.settings.Dar.{Dar}
use Rattle.sc_terms.specs.declared.settings.MethodList.{MethodList}
use Rattle.sc_terms.specs.declared.steps.Step.{Step}
use Rattle.sc_tokens.specs.Bytes.{Bytes}
use Rattle.sc_journal.specs.Kept.{Kept}
use Rattle.sc_switch.specs.declared.ran.Ran.{Ran}
use Rattle.sc_switch.specs.declared.ran.Status.{Status}
use Rattle.sc_switch.specs.declared.ran.Status.TheVariants as statuses
use Rattle.sc_replay.specs.Replaying.{TellsConfig, TellsTable, IsUnset, app_names}
use Rattle.sc_replay.specs.Putting.{IsPut}
use Rattle.sc_replay.specs.Commands.{settled_names}
use Rattle.sc_tokens.specs.Signs.{line_feed}

-- CONFIG and DAR of `check CONFIG DAR`, none of other words
abbrev pub checked_names : List Bytes → Option (Bytes × Bytes)
checked_names words = settled_names (codes "check") words

-- the tuples of all methods
abbrev pub tuple_count : List MethodList → ℕ
tuple_count lists = sum_by (λ list. length list.tuples) lists

-- the front of the line that `check` writes
unfoldable pub ok_word : Bytes
ok_word = codes "ok "

-- `ok A T` and LF: the applications, and the tuples
unfoldable pub ok_line : ℕ → ℕ → Bytes
ok_line apps tuples = ok_word ++ decimal apps ++ codes " " ++ decimal tuples ++ line_feed ∷ []

-- ## How it ends

-- both were accepted, of what the shelf holds under their names, and the line was put
pub record IsAccepted (kinds : List Bytes) (configs dars : Option Bytes) (write : Type 0)
    (old new : Option Bytes) (status : Status) : Type 0 where
  pub config : Config
  pub dar : Dar
  pub config_is : TellsConfig kinds configs config
  pub table_is : TellsTable (app_names config) dars dar
  pub put : IsPut write old new (ok_line (length config.app) (tuple_count dar.lists)) status

-- the journal is there, and empty, exactly where both were accepted; else the sink took nothing
unfoldable pub Checks : List Bytes → Option Bytes → Option Bytes → Type 0 → Type 0 → Option Bytes
    → Option Bytes → Status → Option (Kept Step) → Type 0
Checks kinds configs dars read write old new status (Some journal) =
    (journal.items ≡ []) × IsAccepted kinds configs dars write old new status
Checks kinds configs dars read write old new status None =
    (new ≡ old) × IsUnset kinds configs dars read status

-- how the call ends for these words
unfoldable pub ChecksWords : Option (Bytes × Bytes) → List Bytes → (Bytes → Option Bytes) → Type 0
    → Type 0 → Option Bytes → Option Bytes → Ran → Type 0
ChecksWords (Some names) kinds holds read write old new ran =
    Checks kinds (holds names.0) (holds names.1) read write old new ran.status ran.journal
ChecksWords None kinds holds read write old new ran =
    (ran.status ≡ statuses.Usage) × (ran.journal ≡ None) × (new ≡ old)

-- ## Its parts

-- the journal is there, and it is empty
unfoldable pub HasNoSteps : Option (Kept Step) → Type 0
HasNoSteps None = ⊥
HasNoSteps (Some journal) = journal.items ≡ []
