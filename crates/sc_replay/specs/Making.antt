-- What `make` promises. This project's own.
use Rattle.std.specs.Prelude.{◌≡◌, ℕ, Option, Some, None, List, codes}
use Rattle.sc_tokens.specs.Bytes.{Bytes}
use Rattle.sc_model.specs.Generated.{generated_text}
use Rattle.sc_switch.specs.declared.ran.Status.{Status}
use Rattle.sc_switch.specs.declared.ran.Status.TheVariants as statuses
use Rattle.sc_replay.specs.Commands.{count_after_name}
use Rattle.sc_replay.specs.Putting.{IsPut}

-- the N of `make N`, none of other words
abbrev pub made_count : List Bytes → Option ℕ
made_count words = count_after_name (codes "make") words

-- how it ends, and what the sink then took
unfoldable pub Makes : Option ℕ → Type 0 → Option Bytes → Option Bytes → Status → Type 0
Makes (Some n) write old new status = IsPut write old new (generated_text n) status
Makes None write old new status = (status ≡ statuses.Usage) × (new ≡ old)
