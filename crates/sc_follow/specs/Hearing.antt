-- What one message that is heard makes, and the beginnings of the steps of one line (RFC 3261
-- section 18.3).
use Rattle.std.specs.Prelude.{◌≡◌, ◌⊎◌, ◌<◌, ℕ, Bool, true, false, List, [], ◌∷◌, drop, length}
use Rattle.sc_value.specs.declared.ids.AppId.{AppId}
use Rattle.sc_value.specs.declared.ids.Place.{Place}
use Rattle.sc_value.specs.declared.message.Message.{Message}
use Rattle.sc_terms.specs.declared.steps.Bad.{Bad}
use Rattle.sc_terms.specs.declared.steps.Step.{Step}
use Rattle.sc_terms.specs.declared.steps.Step.TheVariants as steps
use Rattle.sc_syntax.specs.declared.front.Front.TheVariants.{Whole}
use Rattle.sc_tokens.specs.Bytes.{Bytes}
use Rattle.sc_syntax.specs.Fronts.{behind_breaks}
use Rattle.sc_stream.specs.Frames.{front_behind}
use Rattle.sc_runs.specs.Following.{tick_to, withdrawal}
use Rattle.sc_runs.specs.Hearing.{Hears}
use Rattle.sc_switch.specs.Standing.{Known}
use Rattle.sc_follow.specs.Moving.{IsDone, TookStep}

-- a message was heard, or all that there is to hear
unfoldable pub HeardOne : Place → Bytes → Bytes → Known → Known → Bool → Type 0
HeardOne place before after old new true =
    (len : ℕ) × (message : Message) × (front_behind before ≡ Whole len message)
    × (after ≡ drop len (behind_breaks before)) × TookStep old new (steps.In place message)
    × (length old.journal < old.setup.config.journal_steps)
HeardOne place before after old new false = IsDone (λ made. Hears place before made after) old new

-- the steps of a text that is no message, or a beginning of them
unfoldable pub BadUpto : Place → Bad → List Step → Type 0
BadUpto place bad made =
    (made ≡ [])
    ⊎ ((made ≡ steps.Bad place bad ∷ []) ⊎ (made ≡ steps.Bad place bad ∷ steps.Lost place ∷ []))

-- the step of a tick, or none yet
unfoldable pub TicksUpto : ℕ → ℕ → List Step → Type 0
TicksUpto moment now made = (made ≡ []) ⊎ (made ≡ tick_to moment now)

-- the step of a session that is ended, or none yet
unfoldable pub WithdrawsUpto : AppId → Bool → List Step → Type 0
WithdrawsUpto app lives made = (made ≡ []) ⊎ (made ≡ withdrawal app lives)
