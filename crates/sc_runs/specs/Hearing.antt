-- What the bytes that come from a place make: a step of each message of its stream (RFC 3261
-- section 18.3). Text that is no message is a step of its own, and the place is then lost; so it is
-- where a message is too long. What of the bytes stands behind that is dropped.
use Rattle.std.specs.Prelude.{◌≡◌, ℕ, List, [], ◌∷◌, drop}
use Rattle.sc_value.specs.declared.ids.Place.{Place}
use Rattle.sc_terms.specs.declared.steps.Bad.{Bad}
use Rattle.sc_terms.specs.declared.steps.Step.{Step}
use Rattle.sc_terms.specs.declared.steps.Step.TheVariants as steps
use Rattle.sc_syntax.specs.declared.front.Front.TheVariants as fronts
use Rattle.sc_tokens.specs.Bytes.{Bytes}
use Rattle.sc_syntax.specs.Fronts.{behind_breaks}
use Rattle.sc_stream.specs.Frames.{front_behind}

-- the bytes begin with this text that is no message
unfoldable pub IsBad : Bytes → Bad → Type 0
IsBad bytes bad = front_behind bytes ≡ fronts.Bad bad.at bad.kind bad.heads

-- these bytes of a place's stream make these steps, and so many of them are kept
unfoldable pub Hears : Place → Bytes → List Step → Bytes → Type 0
Hears place bytes [] rest = (front_behind bytes ≡ fronts.Open) × (rest ≡ bytes)
Hears place bytes (steps.In from message ∷ later) rest =
    (len : ℕ) × (from ≡ place) × (front_behind bytes ≡ fronts.Whole len message)
    × Hears place (drop len (behind_breaks bytes)) later rest
Hears place bytes (steps.Bad from bad ∷ steps.Lost at ∷ []) rest =
    (from ≡ place) × (at ≡ place) × IsBad bytes bad × (rest ≡ [])
Hears place bytes (steps.Lost at ∷ []) rest =
    (at ≡ place) × (front_behind bytes ≡ fronts.Long) × (rest ≡ [])
Hears place bytes steps rest = ⊥

-- the steps are a beginning of those
unfoldable pub HearsPart : Place → Bytes → List Step → Type 0
HearsPart place bytes [] = Unit {0}
HearsPart place bytes (steps.In from message ∷ later) =
    (len : ℕ) × (from ≡ place) × (front_behind bytes ≡ fronts.Whole len message)
    × HearsPart place (drop len (behind_breaks bytes)) later
HearsPart place bytes (steps.Bad from bad ∷ []) = (from ≡ place) × IsBad bytes bad
HearsPart place bytes steps = ⊥
