-- What comes to an edge makes, one after the other: a step of each message of a place's stream, and
-- a loss of each place that gives nothing more or fails, at a poll or at a put (RFC 3261 section
-- 18.3; losses are this project's own).
use Rattle.std.specs.Prelude.{◌≡◌, ◌⊎◌, List, [], ◌∷◌, ◌++◌}
use Rattle.sc_value.specs.declared.ids.Place.{Place}
use Rattle.sc_terms.specs.declared.steps.Step.{Step}
use Rattle.sc_terms.specs.declared.steps.Step.TheVariants as steps
use Rattle.sc_edge.specs.declared.edge.Polled.{Polled}
use Rattle.sc_edge.specs.declared.edge.Polled.TheVariants as answers
use Rattle.sc_tokens.specs.Bytes.{Bytes}
use Rattle.sc_runs.specs.Following.{Streams, IsKept, no_bytes}
use Rattle.sc_runs.specs.Hearing.{Hears, HearsPart}

-- as much is kept of each place as before
unfoldable pub AllKept : Streams → Streams → Type 0
AllKept before after = (place : Place) → after place ≡ before place

-- the answer makes these steps, and this is then kept of the streams
unfoldable pub Makes : Streams → Polled → List Step → Streams → Type 0
Makes kept (answers.Bytes place text) taken after =
    (rest : Bytes) × Hears place (kept place ++ text) taken rest × IsKept kept place rest after
Makes kept (answers.End place) taken after =
    (taken ≡ steps.Lost place ∷ []) × IsKept kept place [] after
Makes kept (answers.Failed place) taken after =
    (taken ≡ steps.Lost place ∷ []) × IsKept kept place [] after
Makes kept answers.Closed taken after = (taken ≡ []) × AllKept kept after
Makes kept answers.NotYet taken after = (taken ≡ []) × AllKept kept after
Makes kept answers.Fault taken after = (taken ≡ []) × AllKept kept after

-- the steps are what these answers make, with this kept of the streams before
unfoldable pub HeardFrom : Streams → List Polled → List Step → Type 0
HeardFrom kept [] taken = taken ≡ []
HeardFrom kept (answer ∷ later) taken =
    (made : List Step) × (rest : List Step) × (after : Streams) × (taken ≡ made ++ rest)
    × Makes kept answer made after × HeardFrom after later rest

-- the steps are what these answers make
unfoldable pub Heard : List Polled → List Step → Type 0
Heard given taken = HeardFrom no_bytes given taken

-- ## A beginning

-- the steps are a beginning of those that the answer makes
unfoldable pub MakesPart : Streams → Polled → List Step → Type 0
MakesPart kept answer [] = Unit {0}
MakesPart kept (answers.Bytes place text) (step ∷ later) =
    HearsPart place (kept place ++ text) (step ∷ later)
MakesPart kept answer (step ∷ later) = ⊥

-- the last steps may be but a beginning of what their answer makes
unfoldable pub HeardPartFrom : Streams → List Polled → List Step → Type 0
HeardPartFrom kept [] taken = taken ≡ []
HeardPartFrom kept (answer ∷ later) taken =
    MakesPart kept answer taken
    ⊎ ((made : List Step) × (rest : List Step) × (after : Streams) × (taken ≡ made ++ rest)
    × Makes kept answer made after × HeardPartFrom after later rest)

-- the steps are a beginning of what these answers make
unfoldable pub HeardPart : List Polled → List Step → Type 0
HeardPart given taken = HeardPartFrom no_bytes given taken
