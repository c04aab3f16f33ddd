-- The steps that were heard (RFC 3261 section 18.3), each with whether it is the loss of a place
-- that failed.
use Rattle.std.specs.Prelude.{◌≡◌, ◌⊎◌, Bool, true, false, Option, None, Some, List, [], ◌∷◌, ◌++◌, map, filter}
use Rattle.sc_tokens.specs.Bytes.{Bytes}
use Rattle.sc_value.specs.declared.ids.Place.{Place}
use Rattle.sc_value.specs.Places.{same_place}
use Rattle.sc_terms.specs.declared.steps.Step.{Step}
use Rattle.sc_terms.specs.declared.steps.Step.TheVariants as steps
use Rattle.sc_edge.specs.declared.edge.Polled.{Polled}
use Rattle.sc_edge.specs.declared.edge.Polled.TheVariants as answers
use Rattle.sc_runs.specs.Following.{Streams, no_bytes}
use Rattle.sc_runs.specs.Heard.{AllKept, Makes, MakesPart}
use Rattle.sc_runs.specs.Hearing.{Hears, HearsPart}
use Rattle.sc_outs.specs.Deeds.{Deed}

-- a step that was heard, and whether it is the loss of a place that failed
pub record Mark : Type 0 where
  pub step : Step
  pub failed : Bool

-- the answer says that the place failed
unfoldable pub is_failure : Polled → Bool
is_failure (answers.Bytes place text) = false
is_failure (answers.End place) = false
is_failure (answers.Failed place) = true
is_failure answers.Closed = false
is_failure answers.NotYet = false
is_failure answers.Fault = false

-- the steps that an answer makes
unfoldable pub marks : Polled → List Step → List Mark
marks answer made =
    map (λ (s : Step). let mark : Mark = record { step = s; failed = is_failure answer } in mark)
    made

-- the steps are what these answers make, and this is then kept of the streams
unfoldable pub HeardTo : Streams → List Polled → List Mark → Streams → Type 0
HeardTo kept [] taken after = (taken ≡ []) × AllKept kept after
HeardTo kept (answer ∷ later) taken after =
    (made : List Step) × (rest : List Mark) × (mid : Streams) × (taken ≡ marks answer made ++ rest)
    × Makes kept answer made mid × HeardTo mid later rest after

-- the steps are a beginning of what these answers make
unfoldable pub HeardUpto : Streams → List Polled → List Mark → Type 0
HeardUpto kept [] taken = taken ≡ []
HeardUpto kept (answer ∷ later) taken =
    ((made : List Step) × (taken ≡ marks answer made) × MakesPart kept answer made)
    ⊎ ((made : List Step) × (rest : List Mark) × (mid : Streams)
    × (taken ≡ marks answer made ++ rest) × Makes kept answer made mid × HeardUpto mid later rest)

-- the step is one that comes from a place: a message, a text that is none, a loss
unfoldable pub is_heard : Step → Bool
is_heard (steps.In from message) = true
is_heard (steps.Bad from bad) = true
is_heard (steps.Lost at) = true
is_heard (steps.Tick now) = false
is_heard (steps.Turn end app event now calls) = false
is_heard (steps.Withdraw app) = false

-- what is marked of a deed
abbrev pub mark_of : Deed → Mark
mark_of deed = record { step = deed.step; failed = deed.failed }

-- the deed's step comes from a place
abbrev pub heard_by : Deed → Bool
heard_by deed = is_heard deed.step

-- what was heard of all steps
unfoldable pub heard_of : List Deed → List Mark
heard_of deeds = map mark_of (filter heard_by deeds)

-- these were told, or nothing is told from some moment on
unfoldable pub TellsSo : Option (List Polled) → Option (List Polled) → List Polled → Type 0
TellsSo None now given = now ≡ None
TellsSo (Some old) now given = (now ≡ Some (old ++ given)) ⊎ (now ≡ None)

-- what was heard is what the answers make
pub record Hearing (first now : Option (List Polled)) (deeds : List Deed)
    (streams : Streams) : Type 0 where
  pub given : List Polled
  pub told : TellsSo first now given
  pub heard : HeardTo no_bytes given (heard_of deeds) streams

-- what was heard is a beginning of what the answers make
pub record HearingPart (first now : Option (List Polled)) (deeds : List Deed) : Type 0 where
  pub given : List Polled
  pub told : TellsSo first now given
  pub heard : HeardUpto no_bytes given (heard_of deeds)

-- of an answer with bytes so much was heard: what is heard further of the stream comes behind it
pub record HearsOn (first now : Option (List Polled)) (deeds : List Deed) (streams : Streams)
    (place : Place) (text : Bytes) : Type 0 where
  pub given : List Polled
  pub before : List Mark
  pub mid : Streams
  pub done : List Step
  pub told : TellsSo first now (given ++ answers.Bytes place text ∷ [])
  pub heard : HeardTo no_bytes given before mid
  pub deeds_are : heard_of deeds ≡ before ++ marks (answers.Bytes place text) done
  pub on : (made : List Step) (rest : Bytes) → Hears place (streams place) made rest
      → Hears place (mid place ++ text) (done ++ made) rest
  pub part : (made : List Step) → HearsPart place (streams place) made
      → HearsPart place (mid place ++ text) (done ++ made)
  pub others : (other : Place) → same_place other place ≡ false → streams other ≡ mid other
