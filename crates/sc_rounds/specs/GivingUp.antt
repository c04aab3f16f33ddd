-- Which places are given up: those that gave a text which is no message, or one that is too long
-- (RFC 3261 section 18.3).
use Rattle.std.specs.Prelude.{◌≡◌, Bool, true, false, Option, List, [], ◌∷◌, ◌++◌, map, filter, if◌then◌else◌}
use Rattle.sc_tokens.specs.Bytes.{Bytes}
use Rattle.sc_value.specs.declared.ids.Place.{Place}
use Rattle.sc_terms.specs.declared.steps.Step.{Step}
use Rattle.sc_terms.specs.declared.steps.Step.TheVariants as steps
use Rattle.sc_edge.specs.declared.edge.Polled.{Polled}
use Rattle.sc_edge.specs.declared.edge.Polled.TheVariants as answers
use Rattle.sc_outs.specs.Stretches.{is_lost}
use Rattle.sc_runs.specs.Following.{IsKept, Streams, no_bytes}
use Rattle.sc_runs.specs.Heard.{AllKept, Makes}
use Rattle.sc_runs.specs.Hearing.{Hears}
use Rattle.sc_courses.specs.Marks.{HeardTo, Mark, TellsSo}
use Rattle.sc_rounds.specs.declared.polling.Came.{Came}
use Rattle.sc_rounds.specs.declared.polling.Came.TheVariants as came

-- of the answers that an edge told between two points one gave bytes of this place with which its
-- stream has, behind whole messages, a text that is no message or one that is too long
pub record GaveUp (first now : Option (List Polled)) (place : Place) : Type 0 where
  -- what was told before that answer, its bytes, and what was told behind it
  pub before : List Polled
  pub text : Bytes
  pub later : List Polled
  pub told : TellsSo first now (before ++ answers.Bytes place text ∷ later)
  -- what was heard before it, and what was kept of the streams then
  pub heard : List Mark
  pub kept : Streams
  pub heard_is : HeardTo no_bytes before heard kept
  -- the steps that its bytes make end with the loss of the place
  pub made : List Step
  pub breaks : Hears place (kept place ++ text) (made ++ steps.Lost place ∷ []) []

-- ## As often as they give up

-- the place, once for each of these steps that is its loss
abbrev pub losses : Place → List Step → List Place
losses place made = map (λ step. place) (filter (is_lost place) made)

-- the places that an answer gives up, which makes these steps: that of bytes whose steps end with
-- its loss, and of other answers none
unfoldable pub given_up : Polled → List Step → List Place
given_up (answers.Bytes place text) made = losses place made
given_up (answers.End place) made = []
given_up (answers.Failed place) made = []
given_up answers.Closed made = []
given_up answers.NotYet made = []
given_up answers.Fault made = []

-- at this answer these places are given up; so much was kept of the streams before it, and this is
-- kept then
unfoldable pub GivesUp : Streams → Polled → List Place → Streams → Type 0
GivesUp kept answer places after =
    (made : List Step) × Makes kept answer made after × (places ≡ given_up answer made)

-- at these answers these places are given up, one after the other, and this is then kept of the
-- streams
unfoldable pub AllGiveUp : Streams → List Polled → List Place → Streams → Type 0
AllGiveUp kept [] places after = (places ≡ []) × AllKept kept after
AllGiveUp kept (answer ∷ later) places after =
    (mine : List Place) × (rest : List Place) × (mid : Streams) × (places ≡ mine ++ rest)
    × GivesUp kept answer mine mid × AllGiveUp mid later rest after

-- ## Of one place

-- the place, where it broke
abbrev pub place_if : Bool → Place → List Place
place_if broken place = if broken then place ∷ [] else []

-- the place that gave what is no message, where an answer came to that
abbrev pub broken_by : Came → List Place
broken_by came.Nothing = []
broken_by (came.Bytes place) = []
broken_by (came.Broken place) = place ∷ []
broken_by (came.End place) = []
broken_by came.Closed = []
broken_by came.Fault = []

-- what was kept of a place is heard as far as it goes, and these places are given up
unfoldable pub HearsOut : Place → Streams → List Place → Streams → Type 0
HearsOut place kept places after =
    (made : List Step) × (rest : Bytes) × Hears place (kept place) made rest
    × IsKept kept place rest after × (places ≡ losses place made)

-- what is heard of a place from here on is heard behind what was before
unfoldable pub HearsFrom : Place → Streams → Streams → Type 0
HearsFrom place kept after =
    (places : List Place) (later : Streams) → HearsOut place after places later
    → HearsOut place kept places later

-- of what was kept a message is heard, and there may be more; or all is heard
unfoldable pub HearsOne : Place → Streams → Bool → Streams → Bool → Type 0
HearsOne place kept broken after true = (broken ≡ false) × HearsFrom place kept after
HearsOne place kept broken after false = HearsOut place kept (place_if broken place) after
