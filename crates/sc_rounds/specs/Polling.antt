-- What a poll, and a put that failed, told of an edge. This project's own.
use Rattle.std.specs.Prelude.{◌≡◌, ◌⊎◌, ℕ, List, []}
use Rattle.sc_value.specs.declared.ids.Place.{Place}
use Rattle.sc_edge.specs.Edges.{EdgeState}
use Rattle.sc_edge.specs.EdgeCalls.{Answers, Ends}
use Rattle.sc_edge.specs.Telling.{Notes}
use Rattle.sc_edge.specs.declared.edge.Got.{Got}
use Rattle.sc_edge.specs.declared.edge.Polled.{Polled}
use Rattle.sc_runs.specs.Following.{Streams}
use Rattle.sc_runs.specs.Heard.{AllKept}
use Rattle.sc_rounds.specs.GivingUp.{GivesUp}

-- a poll had this answer, and no place took anything meanwhile
pub record Polls (old new : EdgeState) (answer : Got) (room : List ℕ) : Type 0 where
  pub took : (place : Place) → new.took place ≡ old.took place
  pub told : Answers old new answer room
  pub ends : Ends old new answer

-- this came, and no place took anything meanwhile
pub record Comes (old new : EdgeState) (came : Polled) : Type 0 where
  pub took : (place : Place) → new.took place ≡ old.took place
  pub notes : Notes old.polled new.polled came

-- what is told to have come is as before, or one answer more
unfoldable pub TellsOn : EdgeState → EdgeState → Type 0
TellsOn old new =
    (new.polled ≡ old.polled) ⊎ ((came : Polled) × Notes old.polled new.polled came)

-- the same with what is kept of the streams before and then, and with the places that the answer
-- gives up
unfoldable pub GivesOn : EdgeState → EdgeState → Streams → List Place → Streams → Type 0
GivesOn old new kept places after =
    ((new.polled ≡ old.polled) × AllKept kept after × (places ≡ []))
    ⊎ ((came : Polled) × Notes old.polled new.polled came × GivesUp kept came places after)
