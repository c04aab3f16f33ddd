-- What a close does, and which places a server closes (RFC 3261 section 18.3).
use Rattle.std.specs.Prelude.{◌≡◌, ◌⊎◌, IsSome, Option, None, Some, List, [], ◌∷◌, ◌++◌, map, IsPermutation}
use Rattle.std.specs.List.{All, Contains}
use Rattle.sc_value.specs.declared.ids.Place.{Place}
use Rattle.sc_edge.specs.Edges.{EdgeState}
use Rattle.sc_edge.specs.declared.edge.Closing.{Closing}
use Rattle.sc_edge.specs.declared.edge.Polled.{Polled}
use Rattle.sc_runs.specs.Following.{Streams, no_bytes}
use Rattle.sc_courses.specs.Marks.{TellsSo}
use Rattle.sc_rounds.specs.GivingUp.{AllGiveUp, GaveUp}
use Rattle.sc_rounds.specs.declared.polling.Came.{Came}
use Rattle.sc_rounds.specs.declared.polling.Came.TheVariants as came

-- no place took anything, nothing is told to have come, and nothing was polled
pub record Rests (old new : EdgeState) : Type 0 where
  pub took : (place : Place) → new.took place ≡ old.took place
  pub polled : new.polled ≡ old.polled
  pub polls : new.polls ≡ old.polls

-- an edge told that it closed these places, one after the other, or it doesn't tell its closes
unfoldable pub ClosedSo : Option (List Closing) → Option (List Closing) → List Place → Type 0
ClosedSo None now places = now ≡ None
ClosedSo (Some old) now places =
    ((closings : List Closing) × (now ≡ Some (old ++ closings))
    × (map (λ closing. closing.place) closings ≡ places)) ⊎ (now ≡ None)

-- only places were closed that were given up, and so are these, which are to be closed
pub record Closes (first now : EdgeState) (waiting : List Place) : Type 0 where
  pub closed : List Place
  pub told : ClosedSo first.closes now.closes closed
  pub gave : All (GaveUp first.polled now.polled) closed
  pub waits : All (GaveUp first.polled now.polled) waiting

-- the places that were given up are those that were closed and these, which are to be closed, each
-- as often, with this kept of the streams
pub record ClosesAll (first now : EdgeState) (streams : Streams) (waiting : List Place)
    : Type 0 where
  -- what was told to have come, and the places that were given up at it
  pub given : List Polled
  pub told : TellsSo first.polled now.polled given
  pub places : List Place
  pub gave : AllGiveUp no_bytes given places streams
  -- what was closed
  pub closed : List Place
  pub closes : ClosedSo first.closes now.closes closed
  pub all : IsPermutation places (closed ++ waiting)

-- an edge told that it closed the place, or it doesn't tell its closes
unfoldable pub WasClosed : Option (List Closing) → Option (List Closing) → Place → Type 0
WasClosed first now place =
    (closed : List Place) × ClosedSo first now closed × Contains closed place

-- where the edge tells its answers, each place that was given up was closed
unfoldable pub ClosesEach : EdgeState → EdgeState → Type 0
ClosesEach first now =
    IsSome now.polled → (place : Place) → GaveUp first.polled now.polled place
    → WasClosed first.closes now.closes place

-- a place that gave what is no message is to be closed too, and of other answers none
unfoldable pub Adds : Came → List Place → List Place → Type 0
Adds came.Nothing old new = new ≡ old
Adds (came.Bytes place) old new = new ≡ old
Adds (came.Broken place) old new = new ≡ old ++ place ∷ []
Adds (came.End place) old new = new ≡ old
Adds came.Closed old new = new ≡ old
Adds came.Fault old new = new ≡ old
