-- What an edge, the connections of the container (RFC 3261 section 18), tells and counts, and what
-- each of its calls does to that.
use Rattle.std.specs.Prelude.{◌≡◌, ℕ, ◌<◌, ◌≤◌, Bool, true, false, Option, List, take}
use Rattle.sc_value.specs.declared.ids.Place.{Place}
use Rattle.sc_value.specs.declared.ids.Place.TheVariants.{Back, To}
use Rattle.sc_edge.specs.declared.edge.Closing.{Closing}
use Rattle.sc_edge.specs.declared.edge.Got.{Got}
use Rattle.sc_edge.specs.declared.edge.Got.TheVariants as got
use Rattle.sc_edge.specs.declared.edge.Polled.{Polled}
use Rattle.sc_edge.specs.declared.edge.Polled.TheVariants as polled

-- an edge as its callers see it: the outside's connections, by place
pub record EdgeState : Type 0 where
  -- how often it was polled
  pub polls : ℕ
  -- the faults of its listener, and those of each place
  pub faults : ℕ
  pub faults_at : Place → ℕ
  -- what came, in order: what its polls answered, up to the first `Closed`, and a `Failed` of the
  -- place for each put that failed; `None` where it isn't told
  pub polled : Option (List Polled)
  -- it has answered `Closed`
  pub is_closed : Bool
  -- all bytes that each place took; `None` where it isn't told
  pub took : Place → Option (List ℕ)
  -- its closes; `None` where they aren't told
  pub closes : Option (List Closing)
  -- nothing comes from the place: it has ended, was closed or has failed, and wasn't connected anew
  pub is_silent : Place → Bool
  -- the next put to the place fails
  pub is_barred : Place → Bool
  -- the last put there that took bytes took only a part of its piece; said of addresses alone, no
  -- call says it of a peer's connection
  pub is_cut : Place → Bool

-- a peer opened the connection
abbrev pub is_back : Place → Bool
is_back (Back a) = true
is_back (To ip port) = false

-- no count of faults falls
abbrev pub CountsOn : EdgeState → EdgeState → Type 0
CountsOn old new =
    (old.faults ≤ new.faults) × ((place : Place) → old.faults_at place ≤ new.faults_at place)

-- a silent place stays silent, and where its next put is to fail, that stays so
abbrev pub Stays : EdgeState → EdgeState → Place → Type 0
Stays old new place =
    old.is_silent place ≡ true
    → (new.is_silent place ≡ true) × (old.is_barred place ≡ true → new.is_barred place ≡ true)

-- the place took nothing, so an address is cut where it was
abbrev pub Stands : EdgeState → EdgeState → Place → Type 0
Stands old new place =
    (new.took place ≡ old.took place)
    × (is_back place ≡ false → new.is_cut place ≡ old.is_cut place)

-- bytes that came are at least one, and fit the room
abbrev pub IsWithin : Got → ℕ → Type 0
IsWithin (got.Bytes place count) room = (0 < count) × (count ≤ room)
IsWithin (got.End place) room = Unit {0}
IsWithin (got.Failed place) room = Unit {0}
IsWithin got.Closed room = Unit {0}
IsWithin got.NotYet room = Unit {0}
IsWithin got.Fault room = Unit {0}

-- the answer, with the bytes at the front of the room
abbrev pub polled_of : Got → List ℕ → Polled
polled_of (got.Bytes place count) room = polled.Bytes place (take count room)
polled_of (got.End place) room = polled.End place
polled_of (got.Failed place) room = polled.Failed place
polled_of got.Closed room = polled.Closed
polled_of got.NotYet room = polled.NotYet
polled_of got.Fault room = polled.Fault
