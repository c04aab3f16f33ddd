-- What the calls of an edge do to what it tells and counts. This project's own.
use Rattle.std.specs.Prelude.{◌≡◌, ℕ, ◌<◌, ◌≤◌, Bool, true, false, nat_lt, Option, Some, None, List, [], ◌∷◌, ◌++◌, take, if◌then◌else◌}
use Rattle.sc_value.specs.declared.ids.Place.{Place}
use Rattle.sc_edge.specs.Edges.{EdgeState, is_back, polled_of}
use Rattle.sc_edge.specs.Faults.{Rose}
use Rattle.sc_edge.specs.Taking.{Takes}
use Rattle.sc_edge.specs.Telling.{Notes}
use Rattle.sc_edge.specs.declared.edge.Got.{Got}
use Rattle.sc_edge.specs.declared.edge.Got.TheVariants as got
use Rattle.sc_edge.specs.declared.edge.Polled.{Polled}
use Rattle.sc_edge.specs.declared.edge.Polled.TheVariants as polled
use Rattle.sc_edge.specs.declared.edge.Put.{Put}
use Rattle.sc_edge.specs.declared.edge.Put.TheVariants as put

-- an answer was told after those before it
abbrev pub Appends : Option (List Polled) → Option (List Polled) → Polled → Type 0
Appends None new answer = new ≡ None
Appends (Some old) new answer = new ≡ Some (old ++ answer ∷ [])

-- a poll tells its answer; after `Closed` none is told, since all are `Closed`
abbrev pub Answers : EdgeState → EdgeState → Got → List ℕ → Type 0
Answers old new answer room =
    (old.is_closed ≡ false → Appends old.polled new.polled (polled_of answer room))
    × (old.is_closed ≡ true → new.polled ≡ old.polled)

-- the answer says that nothing comes any more
abbrev pub is_end : Got → Bool
is_end (got.Bytes place count) = false
is_end (got.End place) = false
is_end (got.Failed place) = false
is_end got.Closed = true
is_end got.NotYet = false
is_end got.Fault = false

-- once a poll answered `Closed`, each later one does
abbrev pub Ends : EdgeState → EdgeState → Got → Type 0
Ends old new answer = (old.is_closed ≡ true → answer ≡ got.Closed) × (new.is_closed ≡ is_end answer)

-- a failure is one that was counted
abbrev pub PollBlames : EdgeState → EdgeState → Got → Type 0
PollBlames old new (got.Bytes place count) = Unit {0}
PollBlames old new (got.End place) = Unit {0}
PollBlames old new (got.Failed place) = Rose (old.faults_at place) (new.faults_at place)
PollBlames old new got.Closed = Unit {0}
PollBlames old new got.NotYet = Unit {0}
PollBlames old new got.Fault = Rose old.faults new.faults

-- a place whose connection was closed or ended: at an address that is cut the next put fails
abbrev pub Halts : EdgeState → EdgeState → Place → Type 0
Halts old new place =
    (new.is_silent place ≡ true)
    × (is_back place ≡ false → old.is_cut place ≡ true → new.is_barred place ≡ true)

-- a place that failed: a peer's connection is gone for ever
abbrev pub Fails : EdgeState → EdgeState → Place → Type 0
Fails old new place =
    (new.is_silent place ≡ true) × (is_back place ≡ true → new.is_barred place ≡ true)

-- a poll names no silent place, and makes one silent that ended or failed
abbrev pub Names : EdgeState → EdgeState → Got → Type 0
Names old new (got.Bytes place count) = old.is_silent place ≡ false
Names old new (got.End place) = (old.is_silent place ≡ false) × Halts old new place
Names old new (got.Failed place) = (old.is_silent place ≡ false) × Fails old new place
Names old new got.Closed = Unit {0}
Names old new got.NotYet = Unit {0}
Names old new got.Fault = Unit {0}

-- of a piece that isn't empty at least one byte was taken, and at most all
abbrev pub IsPart : Put → ℕ → Type 0
IsPart (put.Wrote count) len = (count ≤ len) × (0 < len → 0 < count)
IsPart put.NotYet len = Unit {0}
IsPart put.Failed len = Unit {0}

-- the place took the bytes of the answer, and no others
abbrev pub Took : EdgeState → EdgeState → Place → List ℕ → Put → Type 0
Took old new place bytes (put.Wrote count) =
    Takes (old.took place) (new.took place) (take count bytes)
Took old new place bytes put.NotYet = new.took place ≡ old.took place
Took old new place bytes put.Failed = new.took place ≡ old.took place

-- whether the last put that took bytes took only a part, after one of a piece of this length
abbrev pub cut_after : Bool → Put → ℕ → Bool
cut_after before (put.Wrote count) len = if nat_lt 0 count then nat_lt count len else before
cut_after before put.NotYet len = before
cut_after before put.Failed len = before

-- a failed put was counted and leaves the place failed; any other leaves a peer's place as it was
abbrev pub Leaves : EdgeState → EdgeState → Place → Put → Type 0
Leaves old new place (put.Wrote count) =
    is_back place ≡ true → old.is_silent place ≡ true → new.is_silent place ≡ true
Leaves old new place put.NotYet =
    is_back place ≡ true → old.is_silent place ≡ true → new.is_silent place ≡ true
Leaves old new place put.Failed =
    Fails old new place × Rose (old.faults_at place) (new.faults_at place)

-- a closed place: a peer's connection is gone for ever
abbrev pub Shuts : EdgeState → EdgeState → Place → Type 0
Shuts old new place = Halts old new place × (is_back place ≡ true → new.is_barred place ≡ true)

-- it told nothing that came, counted no poll and answered no `Closed`
abbrev pub StaysPolled : EdgeState → EdgeState → Type 0
StaysPolled old new =
    (new.polls ≡ old.polls) × (new.polled ≡ old.polled) × (new.is_closed ≡ old.is_closed)

-- a put that failed is told behind what came before it, also behind a `Closed`, or nothing that
-- comes is told from now on; any other put tells nothing
abbrev pub PutTells : EdgeState → EdgeState → Place → Put → Type 0
PutTells old new place (put.Wrote count) = new.polled ≡ old.polled
PutTells old new place put.NotYet = new.polled ≡ old.polled
PutTells old new place put.Failed = Notes old.polled new.polled (polled.Failed place)

-- it counted no poll and answered no `Closed`
abbrev pub IsNoPoll : EdgeState → EdgeState → Type 0
IsNoPoll old new = (new.polls ≡ old.polls) × (new.is_closed ≡ old.is_closed)
