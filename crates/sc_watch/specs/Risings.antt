-- Which listing is before which, and what a thread knows of those that were put. Listings are this
-- project's own.
use Rattle.std.specs.Prelude.{◌≡◌, ◌<◌, ◌≤◌, ◌⊎◌, List, [], ◌∷◌, ◌++◌}
use Rattle.std.specs.List.{AllByRecursion}
use Rattle.sc_edge.specs.declared.listing.Listing.{Listing}
use Rattle.sc_watch.specs.declared.note.Note.{Note}
use Rattle.sc_watch.specs.declared.shown.Knows.{Knows}

-- the name of a listing: its epoch and its steps
abbrev pub note_of : Listing → Note
note_of listing = record { epoch = listing.epoch; steps = listing.steps }

-- the second isn't before the first: it is of a later epoch, or of no fewer steps of the same
abbrev pub IsFrom : Note → Note → Type 0
IsFrom first second =
    (first.epoch < second.epoch) ⊎ ((first.epoch ≡ second.epoch) × (first.steps ≤ second.steps))

-- the third is one of the two, and before neither
abbrev pub IsLater : Note → Note → Note → Type 0
IsLater first second later =
    IsFrom first later × IsFrom second later × ((later ≡ first) ⊎ (later ≡ second))

-- a thread that has seen no listing
abbrev pub knows_none : Knows
knows_none = record { seen = [] }

-- of listings, the newest first, none is before an older one
abbrev pub Rises : List Listing → Type 0
Rises [] = Unit {0}
Rises (listing ∷ older) =
    AllByRecursion (λ (old : Listing). IsFrom (note_of old) (note_of listing)) older × Rises older

-- what was seen is a beginning of the history
abbrev pub Begins : List Listing → List Listing → Type 0
Begins history seen = (newer : List Listing) × (history ≡ newer ++ seen)

-- this listing was the newest of those that had been put, none of which is before an older one
abbrev pub IsNewest : Listing → Knows → Type 0
IsNewest listing knows =
    (older : List Listing) × (knows.seen ≡ listing ∷ older) × Rises (listing ∷ older)
