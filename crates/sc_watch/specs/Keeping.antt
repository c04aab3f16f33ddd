-- The rule under which a listing is shown, which is this project's own.
use Rattle.std.specs.Prelude.{◌≡◌, ℕ, List, ◌∷◌}
use Rattle.std.specs.Arc.{arc_value}
use mathlib.Core.Option.{some}
use lib.ListN.{get_elem?}
use Rattle.sc_edge.specs.declared.listing.Listing.{Listing}
use Rattle.sc_watch.specs.declared.shown.Knows.{Knows}
use Rattle.sc_watch.specs.declared.shown.Shown.{Shown}
use Rattle.sc_watch.specs.Risings.{Begins, Rises}

-- There is one history of listings, the newest of which is shown. None is before an older one, and
-- each thread has seen a beginning of it.
pub record Keeps (shown : Shown) (views : List Knows) : Type 0 where
  pub older : List Listing
  pub rises : Rises (arc_value shown.listing ∷ older)
  pub known : (seat : ℕ) (v : Knows) → get_elem? views seat ≡ some v
      → Begins (arc_value shown.listing ∷ older) v.seen

-- a thread puts or reads the listing that is shown then
abbrev pub SeesShown : Knows → Shown → Shown → Knows → Type 0
SeesShown v old new w =
    (older : List Listing) × (w ≡ record { seen = arc_value new.listing ∷ older })
    × Begins (arc_value new.listing ∷ older) v.seen × Rises (arc_value new.listing ∷ older)
