-- The events of an application session over a journal are a merge of those that were handled, those
-- that were purged as it ended, and those that wait. This project's own.
use Rattle.std.specs.Prelude.{◌≡◌, ◌⊎◌, ℕ, List, [], ◌∷◌, ◌++◌}
use Rattle.sc_once.specs.Growing.{IsBetween}

-- the first list has each item of the other three, each once, and those of each in their order
abbrev pub IsMerge : List ℕ → List ℕ → List ℕ → List ℕ → Type 0
IsMerge [] handled purged waiting = (handled ≡ []) × (purged ≡ []) × (waiting ≡ [])
IsMerge (n ∷ queued) handled purged waiting =
    ((rest : List ℕ) × (handled ≡ n ∷ rest) × IsMerge queued rest purged waiting)
    ⊎ ((rest : List ℕ) × (purged ≡ n ∷ rest) × IsMerge queued handled rest waiting)
    ⊎ ((rest : List ℕ) × (waiting ≡ n ∷ rest) × IsMerge queued handled purged rest)

-- the events of a session: each that was queued was handled, purged or waits, none of them twice.
-- Those that were handled rise, and are below those that wait
pub record IsOneHistory (queued handled purged waiting : List ℕ) (count : ℕ) : Type 0 where
  pub merge : IsMerge queued handled purged waiting
  pub once : IsBetween queued 0 count
  pub in_order : IsBetween (handled ++ waiting) 0 count
