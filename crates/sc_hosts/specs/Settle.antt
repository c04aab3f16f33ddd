-- Steps taken until nothing is to do. The weight of a state bounds how many there are. This
-- project's own.
use Rattle.std.specs.Prelude.{ℕ, zero, suc, Bool, true, false}

-- so many steps at most, as long as there is something to do
unfoldable pub steps : {S : Type 0} → (S → Bool) → (S → S) → ℕ → S → S
steps busy step zero s = s
steps busy step (suc k) s = elim (busy s) [ true ↦ steps busy step k (step s) | false ↦ s ]

-- the state once nothing is to do
unfoldable pub settle : {S : Type 0} → (S → Bool) → (S → S) → (S → ℕ) → S → S
settle busy step weight s = steps busy step (weight s) s
