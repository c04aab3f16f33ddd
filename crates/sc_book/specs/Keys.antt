-- Items whose places are their own keys, or just below a next one. This project's own.
use Rattle.std.specs.Prelude.{⊤, ◌≡◌, ◌<◌, ℕ, [], ◌∷◌}
use Rattle.sc_book.specs.Places.{Placed}

-- each item stands at the place of its key
unfoldable pub AreKeyed : {T : Type 0} → (T → ℕ) → Placed T → Type 0
AreKeyed key [] = ⊤
AreKeyed key (e ∷ es) = (key e.1 ≡ e.0) × AreKeyed key es

-- each place is below this one
unfoldable pub AreBelow : {T : Type 0} → ℕ → Placed T → Type 0
AreBelow next [] = ⊤
AreBelow next (e ∷ es) = (e.0 < next) × AreBelow next es

-- the items stand at the places of their keys, all below the next one
pub record AreRows {T : Type 0} (key : T → ℕ) (es : Placed T) (next : ℕ) : Type 0 where
  pub keyed : AreKeyed key es
  pub below : AreBelow next es

-- no item stands where none stood
pub record AreFewer {T : Type 0} (es fs : Placed T) : Type 0 where
  pub keyed : (key : T → ℕ) → AreKeyed key es → AreKeyed key fs
  pub below : (next : ℕ) → AreBelow next es → AreBelow next fs
