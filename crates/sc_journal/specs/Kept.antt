-- What a journal keeps. This project's own.
use Rattle.std.specs.Prelude.{ℕ, List}

-- a journal as contracts see it: its items, the oldest first, and its two limits
pub record Kept (T : Type 0) : Type 0 where
  pub items : List T
  -- the bytes of all items together
  pub used : ℕ
  -- how many items it takes without memory
  pub room : ℕ
  pub most_items : ℕ
  pub most_bytes : ℕ
