-- How many items there are, and what their weights come to. This project's own.
use Rattle.std.specs.Prelude.{◌≡◌, ℕ, Option, length, sum_by}
use Rattle.std.specs.declared.option.Option.TheVariants.{None, Some}
use Rattle.std.specs.Map.{values_of}
use Rattle.sc_book.specs.declared.counts.Counts.{Counts}
use Rattle.sc_book.specs.Places.{Placed}

-- the counts are those of these items, and of their weights
pub record AreCounts {T : Type 0} (weight : T → ℕ) (es : Placed T) (counts : Counts) : Type 0 where
  pub items : counts.items ≡ length (values_of es)
  pub total : counts.total ≡ sum_by weight (values_of es)

-- how many items that is
abbrev pub one_at : {A : Type 0} → Option A → ℕ
one_at None = 0
one_at (Some x) = 1

-- a weight, where there is one
abbrev pub weight_at : Option ℕ → ℕ
weight_at None = 0
weight_at (Some weight) = weight
