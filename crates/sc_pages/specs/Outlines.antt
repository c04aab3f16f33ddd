-- What is known of the items of a page. This project's own.
use Rattle.std.specs.Prelude.{ℕ, Bool, true, false, ◌&&◌, ◌==◌, ◌+◌, nat_lt, List, [], ◌∷◌, if◌then◌else◌}
use Rattle.std.specs.List.{fold}
use Rattle.sc_pages.specs.declared.outline.Outline.{Outline}

-- the lower of two numbers
abbrev pub lower : ℕ → ℕ → ℕ
lower a b = if nat_lt b a then b else a

-- the higher of two numbers
abbrev pub higher : ℕ → ℕ → ℕ
higher a b = if nat_lt a b then b else a

-- of one item
unfoldable pub alone : {T : Type 0} → (T → ℕ) → (T → Bool) → T → Outline
alone number rests item =
    record { least = number item; most = number item; rests = rests item; dense = true }

-- with an item more behind the others
unfoldable pub widened : {T : Type 0} → (T → ℕ) → (T → Bool) → Outline → T → Outline
widened number rests outline item = record {
  least = lower outline.least (number item);
  most = higher outline.most (number item);
  rests = outline.rests && rests item;
  dense = outline.dense && (number item == outline.most + 1);
}

-- of these items
unfoldable pub outline_of : {T : Type 0} → (T → ℕ) → (T → Bool) → List T → Outline
outline_of number rests [] = record { least = 0; most = 0; rests = true; dense = false }
outline_of number rests (x ∷ xs) = fold (widened number rests) (alone number rests x) xs
