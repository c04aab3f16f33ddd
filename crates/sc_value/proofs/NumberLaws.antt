-- The text of small numbers.
use Rattle.std.specs.Prelude.{ℕ, ◌<◌, ◌+◌, ◌≡◌, ◌∷◌, [], decimal}
use Rattle.std.proofs.lemmas.Fmt.{decimal_digit}

-- the decimal of a number below ten is its digit
pub digit_decimal : (n : ℕ) → n < 10 → decimal n ≡ (48 + n) ∷ []
digit_decimal n small = decimal_digit n small
