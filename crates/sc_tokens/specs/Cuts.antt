-- Texts cut at a sign. Signs are those of RFC 3261 section 25.1.
use Rattle.std.specs.Prelude.{ℕ, Bool, List, [], ◌∷◌, ◌==◌, ◌+◌, Option, take, drop, if◌then◌else◌}
use Rattle.std.specs.List.{position, position_or_len, list_any}
use Rattle.std.specs.Option.{option_map}
use Rattle.sc_tokens.specs.Bytes.{Bytes}

-- the first place of the sign
abbrev pub place_of : ℕ → Bytes → Option ℕ
place_of sign text = position (λ b. b == sign) text

-- the sign stands in the text
unfoldable pub has : ℕ → Bytes → Bool
has sign text = list_any (λ b. b == sign) text

-- what stands before the first such sign; all, where there is none
unfoldable pub before : ℕ → Bytes → Bytes
before sign text = take (position_or_len (λ b. b == sign) text) text

-- what stands after the first such sign, where there is one
unfoldable pub after : ℕ → Bytes → Option Bytes
after sign text = option_map (λ place. drop (place + 1) text) (place_of sign text)

-- the byte, put before the first of the pieces
unfoldable pub onto_first : ℕ → List Bytes → List Bytes
onto_first b [] = (b ∷ []) ∷ []
onto_first b (piece ∷ pieces) = (b ∷ piece) ∷ pieces

-- the pieces between the signs: one more than there are signs
unfoldable pub pieces : ℕ → Bytes → List Bytes
pieces sign [] = [] ∷ []
pieces sign (b ∷ bs) = if b == sign then [] ∷ pieces sign bs else onto_first b (pieces sign bs)
