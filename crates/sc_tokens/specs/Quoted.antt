-- Tokens and quoted strings within a text, by their places (RFC 3261 section 25.1).
use Rattle.std.specs.Prelude.{ℕ, Bool, false, [], ◌∷◌, Option, Some, None, not, ◌==◌, ◌+◌, drop, slice_get, if◌then◌else◌}
use Rattle.std.specs.List.{position_or_len}
use Rattle.std.specs.Option.{option_map, option_map_or}
use Rattle.sc_tokens.specs.Tokens.{is_token_byte}
use Rattle.sc_tokens.specs.Bytes.{Bytes}
use Rattle.sc_tokens.specs.Signs.{backslash, quote}

-- the first place, from this one on, that holds no byte of a token, or the end
unfoldable pub token_end : ℕ → Bytes → ℕ
token_end at text = at + position_or_len (λ b. not (is_token_byte b)) (drop at text)

-- after an opening quote: how many bytes there are up to and with the closing one. A backslash
-- takes the next byte with it
unfoldable pub closing : Bytes → Option ℕ
closing [] = None
closing (b ∷ []) = if b == quote then Some 1 else None
closing (b ∷ c ∷ bs) =
    if b == quote then Some 1
    else if b == backslash then option_map (λ n. 2 + n) (closing bs)
    else option_map (λ n. 1 + n) (closing (c ∷ bs))

-- a quote stands at this place
unfoldable pub is_quote_at : ℕ → Bytes → Bool
is_quote_at at text = option_map_or (λ b. b == quote) (slice_get text at) false

-- the place after the quoted string that begins here, where one does
unfoldable pub quoted_end : ℕ → Bytes → Option ℕ
quoted_end at text =
    if is_quote_at at text then option_map (λ n. at + 1 + n) (closing (drop (at + 1) text))
    else None
