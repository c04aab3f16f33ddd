-- What the values of header parameters and the displays of addresses are made of (RFC 3261 section
-- 25.1).
use Rattle.std.specs.Prelude.{◌≡◌, ℕ, Bool, true, false, Option, Some, None, ◌||◌, ◌==◌, ◌⊎◌, length, ⊤}
use Rattle.std.specs.List.{list_all}
use Rattle.std.specs.Option.{option_map_or}
use Rattle.sc_tokens.specs.Tokens.{is_blank, is_token_byte}
use Rattle.sc_tokens.specs.Bytes.{Bytes}
use Rattle.sc_tokens.specs.Blanks.{without_blanks}
use Rattle.sc_tokens.specs.Quoted.{quoted_end}
use Rattle.sc_tokens.specs.Signs.{colon, left_bracket, right_bracket}

-- the byte may stand in a value outside strings: a token's, or one of an IPv6 literal in brackets
unfoldable pub is_value_byte : ℕ → Bool
is_value_byte b = is_token_byte b || b == left_bracket || b == right_bracket || b == colon

-- a quoted string, and no more
unfoldable pub is_string : Bytes → Bool
is_string text = option_map_or (λ end. end == length text) (quoted_end 0 text) false

-- a value, perhaps empty
unfoldable pub is_param_text : Bytes → Bool
is_param_text text = list_all is_value_byte text || is_string text

-- the byte of a token, or a blank
unfoldable pub is_display_byte : ℕ → Bool
is_display_byte b = is_token_byte b || is_blank b

-- one token or more with blanks between, and none at the ends
abbrev pub IsWords : Bytes → Type 0
IsWords text =
    ((length text == 0) ≡ false) × (list_all is_display_byte text ≡ true)
    × (without_blanks text ≡ text)

-- what a display is: a quoted string, or words
unfoldable pub IsDisplay : Option Bytes → Type 0
IsDisplay None = ⊤
IsDisplay (Some text) = (is_string text ≡ true) ⊎ IsWords text
