-- Tokens (RFC 3261 section 25.1) and header values.
use Rattle.std.specs.Prelude.{ℕ, List, Bool, false, not, ◌||◌, ◌&&◌, ◌==◌, ◌-◌, length}
use Rattle.std.specs.List.{list_all, slice_get}
use Rattle.std.specs.Option.{option_map_or}
use Rattle.std.specs.Char.{is_ascii_alphanumeric}
use Rattle.sc_tokens.specs.Signs.{apostrophe, asterisk, backquote, carriage_return, dot, exclamation, hyphen, line_feed, percent, plus, space, tab, tilde, underscore}

-- the byte is a letter, a digit or one of -.!%*_+`'~
unfoldable pub is_token_byte : ℕ → Bool
is_token_byte b =
    is_ascii_alphanumeric b || b == hyphen || b == dot || b == exclamation || b == percent
    || b == asterisk || b == underscore
    || b == plus || b == backquote || b == apostrophe || b == tilde

-- one or more such bytes
unfoldable pub is_token : List ℕ → Bool
is_token text = not (length text == 0) && list_all is_token_byte text

-- the byte is CR, LF or NUL
unfoldable pub is_line_break : ℕ → Bool
is_line_break b = b == carriage_return || b == line_feed || b == 0

-- no byte of the text would end its line
unfoldable pub is_one_line : List ℕ → Bool
is_one_line text = list_all (λ b. not (is_line_break b)) text

-- the byte is a space or a tab
unfoldable pub is_blank : ℕ → Bool
is_blank b = b == space || b == tab

-- a blank stands at the front
unfoldable pub begins_blank : List ℕ → Bool
begins_blank text = option_map_or is_blank (slice_get text 0) false

-- a blank stands at the back
unfoldable pub ends_blank : List ℕ → Bool
ends_blank text = option_map_or is_blank (slice_get text (length text - 1)) false

-- the text can be the value of a header: one line, without a blank at an end
unfoldable pub is_value : List ℕ → Bool
is_value text = is_one_line text && not (begins_blank text) && not (ends_blank text)
