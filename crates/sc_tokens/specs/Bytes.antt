-- Classes of bytes (RFC 3261 section 25.1).
use Rattle.std.specs.Prelude.{ℕ, List, Bool, not, ◌||◌, ◌==◌}
use Rattle.std.specs.List.{list_all}
use Rattle.std.specs.Char.{is_ascii_alphanumeric}
use Rattle.sc_tokens.specs.Signs.{ampersand, apostrophe, asterisk, carriage_return, colon, dollar, dot, exclamation, hyphen, left_angle, left_bracket, left_parenthesis, line_feed, percent, plus, right_angle, right_bracket, right_parenthesis, slash, space, tab, tilde, underscore}

-- a text as its bytes, each 0 to 255
abbrev pub Bytes : Type 0
Bytes = List ℕ

-- the byte is a letter, a digit or one of -.
unfoldable pub is_host_byte : ℕ → Bool
is_host_byte b = is_ascii_alphanumeric b || b == hyphen || b == dot

-- the byte is a letter, a digit or one of +-.
unfoldable pub is_scheme_byte : ℕ → Bool
is_scheme_byte b = is_host_byte b || b == plus

-- the byte is one of -_.!~*'()
unfoldable pub is_mark : ℕ → Bool
is_mark b =
    b == hyphen || b == underscore || b == dot || b == exclamation || b == tilde || b == asterisk
    || b == apostrophe || b == left_parenthesis || b == right_parenthesis

-- the byte may stand in the name or the value of a URI's parameter beside letters, digits and
-- marks: it is one of []/:&+$, or the % of an escape
unfoldable pub is_param_sign : ℕ → Bool
is_param_sign b =
    b == left_bracket || b == right_bracket || b == slash || b == colon || b == ampersand
    || b == plus || b == dollar || b == percent

-- the byte may stand in the name or the value of a URI's parameter
unfoldable pub is_param_byte : ℕ → Bool
is_param_byte b = is_ascii_alphanumeric b || is_mark b || is_param_sign b

-- the byte is a blank, an angle bracket, CR, LF or NUL: no URI holds it
unfoldable pub is_closed : ℕ → Bool
is_closed b =
    b == space || b == tab || b == left_angle || b == right_angle || b == carriage_return
    || b == line_feed || b == 0

-- no byte of the text is closed to URIs
unfoldable pub is_open : Bytes → Bool
is_open text = list_all (λ b. not (is_closed b)) text
