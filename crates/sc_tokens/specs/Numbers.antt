-- Numbers: decimal digits alone, one or more, leading zeros allowed (RFC 3261 section 25.1).
use Rattle.std.specs.Prelude.{ℕ, Bool, Option, Some, None, not, ◌&&◌, ◌==◌, ◌+◌, ◌*◌, ◌-◌, ◌^◌, nat_lt, length, if◌then◌else◌}
use Rattle.std.specs.List.{list_all, fold}
use Rattle.std.specs.Char.{is_ascii_digit}
use Rattle.sc_tokens.specs.Bytes.{Bytes}

-- one or more digits
unfoldable pub is_digits : Bytes → Bool
is_digits text = not (length text == 0) && list_all is_ascii_digit text

-- the number so far with one digit more
unfoldable pub with_digit : ℕ → ℕ → ℕ
with_digit n digit = n * 10 + (digit - 48)

-- the number that the digits write
unfoldable pub number_in : Bytes → ℕ
number_in digits = fold with_digit 0 digits

-- the number of the text where it is one and is below the limit
unfoldable pub number_below : ℕ → Bytes → Option ℕ
number_below limit text =
    if is_digits text && nat_lt (number_in text) limit then Some (number_in text) else None

-- a number that fits 64 bits
abbrev pub number_of : Bytes → Option ℕ
number_of text = number_below (2 ^ 64) text

-- a port, 0 to 65535 (RFC 3261 section 19.1.1)
abbrev pub port_of : Bytes → Option ℕ
port_of text = number_below 65536 text
