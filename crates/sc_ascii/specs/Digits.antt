-- Digits that follow a number which is read already. Numbers are those of RFC 3261 section 25.1.
use Rattle.std.specs.Prelude.{ℕ, Option, Some, None, ◌&&◌, ◌^◌, nat_lt, if◌then◌else◌}
use Rattle.std.specs.List.{list_all, fold}
use Rattle.std.specs.Char.{is_ascii_digit}
use Rattle.sc_tokens.specs.Bytes.{Bytes}
use Rattle.sc_tokens.specs.Numbers.{with_digit}

-- the number with one digit more, where it is a digit and the number fits 64 bits
unfoldable pub digit_after : ℕ → ℕ → Option ℕ
digit_after n b =
    if is_ascii_digit b && nat_lt (with_digit n b) (2 ^ 64) then Some (with_digit n b) else None

-- the number with all these digits more, where they are digits and the number fits 64 bits
unfoldable pub digits_after : ℕ → Bytes → Option ℕ
digits_after n text =
    if list_all is_ascii_digit text && nat_lt (fold with_digit n text) (2 ^ 64)
    then Some (fold with_digit n text)
    else None
