-- Hosts: names, IPv4 literals and IPv6 literals in brackets (RFC 3261 section 25.1, and RFC 3986
-- section 3.2.2 for the literals). An IPv4 literal is a name too.
use Rattle.std.specs.Prelude.{ℕ, Bool, true, false, Option, Some, None, List, [], ◌∷◌, not, ◌||◌, ◌&&◌, ◌==◌, ◌+◌, nat_le, is_some, min, length, take, drop, slice_get, if◌then◌else◌}
use Rattle.std.specs.List.{list_all, position_or_len}
use Rattle.std.specs.Char.{is_ascii_hexdigit}
use Rattle.std.specs.Option.{option_map, option_map_or}
use Rattle.sc_tokens.specs.Bytes.{Bytes, is_host_byte}
use Rattle.sc_tokens.specs.Numbers.{number_below}
use Rattle.sc_tokens.specs.Cuts.{pieces, before, after}
use Rattle.sc_tokens.specs.Signs.{colon, dot, left_bracket, right_bracket, zero_digit}

-- one or more bytes of a host's name
unfoldable pub is_host_name : Bytes → Bool
is_host_name text = not (length text == 0) && list_all is_host_byte text

-- ## IPv4 addresses

-- the text begins with this byte
unfoldable pub begins : ℕ → Bytes → Bool
begins sign text = option_map_or (λ b. b == sign) (slice_get text 0) false

-- a number up to 255 without leading zero
unfoldable pub is_octet : Bytes → Bool
is_octet text =
    is_some (number_below 256 text) && (length text == 1 || not (begins zero_digit text))

-- four of them with dots between
unfoldable pub is_ipv4 : Bytes → Bool
is_ipv4 text = length (pieces dot text) == 4 && list_all is_octet (pieces dot text)

-- ## IPv6 addresses

-- one to four hexadecimal digits
unfoldable pub is_group : Bytes → Bool
is_group text = not (length text == 0) && nat_le (length text) 4 && list_all is_ascii_hexdigit text

-- how many groups of 16 bits the piece is; an IPv4 address is two
unfoldable pub groups_of : Bool → Bytes → Option ℕ
groups_of ipv4 piece =
    if is_group piece then Some 1 else if ipv4 && is_ipv4 piece then Some 2 else None

-- the sum of two counts, none where one is none
unfoldable pub sum_of : Option ℕ → Option ℕ → Option ℕ
sum_of None n = None
sum_of (Some m) n = option_map (λ k. m + k) n

-- how many groups of 16 bits these are, where each is one; the last may be an IPv4 address, where
-- one is allowed
unfoldable pub groups_in : Bool → List Bytes → Option ℕ
groups_in ipv4 [] = Some 0
groups_in ipv4 (piece ∷ more) =
    sum_of (groups_of (ipv4 && length more == 0) piece) (groups_in ipv4 more)

-- the groups of a text with colons between; the empty text has none
unfoldable pub groups : Bool → Bytes → Option ℕ
groups ipv4 text = if length text == 0 then Some 0 else groups_in ipv4 (pieces colon text)

-- two colons stand at the front
unfoldable pub begins_gap : Bytes → Bool
begins_gap text = begins colon text && begins colon (drop 1 text)

-- the first place of two colons
unfoldable pub gap_of : Bytes → Option ℕ
gap_of [] = None
gap_of (b ∷ bs) = if begins_gap (b ∷ bs) then Some 0 else option_map (λ n. 1 + n) (gap_of bs)

-- the groups number at most seven: `::` stands for the others
unfoldable pub leaves_gap : Option ℕ → Bool
leaves_gap n = option_map_or (λ k. nat_le k 7) n false

-- eight groups
unfoldable pub is_full : Option ℕ → Bool
is_full n = option_map_or (λ k. k == 8) n false

-- an IPv6 address, with or without `::`
unfoldable pub is_ipv6 : Bytes → Bool
is_ipv6 text =
    option_map_or
    (λ gap. leaves_gap (sum_of (groups false (take gap text)) (groups true (drop (gap + 2) text))))
    (gap_of text) (is_full (groups true text))

-- ## Hosts

-- something stands there, and it is empty
unfoldable pub is_none_left : Option Bytes → Bool
is_none_left rest = option_map_or (λ text. length text == 0) rest false

-- after the opening bracket: an address, its closing bracket and no more
unfoldable pub is_literal_end : Bytes → Bool
is_literal_end text = is_none_left (after right_bracket text) && is_ipv6 (before right_bracket text)

-- a name, or an IPv6 literal in its brackets
unfoldable pub is_host : Bytes → Bool
is_host text = if begins left_bracket text then is_literal_end (drop 1 text) else is_host_name text

-- how many bytes of a host with its port are the host's: up to the closing bracket, or else the
-- colon
unfoldable pub host_len : Bytes → ℕ
host_len text =
    if begins left_bracket text
    then min (position_or_len (λ b. b == right_bracket) text + 1) (length text)
    else position_or_len (λ b. b == colon) text
