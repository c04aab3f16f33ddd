-- The value of each key: what it has to be, and what stands where it is absent. The form is TOML's;
-- the keys are this project's own.
use Rattle.std.specs.Prelude.{ℕ, ℤ, pos, negsuc, Bool, true, false, not, ◌||◌, ◌&&◌, ◌==◌, Option, Some, None, [], ◌∷◌, length, nat_le, nat_lt, if◌then◌else◌, is_some, slice_index}
use Rattle.std.specs.List.{list_all, before_first, after_first}
use Rattle.std.specs.Option.{option_and_then, option_map_or}
use Rattle.std.specs.Char.{is_ascii_alphanumeric, is_ascii_digit}
use Rattle.std.specs.Str.Parse.{digits_value}
use Rattle.std.specs.Net.Reader.{read_ipv4}
use Rattle.toml.specs.Data.{Data, as_str, as_integer, as_bool, as_array}
use Rattle.sc_terms.specs.Ranges.{is_expiry}
use Rattle.sc_tokens.specs.Hosts.{is_host}
use Rattle.sc_tokens.specs.Bytes.{Bytes}
use Rattle.sc_config.specs.Documents.{elements}
use Rattle.sc_tokens.specs.Signs.{carriage_return, colon, line_feed, quote, zero_digit}

-- ## Texts

-- the text, where it passes the test
abbrev pub text_if : (Bytes → Bool) → Option Bytes → Option Bytes
text_if test None = None
text_if test (Some text) = if test text then Some text else None

-- 1 to 16 letters and digits
unfoldable pub is_salt : Bytes → Bool
is_salt text =
    not (length text == 0) && nat_le (length text) 16 && list_all is_ascii_alphanumeric text

-- the byte would end a quoted text or its line
unfoldable pub is_quote_or_break : ℕ → Bool
is_quote_or_break b = b == quote || b == carriage_return || b == line_feed

-- an application's name: not empty, without quote, CR or LF
unfoldable pub is_app_name : Bytes → Bool
is_app_name text = not (length text == 0) && list_all (λ b. not (is_quote_or_break b)) text

-- ## Addresses

-- what was read, where it was the whole text
abbrev pub if_whole : Option (Bytes × Bytes) → Option Bytes
if_whole None = None
if_whole (Some (value, [])) = Some value
if_whole (Some (value, b ∷ rest)) = None

-- the IPv4 address that the text writes: four decimals up to 255 without leading zeros, with dots
-- between (RFC 3986 section 3.2.2)
unfoldable pub ip_of : Bytes → Option Bytes
ip_of text = if_whole (read_ipv4 text)

-- the port that the text writes: a decimal from 1 to 65,535 without leading zeros
unfoldable pub port_of : Bytes → Option ℕ
port_of text =
    if list_all is_ascii_digit text && nat_lt 0 (length text)
    && not (slice_index text 0 == zero_digit)
    && nat_le 1 (digits_value 10 text) && nat_lt (digits_value 10 text) 65536
    then Some (digits_value 10 text) else None

-- both, where both are there
abbrev pub both : {A B : Type 0} → Option A → Option B → Option (A × B)
both None b = None
both (Some a) None = None
both (Some a) (Some b) = Some (a, b)

-- the byte is the colon before a port
abbrev pub is_colon : ℕ → Bool
is_colon b = b == colon

-- the address and the port that the text writes, with the first colon between them; no port is
-- empty, so the colon is there
unfoldable pub listen_text : Bytes → Option (Bytes × ℕ)
listen_text text = both (ip_of (before_first is_colon text)) (port_of (after_first is_colon text))

-- ## Numbers

-- the number from low to high that the integer is
unfoldable pub number_within : ℕ → ℕ → ℤ → Option ℕ
number_within low high (pos n) = if nat_le low n && nat_le n high then Some n else None
number_within low high (negsuc n) = None

-- the number of a key, or a standard one where the key is absent
unfoldable pub number_in : ℕ → ℕ → ℕ → Option Data → Option ℕ
number_in low high standard None = Some standard
number_in low high standard (Some value) =
    option_and_then (number_within low high) (as_integer value)

-- true or false, false where the key is absent
unfoldable pub flag_in : Option Data → Option Bool
flag_in None = Some false
flag_in (Some value) = as_bool value

-- the minutes, where they are in the range of an expiry
unfoldable pub expiry_of : ℤ → Option ℤ
expiry_of minutes = if is_expiry minutes then Some minutes else None

-- after so many minutes a session expires, 3 where the key is absent
unfoldable pub expires_in : Option Data → Option ℤ
expires_in None = Some (pos 3)
expires_in (Some value) = option_and_then expiry_of (as_integer value)

-- ## The keys of the container

-- the address and port of `listen`, where its text is such
unfoldable pub listen_in : Option Data → Option (Bytes × ℕ)
listen_in value = option_and_then listen_text (option_and_then as_str value)

-- the text of a key, where it is one and passes the test
abbrev pub text_in : (Bytes → Bool) → Option Data → Option Bytes
text_in test value = text_if test (option_and_then as_str value)

-- the name of a file: 1 to 4,096 bytes, none of them 0
unfoldable pub is_file_name : Bytes → Bool
is_file_name text =
    not (length text == 0) && nat_le (length text) 4096 && list_all (λ b. not (b == 0)) text

-- the name of a file, or nothing
unfoldable pub is_file : Option Data → Bool
is_file None = true
is_file (Some value) = option_map_or is_file_name (as_str value) false

-- the address of an entry of `hosts`
unfoldable pub host_ip : Data → Option Bytes
host_ip value = option_and_then ip_of (as_str value)

-- the entry of `hosts` isn't a host with an IPv4 address
unfoldable pub is_wrong_host : Bytes → Data → Bool
is_wrong_host name value = not (is_host name && is_some (host_ip value))

-- ## The keys of an application

-- an array of texts, or nothing
unfoldable pub is_params : Option Data → Bool
is_params None = true
is_params (Some value) =
    is_some (as_array value) && list_all (λ d. is_some (as_str d)) (elements value)
