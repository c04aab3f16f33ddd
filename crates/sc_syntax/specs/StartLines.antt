-- Start lines (RFC 3261 sections 7.1 and 7.2), or which kind of fault one has: 1 the line, 2 the
-- version, 3 the method, 4 the Request-URI, 5 the status code. Of several the lowest counts.
use Rattle.std.specs.Prelude.{ℕ, Bool, Option, Some, None, Result, Ok, Err, not, ◌||◌, ◌==◌, nat_le, codes, length, take, if◌then◌else◌}
use Rattle.std.specs.Option.{option_map_or, option_and_then}
use Rattle.std.specs.Result.{result_ok}
use Rattle.sc_tokens.specs.Names.{same_bytes, same_name}
use Rattle.sc_tokens.specs.Tokens.{is_token, is_one_line}
use Rattle.sc_syntax.specs.declared.left.Start.{Start}
use Rattle.sc_syntax.specs.declared.left.Start.TheVariants.{Request, Status}
use Rattle.sc_tokens.specs.Bytes.{Bytes}
use Rattle.sc_tokens.specs.Numbers.{number_below}
use Rattle.sc_tokens.specs.Cuts.{has, before, after}
use Rattle.sc_tokens.specs.Signs.{carriage_return, line_feed, space}
use Rattle.sc_syntax.specs.Uris.{uri_of}

-- `SIP/2.0`, with these letters
unfoldable pub is_version : Bytes → Bool
is_version text = same_bytes text (codes "SIP/2.0")

-- method, Request-URI and version, with one space between each
unfoldable pub request_in : Bytes → Bytes → Bytes → Result Start ℕ
request_in method uri version =
    if has space version then Err 1
    else if not (is_version version) then Err 2
    else if not (is_token method) then Err 3
    else option_map_or (λ target. Ok (Request method target)) (result_ok (uri_of uri)) (Err 4)

-- the method, and what stands behind the first space
unfoldable pub request_behind : Bytes → Bytes → Result Start ℕ
request_behind method rest =
    option_map_or (request_in method (before space rest)) (after space rest) (Err 1)

-- a request line, or the kind of its fault (RFC 3261 section 7.1)
unfoldable pub request_of : Bytes → Result Start ℕ
request_of line = option_map_or (request_behind (before space line)) (after space line) (Err 1)

-- a number of three digits that isn't below 100
unfoldable pub at_least_100 : ℕ → Option ℕ
at_least_100 code = if nat_le 100 code then Some code else None

-- three digits, 100 to 699
unfoldable pub code_of : Bytes → Option ℕ
code_of text =
    if length text == 3 then option_and_then at_least_100 (number_below 700 text) else None

-- version, code and reason, with one space between each: the reason is all the rest
unfoldable pub status_in : Bytes → Bytes → Bytes → Result Start ℕ
status_in version code reason =
    if not (is_one_line reason) then Err 1
    else if not (is_version version) then Err 2
    else option_map_or (λ number. Ok (Status number reason)) (code_of code) (Err 5)

-- the version, and what stands behind the first space
unfoldable pub status_behind : Bytes → Bytes → Result Start ℕ
status_behind version rest =
    option_map_or (status_in version (before space rest)) (after space rest) (Err 1)

-- a status line, or the kind of its fault (RFC 3261 section 7.2)
unfoldable pub status_of : Bytes → Result Start ℕ
status_of line = option_map_or (status_behind (before space line)) (after space line) (Err 1)

-- the line is a status line, or tries to be
unfoldable pub is_status_line : Bytes → Bool
is_status_line line = same_name (take 4 line) (codes "SIP/")

-- CR or LF stands in the line
unfoldable pub is_broken : Bytes → Bool
is_broken line = has carriage_return line || has line_feed line

-- the start line, or the kind of its fault
unfoldable pub start_of : Bytes → Result Start ℕ
start_of line =
    if is_broken line then Err 1
    else if is_status_line line then status_of line else request_of line
