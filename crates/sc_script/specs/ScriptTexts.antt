-- Scripts as text: the lines that a text says, or where it goes wrong and how. This project's own.
use Rattle.std.specs.Prelude.{ℕ, zero, suc, ◌+◌, ◌-◌, ◌==◌, ◌^◌, List, [], ◌∷◌, Bool, true, false, not, ◌&&◌, ◌||◌, Option, None, Some, Result, Ok, Err, if◌then◌else◌, nat_lt, nat_le, length, take, codes}
use Rattle.std.specs.List.{slice_get}
use Rattle.sc_value.specs.declared.ids.AppId.{AppId}
use Rattle.sc_value.specs.declared.ids.Place.{Place}
use Rattle.sc_value.specs.declared.ids.Place.TheVariants.{Back, To}
use Rattle.sc_tokens.specs.Names.{same_bytes}
use Rattle.sc_terms.specs.declared.steps.Line.{Line}
use Rattle.sc_terms.specs.declared.steps.Line.TheVariants as lines
use Rattle.sc_tokens.specs.Cuts.{before, after, pieces}
use Rattle.sc_tokens.specs.Hosts.{begins}
use Rattle.sc_tokens.specs.Numbers.{is_digits, number_in}
use Rattle.sc_tokens.specs.Bytes.{Bytes}
use Rattle.sc_tokens.specs.Signs.{colon, dot, line_feed, space, zero_digit}

-- where a text goes wrong, in bytes from its front, and how
pub record Fault : Type 0 where
  pub at : ℕ
  pub kind : ℕ

-- the line has the words of no row
abbrev pub WORD : ℕ
WORD = 1

-- a word is no number of its range
abbrev pub NUMBER : ℕ
NUMBER = 2

-- a word is no place
abbrev pub PLACE : ℕ
PLACE = 3

-- too few bytes follow the line, or no line feed behind them
abbrev pub SHORT : ℕ
SHORT = 4

-- the line's moment is below an earlier one
abbrev pub BACK : ℕ
BACK = 5

-- the text ends without `end`, or goes on after it
abbrev pub NO_END : ℕ
NO_END = 6

-- the text has more than 67,108,864 bytes
abbrev pub LONG : ℕ
LONG = 7

-- ## Numbers and places

-- the text is one digit, or doesn't begin with 0
unfoldable pub is_plain : Bytes → Bool
is_plain text = length text == 1 || not (begins zero_digit text)

-- the number of a decimal without leading zero, at most so great
unfoldable pub decimal_upto : ℕ → Bytes → Option ℕ
decimal_upto most text =
    if is_digits text && (nat_le (number_in text) most && is_plain text) then Some (number_in text)
    else None

-- so great may a serial and a moment be, and the number of a connection
abbrev pub MOST_COUNT : ℕ
MOST_COUNT = 2 ^ 63

-- `cN`: the connection N, from 1 on, that a peer opened
unfoldable pub connection_of : Option ℕ → Option Place
connection_of None = None
connection_of (Some number) = if number == 0 then None else Some (Back number)

-- the four numbers of an address, where each is one
unfoldable pub all_four : Option ℕ → Option ℕ → Option ℕ → Option ℕ → Option (List ℕ)
all_four (Some a) (Some b) (Some c) (Some d) = Some (a ∷ b ∷ c ∷ d ∷ [])
all_four a b c d = None

-- `a.b.c.d`, from its pieces
unfoldable pub ip_of : List Bytes → Option (List ℕ)
ip_of (a ∷ b ∷ c ∷ d ∷ []) =
    all_four (decimal_upto 255 a) (decimal_upto 255 b) (decimal_upto 255 c) (decimal_upto 255 d)
ip_of texts = None

-- an address with its port, where both are there
unfoldable pub address_of : Option (List ℕ) → Option ℕ → Option Place
address_of (Some ip) (Some port) = Some (To ip port)
address_of ip port = None

-- `a.b.c.d:port`, from its pieces
unfoldable pub address_in : List Bytes → Option Place
address_in (ip ∷ port ∷ []) = address_of (ip_of (pieces dot ip)) (decimal_upto 65535 port)
address_in texts = None

-- the place that a word names: a peer's connection, or an address
unfoldable pub place_of : Bytes → Option Place
place_of [] = None
place_of (b ∷ bs) =
    if b == 99 then connection_of (decimal_upto MOST_COUNT bs)
    else address_in (pieces colon (b ∷ bs))

-- ## The rows

-- `run` or `end`
unfoldable pub one_word : Bytes → Result Line ℕ
one_word word =
    if same_bytes word (codes "run") then Ok lines.Run
    else (if same_bytes word (codes "end") then Ok lines.End else Err WORD)

-- `tick N`, N in milliseconds and not below the last one
unfoldable pub tick_line : ℕ → Option ℕ → Result Line ℕ
tick_line since None = Err NUMBER
tick_line since (Some now) = if nat_lt now since then Err BACK else Ok (lines.Tick now)

-- `lost PLACE`
unfoldable pub lost_line : Option Place → Result Line ℕ
lost_line None = Err PLACE
lost_line (Some place) = Ok (lines.Lost place)

-- after the moment of the last `tick`
unfoldable pub two_words : ℕ → Bytes → Bytes → Result Line ℕ
two_words since word more =
    if same_bytes word (codes "tick") then tick_line since (decimal_upto MOST_COUNT more)
    else (if same_bytes word (codes "lost") then lost_line (place_of more) else Err WORD)

-- the session of this host and serial, where both are numbers
unfoldable pub app_of : Option ℕ → Option ℕ → Result AppId ℕ
app_of (Some host) (Some serial) = Ok (record { host = host; serial = serial })
app_of host serial = Err NUMBER

-- `turn H S`
unfoldable pub turn_line : Result AppId ℕ → Result Line ℕ
turn_line (Ok app) = Ok (lines.Turn app)
turn_line (Err kind) = Err kind

-- `drop H S`
unfoldable pub drop_line : Result AppId ℕ → Result Line ℕ
drop_line (Ok app) = Ok (lines.Drop app)
drop_line (Err kind) = Err kind

-- `turn H S` or `drop H S`, with H of 32 bits
unfoldable pub three_words : Bytes → Bytes → Bytes → Result Line ℕ
three_words word host serial =
    if same_bytes word (codes "turn")
    then turn_line (app_of (decimal_upto 4294967295 host) (decimal_upto MOST_COUNT serial))
    else
    (if same_bytes word (codes "drop")
    then drop_line (app_of (decimal_upto 4294967295 host) (decimal_upto MOST_COUNT serial))
    else Err WORD)

-- the byte is there and is a line feed
unfoldable pub is_feed : Option ℕ → Bool
is_feed None = false
is_feed (Some b) = b == line_feed

-- the bytes that come from a place, so many of what stands after the line, with a line feed behind
-- them; and how far that goes
unfoldable pub incoming : Bytes → Option ℕ → Option Place → Result (Line × ℕ) ℕ
incoming after None place = Err NUMBER
incoming after (Some count) None = Err PLACE
incoming after (Some count) (Some place) =
    if is_feed (slice_get after count) then Ok (lines.In place (take count after), count + 1)
    else Err SHORT

-- how many bytes come: 1 to 65,536
unfoldable pub size_of : Option ℕ → Option ℕ
size_of None = None
size_of (Some count) = if count == 0 then None else Some count

-- a line after which no bytes are its own
unfoldable pub alone : Result Line ℕ → Result (Line × ℕ) ℕ
alone (Ok line) = Ok (line, 0)
alone (Err kind) = Err kind

-- what the words of a line say, with what stands after it: the line, and how many bytes of that are
-- its own; else the lowest kind of what is wrong with it
unfoldable pub line_of : ℕ → Bytes → List Bytes → Result (Line × ℕ) ℕ
line_of since after (a ∷ []) = alone (one_word a)
line_of since after (a ∷ b ∷ []) = alone (two_words since a b)
line_of since after (a ∷ b ∷ c ∷ []) =
    if same_bytes a (codes "in") then incoming after (size_of (decimal_upto 65536 c)) (place_of b)
    else alone (three_words a b c)
line_of since after words = Err WORD

-- ## The whole text

-- the line is `end`
unfoldable pub is_end : Line → Bool
is_end lines.End = true
is_end line = false

-- a line of so many bytes that begins at this place, and what stands after it; `end` is the last
-- line
unfoldable pub row_with : ℕ → ℕ → Bytes → Result (Line × ℕ) ℕ → Result (Line × ℕ) Fault
row_with at len after (Err kind) = Err (record { at = at; kind = kind })
row_with at len after (Ok (line, more)) =
    if is_end line && not (length after == 0) then Err (record { at = at + len; kind = NO_END })
    else Ok (line, len + more)

-- up to a line feed, which has to be there
unfoldable pub row_by : ℕ → ℕ → Bytes → Option Bytes → Result (Line × ℕ) Fault
row_by at since text None = Err (record { at = at + length text; kind = NO_END })
row_by at since text (Some after) =
    row_with at (length text + 1) after (line_of since after (pieces space text))

-- the line that begins at this place, and how many bytes it has with its own bytes
unfoldable pub row_at : ℕ → ℕ → Bytes → Result (Line × ℕ) Fault
row_at at since text = row_by at since (before line_feed text) (after line_feed text)

-- the moment of the last `tick`
unfoldable pub moment_after : ℕ → Line → ℕ
moment_after since (lines.Tick now) = now
moment_after since line = since

-- this line, and then those that are read
unfoldable pub with_first : Line → Result (List Line) Fault → Result (List Line) Fault
with_first line (Ok later) = Ok (line ∷ later)
with_first line (Err fault) = Err fault

-- a line, and the lines after it
unfoldable pub with_later_lines : Result (Line × ℕ) Fault → (Line → ℕ → Result (List Line) Fault)
    → Result (List Line) Fault
with_later_lines (Err fault) later = Err fault
with_later_lines (Ok (line, size)) later =
    if is_end line then Ok (line ∷ []) else with_first line (later line size)

-- the lines of a text that begins at this place; its first bytes, so many, belong to the line
-- before
unfoldable pub lines_in : ℕ → ℕ → ℕ → Bytes → Result (List Line) Fault
lines_in passed at since [] = Err (record { at = at; kind = NO_END })
lines_in (suc passed) at since (b ∷ bs) = lines_in passed (at + 1) since bs
lines_in zero at since (b ∷ bs) =
    with_later_lines (row_at at since (b ∷ bs))
    (λ line size. lines_in (size - 1) (at + 1) (moment_after since line) bs)

-- so many bytes has a script at most
abbrev pub MOST_BYTES : ℕ
MOST_BYTES = 67108864

-- the lines that a text says, or its first fault
unfoldable pub script_of : Bytes → Result (List Line) Fault
script_of text =
    if nat_lt MOST_BYTES (length text) then Err (record { at = MOST_BYTES; kind = LONG })
    else lines_in 0 0 0 text
