-- What a stream knows of its first message (RFC 3261 sections 7.5 and 18.3). It stays true whatever
-- comes behind.
use Rattle.std.specs.Prelude.{◌≡◌, ℕ, false, [], Option, Some, None, Ok, ◌+◌, ◌≤◌, ◌<◌, length, take, drop}
use Rattle.sc_syntax.specs.declared.ending.Ending.TheVariants.{Empty}
use Rattle.sc_tokens.specs.Bytes.{Bytes}
use Rattle.sc_syntax.specs.Lines.{begins_break, end_of}
use Rattle.sc_syntax.specs.Messages.{message_in, parts_in}
use Rattle.sc_syntax.specs.Fronts.{behind_breaks, front_after_head, front_of_length}
use Rattle.sc_stream.specs.declared.first.First.{First}
use Rattle.sc_stream.specs.declared.first.Known.{Known}
use Rattle.sc_stream.specs.declared.first.Known.TheVariants.{Searched, Read}
use Rattle.sc_stream.specs.declared.fronts.Wanted.{Wanted}
use Rattle.sc_stream.specs.declared.fronts.Wanted.TheVariants as wanted

-- ## A head

-- of a text with this head so many bytes are wanted, whatever stands behind it
abbrev pub IsSized : Bytes → ℕ → Type 0
IsSized head len =
    (length head + 4 ≤ len) × (len ≤ 65535)
    × ((text : Bytes)
    → front_after_head text head (message_in head []) ≡ front_of_length text head len)

-- what a head tells of the texts with it
abbrev pub Tells : Wanted → Bytes → Type 0
Tells (wanted.Body len parts) head = IsSized head len × (parts_in head ≡ Ok parts)
Tells (wanted.Nothing front) head =
    (text : Bytes) → front_after_head text head (message_in head []) ≡ front

-- how many bytes head and body have together, where they are within the limit
abbrev pub IsLenOf : Option ℕ → ℕ → Type 0
IsLenOf None all = 65535 < all
IsLenOf (Some len) all = (len ≡ all) × (len ≤ 65535)

-- ## The first message

-- what is known of what stands behind the line ends
unfoldable pub IsKnown : Known → Bytes → Type 0
IsKnown (Searched len) text =
    (len ≤ length text) × (len ≤ 65535) × (end_of Empty (take len text) ≡ None)
IsKnown (Read end len parts) text =
    (begins_break text ≡ false) × (end_of Empty (take 65535 text) ≡ Some end)
    × IsSized (take end text) len × (parts_in (take end text) ≡ Ok parts)

-- so many bytes are line ends, and this is known of what stands behind them
unfoldable pub IsFirst : First → Bytes → Type 0
IsFirst first text =
    (first.breaks ≤ length text) × (behind_breaks (drop first.breaks text) ≡ behind_breaks text)
    × IsKnown first.known (drop first.breaks text)
