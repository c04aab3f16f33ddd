-- The pieces of a text behind an end, and a head's parts behind its start line (RFC 3261 section
-- 7).
use Rattle.std.specs.Prelude.{ℕ, List, [], Option, Some, None, Result, Ok}
use Rattle.sc_syntax.specs.declared.ending.Ending.{Ending}
use Rattle.sc_syntax.specs.declared.ending.Ending.TheVariants.{Unfolded}
use Rattle.sc_syntax.specs.declared.left.HeadParts.{HeadParts}
use Rattle.sc_syntax.specs.declared.left.Start.{Start}
use Rattle.sc_tokens.specs.Bytes.{Bytes}
use Rattle.sc_syntax.specs.UriParts.{Fault, then_read}
use Rattle.sc_syntax.specs.Lines.{pieces_at}
use Rattle.sc_syntax.specs.Messages.{all_judged, nothing_left}

-- the pieces of what stands behind an end, none where there is none
unfoldable pub pieces_behind : Ending → Option Bytes → List Bytes
pieces_behind ending None = []
pieces_behind ending (Some text) = pieces_at ending text

-- this start line and what the header lines leave, of which the first begins at this place
abbrev pub parts_behind : Start → Option Bytes → ℕ → Result HeadParts Fault
parts_behind start rest at =
    then_read (all_judged at nothing_left (pieces_behind Unfolded rest))
    (λ left. Ok (record { start = start; left = left }))
