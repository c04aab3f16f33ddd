-- The lines of a message (RFC 3261 sections 7 and 7.3.1). A line ends at a CR LF that no blank
-- follows, so a folded header is one line. The start line is never folded, and the empty line is
-- looked for before folds are.
use Rattle.std.specs.Prelude.{ℕ, Bool, List, [], ◌∷◌, Option, Some, None, not, ◌&&◌, ◌+◌, take, drop, if◌then◌else◌}
use Rattle.std.specs.Option.{option_map, option_map_or}
use Rattle.sc_tokens.specs.Tokens.{begins_blank}
use Rattle.sc_syntax.specs.declared.ending.Ending.{Ending}
use Rattle.sc_syntax.specs.declared.ending.Ending.TheVariants.{Any, Unfolded, Empty}
use Rattle.sc_tokens.specs.Bytes.{Bytes}
use Rattle.sc_tokens.specs.Cuts.{onto_first}
use Rattle.sc_tokens.specs.Hosts.{begins}
use Rattle.sc_tokens.specs.Signs.{carriage_return, line_feed}

-- CR LF stands at the front
unfoldable pub begins_break : Bytes → Bool
begins_break text = begins carriage_return text && begins line_feed (drop 1 text)

-- such an end stands at the front
unfoldable pub is_end : Ending → Bytes → Bool
is_end Any text = begins_break text
is_end Unfolded text = begins_break text && not (begins_blank (drop 2 text))
is_end Empty text = begins_break text && begins_break (drop 2 text)

-- the place of the first such end
unfoldable pub end_of : Ending → Bytes → Option ℕ
end_of ending [] = None
end_of ending (b ∷ bs) =
    if is_end ending (b ∷ bs) then Some 0 else option_map (λ n. 1 + n) (end_of ending bs)

-- the pieces between such ends: one more than there are ends
unfoldable pub pieces_at : Ending → Bytes → List Bytes
pieces_at ending [] = [] ∷ []
pieces_at ending (b ∷ []) = (b ∷ []) ∷ []
pieces_at ending (b ∷ c ∷ bs) =
    if is_end ending (b ∷ c ∷ bs) then [] ∷ pieces_at ending bs
    else onto_first b (pieces_at ending (c ∷ bs))

-- ## The head of a message: all before its empty line, without the CR LF of the last line

-- the start line: up to the first CR LF, or all
unfoldable pub start_line : Bytes → Bytes
start_line head = option_map_or (λ end. take end head) (end_of Any head) head

-- the lines in what stands behind an end, where there is one
unfoldable pub lines_behind : Option Bytes → List Bytes
lines_behind None = []
lines_behind (Some text) = pieces_at Unfolded text

-- what stands behind the start line, where there is something
unfoldable pub behind_start : Bytes → Option Bytes
behind_start head = option_map (λ end. drop (end + 2) head) (end_of Any head)

-- the header lines
unfoldable pub header_lines : Bytes → List Bytes
header_lines head = lines_behind (behind_start head)
