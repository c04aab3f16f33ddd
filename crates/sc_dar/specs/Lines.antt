-- The lines of a routing table's text (JSR 289 appendix C). A backslash at the end of a line joins
-- the next one to it.
use Rattle.std.specs.Prelude.{ℕ, Bool, true, false, List, [], ◌∷◌, ◌++◌, ◌||◌, ◌==◌, ◌+◌, ◌-◌, length, take, slice_get, if◌then◌else◌}
use Rattle.std.specs.List.{list_all}
use Rattle.std.specs.Option.{option_map_or}
use Rattle.sc_tokens.specs.Tokens.{is_blank}
use Rattle.sc_tokens.specs.Bytes.{Bytes}
use Rattle.sc_tokens.specs.Cuts.{pieces}
use Rattle.sc_tokens.specs.Hosts.{begins}
use Rattle.sc_tokens.specs.Signs.{backslash, exclamation, line_feed, number_sign}

-- what stands after the blanks at the front: spaces and tabs
unfoldable pub drop_blanks : Bytes → Bytes
drop_blanks [] = []
drop_blanks (b ∷ bs) = if is_blank b then drop_blanks bs else b ∷ bs

-- all bytes are blanks
unfoldable pub is_blank_text : Bytes → Bool
is_blank_text text = list_all is_blank text

-- the text ends with this byte
unfoldable pub ends : ℕ → Bytes → Bool
ends sign text = option_map_or (λ b. b == sign) (slice_get text (length text - 1)) false

-- the text without its last byte
unfoldable pub without_last : Bytes → Bytes
without_last text = take (length text - 1) text

-- the line without a CR at its end
unfoldable pub without_cr : Bytes → Bytes
without_cr line = if ends 13 line then without_last line else line

-- the lines of a text that is cut at each LF. What follows the last LF is a line too, unless it's
-- empty
unfoldable pub lines_by_lf : List Bytes → List Bytes
lines_by_lf [] = []
lines_by_lf (last ∷ []) = if length last == 0 then [] else last ∷ []
lines_by_lf (line ∷ next ∷ more) = without_cr line ∷ lines_by_lf (next ∷ more)

-- the rows of a text: what stands between its LFs, without a CR at an end
unfoldable pub rows : Bytes → List Bytes
rows text = lines_by_lf (pieces line_feed text)

-- a line that may be joined from several rows of the text
pub record Line : Type 0 where
  pub text : Bytes
  -- how many rows they are
  pub height : ℕ

-- the row that ends with a backslash, with the line after it; the backslash of the last row stays
unfoldable pub onto_next : Bytes → List Line → List Line
onto_next row [] = record { text = row; height = 1 } ∷ []
onto_next row (next ∷ more) =
    record { text = without_last row ++ next.text; height = 1 + next.height } ∷ more

-- the row is the front of the lines that go on after it, or a line before the fresh ones
unfoldable pub before_lines : Bytes → List Line → List Line → List Line
before_lines row lines_of_rows fresh =
    if ends backslash row then onto_next row lines_of_rows
    else (record { text = row; height = 1 } ∷ fresh)

-- the lines of these rows, of which the first may go on a row before it, and loses its blanks then
unfoldable pub lines_of_rows : Bool → List Bytes → List Line
lines_of_rows goes_on [] = []
lines_of_rows goes_on (row ∷ more) =
    before_lines (if goes_on then drop_blanks row else row) (lines_of_rows true more)
    (lines_of_rows false more)

-- the lines of the text
unfoldable pub lines : Bytes → List Line
lines text = lines_of_rows false (rows text)

-- the line says nothing: it is blank, or its first byte past blanks is # or !
unfoldable pub is_comment : Bytes → Bool
is_comment line =
    length (drop_blanks line) == 0 || begins number_sign (drop_blanks line)
    || begins exclamation (drop_blanks line)
