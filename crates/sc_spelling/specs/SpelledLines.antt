-- Which texts spell header lines (RFC 3261 sections 7.3.1 and 25.1): a name, a colon and a value,
-- each line with its CR LF, and folds.
use Rattle.std.specs.Prelude.{◌≡◌, true, false, List, [], ◌∷◌, ◌++◌, ◌==◌, length, ⊤}
use Rattle.std.specs.List.{fold, flat_map}
use Rattle.sc_tokens.specs.HeaderNames.{long_name}
use Rattle.sc_tokens.specs.Tokens.{is_token, is_one_line, begins_blank}
use Rattle.sc_value.specs.declared.parts.Field.{Field}
use Rattle.sc_tokens.specs.Bytes.{Bytes}
use Rattle.sc_tokens.specs.Blanks.{without_blanks}
use Rattle.sc_tokens.specs.Signs.{carriage_return, colon, line_feed}
use Rattle.sc_syntax.specs.Folds.{with_piece}
use Rattle.sc_syntax.specs.SpelledParts.{IsBlanks, Padded}

-- the end of a line, and what stands behind it
abbrev pub line_end_before : Bytes → Bytes
line_end_before rest = carriage_return ∷ line_feed ∷ rest

-- ## Folds

-- no piece has CR, LF or NUL, and each begins with a blank
unfoldable pub ArePieces : List Bytes → Type 0
ArePieces [] = ⊤
ArePieces (piece ∷ more) = (is_one_line piece ≡ true) × (begins_blank piece ≡ true) × ArePieces more

-- a first piece begins with a byte that is no blank
abbrev pub IsFirst : Bytes → Type 0
IsFirst first =
    (is_one_line first ≡ true) × ((length first == 0) ≡ false) × (begins_blank first ≡ false)

-- the line is a piece and those that continue it, each behind CR LF. In the text each CR LF, with
-- all blanks round it, is one space
abbrev pub IsFolded : Bytes → Bytes → Type 0
IsFolded line text =
    (first : Bytes) × (more : List Bytes) × IsFirst first × ArePieces more
    × (line ≡ first ++ flat_map line_end_before more) × (text ≡ fold with_piece first more)

-- ## Names and values

-- the value of a header: one line, without a blank at an end
abbrev pub IsValue : Bytes → Type 0
IsValue value = (is_one_line value ≡ true) × (without_blanks value ≡ value)

-- a name, long or compact, blanks or none, a colon, and the value between blanks or none. The field
-- has the long name
abbrev pub IsFieldSpelled : Bytes → Field → Type 0
IsFieldSpelled text field =
    (name gap rest : Bytes) × (is_token name ≡ true) × (long_name name ≡ field.name) × IsBlanks gap
    × IsValue field.value × Padded field.value rest × (text ≡ name ++ (gap ++ colon ∷ rest))

-- the line, with its folds joined, is the field
abbrev pub IsLineSpelled : Bytes → Field → Type 0
IsLineSpelled line field = (text : Bytes) × IsFolded line text × IsFieldSpelled text field

-- the lines, each with its CR LF
unfoldable pub AreLinesSpelled : Bytes → List Field → Type 0
AreLinesSpelled text [] = text ≡ []
AreLinesSpelled text (field ∷ fields) =
    (line rest : Bytes) × IsLineSpelled line field × AreLinesSpelled rest fields
    × (text ≡ line ++ line_end_before rest)
