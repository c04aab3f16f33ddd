-- Worked cases: a folded line, and a header with a compact name and blanks.
use Rattle.std.proofs.Common.{[], ◌∷◌, refl}
use Rattle.std.specs.Prelude.{codes}
use Rattle.sc_tokens.specs.HeaderNames.{long_of, long_name, call_id_name, contact_name, content_encoding_name, content_length_name, content_type_name, from_name, subject_name, supported_name, to_name, via_name}
use Rattle.sc_tokens.specs.Tokens.{is_token, is_token_byte, is_blank, begins_blank, is_line_break, is_one_line}
use Rattle.sc_tokens.specs.Blanks.{trimmed_front, trimmed_back, without_blanks as trimmed}
use Rattle.sc_syntax.specs.Folds.{with_piece as continued}
use Rattle.sc_spelling.specs.SpelledLines.{ArePieces, IsFolded, IsFieldSpelled, IsLineSpelled}

-- the CR LF with all blanks round it is one space, and so are two of them with blanks alone between
folds : IsFolded (codes "s :a \r\n\t b\r\n \r\n c") (codes "s :a b c")
unfolding ArePieces is_one_line is_line_break begins_blank is_blank continued trimmed_front trimmed_back
folds = (codes "s :a ", codes "\t b" ∷ codes " " ∷ codes " c" ∷ [], (refl, refl, refl), (refl, refl, (refl, refl, (refl, refl, tt))), refl, refl)

-- a compact name in upper case has its long one
names : IsFieldSpelled (codes "S : a b ") (record { name = codes "Subject"; value = codes "a b" })
unfolding long_of long_name call_id_name contact_name content_encoding_name content_length_name content_type_name from_name subject_name supported_name to_name via_name is_token is_token_byte is_one_line is_line_break is_blank trimmed trimmed_front trimmed_back
names = (codes "S", codes " ", codes " a b ", refl, refl, refl, (refl, refl), (codes " ", codes " ", refl, refl, refl), refl)

-- a line of both
lines : IsLineSpelled (codes "S : a\r\n b ") (record { name = codes "Subject"; value = codes "a b" })
unfolding ArePieces is_one_line is_line_break begins_blank is_blank continued trimmed_front trimmed_back
lines = (codes "S : a b ", (codes "S : a", codes " b " ∷ [], (refl, refl, refl), (refl, refl, tt), refl, refl), names)
