-- The text of a header line: each CR LF in it, with all blanks round it, is one space (RFC 3261
-- section 7.3.1).
use Rattle.std.specs.Prelude.{List, [], ◌∷◌, ◌++◌}
use Rattle.std.specs.List.{fold}
use Rattle.sc_syntax.specs.declared.ending.Ending.TheVariants.{Any}
use Rattle.sc_tokens.specs.Bytes.{Bytes}
use Rattle.sc_tokens.specs.Blanks.{trimmed_back, trimmed_front}
use Rattle.sc_tokens.specs.Signs.{space}
use Rattle.sc_syntax.specs.Lines.{pieces_at}

-- a text, and the piece that continues it
unfoldable pub with_piece : Bytes → Bytes → Bytes
with_piece text piece = trimmed_back text ++ space ∷ trimmed_front piece

-- the first piece, continued by the others
unfoldable pub all_continued : List Bytes → Bytes
all_continued [] = []
all_continued (first ∷ more) = fold with_piece first more

-- the text of a line, with its folds
unfoldable pub text_without_folds : Bytes → Bytes
text_without_folds line = all_continued (pieces_at Any line)
