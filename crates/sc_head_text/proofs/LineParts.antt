-- Each part that is cut out of a text of one line is of one line.
use Rattle.std.proofs.Common.{◌≡◌, ℕ, true, not, Option, Some, None, List, [], ◌∷◌, ◌++◌, refl, sym, ap, ◌∙◌}
use Rattle.std.specs.List.{list_all}
use Rattle.std.specs.Option.{option_map_or}
use Rattle.std.proofs.lemmas.List.Folds.{list_all-append}
use Rattle.sc_tokens.specs.Bytes.{Bytes}
use Rattle.sc_tokens.specs.Tokens.{is_line_break, is_one_line}
use Rattle.sc_tokens.specs.Blanks.{without_blanks as trimmed}
use Rattle.sc_syntax.specs.declared.scan.Scan.{Scan}
use Rattle.sc_syntax.specs.Scanning.{parts}
use Rattle.sc_syntax.specs.SpelledUris.{behind_sign as led}
use Rattle.sc_syntax.specs.SpelledParts.{Padded}
use Rattle.sc_syntax.proofs.BlankLaws.{both, and_true, trimmed_is_padded}
use Rattle.sc_syntax.proofs.ListedLaws.{glued, parts_text, some_part}
use Rattle.sc_head_text.specs.Parts.{parts_behind}

abbrev pub IsLine : Bytes → Type 0
IsLine text = is_one_line text ≡ true

abbrev pub AreLines : List Bytes → Type 0
AreLines texts = list_all is_one_line texts ≡ true

pub split_line : (front back : Bytes) → IsLine (front ++ back) → IsLine front × IsLine back
unfolding is_one_line
split_line front back h = both (is_one_line front) (is_one_line back) (sym (list_all-append (λ b. not (is_line_break b)) front back) ∙ h)

pub padded_line : (inner text : Bytes) → Padded inner text → IsLine text → IsLine inner
padded_line inner text (front, back, f, b, is) h = (split_line inner back (split_line front (inner ++ back) (ap is_one_line (sym is) ∙ h)).1).0

pub trimmed_line : (text : Bytes) → IsLine text → IsLine (trimmed text)
trimmed_line text h = padded_line (trimmed text) text (trimmed_is_padded text) h

pub led_line : (sign : ℕ) (value : Option Bytes) → IsLine (led sign value) → option_map_or is_one_line value true ≡ true
unfolding led
led_line sign None h = refl
led_line sign (Some value) h = (split_line (sign ∷ []) value h).1

-- ## Parts between separators

glued_lines : (sign : ℕ) (texts : List Bytes) → IsLine (glued sign texts) → AreLines texts
glued_lines sign [] h = refl
glued_lines sign (text ∷ texts) h =
    let cut = split_line text (glued sign texts) (split_line (sign ∷ []) (text ++ glued sign texts) h).1 in and_true (is_one_line text) (list_all is_one_line texts) cut.0 (glued_lines sign texts cut.1)

pub parts_lines : (text : Bytes) (restart at : Scan) (sign : ℕ) → IsLine text → AreLines (parts restart sign at text)
parts_lines text restart at sign h =
    let some = some_part text restart at sign in
    let cut = split_line some.0 (glued sign some.1) (ap is_one_line (sym (parts_text text some.0 some.1 restart at sign some.2)) ∙ h) in
    ap (list_all is_one_line) some.2 ∙ and_true (is_one_line some.0) (list_all is_one_line some.1) cut.0 (glued_lines sign some.1 cut.1)

pub first_line : (first : Bytes) (more texts : List Bytes) → texts ≡ first ∷ more → AreLines texts → IsLine first × AreLines more
first_line first more texts is h = both (is_one_line first) (list_all is_one_line more) (ap (list_all is_one_line) (sym is) ∙ h)

-- the first part, and those behind it
pub cut_lines : (text first : Bytes) (more : List Bytes) (restart at : Scan) (sign : ℕ) → parts restart sign at text ≡ first ∷ more → IsLine text → IsLine first × AreLines more
cut_lines text first more restart at sign is h = first_line first more (parts restart sign at text) is (parts_lines text restart at sign h)

pub behind_lines : (text : Bytes) (restart : Scan) (sign : ℕ) → IsLine text → AreLines (parts_behind restart sign (Some text))
unfolding parts_behind
behind_lines text restart sign h = parts_lines text restart restart sign h
