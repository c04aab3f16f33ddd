-- A header line that is spelled is judged by its name and its value.
use Rattle.std.proofs.Common.{◌≡◌, ℕ, true, false, cond, not, Result, Ok, Err, List, [], ◌∷◌, ◌++◌, ◌==◌, ◌+◌, length, map, refl, sym, ap, ◌∙◌, append_assoc, append-nil}
use Rattle.std.specs.List.{list_all, flat_map}
use Rattle.std.specs.Option.{option_map_or}
use Rattle.std.proofs.lemmas.Bool.{false≢true}
use Rattle.sc_tokens.specs.HeaderNames.{long_name}
use Rattle.sc_tokens.specs.Tokens.{is_token_byte, is_blank, is_line_break, is_one_line, begins_blank}
use Rattle.sc_value.specs.declared.parts.Field.{Field}
use Rattle.sc_syntax.specs.declared.ending.Ending.{Ending}
use Rattle.sc_syntax.specs.declared.ending.Ending.TheVariants.{Any, Unfolded, Empty}
use Rattle.sc_syntax.specs.declared.left.Left.{Left}
use Rattle.sc_tokens.specs.Bytes.{Bytes}
use Rattle.sc_tokens.specs.Cuts.{before, after}
use Rattle.sc_syntax.specs.UriParts.{then_read}
use Rattle.sc_tokens.specs.Blanks.{without_blanks as trimmed, trimmed_back}
use Rattle.sc_syntax.specs.Lines.{is_end, pieces_at}
use Rattle.sc_syntax.specs.Folds.{all_continued, text_without_folds as joined}
use Rattle.sc_syntax.specs.Judging.{header_named, with_header as taken, with_named_header as named, left_with_line as judged}
use Rattle.sc_syntax.specs.Messages.{fault_at_place as placed, all_judged}
use Rattle.sc_syntax.proofs.BlankLaws.{both, back_padded, padded_is_trimmed}
use Rattle.sc_syntax.proofs.ClassLaws.{differs, class_lacks, before_joined, after_joined, class_ends, solid_back}
use Rattle.sc_syntax.proofs.SpelledUriLaws.{lacks_joined}
use Rattle.sc_syntax.proofs.AddressLaws.{blanks_lack}
use Rattle.sc_syntax.proofs.ParameterLaws.{token_is, token_solid}
use Rattle.sc_spelling.specs.SpelledLines.{line_end_before as ended, ArePieces, IsFirst, IsFolded, IsFieldSpelled, IsLineSpelled}
use Rattle.sc_spelling.proofs.Entries.{entry_of, then_taken, all_taken}
use Rattle.sc_spelling.proofs.EndLaws.{is_clear, clear_joined, line_clear, break_clear, no_return, any_end, not_empty, fold_goes_on, piece_alone, piece_first}

-- ## Folds

-- the ends that a fold isn't
abbrev pub GoesOn : Ending → Type 0
GoesOn ending = (piece : Bytes) → begins_blank piece ≡ true → is_end ending (ended piece) ≡ false

blank_no_return : (b : ℕ) → is_blank b ≡ true → (b == 13) ≡ false
unfolding is_blank
blank_no_return b h = differs is_blank b 13 refl h

pub fold_not_empty : GoesOn Empty
unfolding begins_blank
fold_not_empty [] h = absurd (false≢true h)
fold_not_empty (b ∷ bs) h = not_empty b bs (blank_no_return b h)

pub fold_goes : GoesOn Unfolded
fold_goes piece h = fold_goes_on piece h

blank_more : (piece rest : Bytes) → begins_blank piece ≡ true → begins_blank (piece ++ rest) ≡ true
unfolding begins_blank
blank_more [] rest h = absurd (false≢true h)
blank_more (b ∷ bs) rest h = h

folds_clear : (pieces : List Bytes) (ending : Ending) (rest : Bytes) → GoesOn ending → ArePieces pieces → is_clear ending (flat_map ended pieces) rest ≡ true
unfolding ArePieces is_clear
folds_clear [] ending rest goes h = refl
folds_clear (piece ∷ more) ending rest goes h =
    let behind = flat_map ended more in
    break_clear ending (piece ++ behind) rest (ap (λ l. is_end ending (ended l)) (append_assoc piece behind rest) ∙ goes (piece ++ (behind ++ rest)) (blank_more piece (behind ++ rest) h.1))
    (clear_joined ending piece behind rest (line_clear ending piece (behind ++ rest) h.0) (folds_clear more ending rest goes h.2))

pub folded_clear : (line text : Bytes) (ending : Ending) (rest : Bytes) → GoesOn ending → IsFolded line text → is_clear ending line rest ≡ true
folded_clear line text ending rest goes (first, more, one, pieces, is, same) =
    ap (λ l. is_clear ending l rest) is ∙ clear_joined ending first (flat_map ended more) rest (line_clear ending first (flat_map ended more ++ rest) one.0) (folds_clear more ending rest goes pieces)

pieces_are : (first : Bytes) (more : List Bytes) → is_one_line first ≡ true → ArePieces more → pieces_at Any (first ++ flat_map ended more) ≡ first ∷ more
unfolding ArePieces
pieces_are first [] one h = ap (pieces_at Any) (append-nil first) ∙ piece_alone Any first (line_clear Any first [] one)
pieces_are first (piece ∷ more) one h =
    piece_first Any first (piece ++ flat_map ended more) (line_clear Any first (ended (piece ++ flat_map ended more)) one) (any_end (piece ++ flat_map ended more)) ∙ ap (λ l. first ∷ l) (pieces_are piece more h.0 h.2)

pub folded_joined : (line text : Bytes) → IsFolded line text → joined line ≡ text
unfolding joined all_continued
folded_joined line text (first, more, one, pieces, is, same) = ap (λ l. all_continued (pieces_at Any l)) is ∙ ap all_continued (pieces_are first more one.0 pieces) ∙ sym same

-- a line begins with no blank and no CR
abbrev pub BeginsLine : Bytes → Type 0
BeginsLine line = (b : ℕ) × (bs : Bytes) × (line ≡ b ∷ bs) × (is_blank b ≡ false) × ((b == 13) ≡ false)

first_begins : (first : Bytes) → IsFirst first → BeginsLine first
unfolding is_one_line begins_blank
first_begins [] h = absurd (false≢true (sym h.1))
first_begins (b ∷ bs) h = (b, bs, refl, h.2, no_return b (both (not (is_line_break b)) (list_all (λ c. not (is_line_break c)) bs) h.0).0)

pub folded_begins : (line text : Bytes) → IsFolded line text → BeginsLine line
folded_begins line text (first, more, one, pieces, is, same) =
    let begin = first_begins first one in (begin.0, begin.1 ++ flat_map ended more, is ∙ ap (λ l. l ++ flat_map ended more) begin.2, begin.3, begin.4)

-- ## Names and values

colon_class : (is_token_byte 58 ≡ false) × (is_blank 58 ≡ false)
unfolding is_token_byte is_blank
colon_class = (refl, refl)

pub field_judged : (left : Left) (text : Bytes) (field : Field) → IsFieldSpelled text field → judged left text ≡ taken left field.name (header_named field.name) field.value
unfolding judged named
field_judged left text field (name, gap, rest, token, long, blanks, value, pad, is) =
    let bytes = token_is name token in
    let lacks = lacks_joined 58 name gap (class_lacks is_token_byte 58 name colon_class.0 bytes.1) (blanks_lack gap 58 colon_class.1 blanks) in
    let whole = is ∙ sym (append_assoc name gap (58 ∷ rest)) in
    let front = ap (before 58) whole ∙ before_joined 58 (name ++ gap) rest lacks in
    let word = ap trimmed_back front ∙ back_padded name gap blanks ∙ solid_back name (class_ends is_token_byte token_solid name bytes.0 bytes.1) in
    ap (λ o. option_map_or (named left (trimmed_back (before 58 text))) o (Err 6)) (ap (after 58) whole ∙ after_joined 58 (name ++ gap) rest lacks)
    ∙ ap (λ w. named left w rest) word ∙ ap (λ t. cond t (taken left (long_name name) (header_named (long_name name)) (trimmed rest)) (Err 6)) token
    ∙ ap (λ n. taken left n (header_named n) (trimmed rest)) long ∙ ap (λ v. taken left field.name (header_named field.name) v) (padded_is_trimmed field.value rest pad value.1)

pub line_judged : (left : Left) (line : Bytes) (field : Field) → IsLineSpelled line field → judged left (joined line) ≡ taken left field.name (header_named field.name) field.value
line_judged left line field (text, folded, spelled) = ap (judged left) (folded_joined line text folded) ∙ field_judged left text field spelled

-- ## All lines

-- the lines spell the fields, one each
unfoldable pub AreSpelledBy : List Bytes → List Field → Type 0
AreSpelledBy [] [] = Unit {0}
AreSpelledBy [] (field ∷ fields) = ⊥
AreSpelledBy (line ∷ lines) [] = ⊥
AreSpelledBy (line ∷ lines) (field ∷ fields) = IsLineSpelled line field × AreSpelledBy lines fields

pub taken_then : (r : Result Left ℕ) (next : Left → Result Left ℕ) (final : Left) → then_taken r next ≡ Ok final → (left : Left) × (r ≡ Ok left) × (next left ≡ Ok final)
unfolding then_taken
taken_then (Ok left) next final h = (left, refl, h)
taken_then (Err kind) next final h = let bad : ◌≡◌ {A = Result Left ℕ} (Err kind) (Ok final) = h in cc

pub lines_judged : (lines : List Bytes) (fields : List Field) (at : ℕ) (left final : Left) → AreSpelledBy lines fields → all_taken left (map entry_of fields) ≡ Ok final → all_judged at left lines ≡ Ok final
unfolding AreSpelledBy all_taken all_judged placed then_read entry_of
lines_judged [] [] at left final h r = let same : ◌≡◌ {A = Result Left ℕ} (Ok left) (Ok final) = r in let is : left ≡ final = cc in ap Ok is
lines_judged [] (field ∷ fields) at left final h r = absurd h
lines_judged (line ∷ lines) [] at left final h r = absurd h
lines_judged (line ∷ lines) (field ∷ fields) at left final h r =
    let one = taken_then (taken left field.name (header_named field.name) field.value) (λ next. all_taken next (map entry_of fields)) final r in
    ap (λ j. then_read (placed at j) (λ next. all_judged (at + length line + 2) next lines)) (line_judged left line field h.0 ∙ one.1) ∙ lines_judged lines fields (at + length line + 2) one.0 final h.1 one.2
