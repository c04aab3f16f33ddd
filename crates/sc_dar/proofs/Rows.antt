-- Rows, and lines joined from them.
use Rattle.std.proofs.Common.{◌≡◌, ℕ, Bool, true, false, cond, Some, None, List, [], ◌∷◌, ◌++◌, ◌+◌, ◌<◌, ◌==◌, length, refl, sym, ap, ◌∙◌, append_assoc, arith}
use Rattle.std.proofs.lemmas.List.{nil_from_length}
use Rattle.std.proofs.lemmas.Bool.Decides.{nat_tests}
use Rattle.sc_tokens.specs.Bytes.{Bytes}
use Rattle.sc_tokens.specs.Cuts.{before, after, onto_first, pieces}
use Rattle.sc_syntax.proofs.CutLaws.{pieces_more, pieces_last}
use Rattle.sc_dar.specs.Lines.{Line, drop_blanks, ends, without_last, without_cr, lines_by_lf as ended, rows, onto_next, before_lines, lines_of_rows as joined, lines}

-- ## Rows

pub some_pieces : (text : Bytes) → (p : Bytes) × (ps : List Bytes) × (pieces 10 text ≡ p ∷ ps)
unfolding pieces onto_first
some_pieces [] = ([], [], refl)
some_pieces (b ∷ bs) = elim (b == 10) as (λ (t : Bool). (p : Bytes) × (ps : List Bytes) × (cond t ([] ∷ pieces 10 bs) (onto_first b (pieces 10 bs)) ≡ p ∷ ps)) [
  | true ↦ ([], pieces 10 bs, refl)
  | false ↦ let (q, qs, e) = some_pieces bs in (b ∷ q, qs, ap (onto_first b) e)
]

pub ended_more : (row : Bytes) (ps : List Bytes) (p : Bytes) (others : List Bytes) → ps ≡ p ∷ others → ended (row ∷ ps) ≡ without_cr row ∷ ended ps
unfolding ended
ended_more row ps p others e = rw e refl

pub row_first : (text row rest : Bytes) → row ≡ before 10 text → after 10 text ≡ Some rest → rows text ≡ without_cr row ∷ rows rest
unfolding rows
row_first text row rest is h =
    let (p, ps, e) = some_pieces rest in
    ap ended (pieces_more 10 text rest h) ∙ ended_more (before 10 text) (pieces 10 rest) p ps e ∙ ap (λ r. without_cr r ∷ ended (pieces 10 rest)) (sym is)

no_rows : rows [] ≡ []
unfolding rows ended pieces
no_rows = refl

not_none : (b : ℕ) (bs : Bytes) → (length (b ∷ bs) == 0) ≡ false
not_none b bs = grind (arith, nat_tests)

ended_last : (row : Bytes) → 0 < length row → ended (row ∷ []) ≡ row ∷ []
unfolding ended
ended_last [] h = absurd (omega (arith, h))
ended_last (b ∷ bs) h = ap (λ t. cond t [] ((b ∷ bs) ∷ [])) (not_none b bs)

pub row_last : (text row : Bytes) → row ≡ before 10 text → row ≡ text → after 10 text ≡ None → 0 < length text → rows text ≡ row ∷ rows []
unfolding rows
row_last text row is whole h some =
    ap ended (pieces_last 10 text h) ∙ ap (λ r. ended (r ∷ [])) (sym is ∙ whole) ∙ ended_last text some ∙ ap (λ r. r ∷ []) (sym whole) ∙ ap (λ r. row ∷ r) (sym no_rows)

-- ## Lines

-- the first of the lines, with this text and so many rows before it
abbrev pub behind_front : Bytes → ℕ → List Line → List Line
behind_front front above [] = []
behind_front front above (line ∷ more) = record { text = front ++ line.text; height = above + line.height } ∷ more

-- the lines of a row, whose blanks are dropped where they have to be, and of the rows after it
abbrev pub from_row : Bytes → List Bytes → List Line
from_row row more = before_lines row (joined true more) (joined false more)

some_line : (row : Bytes) (more : List Line) (fresh : List Line) → (l : Line) × (ls : List Line) × (before_lines row more fresh ≡ l ∷ ls)
unfolding before_lines onto_next
some_line row [] fresh = elim (ends 92 row) as (λ (t : Bool). (l : Line) × (ls : List Line) × (cond t (record { text = row; height = 1 } ∷ []) (record { text = row; height = 1 } ∷ fresh) ≡ l ∷ ls)) [
  | true ↦ (record { text = row; height = 1 }, [], refl)
  | false ↦ (record { text = row; height = 1 }, fresh, refl)
]
some_line row (next ∷ more) fresh = elim (ends 92 row) as (λ (t : Bool). (l : Line) × (ls : List Line) × (cond t (record { text = without_last row ++ next.text; height = 1 + next.height } ∷ more) (record { text = row; height = 1 } ∷ fresh) ≡ l ∷ ls)) [
  | true ↦ (record { text = without_last row ++ next.text; height = 1 + next.height }, more, refl)
  | false ↦ (record { text = row; height = 1 }, fresh, refl)
]

none_before : (l : Line) (ls : List Line) → behind_front [] 0 (l ∷ ls) ≡ l ∷ ls
none_before l ls = let same : ◌≡◌ {A = ℕ} (0 + l.height) l.height = omega arith in ap (λ n. record { text = l.text; height = n } ∷ ls) same

pub begun : (text row rest : Bytes) → rows text ≡ row ∷ rows rest → behind_front [] 0 (from_row row (rows rest)) ≡ lines text
unfolding lines joined
begun text row rest h =
    let (l, ls, e) = some_line row (joined true (rows rest)) (joined false (rows rest)) in
    ap (behind_front [] 0) e ∙ none_before l ls ∙ sym e ∙ ap (joined false) (sym h)

onto : (front row : Bytes) (above : ℕ) (lines_after : List Line) (l : Line) (ls : List Line) → lines_after ≡ l ∷ ls
    → behind_front front above (onto_next row lines_after) ≡ behind_front (front ++ without_last row) (above + 1) lines_after
unfolding onto_next
onto front row above lines_after l ls e =
    let sums : ◌≡◌ {A = ℕ} (above + (1 + l.height)) (above + 1 + l.height) = omega arith in
    rw e (ap (λ t. record { text = t; height = above + (1 + l.height) } ∷ ls) (sym (append_assoc front (without_last row) l.text))
    ∙ ap (λ n. record { text = (front ++ without_last row) ++ l.text; height = n } ∷ ls) sums)

-- the row is joined with the next one
pub goes_on : (front last rest row more : Bytes) (above : ℕ) → ends 92 last ≡ true → rows rest ≡ row ∷ rows more
    → behind_front (front ++ without_last last) (above + 1) (from_row (drop_blanks row) (rows more)) ≡ behind_front front above (from_row last (rows rest))
unfolding before_lines joined
goes_on front last rest row more above h e =
    let (l, ls, is) = some_line (drop_blanks row) (joined true (rows more)) (joined false (rows more)) in
    sym (ap (λ t. behind_front front above (cond t (onto_next last (joined true (rows rest))) (record { text = last; height = 1 } ∷ joined false (rows rest)))) h
    ∙ ap (λ r. behind_front front above (onto_next last (joined true r))) e
    ∙ onto front last above (from_row (drop_blanks row) (rows more)) l ls is)

-- the row doesn't end with a backslash
pub stands_alone : (front last rest : Bytes) (above : ℕ) → ends 92 last ≡ false → behind_front front above (from_row last (rows rest)) ≡ record { text = front ++ last; height = above + 1 } ∷ lines rest
unfolding before_lines lines
stands_alone front last rest above h = rw h refl

by_backslash : (t : Bool) (front last : Bytes) (above : ℕ) → behind_front front above (cond t (record { text = last; height = 1 } ∷ []) (record { text = last; height = 1 } ∷ [])) ≡ record { text = front ++ last; height = above + 1 } ∷ []
by_backslash true front last above = refl
by_backslash false front last above = refl

no_lines : (goes : Bool) → joined goes [] ≡ []
unfolding joined
no_lines goes = refl

last_row : (front last : Bytes) (above : ℕ) → behind_front front above (from_row last (rows [])) ≡ record { text = front ++ last; height = above + 1 } ∷ []
unfolding before_lines onto_next
last_row front last above =
    ap (λ r. behind_front front above (from_row last r)) no_rows
    ∙ ap (λ j. behind_front front above (before_lines last j (joined false []))) (no_lines true)
    ∙ ap (λ j. behind_front front above (before_lines last [] j)) (no_lines false)
    ∙ by_backslash (ends 92 last) front last above

pub no_more : lines [] ≡ []
unfolding lines
no_more = ap (joined false) no_rows ∙ no_lines false

-- no row follows
pub stands_last : (front last rest : Bytes) (above : ℕ) → length rest ≡ 0 → behind_front front above (from_row last (rows rest)) ≡ record { text = front ++ last; height = above + 1 } ∷ lines rest
stands_last front last rest above h =
    let empty = nil_from_length rest h in
    ap (λ r. behind_front front above (from_row last (rows r))) empty ∙ last_row front last above
    ∙ ap (λ r. record { text = front ++ last; height = above + 1 } ∷ r) (sym (ap lines empty ∙ no_more))
