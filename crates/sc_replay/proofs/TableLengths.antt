-- A routing table of a text that isn't too long has few lists.
use Rattle.std.proofs.Common.{◌≡◌, ℕ, Bool, true, false, cond, Option, Some, None, Result, Ok, Err, List, [], ◌∷◌, ◌++◌, ◌+◌, ◌<◌, ◌≤◌, ◌^◌, length, subst, refl, ap, take, get_or, ◌∙◌, arith}
use Rattle.std.specs.Prelude.{◌==◌, nat_lt, sum_by}
use Rattle.std.specs.List.{All}
use Rattle.std.specs.Option.{option_to_list}
use Rattle.std.proofs.lemmas.Bool.{false≢true, lt-ltb}
use Rattle.std.proofs.lemmas.List.{length-append}
use Rattle.std.proofs.lemmas.List.Sums.{sum_by-le, sum_by_more_le}
use Rattle.sc_terms.specs.declared.settings.Dar.{Dar}
use Rattle.sc_terms.specs.declared.settings.MethodList.{MethodList}
use Rattle.sc_tokens.specs.Bytes.{Bytes}
use Rattle.sc_tokens.specs.Cuts.{pieces, onto_first}
use Rattle.sc_dar.specs.Lines.{Line, lines, lines_of_rows as joined, before_lines, onto_next, lines_by_lf as ended, rows, ends, drop_blanks}
use Rattle.sc_dar.specs.Tables.{LONG, Fault, list_of, lists_with as judged, table_with, table_of}
use Rattle.sc_dar.proofs.Kept.{err_ok, ok_same, then_line_ok}

-- ## Lines

first_length : (b n : ℕ) (ps : List Bytes) → length ps ≤ n + 1 → length (onto_first b ps) ≤ n + 1 + 1
unfolding onto_first
first_length b n [] few = omega arith
first_length b n (p ∷ ps) few = omega (arith, few)

cut_length : (t : Bool) (b n : ℕ) (ps : List Bytes) → length ps ≤ n + 1 → length (cond t ([] ∷ ps) (onto_first b ps)) ≤ n + 1 + 1
cut_length true b n ps few = omega (arith, few)
cut_length false b n ps few = first_length b n ps few

pieces_length : (sign : ℕ) (text : Bytes) → length (pieces sign text) ≤ length text + 1
unfolding pieces
pieces_length sign [] = omega arith
pieces_length sign (b ∷ bs) = let few = cut_length (b == sign) b (length bs) (pieces sign bs) (pieces_length sign bs) in omega (arith, few)

last_length : (t : Bool) (last : Bytes) → length (cond t [] (last ∷ [])) ≤ 1
last_length true last = omega arith
last_length false last = omega arith

ended_length : (ps : List Bytes) → length (ended ps) ≤ length ps
unfolding ended
ended_length [] = omega arith
ended_length (last ∷ []) = last_length (length last == 0) last
ended_length (line ∷ next ∷ more) = let few = ended_length (next ∷ more) in omega (arith, few)

next_length : (n : ℕ) (row : Bytes) (ls : List Line) → length ls ≤ n → length (onto_next row ls) ≤ n + 1
unfolding onto_next
next_length n row [] few = omega arith
next_length n row (l ∷ ls) few = omega (arith, few)

row_length : (t : Bool) (n : ℕ) (row : Bytes) (ls fresh : List Line) → length ls ≤ n → length fresh ≤ n → length (cond t (onto_next row ls) (record { text = row; height = 1 } ∷ fresh)) ≤ n + 1
row_length true n row ls fresh few fewer = next_length n row ls few
row_length false n row ls fresh few fewer = omega (arith, fewer)

joined_length : (rs : List Bytes) (goes_on : Bool) → length (joined goes_on rs) ≤ length rs
unfolding joined before_lines
joined_length [] goes_on = omega arith
joined_length (r ∷ rs) goes_on =
    let few = row_length (ends 92 (cond goes_on (drop_blanks r) r)) (length rs) (cond goes_on (drop_blanks r) r) (joined true rs) (joined false rs) (joined_length rs true) (joined_length rs false) in omega (arith, few)

lines_length : (text : Bytes) → length (lines text) ≤ length text + 1
unfolding lines rows
lines_length text =
    let a = joined_length (ended (pieces 10 text)) false in
    let b = ended_length (pieces 10 text) in
    let c = pieces_length 10 text in
    omega (arith, a, b, c)

-- ## Lists

one_more : (earlier : List MethodList) (found : Option MethodList) → length (earlier ++ option_to_list found) ≤ length earlier + 1
one_more earlier None = let same = length-append earlier [] in omega (arith, same)
one_more earlier (Some list) = let same = length-append earlier (list ∷ []) in omega (arith, same)

judged_length : (ls : List Line) (apps : List Bytes) (number : ℕ) (earlier lists : List MethodList) → judged apps number earlier ls ≡ Ok lists → length lists ≤ length earlier + length ls
unfolding judged
judged_length [] apps number earlier lists h = let same = ap length (ok_same earlier lists h) in omega (arith, same)
judged_length (line ∷ more) apps number earlier lists h =
    let (found, is, h1) = then_line_ok number (list_of apps earlier line.text) _ lists h in
    let few = judged_length more apps (number + line.height) (earlier ++ option_to_list found) lists h1 in
    let one = one_more earlier found in
    omega (arith, few, one)

table_length : (most : ℕ) (r : Result (List MethodList) Fault) (dar : Dar) → ((lists : List MethodList) → r ≡ Ok lists → length lists ≤ most) → table_with r ≡ Ok dar → length dar.lists ≤ most
unfolding table_with
table_length most (Ok lists) dar few h = subst (λ (d : Dar). length d.lists ≤ most) (ok_same (record { lists = lists }) dar h) (few lists refl)
table_length most (Err fault) dar few h = absurd (err_ok fault dar h)

short_text : (n : ℕ) (t : Bool) (r : Result Dar Fault) (dar : Dar) → (65536 < n → t ≡ true) → cond t (Err (record { line = 0; kind = LONG })) r ≡ Ok dar → (n ≤ 65536) × (r ≡ Ok dar)
short_text n true r dar long h = absurd (err_ok (record { line = 0; kind = LONG }) dar h)
short_text n false r dar long h = (at_most n (λ more. false≢true (long more)), h)
  where
    at_most : (n : ℕ) → ¬ (65536 < n) → n ≤ 65536
    at_most n none = grind arith

-- a table that is read has at most one list a line
pub few_lists : (text : Bytes) (apps : List Bytes) (dar : Dar) → table_of text apps ≡ Ok dar → length dar.lists ≤ 65537
unfolding table_of
few_lists text apps dar h =
    let (short, is) = short_text (length text) (nat_lt 65536 (length text)) (table_with (judged apps 1 [] (lines text))) dar (lt-ltb 65536 (length text)) h in
    let lists_few = table_length (length text + 1) (judged apps 1 [] (lines text)) dar
    (λ lists all. let few = judged_length (lines text) apps 1 [] lists all in let few_lines = lines_length text in omega (arith, few, few_lines)) is in
    omega (arith, short, lists_few)

-- so many tuples can be counted
pub few_tuples : (lists : List MethodList) → length lists ≤ 65537 → All (λ (list : MethodList). length list.tuples ≤ 64) lists → sum_by (λ (list : MethodList). length list.tuples) lists < 2 ^ 64
few_tuples lists few each = let sum = sum_by-le (λ (list : MethodList). length list.tuples) 64 lists each in omega (arith, few, sum)

-- and so can those so far, with one more list
pub tuples_fit : (lists : List MethodList) (i count more : ℕ) (list : MethodList) → i < length lists → count ≡ sum_by (λ (list : MethodList). length list.tuples) (take i lists) → list ≡ get_or lists i list → more ≡ length list.tuples
    → length lists ≤ 65537 → All (λ (list : MethodList). length list.tuples ≤ 64) lists → count + more < 2 ^ 64
tuples_fit lists i count more list below sum is size few each =
    let whole = few_tuples lists few each in
    let part = sum_by_more_le (λ (list : MethodList). length list.tuples) lists i list below in
    let same = size ∙ ap (λ (l : MethodList). length l.tuples) is in
    omega (arith, whole, part, same, sum)
