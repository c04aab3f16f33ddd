-- Rows of a script's text that are read, one after the other.
use Rattle.std.proofs.Common.{◌≡◌, ◌<◌, ◌≤◌, ◌^◌, ◌+◌, ◌-◌, ◌==◌, ◌&&◌, ◌||◌, not, ℕ, suc, Bool, true, false, cond, None, Some, Ok, Err, List, [], ◌∷◌, ◌++◌, codes, decimal, length, take, refl, sym, ap, subst, ◌∙◌, append_assoc, arith}
use Rattle.std.specs.Prelude.{nat_lt, nat_le, get_or, Option, Result}
use Rattle.std.specs.List.{slice_get}
use Rattle.std.proofs.lemmas.Bool.{false≢true}
use Rattle.std.proofs.lemmas.Bool.Decides.{nat_tests}
use Rattle.std.proofs.lemmas.Fmt.{first_decimal}
use Rattle.std.proofs.lemmas.List.{length-append}
use Rattle.sc_value.specs.declared.ids.Place.TheVariants.{Back}
use Rattle.sc_terms.specs.declared.steps.Line.{Line}
use Rattle.sc_terms.specs.declared.steps.Line.TheVariants as lines
use Rattle.sc_tokens.specs.Cuts.{has, before, after, onto_first, pieces}
use Rattle.sc_tokens.specs.Hosts.{begins}
use Rattle.sc_tokens.specs.Numbers.{is_digits, with_digit, number_in}
use Rattle.sc_tokens.specs.Bytes.{Bytes}
use Rattle.sc_model.specs.Generated.{in_word, run_line, end_line, tick_word, tick_line, arriving_text}
use Rattle.sc_syntax.proofs.CutLaws.{before_here, before_on, after_here, after_on}
use Rattle.sc_syntax.proofs.DecimalLaws.{decimal_is_read}
use Rattle.sc_dar.proofs.WrittenTuples.{decimal_lacks}
use Rattle.sc_script.specs.ScriptTexts.{Fault, MOST_COUNT, is_plain, decimal_upto, connection_of, place_of, one_word, two_words, is_feed, incoming, size_of, alone, line_of, is_end, row_with, row_by, row_at, moment_after, with_first, with_later_lines as followed, lines_in}
use Rattle.sc_script.specs.ScriptTexts.{tick_line as line_of_tick}
use Rattle.sc_script.proofs.Decimals.{upto_some}

-- lines are read from a text, wherever it begins, after this moment
abbrev pub IsRead : ℕ → Bytes → Type 0
IsRead since text = (at : ℕ) → (said : List Line) × (lines_in 0 at since text ≡ Ok said)

-- ## A row

or_false : (a b : Bool) → (a || b) ≡ false → (a ≡ false) × (b ≡ false)
or_false true b none = absurd (false≢true (sym none))
or_false false b none = (refl, none)

before_feed : (front rest : Bytes) → has 10 front ≡ false → before 10 (front ++ 10 ∷ rest) ≡ front
unfolding has
before_feed [] rest none = before_here 10 10 rest refl
before_feed (b ∷ bs) rest none =
    let (other, more) = or_false (b == 10) (has 10 bs) none in
    before_on 10 b (bs ++ 10 ∷ rest) other ∙ ap (λ (text : Bytes). b ∷ text) (before_feed bs rest more)

after_feed : (front rest : Bytes) → has 10 front ≡ false → after 10 (front ++ 10 ∷ rest) ≡ Some rest
unfolding has
after_feed [] rest none = after_here 10 10 rest refl
after_feed (b ∷ bs) rest none =
    let (other, more) = or_false (b == 10) (has 10 bs) none in
    after_on 10 b (bs ++ 10 ∷ rest) other ∙ after_feed bs rest more

-- the bytes of a row are passed
passed : (own rest : Bytes) (at since : ℕ) → lines_in (length own) at since (own ++ rest) ≡ lines_in 0 (at + length own) since rest
unfolding lines_in
passed [] rest at since = let same : ◌≡◌ {A = ℕ} at (at + 0) = omega arith in ap (λ (k : ℕ). lines_in 0 k since rest) same
passed (b ∷ own) rest at since =
    let same : ◌≡◌ {A = ℕ} (at + 1 + length own) (at + suc (length own)) = omega arith in
    passed own rest (at + 1) since ∙ ap (λ (k : ℕ). lines_in 0 k since rest) same

not_last : (at len size : ℕ) (behind : Bytes) (line : Line) → is_end line ≡ false → row_with at len behind (Ok (line, size)) ≡ Ok (line, len + size)
unfolding row_with
not_last at len size behind line other = ap (λ (t : Bool). cond {A = Result (Line × ℕ) Fault} (t && not (length behind == 0)) (Err (record { at = at + len; kind = 6 })) (Ok (line, len + size))) other

row_is : (at since b : ℕ) (bs own rest : Bytes) (line : Line) → has 10 (b ∷ bs) ≡ false → is_end line ≡ false → line_of since (own ++ rest) (pieces 32 (b ∷ bs)) ≡ Ok (line, length own)
    → row_at at since ((b ∷ bs) ++ 10 ∷ (own ++ rest)) ≡ Ok (line, length (b ∷ bs) + 1 + length own)
unfolding row_at row_by
row_is at since b bs own rest line plain other line_is =
    let text = (b ∷ bs) ++ 10 ∷ (own ++ rest) in
    ap (λ (front : Bytes). row_by at since front (after 10 text)) (before_feed (b ∷ bs) (own ++ rest) plain)
    ∙ ap (λ (behind : Option Bytes). row_by at since (b ∷ bs) behind) (after_feed (b ∷ bs) (own ++ rest) plain)
    ∙ ap (λ (found : Result (Line × ℕ) ℕ). row_with at (length (b ∷ bs) + 1) (own ++ rest) found) line_is
    ∙ not_last at (length (b ∷ bs) + 1) (length own) (own ++ rest) line other

goes_on : (line : Line) (size : ℕ) (later : Line → ℕ → Result (List Line) Fault) → is_end line ≡ false → followed (Ok (line, size)) later ≡ with_first line (later line size)
unfolding followed
goes_on line size later other = ap (λ (t : Bool). cond t (Ok (line ∷ [])) (with_first line (later line size))) other

first_then : (line : Line) (found : Result (List Line) Fault) (said : List Line) → found ≡ Ok said → with_first line found ≡ Ok (line ∷ said)
unfolding with_first
first_then line found said is = ap (with_first line) is

-- what a row leaves unread
behind_row : (at since : ℕ) (bs own rest : Bytes) → lines_in (suc (length bs) + 1 + length own - 1) (at + 1) since (bs ++ 10 ∷ (own ++ rest)) ≡ lines_in 0 (at + 1 + length (bs ++ 10 ∷ own)) since rest
behind_row at since bs own rest =
    let long = length-append bs (10 ∷ own) in
    let same : ◌≡◌ {A = ℕ} (suc (length bs) + 1 + length own - 1) (length (bs ++ 10 ∷ own)) = omega (arith, long) in
    ap (λ (k : ℕ). lines_in k (at + 1) since (bs ++ 10 ∷ (own ++ rest))) same
    ∙ ap (λ (text : Bytes). lines_in (length (bs ++ 10 ∷ own)) (at + 1) since text) (sym (append_assoc bs (10 ∷ own) rest))
    ∙ passed (bs ++ 10 ∷ own) rest (at + 1) since

lines_row : (at since b : ℕ) (bs text : Bytes) (line : Line) (size : ℕ) → row_at at since (b ∷ text) ≡ Ok (line, size) → is_end line ≡ false
    → lines_in 0 at since (b ∷ text) ≡ with_first line (lines_in (size - 1) (at + 1) (moment_after since line) text)
unfolding lines_in
lines_row at since b bs text line size row other =
    ap (λ (found : Result (Line × ℕ) Fault). followed found (λ line size. lines_in (size - 1) (at + 1) (moment_after since line) text)) row
    ∙ goes_on line size (λ line size. lines_in (size - 1) (at + 1) (moment_after since line) text) other

-- a row, its own bytes, and what is read behind them
pub next_row : (since b : ℕ) (bs own rest : Bytes) (line : Line) → has 10 (b ∷ bs) ≡ false → is_end line ≡ false → line_of since (own ++ rest) (pieces 32 (b ∷ bs)) ≡ Ok (line, length own) → IsRead (moment_after since line) rest
    → IsRead since ((b ∷ bs) ++ 10 ∷ (own ++ rest))
next_row since b bs own rest line plain other line_is reads = λ at.
    let (said, is) = reads (at + 1 + length (bs ++ 10 ∷ own)) in (
      line ∷ said,
      lines_row at since b bs (bs ++ 10 ∷ (own ++ rest)) line (length (b ∷ bs) + 1 + length own) (row_is at since b bs own rest line plain other line_is) other
          ∙ first_then line _ said (behind_row at (moment_after since line) bs own rest ∙ is),
    )

-- ## Decimals

true_or : (a b : Bool) → b ≡ false → (a || not b) ≡ true
true_or true b e = refl
true_or false b e = ap not e

no_zero : (text : Bytes) → 48 < get_or text 0 0 → begins 48 text ≡ false
unfolding begins
no_zero [] first = refl
no_zero (b ∷ bs) first = grind (arith, nat_tests, first)

plain_decimal : (n : ℕ) → 1 ≤ n → n < 2 ^ 64 → is_plain (decimal n) ≡ true
unfolding is_plain
plain_decimal n least small = true_or (length (decimal n) == 1) (begins 48 (decimal n)) (no_zero (decimal n) (first_decimal n least small))

within : (n most : ℕ) → n ≤ most → nat_le n most ≡ true
within n most h = grind (arith, nat_tests, h)

upto_decimal : (most n : ℕ) → 1 ≤ n → n ≤ most → most < 2 ^ 64 → decimal_upto most (decimal n) ≡ Some n
upto_decimal most n least few small =
    let fits : n < 2 ^ 64 = omega (arith, few, small) in
    upto_some most (decimal n) n (decimal_is_read n (2 ^ 64) (omega arith) fits)
    ∙ ap (λ (t : Bool). cond (t && is_plain (decimal n)) (Some n) None) (within n most few)
    ∙ ap (λ (t : Bool). cond t (Some n) None) (plain_decimal n least fits)

one_piece : (sign : ℕ) (text : Bytes) → has sign text ≡ false → pieces sign text ≡ text ∷ []
unfolding pieces has onto_first
one_piece sign [] none = refl
one_piece sign (b ∷ bs) none =
    let (other, more) = or_false (b == sign) (has sign bs) none in
    ap (λ (t : Bool). cond t ([] ∷ pieces sign bs) (onto_first b (pieces sign bs))) other ∙ ap (onto_first b) (one_piece sign bs more)

-- ## The rows of a call

pub end_read : (since : ℕ) → IsRead since end_line
unfolding before after onto_first pieces one_word alone line_of is_end row_with row_by row_at followed lines_in end_line
end_read since = λ at. (lines.End ∷ [], refl)

pub run_read : (since : ℕ) (rest : Bytes) → IsRead since rest → IsRead since (run_line ++ rest)
unfolding has onto_first pieces one_word alone line_of is_end moment_after run_line
run_read since rest reads = next_row since 114 (codes "un") [] rest lines.Run refl refl refl reads

not_before : (now since : ℕ) → since ≤ now → nat_lt now since ≡ false
not_before now since h = grind (arith, nat_tests, h)

tick_is : (since now : ℕ) (rest : Bytes) → 1 ≤ now → now ≤ MOST_COUNT → since ≤ now → line_of since rest (pieces 32 (codes "tick " ++ decimal now)) ≡ Ok (lines.Tick now, 0)
unfolding onto_first pieces two_words line_of_tick alone line_of
tick_is since now rest least most later =
    ap (λ (ps : List Bytes). line_of since rest (codes "tick" ∷ ps)) (one_piece 32 (decimal now) (decimal_lacks 32 now (omega arith) (omega (arith, most))))
    ∙ ap (λ (n : Option ℕ). alone (line_of_tick since n)) (upto_decimal MOST_COUNT now least most (omega arith))
    ∙ ap (λ (t : Bool). alone (cond t (Err 5) (Ok (lines.Tick now)))) (not_before now since later)

pub tick_read : (since now : ℕ) (rest : Bytes) → 1 ≤ now → now ≤ MOST_COUNT → since ≤ now → IsRead now rest → IsRead since (tick_line now ++ rest)
unfolding has is_end moment_after tick_line tick_word
tick_read since now rest least most later reads =
    subst (λ (text : Bytes). IsRead since (codes "tick " ++ text)) (sym (append_assoc (decimal now) (10 ∷ []) rest))
    (next_row since 116 (codes "ick " ++ decimal now) [] rest (lines.Tick now) (decimal_lacks 10 now (omega arith) (omega (arith, most))) refl (tick_is since now rest least most later) reads)

feed_behind : (text rest : Bytes) → slice_get (text ++ 10 ∷ rest) (length text) ≡ Some 10
feed_behind [] rest = refl
feed_behind (b ∷ text) rest = feed_behind text rest

front_of : (text rest : Bytes) → take (length text) (text ++ rest) ≡ text
front_of [] rest = refl
front_of (b ∷ text) rest = ap (λ (bs : Bytes). b ∷ bs) (front_of text rest)

some_bytes : (n : ℕ) → 1 ≤ n → (n == 0) ≡ false
some_bytes n h = grind (arith, nat_tests, h)

size_is : (n : ℕ) → 1 ≤ n → size_of (Some n) ≡ Some n
unfolding size_of
size_is n least = ap (λ (t : Bool). cond t None (Some n)) (some_bytes n least)

incoming_is : (text rest : Bytes) → incoming ((text ++ 10 ∷ []) ++ rest) (Some (length text)) (Some (Back 1)) ≡ Ok (lines.In (Back 1) text, length (text ++ 10 ∷ []))
unfolding incoming is_feed
incoming_is text rest =
    let long = length-append text (10 ∷ []) in
    let same : ◌≡◌ {A = ℕ} (length text + 1) (length (text ++ 10 ∷ [])) = omega (arith, long) in
    ap (λ (bytes : Bytes). incoming bytes (Some (length text)) (Some (Back 1))) (append_assoc text (10 ∷ []) rest)
    ∙ ap (λ (b : Option ℕ). cond (is_feed b) (Ok (lines.In (Back 1) (take (length text) (text ++ 10 ∷ rest)), length text + 1)) (Err 4)) (feed_behind text rest)
    ∙ ap (λ (bytes : Bytes). Ok (lines.In (Back 1) bytes, length text + 1)) (front_of text (10 ∷ rest))
    ∙ ap (λ (n : ℕ). Ok (lines.In (Back 1) text, n)) same

in_is : (since : ℕ) (text rest : Bytes) → 1 ≤ length text → length text ≤ 65536
    → line_of since ((text ++ 10 ∷ []) ++ rest) (pieces 32 (codes "in c1 " ++ decimal (length text))) ≡ Ok (lines.In (Back 1) text, length (text ++ 10 ∷ []))
unfolding onto_first pieces line_of place_of connection_of decimal_upto is_digits number_in with_digit is_plain begins
in_is since text rest least most =
    ap (λ (ps : List Bytes). line_of since ((text ++ 10 ∷ []) ++ rest) (codes "in" ∷ codes "c1" ∷ ps)) (one_piece 32 (decimal (length text)) (decimal_lacks 32 (length text) (omega arith) (omega (arith, most))))
    ∙ ap (λ (n : Option ℕ). incoming ((text ++ 10 ∷ []) ++ rest) (size_of n) (Some (Back 1))) (upto_decimal 65536 (length text) least most (omega arith))
    ∙ ap (λ (n : Option ℕ). incoming ((text ++ 10 ∷ []) ++ rest) n (Some (Back 1))) (size_is (length text) least)
    ∙ incoming_is text rest

row_of : (number text rest : Bytes) → number ++ 10 ∷ ((text ++ 10 ∷ []) ++ rest) ≡ number ++ 10 ∷ [] ++ text ++ 10 ∷ [] ++ rest
row_of number text rest =
    ap (λ (bytes : Bytes). number ++ 10 ∷ bytes) (append_assoc text (10 ∷ []) rest)
    ∙ sym (append_assoc (number ++ 10 ∷ [] ++ text) (10 ∷ []) rest ∙ append_assoc (number ++ 10 ∷ []) text (10 ∷ rest) ∙ append_assoc number (10 ∷ []) (text ++ 10 ∷ rest))

pub arriving_read : (since : ℕ) (text rest : Bytes) → 1 ≤ length text → length text ≤ 65536 → IsRead since rest → IsRead since (arriving_text text ++ rest)
unfolding has is_end moment_after arriving_text in_word
arriving_read since text rest least most reads =
    subst (λ (bytes : Bytes). IsRead since (codes "in c1 " ++ bytes)) (row_of (decimal (length text)) text rest)
    (next_row since 105 (codes "n c1 " ++ decimal (length text)) (text ++ 10 ∷ []) rest (lines.In (Back 1) text) (decimal_lacks 10 (length text) (omega arith) (omega (arith, most))) refl (in_is since text rest least most) reads)
