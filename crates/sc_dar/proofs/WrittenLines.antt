-- The written line of a method is one line, and is read as its list.
use Rattle.std.proofs.Common.{◌≡◌, ℕ, suc, true, false, cond, List, [], ◌∷◌, ◌++◌, ◌==◌, ◌+◌, ◌-◌, ◌≤◌, length, refl, ap, ◌∙◌, arith}
use Rattle.std.specs.List.{slice_get}
use Rattle.std.specs.Option.{option_map_or}
use Rattle.sc_terms.specs.declared.settings.Tuple.{Tuple}
use Rattle.sc_tokens.specs.Bytes.{Bytes}
use Rattle.sc_tokens.specs.Cuts.{has, onto_first, pieces}
use Rattle.sc_syntax.proofs.SpelledUriLaws.{lacks_joined}
use Rattle.sc_dar.specs.Lines.{ends, without_cr, lines_by_lf as ended, rows, onto_next, before_lines, lines_of_rows as joined, lines}
use Rattle.sc_dar.specs.Tuples.{TupleTexts}
use Rattle.sc_dar.specs.WrittenTables.{tuple_text, tuples_text}
use Rattle.sc_dar.specs.Rules.{IsPlain, AreNames, AreTuples}
use Rattle.sc_dar.proofs.Rows.{some_pieces, ended_more}
use Rattle.sc_dar.proofs.WrittenParts.{ArePlain, first_lacks, rest_lacks, in_part, in_first, six_text}
use Rattle.sc_dar.proofs.WrittenTuples.{texts_of, texts_plain, text_is, no_text, next_text, first_rule, room, room_on, fits_64}

-- ## No line break in a line

quote_lacks : (rest : Bytes) → has 10 rest ≡ false → has 10 (34 ∷ rest) ≡ false
unfolding has
quote_lacks rest h = h

comma_lacks : (rest : Bytes) → has 10 rest ≡ false → has 10 (44 ∷ rest) ≡ false
unfolding has
comma_lacks rest h = h

bracket_lacks : (rest : Bytes) → has 10 rest ≡ false → has 10 (41 ∷ rest) ≡ false
unfolding has
bracket_lacks rest h = h

in_part_lacks : (text rest : Bytes) → IsPlain text → has 10 rest ≡ false → has 10 (in_part text rest) ≡ false
unfolding has
in_part_lacks text rest h g = lacks_joined 10 text (34 ∷ rest) h.lf (quote_lacks rest g)

in_first_lacks : (text rest : Bytes) → IsPlain text → has 10 rest ≡ false → has 10 (in_first text rest) ≡ false
unfolding has
in_first_lacks text rest h g = lacks_joined 10 text (34 ∷ rest) h.lf (quote_lacks rest g)

six_lack : (t : TupleTexts) (rest : Bytes) → ArePlain t → has 10 rest ≡ false → has 10 (six_text t rest) ≡ false
six_lack t rest h g =
    let six = in_part_lacks t.order (41 ∷ rest) h.order (bracket_lacks rest g) in
    let five = in_part_lacks t.modifier _ h.modifier (comma_lacks _ six) in
    let four = in_part_lacks t.route _ h.route (comma_lacks _ five) in
    let three = in_part_lacks t.region _ h.region (comma_lacks _ four) in
    let two = in_part_lacks t.subscriber _ h.subscriber (comma_lacks _ three) in
    in_first_lacks t.app _ h.app (comma_lacks _ two)

-- the tuples from this one on, a blank before them
abbrev pub from_tuple : List Bytes → ℕ → Tuple → List Tuple → Bytes
from_tuple apps order tuple more = 32 ∷ (tuple_text apps order tuple ++ tuples_text apps (1 + order) more)

nothing_lacks : has 10 [] ≡ false
unfolding has
nothing_lacks = refl

pub tuples_lack : (apps : List Bytes) (order : ℕ) (tuple : Tuple) (more : List Tuple) → AreNames apps → AreTuples apps (tuple ∷ more) → 1 + order + length more ≤ 64 → has 10 (from_tuple apps order tuple more) ≡ false
tuples_lack apps order tuple [] names h few =
    let (is, _) = first_rule apps tuple [] h in
    ap (λ t. has 10 (32 ∷ (tuple_text apps order tuple ++ t))) (no_text apps (1 + order)) ∙ ap (has 10) (text_is apps order tuple [])
    ∙ six_lack (texts_of apps order tuple) [] (texts_plain apps order tuple names is (fits_64 order (room order [] few))) nothing_lacks
tuples_lack apps order tuple (next ∷ more) names h few =
    let (is, others) = first_rule apps tuple (next ∷ more) h in
    let rest = from_tuple apps (1 + order) next more in
    ap (λ t. has 10 (32 ∷ (tuple_text apps order tuple ++ t))) (next_text apps order next more) ∙ ap (has 10) (text_is apps order tuple (44 ∷ rest))
    ∙ six_lack (texts_of apps order tuple) (44 ∷ rest) (texts_plain apps order tuple names is (fits_64 order (room order (next ∷ more) few))) (comma_lacks rest (tuples_lack apps (1 + order) next more names others (room_on order next more few)))

-- ## How a line ends

pub ends_on : (sign b c : ℕ) (cs : Bytes) → ends sign (b ∷ c ∷ cs) ≡ ends sign (c ∷ cs)
unfolding ends
ends_on sign b c cs =
    let one_less : ◌≡◌ {A = ℕ} (length (b ∷ c ∷ cs) - 1) (suc (length (c ∷ cs) - 1)) = omega arith in
    ap (λ n. option_map_or (λ d. d == sign) (slice_get (b ∷ c ∷ cs) n) false) one_less

pub ends_behind : (sign : ℕ) (front : Bytes) (c : ℕ) (cs : Bytes) → ends sign (front ++ c ∷ cs) ≡ ends sign (c ∷ cs)
ends_behind sign [] c cs = refl
ends_behind sign (b ∷ []) c cs = ends_on sign b c cs
ends_behind sign (b ∷ b' ∷ front) c cs = ends_on sign b b' (front ++ c ∷ cs) ∙ ends_behind sign (b' ∷ front) c cs

part_ends : (sign : ℕ) (text : Bytes) (c : ℕ) (cs : Bytes) → ends sign (in_part text (c ∷ cs)) ≡ ends sign (c ∷ cs)
part_ends sign text c cs = ends_behind sign (32 ∷ 34 ∷ text) 34 (c ∷ cs) ∙ ends_on sign 34 c cs

then_ends : (sign : ℕ) (text : Bytes) (c : ℕ) (cs : Bytes) → ends sign (44 ∷ in_part text (c ∷ cs)) ≡ ends sign (c ∷ cs)
then_ends sign text c cs = ends_on sign 44 32 (34 ∷ (text ++ 34 ∷ c ∷ cs)) ∙ part_ends sign text c cs

six_ends : (sign : ℕ) (t : TupleTexts) (rest : Bytes) → ends sign (six_text t rest) ≡ ends sign (41 ∷ rest)
six_ends sign t rest =
    ends_behind sign (32 ∷ 40 ∷ 34 ∷ t.app) 34 _ ∙ ends_on sign 34 44 _
    ∙ then_ends sign t.subscriber 44 _ ∙ then_ends sign t.region 44 _ ∙ then_ends sign t.route 44 _ ∙ then_ends sign t.modifier 44 _ ∙ then_ends sign t.order 41 rest

bracket_ends : (sign : ℕ) → ends sign (41 ∷ []) ≡ (41 == sign)
unfolding ends
bracket_ends sign = refl

pub tuples_end : (sign : ℕ) (apps : List Bytes) (order : ℕ) (tuple : Tuple) (more : List Tuple) → ends sign (from_tuple apps order tuple more) ≡ (41 == sign)
tuples_end sign apps order tuple [] =
    ap (λ t. ends sign (32 ∷ (tuple_text apps order tuple ++ t))) (no_text apps (1 + order)) ∙ ap (ends sign) (text_is apps order tuple [])
    ∙ six_ends sign (texts_of apps order tuple) [] ∙ bracket_ends sign
tuples_end sign apps order tuple (next ∷ more) =
    ap (λ t. ends sign (32 ∷ (tuple_text apps order tuple ++ t))) (next_text apps order next more) ∙ ap (ends sign) (text_is apps order tuple (44 ∷ from_tuple apps (1 + order) next more))
    ∙ six_ends sign (texts_of apps order tuple) (44 ∷ from_tuple apps (1 + order) next more)
    ∙ ends_on sign 41 44 (from_tuple apps (1 + order) next more)
    ∙ ends_on sign 44 32 (tuple_text apps (1 + order) next ++ tuples_text apps (1 + (1 + order)) more)
    ∙ tuples_end sign apps (1 + order) next more

-- ## One line

line_pieces : (line rest : Bytes) → has 10 line ≡ false → pieces 10 (line ++ 10 ∷ rest) ≡ line ∷ pieces 10 rest
unfolding pieces has onto_first
line_pieces [] rest h = refl
line_pieces (b ∷ bs) rest h =
    ap (λ t. cond t ([] ∷ pieces 10 (bs ++ 10 ∷ rest)) (onto_first b (pieces 10 (bs ++ 10 ∷ rest)))) (first_lacks (b == 10) (has 10 bs) h)
    ∙ ap (onto_first b) (line_pieces bs rest (rest_lacks (b == 10) (has 10 bs) h))

without_none : (line : Bytes) → ends 13 line ≡ false → without_cr line ≡ line
unfolding without_cr
without_none line h = rw h refl

row_is : (line rest : Bytes) → has 10 line ≡ false → ends 13 line ≡ false → rows (line ++ 10 ∷ rest) ≡ line ∷ rows rest
unfolding rows
row_is line rest h g =
    let (p, ps, e) = some_pieces rest in
    ap ended (line_pieces line rest h) ∙ ended_more line (pieces 10 rest) p ps e ∙ ap (λ l. l ∷ ended (pieces 10 rest)) (without_none line g)

pub line_is : (line rest : Bytes) → has 10 line ≡ false → ends 13 line ≡ false → ends 92 line ≡ false → lines (line ++ 10 ∷ rest) ≡ record { text = line; height = 1 } ∷ lines rest
unfolding lines joined before_lines
line_is line rest h g f =
    ap (joined false) (row_is line rest h g)
    ∙ ap (λ t. cond t (onto_next line (joined true (rows rest))) (record { text = line; height = 1 } ∷ joined false (rows rest))) f
