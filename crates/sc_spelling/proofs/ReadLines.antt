-- A header line that is taken spells a field.
use Rattle.std.proofs.Common.{◌≡◌, ℕ, Bool, true, false, cond, not, Option, Some, None, Result, Ok, Err, List, [], ◌∷◌, ◌++◌, ◌==◌, ◌+◌, length, take, drop, reverse, map, refl, sym, ap, ◌∙◌, append_assoc}
use Rattle.std.specs.Prelude.{is_some}
use Rattle.std.specs.List.{fold, list_all, flat_map}
use Rattle.std.specs.Option.{option_map_or}
use Rattle.std.proofs.lemmas.Bool.{false≢true}
use Rattle.std.proofs.lemmas.List.{reverse-reverse, reverse-append}
use Rattle.std.proofs.lemmas.List.Folds.{list_all-append}
use Rattle.sc_tokens.specs.HeaderNames.{long_name}
use Rattle.sc_tokens.specs.Tokens.{is_token, is_token_byte, is_blank, is_line_break, is_one_line, begins_blank}
use Rattle.sc_value.specs.declared.parts.Field.{Field}
use Rattle.sc_syntax.specs.declared.ending.Ending.TheVariants.{Any}
use Rattle.sc_syntax.specs.declared.left.Left.{Left}
use Rattle.sc_syntax.specs.declared.left.Header.{Header}
use Rattle.sc_syntax.specs.declared.left.Header.TheVariants as headers
use Rattle.sc_tokens.specs.Bytes.{Bytes}
use Rattle.sc_tokens.specs.Numbers.{number_of}
use Rattle.sc_tokens.specs.Cuts.{before, after}
use Rattle.sc_syntax.specs.UriParts.{Fault}
use Rattle.sc_tokens.specs.Blanks.{trimmed_front, trimmed_back, without_blanks as trimmed}
use Rattle.sc_syntax.specs.Lines.{pieces_at}
use Rattle.sc_syntax.specs.Folds.{with_piece as continued, all_continued, text_without_folds as joined}
use Rattle.sc_syntax.specs.Vias.{vias_of}
use Rattle.sc_syntax.specs.Addresses.{address_of, addresses_of, contacts_of}
use Rattle.sc_syntax.specs.Sequences.{cseq_of, hops_of}
use Rattle.sc_syntax.specs.Judging.{header_named, taken_as, taken_once, with_vias, with_routes, with_record_routes, with_contacts, with_from, with_to, with_call_id, with_cseq, with_hops, with_length, with_field, in_line, with_header as taken, with_named_header as named, left_with_line as judged}
use Rattle.sc_syntax.specs.Messages.{fault_at_place as placed, all_judged}
use Rattle.sc_syntax.specs.SpelledParts.{IsBlanks}
use Rattle.sc_syntax.specs.SpelledUris.{behind_sign as led}
use Rattle.sc_syntax.proofs.PartLaws.{then_ok, led_text}
use Rattle.sc_syntax.proofs.BlankLaws.{both, and_true, blanks_reverse, front_more, front_here, front_none, back_is, trimmed_is_padded}
use Rattle.sc_syntax.proofs.ListedLaws.{if_some}
use Rattle.sc_syntax.proofs.ClassLaws.{positive, not_true}
use Rattle.sc_syntax.proofs.DisplayLaws.{trimmed_again}
use Rattle.sc_syntax.proofs.ParameterLaws.{token_is, token_solid}
use Rattle.sc_spelling.specs.SpelledLines.{line_end_before as ended, ArePieces, IsFirst, IsFolded, IsFieldSpelled}
use Rattle.sc_spelling.proofs.Entries.{entry_of, then_taken, all_taken}
use Rattle.sc_spelling.proofs.LineLaws.{AreSpelledBy}
use Rattle.sc_spelling.proofs.StartLaws.{line_joined, class_line, token_line}
use Rattle.sc_spelling.proofs.LeftLists.{taken_if, taken_some}
use Rattle.sc_spelling.proofs.LeftSingles.{taken_first}
use Rattle.sc_spelling.proofs.PieceLaws.{pieces_glued, IsAlone, AreAlone, folds_blank}

-- ## Blanks at the back

front_parts : (text : Bytes) → (front : Bytes) × IsBlanks front × (text ≡ front ++ trimmed_front text)
front_parts [] = ([], refl, sym front_none)
front_parts (b ∷ bs) = elim (is_blank b) as (λ (t : Bool). is_blank b ≡ t → (front : Bytes) × IsBlanks front × (b ∷ bs ≡ front ++ trimmed_front (b ∷ bs))) [
  | true ↦ λ e. let rest = front_parts bs in (b ∷ rest.0, and_true (is_blank b) (list_all is_blank rest.0) e rest.1, ap (λ l. b ∷ l) rest.2 ∙ ap (λ l. b ∷ (rest.0 ++ l)) (sym (front_more b bs e)))
  | false ↦ λ e. ([], refl, sym (front_here b bs e))
] refl

-- a text is itself without blanks at its back, and these
pub back_parts : (text : Bytes) → (back : Bytes) × IsBlanks back × (text ≡ trimmed_back text ++ back)
back_parts text =
    let parts = front_parts (reverse text) in (
      reverse parts.0,
      blanks_reverse parts.0 parts.1,
      sym (reverse-reverse text) ∙ ap reverse parts.2 ∙ reverse-append parts.0 (trimmed_front (reverse text)) ∙ ap (λ l. l ++ reverse parts.0) (sym (back_is text)),
    )

pub blanks_line : (text : Bytes) → IsBlanks text → is_one_line text ≡ true
unfolding is_blank
blanks_line text h = class_line is_blank refl refl refl text h

pub line_split : (a b : Bytes) → is_one_line (a ++ b) ≡ true → (is_one_line a ≡ true) × (is_one_line b ≡ true)
unfolding is_one_line
line_split a b h = both (list_all (λ c. not (is_line_break c)) a) (list_all (λ c. not (is_line_break c)) b) (sym (list_all-append (λ c. not (is_line_break c)) a b) ∙ h)

back_line : (text : Bytes) → is_one_line (trimmed_back text) ≡ true → is_one_line text ≡ true
back_line text h = let parts = back_parts text in ap is_one_line parts.2 ∙ line_joined (trimmed_back text) parts.0 h (blanks_line parts.0 parts.1)

front_line : (text : Bytes) → is_one_line (trimmed_front text) ≡ true → is_one_line text ≡ true
front_line text h = let parts = front_parts text in ap is_one_line parts.2 ∙ line_joined parts.0 (trimmed_front text) (blanks_line parts.0 parts.1) h

-- ## Folds

continued_line : (text piece : Bytes) → is_one_line (continued text piece) ≡ true → (is_one_line text ≡ true) × (is_one_line piece ≡ true)
unfolding continued
continued_line text piece h =
    let parts = line_split (trimmed_back text) (32 ∷ trimmed_front piece) h in (back_line text parts.0, front_line piece (line_split (32 ∷ []) (trimmed_front piece) parts.1).1)

folds_line : (more : List Bytes) (first : Bytes) → is_one_line (fold continued first more) ≡ true → (is_one_line first ≡ true) × (list_all is_one_line more ≡ true)
folds_line [] first h = (h, refl)
folds_line (piece ∷ more) first h =
    let rest = folds_line more (continued first piece) h in
    let both_are = continued_line first piece rest.0 in (both_are.0, and_true (is_one_line piece) (list_all is_one_line more) both_are.1 rest.1)

-- the text begins with a byte that is no blank
unfoldable begins_solid : Bytes → Bool
begins_solid [] = false
begins_solid (b ∷ bs) = not (is_blank b)

joined_solid : (text back rest : Bytes) → IsBlanks back → begins_solid (text ++ (32 ∷ rest)) ≡ true → begins_solid (text ++ back) ≡ true
unfolding begins_solid is_blank
joined_solid [] back rest blank h = absurd (false≢true h)
joined_solid (b ∷ bs) back rest blank h = h

continued_solid : (text piece : Bytes) → begins_solid (continued text piece) ≡ true → begins_solid text ≡ true
unfolding continued
continued_solid text piece h = let parts = back_parts text in ap begins_solid parts.2 ∙ joined_solid (trimmed_back text) parts.0 (trimmed_front piece) parts.1 h

folds_solid : (more : List Bytes) (first : Bytes) → begins_solid (fold continued first more) ≡ true → begins_solid first ≡ true
folds_solid [] first h = h
folds_solid (piece ∷ more) first h = continued_solid first piece (folds_solid more (continued first piece) h)

is_first : (first : Bytes) → is_one_line first ≡ true → begins_solid first ≡ true → IsFirst first
unfolding begins_solid begins_blank
is_first [] one h = absurd (false≢true h)
is_first (b ∷ bs) one h = (one, positive (length bs), not_true (is_blank b) h)

are_pieces : (pieces : List Bytes) → list_all is_one_line pieces ≡ true → list_all begins_blank pieces ≡ true → ArePieces pieces
unfolding ArePieces
are_pieces [] one h = tt
are_pieces (piece ∷ more) one h =
    let ones = both (is_one_line piece) (list_all is_one_line more) one in
    let blanks = both (begins_blank piece) (list_all begins_blank more) h in (ones.0, blanks.0, are_pieces more ones.1 blanks.1)

glued_line : (line first : Bytes) (more : List Bytes) → flat_map ended (first ∷ more) ≡ ended line → line ≡ first ++ flat_map ended more
glued_line line first more h = ap (λ l. drop 2 l) (sym h)

by_pieces : (line : Bytes) (pieces : List Bytes) → pieces_at Any line ≡ pieces → IsAlone line → is_one_line (joined line) ≡ true → begins_solid (joined line) ≡ true → IsFolded line (joined line)
unfolding joined all_continued begins_solid
by_pieces line [] is alone one solid = absurd (false≢true (ap (λ ps. begins_solid (all_continued ps)) (sym is) ∙ solid))
by_pieces line (first ∷ more) is alone one solid =
    let text = ap all_continued is in
    let ones = folds_line more first (ap is_one_line (sym text) ∙ one) in
    let begin = folds_solid more first (ap begins_solid (sym text) ∙ solid) in
    let blanks = ap (λ ps. list_all begins_blank (drop 1 ps)) (sym is) ∙ folds_blank line alone.rest alone.clear alone.solid in
    (first, more, is_first first ones.0 begin, are_pieces more ones.1 blanks, glued_line line first more (ap (flat_map ended) (sym is) ∙ pieces_glued line Any), text)

folded : (line : Bytes) → IsAlone line → is_one_line (joined line) ≡ true → begins_solid (joined line) ≡ true → IsFolded line (joined line)
folded line alone one solid = by_pieces line (pieces_at Any line) refl alone one solid

-- ## Names and values

-- what is taken is one line
all_line : {X : Type 0} (take : X → Result Left ℕ) (read : Bytes → Option X) (value : Bytes) (next : Left) → taken_as take (in_line read value) ≡ Ok next → is_one_line value ≡ true
unfolding in_line
all_line take read value next h = let is = taken_some take (cond (is_one_line value) (read value) None) next h in (if_some (is_one_line value) (read value) is.0 is.1).0

once_line : {X : Type 0} (t : Bool) (take : X → Result Left ℕ) (read : Bytes → Option X) (value : Bytes) (next : Left) → taken_once t take (in_line read value) ≡ Ok next → is_one_line value ≡ true
unfolding in_line
once_line t take read value next h = let is = taken_first t take (cond (is_one_line value) (read value) None) next h in (if_some (is_one_line value) (read value) is.1 is.2).0

pub taken_line : (kind : Header) (left next : Left) (name value : Bytes) → taken left name kind value ≡ Ok next → is_one_line value ≡ true
unfolding taken
taken_line headers.Via left next name value h = all_line (with_vias left) vias_of value next h
taken_line headers.Route left next name value h = all_line (with_routes left) addresses_of value next h
taken_line headers.RecordRoute left next name value h = all_line (with_record_routes left) addresses_of value next h
taken_line headers.Contact left next name value h = all_line (with_contacts left) contacts_of value next h
taken_line headers.From left next name value h = once_line (is_some left.singles.from) (with_from left) address_of value next h
taken_line headers.To left next name value h = once_line (is_some left.singles.to) (with_to left) address_of value next h
taken_line headers.CallId left next name value h = once_line (is_some left.singles.call_id) (with_call_id left) Some value next h
taken_line headers.CSeq left next name value h = once_line (is_some left.singles.cseq) (with_cseq left) cseq_of value next h
taken_line headers.MaxForwards left next name value h = once_line (is_some left.singles.hops) (with_hops left) hops_of value next h
taken_line headers.ContentLength left next name value h = once_line (is_some left.singles.length) (with_length left) number_of value next h
taken_line headers.Other left next name value h = all_line (with_field left name) Some value next h

-- a text that is judged, with what it spells
record Judged (left next : Left) (text : Bytes) : Type 0 where
  field : Field
  spelled : IsFieldSpelled text field
  one : is_one_line text ≡ true
  solid : begins_solid text ≡ true
  taken_so : taken left field.name (header_named field.name) field.value ≡ Ok next

some_rest : {X : Type 0} (f : Bytes → Result X ℕ) (o : Option Bytes) (kind : ℕ) (x : X) → option_map_or f o (Err kind) ≡ Ok x → (text : Bytes) × (o ≡ Some text) × (f text ≡ Ok x)
some_rest f None kind x h = let bad : ◌≡◌ {A = Result _ ℕ} (Err kind) (Ok x) = h in cc
some_rest f (Some text) kind x h = (text, refl, h)

token_begins : (name rest : Bytes) → is_token name ≡ true → begins_solid (name ++ rest) ≡ true
unfolding begins_solid
token_begins name rest token = by_bytes name rest (token_is name token)
  where
    by_bytes : (text more : Bytes) → ((length text == 0) ≡ false) × (list_all is_token_byte text ≡ true) → begins_solid (text ++ more) ≡ true
    by_bytes [] more h = absurd (false≢true (sym h.0))
    by_bytes (b ∷ bs) more h = ap not (token_solid b (both (is_token_byte b) (list_all is_token_byte bs) h.1).0)

colon_line : is_one_line (58 ∷ []) ≡ true
unfolding is_one_line is_line_break
colon_line = refl

judged_back : (left next : Left) (text : Bytes) → judged left text ≡ Ok next → Judged left next text
unfolding judged named led
judged_back left next text h =
    let some = some_rest (named left (trimmed_back (before 58 text))) (after 58 text) 6 next h in
    let name = trimmed_back (before 58 text) in
    let rest = some.0 in
    let value = trimmed rest in
    let is = taken_if (is_token name) (taken left (long_name name) (header_named (long_name name)) value) 6 next some.2 in
    let parts = back_parts (before 58 text) in
    let pad = trimmed_is_padded rest in
    let line = taken_line (header_named (long_name name)) left next (long_name name) value is.1 in
    let whole : text ≡ name ++ (parts.0 ++ 58 ∷ rest) =
    sym (led_text 58 text) ∙ ap (λ o. before 58 text ++ led 58 o) some.1 ∙ ap (λ l. l ++ 58 ∷ rest) parts.2 ∙ append_assoc name parts.0 (58 ∷ rest) in
    let rest_line : is_one_line rest ≡ true = ap is_one_line pad.4 ∙ line_joined pad.0 (value ++ pad.1) (blanks_line pad.0 pad.2) (line_joined value pad.1 line (blanks_line pad.1 pad.3)) in
    record {
      field = record { name = long_name name; value = value };
      spelled = (name, parts.0, rest, is.0, refl, parts.1, (line, trimmed_again rest), pad, whole);
      one = ap is_one_line whole ∙ line_joined name (parts.0 ++ 58 ∷ rest) (token_line name is.0) (line_joined parts.0 (58 ∷ rest) (blanks_line parts.0 parts.1) (line_joined (58 ∷ []) rest colon_line rest_line));
      solid = ap begins_solid whole ∙ token_begins name (parts.0 ++ 58 ∷ rest) is.0;
      taken_so = is.1;
    }

-- ## All lines

-- lines that are judged spell fields, which are taken
pub record AllJudged (left final : Left) (lines : List Bytes) : Type 0 where
  pub fields : List Field
  pub spelled : AreSpelledBy lines fields
  pub taken_so : all_taken left (map entry_of fields) ≡ Ok final

pub placed_ok : {X : Type 0} (at : ℕ) (r : Result X ℕ) (x : X) → placed at r ≡ Ok x → r ≡ Ok x
unfolding placed
placed_ok at (Ok y) x h = let same : ◌≡◌ {A = Result _ Fault} (Ok y) (Ok x) = h in let is : y ≡ x = cc in ap Ok is
placed_ok at (Err kind) x h = let bad : ◌≡◌ {A = Result _ Fault} (Err (record { at = at; kind = kind })) (Ok x) = h in cc

pub all_judged_back : (lines : List Bytes) (at : ℕ) (left final : Left) → AreAlone lines → all_judged at left lines ≡ Ok final → AllJudged left final lines
unfolding AreAlone all_judged AreSpelledBy all_taken then_taken entry_of
all_judged_back [] at left final alone h = let same : ◌≡◌ {A = Result Left Fault} (Ok left) (Ok final) = h in let is : left ≡ final = cc in record { fields = []; spelled = tt; taken_so = ap Ok is }
all_judged_back (line ∷ lines) at left final alone h =
    let one = then_ok (placed at (judged left (joined line))) (λ next. all_judged (at + length line + 2) next lines) final h in
    let first = judged_back left one.0 (joined line) (placed_ok at (judged left (joined line)) one.0 one.1) in
    let rest = all_judged_back lines (at + length line + 2) one.0 final alone.1 one.2 in
    record {
      fields = first.field ∷ rest.fields;
      spelled = ((joined line, folded line alone.0 first.one first.solid, first.spelled), rest.spelled);
      taken_so = ap (λ r. then_taken r (λ next. all_taken next (map entry_of rest.fields))) first.taken_so ∙ rest.taken_so;
    }
