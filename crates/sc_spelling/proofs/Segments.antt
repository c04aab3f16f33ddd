-- Fields that stand by their names, one segment a name.
use Rattle.std.proofs.Common.{◌≡◌, Bool, true, false, cond, not, List, [], ◌∷◌, ◌++◌, ◌||◌, ◌==◌, length, map, refl, sym, ap, ◌∙◌, append_assoc, append-nil}
use Rattle.std.specs.Prelude.{filter}
use Rattle.std.specs.List.{list_all, flat_map}
use Rattle.std.proofs.lemmas.Bool.{false≢true}
use Rattle.std.proofs.lemmas.List.Elements.{filter-append}
use Rattle.sc_tokens.specs.HeaderNames.{long_name, is_dialog_name, is_routing_name}
use Rattle.sc_tokens.specs.Names.{same_name}
use Rattle.sc_tokens.specs.Tokens.{is_token, is_token_byte, is_blank, is_line_break, is_one_line, begins_blank}
use Rattle.sc_value.specs.declared.parts.Field.{Field}
use Rattle.sc_grammar.specs.Written.{crlf, line, field_line}
use Rattle.sc_syntax.specs.declared.left.Header.{Header}
use Rattle.sc_syntax.specs.declared.left.Header.TheVariants as headers
use Rattle.sc_tokens.specs.Bytes.{Bytes}
use Rattle.sc_syntax.specs.Fronts.{values_of}
use Rattle.sc_syntax.specs.Judging.{header_named}
use Rattle.sc_syntax.specs.SpelledParts.{IsBlanks, Padded}
use Rattle.sc_syntax.proofs.BlankLaws.{both}
use Rattle.sc_syntax.proofs.ClassLaws.{positive}
use Rattle.sc_syntax.proofs.ParameterLaws.{token_is, token_solid}
use Rattle.sc_spelling.specs.SpelledLines.{line_end_before as ended, ArePieces, IsFirst, IsValue, IsLineSpelled, AreLinesSpelled}
use Rattle.sc_spelling.specs.SpelledHeads.{is_other}
use Rattle.sc_spelling.specs.Kept.{AllKeep, IsField}
use Rattle.sc_spelling.proofs.Entries.{is_kind, same_kind, Tells, other_tells}
use Rattle.sc_spelling.proofs.StartLaws.{line_joined, token_line}

-- a name, and its values
abbrev pub Segment : Type 0
Segment = Bytes × List Bytes

abbrev pub field_in : Bytes → Bytes → Field
field_in name value = record { name = name; value = value }

unfoldable pub fields_in : List Segment → List Field
fields_in [] = []
fields_in (segment ∷ segments) = map (field_in segment.0) segment.1 ++ fields_in segments

-- the values of a name
unfoldable pub values_in : Bytes → List Segment → List Bytes
values_in wanted [] = []
values_in wanted (segment ∷ segments) = cond (same_name segment.0 wanted) (segment.1 ++ values_in wanted segments) (values_in wanted segments)

by_test : (t : Bool) (wanted : Bytes) (field : Field) (fields : List Field) → same_name field.name wanted ≡ t → values_of wanted (field ∷ fields) ≡ cond t (field.value ∷ values_of wanted fields) (values_of wanted fields)
unfolding values_of
by_test true wanted field fields h = ap (λ s. map (λ (f : Field). f.value) (cond s (field ∷ filter (λ f. same_name f.name wanted) fields) (filter (λ f. same_name f.name wanted) fields))) h
by_test false wanted field fields h = ap (λ s. map (λ (f : Field). f.value) (cond s (field ∷ filter (λ f. same_name f.name wanted) fields) (filter (λ f. same_name f.name wanted) fields))) h

none_there : (wanted : Bytes) → values_of wanted [] ≡ []
unfolding values_of
none_there wanted = refl

one_joined : (t : Bool) (value : Bytes) (a b c : List Bytes) → c ≡ a ++ b → cond t (value ∷ c) c ≡ cond t (value ∷ a) a ++ b
one_joined true value a b c h = ap (λ l. value ∷ l) h
one_joined false value a b c h = h

pub values_joined : (a b : List Field) (wanted : Bytes) → values_of wanted (a ++ b) ≡ values_of wanted a ++ values_of wanted b
values_joined [] b wanted = ap (λ l. l ++ values_of wanted b) (sym (none_there wanted))
values_joined (field ∷ fields) b wanted =
    let t = same_name field.name wanted in
    by_test t wanted field (fields ++ b) refl ∙ one_joined t field.value (values_of wanted fields) (values_of wanted b) (values_of wanted (fields ++ b)) (values_joined fields b wanted)
    ∙ ap (λ l. l ++ values_of wanted b) (sym (by_test t wanted field fields refl))

segment_values : (values : List Bytes) (t : Bool) (name wanted : Bytes) → same_name name wanted ≡ t → values_of wanted (map (field_in name) values) ≡ cond t values []
segment_values [] true name wanted h = none_there wanted
segment_values [] false name wanted h = none_there wanted
segment_values (value ∷ values) true name wanted h = by_test true wanted (field_in name value) (map (field_in name) values) h ∙ ap (λ l. value ∷ l) (segment_values values true name wanted h)
segment_values (value ∷ values) false name wanted h = by_test false wanted (field_in name value) (map (field_in name) values) h ∙ segment_values values false name wanted h

by_both : (t : Bool) (a b : List Bytes) → cond t a [] ++ b ≡ cond t (a ++ b) b
by_both true a b = refl
by_both false a b = refl

pub values_are : (segments : List Segment) (wanted : Bytes) → values_of wanted (fields_in segments) ≡ values_in wanted segments
unfolding fields_in values_in
values_are [] wanted = none_there wanted
values_are (segment ∷ segments) wanted =
    let t = same_name segment.0 wanted in
    values_joined (map (field_in segment.0) segment.1) (fields_in segments) wanted ∙ ap (λ l. l ++ values_of wanted (fields_in segments)) (segment_values segment.1 t segment.0 wanted refl)
    ∙ ap (λ l. cond t segment.1 [] ++ l) (values_are segments wanted) ∙ by_both t segment.1 (values_in wanted segments)

-- ## Headers without structure

pub others_have_none : (fields : List Field) (wanted : Bytes) (kind : Header) → Tells wanted kind → is_kind kind headers.Other ≡ false → AllKeep IsField fields → values_of wanted fields ≡ []
unfolding AllKeep
others_have_none [] wanted kind tells structured h = none_there wanted
others_have_none (field ∷ fields) wanted kind tells structured h =
    let other : headers.Other ≡ header_named field.name = same_kind headers.Other (header_named field.name) (sym (other_tells field) ∙ h.0.2) in
    let differs : same_name field.name wanted ≡ false = tells field.name ∙ ap (is_kind kind) (sym other) ∙ structured in
    by_test false wanted field fields differs ∙ others_have_none fields wanted kind tells structured h.1

pub all_others : (fields : List Field) → AllKeep IsField fields → filter is_other fields ≡ fields
unfolding AllKeep
all_others [] h = refl
all_others (field ∷ fields) h = ap (λ t. cond t (field ∷ filter is_other fields) (filter is_other fields)) h.0.2 ∙ ap (λ l. field ∷ l) (all_others fields h.1)

-- the name has structure
abbrev pub has_structure : Segment → Bool
has_structure segment = is_dialog_name segment.0 || is_routing_name segment.0

no_others : (values : List Bytes) (name : Bytes) → (is_dialog_name name || is_routing_name name) ≡ true → filter is_other (map (field_in name) values) ≡ []
unfolding is_other
no_others [] name h = refl
no_others (value ∷ values) name h =
    ap (λ t. cond (not t) (field_in name value ∷ filter is_other (map (field_in name) values)) (filter is_other (map (field_in name) values))) h ∙ no_others values name h

pub none_other : (segments : List Segment) → list_all has_structure segments ≡ true → filter is_other (fields_in segments) ≡ []
unfolding fields_in
none_other [] h = refl
none_other (segment ∷ segments) h =
    let is = both (has_structure segment) (list_all has_structure segments) h in
    filter-append is_other (map (field_in segment.0) segment.1) (fields_in segments) ∙ ap (λ l. l ++ filter is_other (fields_in segments)) (no_others segment.1 segment.0 is.0) ∙ none_other segments is.1

-- ## Lines

-- a field whose line can be written
abbrev pub IsWritable : Field → Type 0
IsWritable field = (is_token field.name ≡ true) × (long_name field.name ≡ field.name) × IsValue field.value

unfoldable pub AreWritable : List Segment → Type 0
AreWritable [] = Unit {0}
AreWritable (segment ∷ segments) = (is_token segment.0 ≡ true) × (long_name segment.0 ≡ segment.0) × AllKeep IsValue segment.1 × AreWritable segments

pub keep_joined : {X : Type 0} (Keeps : X → Type 0) (a b : List X) → AllKeep Keeps a → AllKeep Keeps b → AllKeep Keeps (a ++ b)
unfolding AllKeep
keep_joined Keeps [] b g h = h
keep_joined Keeps (x ∷ xs) b g h = (g.0, keep_joined Keeps xs b g.1 h)

segment_writable : (values : List Bytes) (name : Bytes) → is_token name ≡ true → long_name name ≡ name → AllKeep IsValue values → AllKeep IsWritable (map (field_in name) values)
unfolding AllKeep
segment_writable [] name t l h = tt
segment_writable (value ∷ values) name t l h = ((t, l, h.0), segment_writable values name t l h.1)

pub all_writable : (segments : List Segment) → AreWritable segments → AllKeep IsWritable (fields_in segments)
unfolding AreWritable fields_in AllKeep
all_writable [] h = tt
all_writable (segment ∷ segments) h = keep_joined IsWritable (map (field_in segment.0) segment.1) (fields_in segments) (segment_writable segment.1 segment.0 h.0 h.1 h.2) (all_writable segments h.3)

pub others_writable : (fields : List Field) → AllKeep IsField fields → AllKeep IsWritable fields
unfolding AllKeep
others_writable [] h = tt
others_writable (field ∷ fields) h = ((h.0.0, h.0.1, h.0.3), others_writable fields h.1)

colon_line : is_one_line (58 ∷ 32 ∷ []) ≡ true
unfolding is_one_line is_line_break
colon_line = refl

one_blank : IsBlanks (32 ∷ [])
unfolding is_blank
one_blank = refl

name_first : (name rest : Bytes) → is_one_line (name ++ rest) ≡ true → is_token name ≡ true → IsFirst (name ++ rest)
unfolding begins_blank
name_first name rest one token = by_bytes name rest one (token_is name token)
  where
    by_bytes : (text more : Bytes) → is_one_line (text ++ more) ≡ true → ((length text == 0) ≡ false) × (list_all is_token_byte text ≡ true) → IsFirst (text ++ more)
    by_bytes [] more o h = absurd (false≢true (sym h.0))
    by_bytes (b ∷ bs) more o h = (o, positive (length (bs ++ more)), token_solid b (both (is_token_byte b) (list_all is_token_byte bs) h.1).0)

-- name, colon, space and value: the line of the field
line_spelled : (field : Field) → IsWritable field → IsLineSpelled (field.name ++ 58 ∷ 32 ∷ field.value) field
unfolding ArePieces
line_spelled field (token, long, value) =
    let rest = 58 ∷ 32 ∷ field.value in
    let text = field.name ++ rest in
    let one = line_joined field.name rest (token_line field.name token) (line_joined (58 ∷ 32 ∷ []) field.value colon_line value.0) in
    let pad : Padded field.value (32 ∷ field.value) = (32 ∷ [], [], one_blank, refl, ap (λ l. 32 ∷ l) (sym (append-nil field.value))) in (
      text,
      (text, [], name_first field.name rest one token, tt, sym (append-nil text), refl),
      (field.name, [], 32 ∷ field.value, token, long, refl, value, pad, refl),
    )

line_text : (field : Field) (rest : Bytes) → field_line field ++ rest ≡ (field.name ++ 58 ∷ 32 ∷ field.value) ++ ended rest
unfolding field_line line crlf
line_text field rest =
    ap (λ l. (l ++ crlf) ++ rest) (append_assoc field.name (58 ∷ 32 ∷ []) field.value) ∙ append_assoc (field.name ++ 58 ∷ 32 ∷ field.value) crlf rest

pub lines_spelled : (fields : List Field) → AllKeep IsWritable fields → AreLinesSpelled (flat_map field_line fields) fields
unfolding AllKeep AreLinesSpelled
lines_spelled [] h = refl
lines_spelled (field ∷ fields) h =
    (field.name ++ 58 ∷ 32 ∷ field.value, flat_map field_line fields, line_spelled field h.0, lines_spelled fields h.1, line_text field (flat_map field_line fields))
