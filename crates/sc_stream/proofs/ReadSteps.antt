-- What an answer needs, part by part.
use Rattle.std.proofs.Common.{◌≡◌, ℕ, suc, Bool, true, false, cond, Option, Some, None, List, [], ◌∷◌, ◌++◌, ◌+◌, ◌<◌, ◌≤◌, length, drop, get_or, refl, sym, ap, subst, ◌∙◌, append_assoc, append-nil, arith}
use Rattle.std.specs.Prelude.{filter_map, filter, map, ⊤}
use Rattle.std.specs.List.{flat_map, position_or_len}
use Rattle.std.specs.Option.{option_map, option_and_then}
use Rattle.sc_tokens.specs.Blanks.{without_blanks as trimmed, trimmed_back}
use Rattle.sc_tokens.specs.Cuts.{before, after}
use Rattle.sc_tokens.specs.HeaderNames.{via_name, long_name}
use Rattle.sc_tokens.specs.Names.{same_name}
use Rattle.sc_tokens.specs.Tokens.{is_token, is_one_line, is_value}
use Rattle.sc_value.specs.declared.parts.Field.{Field}
use Rattle.sc_value.specs.declared.parts.Via.{Via}
use Rattle.sc_syntax.specs.declared.ending.Ending.TheVariants.{Unfolded}
use Rattle.sc_tokens.specs.Bytes.{Bytes}
use Rattle.sc_syntax.specs.Vias.{vias_of}
use Rattle.sc_syntax.specs.Scanning.{with_first, all_read}
use Rattle.sc_syntax.specs.Judging.{in_line}
use Rattle.sc_syntax.specs.Lines.{lines_behind, pieces_at}
use Rattle.sc_syntax.specs.Folds.{text_without_folds as joined}
use Rattle.sc_syntax.specs.Fronts.{field_of, only, values_of}
use Rattle.sc_syntax.proofs.CutLaws.{none_some, some_same}
use Rattle.sc_syntax.proofs.DisplayLaws.{trimmed_again}
use Rattle.sc_syntax.proofs.ListedLaws.{if_some, map_some}
use Rattle.sc_syntax.proofs.ValueLaws.{trimmed_is_value}
use Rattle.sc_head_text.specs.declared.unread.Unread.{Unread}
use Rattle.sc_head_text.specs.declared.unread.Unread.TheVariants.{Fault, NoMemory}
use Rattle.sc_head_text.specs.Answers.{Fails}
use Rattle.sc_message_text.specs.Pieces.{pieces_behind}
use Rattle.sc_stream.specs.Answers.{all_vias, vias_at}
use Rattle.sc_stream.specs.Fields.{AreTrimmed, is_of, with_some}

-- ## Fields of a name

first_here : (name : Bytes) (f : Field) (fs : List Field) → is_of name f ≡ true → position_or_len (is_of name) (f ∷ fs) ≡ 0
first_here name f fs e = rw e refl

first_more : (name : Bytes) (f : Field) (fs : List Field) → is_of name f ≡ false → position_or_len (is_of name) (f ∷ fs) ≡ 1 + position_or_len (is_of name) fs
first_more name f fs e = rw e (omega arith)

value_there : (name : Bytes) (fields more : List Field) (field : Field) → fields ≡ field ∷ more → same_name field.name name ≡ false → values_of name fields ≡ values_of name more
unfolding values_of
value_there name fields more field is h =
    ap (values_of name) is ∙ ap (λ t. map (λ f. f.value) (cond t (field ∷ filter (λ f. same_name f.name name) more) (filter (λ f. same_name f.name name) more))) h

-- by the first of the name
values_by : (name : Bytes) (fields : List Field) (d : Field) → position_or_len (is_of name) fields < length fields
    → values_of name fields ≡ (get_or fields (position_or_len (is_of name) fields) d).value ∷ values_of name (drop (position_or_len (is_of name) fields + 1) fields)
unfolding values_of
values_by name [] d h = absurd (omega (arith, h))
values_by name (f ∷ fs) d h = elim (is_of name f) as (λ (t : Bool). is_of name f ≡ t → values_of name (f ∷ fs) ≡ (get_or (f ∷ fs) (position_or_len (is_of name) (f ∷ fs)) d).value ∷ values_of name (drop (position_or_len (is_of name) (f ∷ fs) + 1) (f ∷ fs))) [
  | true ↦ λ e. rw e refl
  | false ↦ λ e. let here = first_more name f fs e in
      value_there name (f ∷ fs) fs f refl e ∙ values_by name fs d (omega (arith, h, here))
      ∙ rw (here, add_one (position_or_len (is_of name) fs), add_two (position_or_len (is_of name) fs)) refl
] refl
  where
    add_one : (n : ℕ) → 1 + n ≡ suc n
    add_one n = omega arith

    add_two : (n : ℕ) → suc n + 1 ≡ suc (n + 1)
    add_two n = omega arith

first_value : (name : Bytes) (fields : List Field) (first : ℕ) (d : Field) → first ≡ position_or_len (is_of name) fields → first < length fields → values_of name fields ≡ (get_or fields first d).value ∷ values_of name (drop (first + 1) fields)
first_value name fields first d is here =
    values_by name fields d (omega (arith, is, here)) ∙ ap (λ n. (get_or fields n d).value ∷ values_of name (drop (n + 1) fields)) (sym is)

no_values : (name : Bytes) (fields : List Field) → position_or_len (is_of name) fields ≡ length fields → values_of name fields ≡ []
unfolding values_of
no_values name [] h = refl
no_values name (f ∷ fs) h = elim (is_of name f) as (λ (t : Bool). is_of name f ≡ t → values_of name (f ∷ fs) ≡ []) [
  | true ↦ λ e. absurd (let here = first_here name f fs e in omega (arith, h, here))
  | false ↦ λ e. let here = first_more name f fs e in value_there name (f ∷ fs) fs f refl e ∙ no_values name fs (omega (arith, h, here))
] refl

pub only_none : (name : Bytes) (fields : List Field) (first : ℕ) → first ≡ position_or_len (is_of name) fields → first ≤ length fields → length fields ≤ first → None ≡ only (values_of name fields)
unfolding only
only_none name fields first is within past = sym (ap only (no_values name fields (omega (arith, is, within, past))))

pub only_one : (name : Bytes) (fields behind : List Field) (first second : ℕ) (d : Field) → first ≡ position_or_len (is_of name) fields → first < length fields → behind ≡ drop (first + 1) fields
    → second ≡ position_or_len (is_of name) behind → second ≤ length behind → length behind ≤ second → Some (get_or fields first d).value ≡ only (values_of name fields)
unfolding only
only_one name fields behind first second d is here rest at within past =
    sym (ap only (first_value name fields first d is here ∙ ap (λ fs. (get_or fields first d).value ∷ values_of name fs) (sym rest) ∙ ap (λ vs. (get_or fields first d).value ∷ vs) (no_values name behind (omega (arith, at, within, past)))))

a_field : (fields : List Field) (n : ℕ) → n < length fields → Field
a_field [] n h = absurd (omega (arith, h))
a_field (f ∷ fs) n h = f

only_three : (a b : Bytes) (vs : List Bytes) → None ≡ only (a ∷ b ∷ vs)
unfolding only
only_three a b vs = refl

pub only_more : (name : Bytes) (fields behind : List Field) (first second : ℕ) → first ≡ position_or_len (is_of name) fields → first < length fields → behind ≡ drop (first + 1) fields
    → second ≡ position_or_len (is_of name) behind → second < length behind → None ≡ only (values_of name fields)
only_more name fields behind first second is here rest at more =
    let d = a_field fields first here in
    only_three (get_or fields first d).value (get_or behind second d).value (values_of name (drop (second + 1) behind))
    ∙ sym (ap only (first_value name fields first d is here ∙ ap (λ fs. (get_or fields first d).value ∷ values_of name fs) (sym rest) ∙ ap (λ vs. (get_or fields first d).value ∷ vs) (first_value name behind second d at more)))

-- ## All Vias

abbrev pub before_vias : List Via → Option (List Via) → Option (List Via)
before_vias vias o = option_map (λ more. vias ++ more) o

onto_lists : (vias : List Via) (o : Option (List (List Via))) → option_map (λ lists. flat_map (λ vias. vias) lists) (with_first (Some vias) o) ≡ before_vias vias (option_map (λ lists. flat_map (λ vias. vias) lists) o)
unfolding with_first
onto_lists vias None = refl
onto_lists vias (Some lists) = refl

before_none : (o : Option (List Via)) → before_vias [] o ≡ o
before_none None = refl
before_none (Some c) = refl

-- the Vias of the first field, and then those of the others
vias_split : (field : Field) (more : List Field) (o : Option (List Via)) → vias_at field ≡ o → all_vias (field ∷ more) ≡ option_and_then (λ vias. before_vias vias (all_vias more)) o
unfolding vias_at all_read values_of with_first
vias_split field more o e = elim (same_name field.name via_name) as (λ (t : Bool). cond t (in_line vias_of field.value) (Some []) ≡ o
    → option_map (λ lists. flat_map (λ vias. vias) lists) (all_read (in_line vias_of) (map (λ f. f.value) (cond t (field ∷ filter (λ f. same_name f.name via_name) more) (filter (λ f. same_name f.name via_name) more)))) ≡ option_and_then (λ vias. before_vias vias (all_vias more)) o) [
      | true ↦ λ r. by_read o r
      | false ↦ λ r. sym (before_none (all_vias more)) ∙ ap (option_and_then (λ vias. before_vias vias (all_vias more))) r
    ] e
  where
    by_read : (p : Option (List Via)) → in_line vias_of field.value ≡ p → option_map (λ lists. flat_map (λ vias. vias) lists) (with_first (in_line vias_of field.value) (all_read (in_line vias_of) (values_of via_name more))) ≡ option_and_then (λ vias. before_vias vias (all_vias more)) p
    by_read None r = ap (λ q. option_map (λ lists. flat_map (λ vias. vias) lists) (with_first q (all_read (in_line vias_of) (values_of via_name more)))) r
    by_read (Some vias) r = ap (λ q. option_map (λ lists. flat_map (λ vias. vias) lists) (with_first q (all_read (in_line vias_of) (values_of via_name more)))) r ∙ onto_lists vias (all_read (in_line vias_of) (values_of via_name more))

before_both : (a b : List Via) (o : Option (List Via)) → before_vias (a ++ b) o ≡ before_vias a (before_vias b o)
before_both a b None = refl
before_both a b (Some c) = ap Some (append_assoc a b c)

pub vias_more : (old now : List Via) (fields more : List Field) (field : Field) → fields ≡ field ∷ more → (vias : List Via) × (vias_at field ≡ Some vias) × (now ≡ old ++ vias)
    → before_vias now (all_vias more) ≡ before_vias old (all_vias fields)
vias_more old now fields more field is (vias, read, sum) =
    ap (λ v. before_vias v (all_vias more)) sum ∙ before_both old vias (all_vias more) ∙ sym (ap (before_vias old) (ap all_vias is ∙ vias_split field more (Some vias) read))

pub vias_fail : (unread : Unread) (old : List Via) (fields more whole : List Field) (field : Field) → fields ≡ field ∷ more → before_vias old (all_vias fields) ≡ all_vias whole → Fails unread (vias_at field) → Fails unread (all_vias whole)
vias_fail Fault old fields more whole field is so read = sym so ∙ ap (before_vias old) (ap all_vias is ∙ vias_split field more None read)
vias_fail NoMemory old fields more whole field is so read = tt

no_vias : all_vias [] ≡ Some []
unfolding all_read values_of
no_vias = refl

pub vias_end : (old : List Via) (fields whole : List Field) → fields ≡ [] → before_vias old (all_vias fields) ≡ all_vias whole → all_vias whole ≡ Some old
vias_end old fields whole is so = sym so ∙ ap (before_vias old) (ap all_vias is ∙ no_vias) ∙ ap Some (append-nil old)

-- ## Lines

pub lines_none : lines_behind None ≡ []
unfolding lines_behind
lines_none = refl

lines_are : (rest : Option Bytes) → pieces_behind Unfolded rest ≡ lines_behind rest
unfolding lines_behind pieces_behind
lines_are None = refl
lines_are (Some text) = refl

pub lines_some : (text : Bytes) (rest : Option Bytes) (line : Bytes) → pieces_at Unfolded text ≡ line ∷ pieces_behind Unfolded rest → lines_behind (Some text) ≡ line ∷ lines_behind rest
unfolding lines_behind
lines_some text rest line h = h ∙ ap (λ ls. line ∷ ls) (lines_are rest)

pub lines_end : {X : Type 0} (read : Bytes → Option X) (old : List X) (lines : List Bytes) (whole : List X) → lines ≡ [] → old ++ filter_map read lines ≡ whole → old ≡ whole
lines_end read old lines whole is so = sym (append-nil old) ∙ sym (ap (λ l. old ++ filter_map read l) is) ∙ so

pub line_put : {X : Type 0} (read : Bytes → Option X) (old now : List X) (lines more : List Bytes) (line : Bytes) → lines ≡ line ∷ more → now ≡ with_some old (read line) → now ++ filter_map read more ≡ old ++ filter_map read lines
line_put {X} read old now lines more line is put = ap (λ l. l ++ filter_map read more) put ∙ by_field (read line) refl ∙ sym (ap (λ l. old ++ filter_map read l) is)
  where
    by_field : (o : Option X) → read line ≡ o → with_some old (read line) ++ filter_map read more ≡ old ++ filter_map read (line ∷ more)
    by_field None e = rw e refl
    by_field (Some x) e = rw e (append_assoc old (x ∷ []) (filter_map read more))

-- ## Values without blanks at their ends

field_trimmed : (line : Bytes) (field : Field) → field_of line ≡ Some field → trimmed field.value ≡ field.value
unfolding field_of
field_trimmed line field h =
    let name = trimmed_back (before 58 line) in
    let is = map_some (λ value. record { name = long_name name; value = trimmed value }) (after 58 line) field (if_some (is_token name) (option_map (λ value. record { name = long_name name; value = trimmed value }) (after 58 line)) field h).1 in
    subst (λ (f : Field). trimmed f.value ≡ f.value) is.2 (trimmed_again is.0)

pub fields_trimmed : (lines : List Bytes) → AreTrimmed (filter_map (λ line. field_of (joined line)) lines)
unfolding AreTrimmed
fields_trimmed [] = tt
fields_trimmed (line ∷ lines) = by_field (field_of (joined line)) refl (fields_trimmed lines)
  where
    by_field : (o : Option Field) → field_of (joined line) ≡ o → AreTrimmed (filter_map (λ l. field_of (joined l)) lines) → AreTrimmed (filter_map (λ l. field_of (joined l)) (line ∷ lines))
    by_field None e h = rw e h
    by_field (Some field) e h = rw e (field_trimmed (joined line) field e, h)

pub are_trimmed : (fields : List Field) (lines : List Bytes) → fields ≡ filter_map (λ line. field_of (joined line)) lines → AreTrimmed fields
are_trimmed fields lines is = subst AreTrimmed (sym is) (fields_trimmed lines)

all_trimmed : List Bytes → Type 0
all_trimmed [] = ⊤
all_trimmed (value ∷ values) = (trimmed value ≡ value) × all_trimmed values

values_trimmed : (name : Bytes) (fields : List Field) → AreTrimmed fields → all_trimmed (values_of name fields)
unfolding AreTrimmed values_of all_trimmed
values_trimmed name [] h = tt
values_trimmed name (field ∷ fields) h =
    let more = filter (λ (f : Field). same_name f.name name) fields in
    elim (same_name field.name name) as (λ (t : Bool). all_trimmed (map (λ (f : Field). f.value) (cond t (field ∷ more) more))) [
      | true ↦ (h.0, values_trimmed name fields h.1)
      | false ↦ values_trimmed name fields h.1
    ]

only_trimmed : (values : List Bytes) (value : Bytes) → all_trimmed values → only values ≡ Some value → trimmed value ≡ value
unfolding all_trimmed only
only_trimmed [] value all h = absurd (none_some value h)
only_trimmed (one ∷ []) value all h = subst (λ (v : Bytes). trimmed v ≡ v) (some_same one value h) all.0
only_trimmed (one ∷ next ∷ more) value all h = absurd (none_some value h)

-- the value of a header that stands once, where it is one line
pub only_is_value : (name : Bytes) (fields : List Field) (value : Bytes) → AreTrimmed fields → only (values_of name fields) ≡ Some value → is_one_line value ≡ true → is_value value ≡ true
only_is_value name fields value all h one = trimmed_is_value value one (only_trimmed (values_of name fields) value (values_trimmed name fields all) h)
