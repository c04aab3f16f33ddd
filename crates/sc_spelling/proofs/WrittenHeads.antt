-- The written form of a head: its fields are those of the head, and each can be written.
use Rattle.std.proofs.Common.{◌≡◌, ℕ, true, false, Option, Some, None, List, [], ◌∷◌, ◌++◌, ◌<◌, ◌≤◌, ◌^◌, length, decimal, map, refl, sym, ap, subst, ◌∙◌, append-nil, arith}
use Rattle.std.specs.Prelude.{filter}
use Rattle.std.specs.List.{list_all, flat_map}
use Rattle.std.proofs.lemmas.List.Elements.{filter-append}
use Rattle.sc_tokens.specs.HeaderNames.{long_name, is_dialog_name, is_routing_name, via_name, route_name, record_route_name, max_forwards_name, from_name, to_name, call_id_name, cseq_name, contact_name, content_length_name}
use Rattle.sc_tokens.specs.Names.{same_name}
use Rattle.sc_tokens.specs.Tokens.{is_token, is_token_byte}
use Rattle.sc_value.specs.declared.message.Head.{Head}
use Rattle.sc_grammar.specs.Written.{via_text, address_text, contact_text, cseq_text, field_line}
use Rattle.sc_syntax.specs.declared.left.Header.{Header}
use Rattle.sc_syntax.specs.declared.left.Header.TheVariants as headers
use Rattle.sc_tokens.specs.Bytes.{Bytes}
use Rattle.sc_tokens.specs.Numbers.{number_of}
use Rattle.sc_syntax.specs.Sequences.{hops_of}
use Rattle.sc_syntax.specs.Fronts.{values_of}
use Rattle.sc_syntax.specs.SpelledParts.{AreLed, AreListed}
use Rattle.sc_syntax.specs.SpelledVias.{AreViasSpelled}
use Rattle.sc_syntax.specs.SpelledAddresses.{IsAddressIn, AreAddressesSpelled, AreContactsSpelled}
use Rattle.sc_syntax.proofs.DecimalLaws.{decimal_is_read}
use Rattle.sc_spelling.specs.SpelledLines.{IsValue, AreLinesSpelled}
use Rattle.sc_spelling.specs.SpelledHeads.{AreInLines, IsOnce, IsAtMostOnce, is_other, AreFieldsOf}
use Rattle.sc_value.specs.AddressValues.{IsAddress}
use Rattle.sc_value.specs.ContactRules.{IsContact}
use Rattle.sc_value.specs.ViaValues.{IsVia}
use Rattle.sc_spelling.specs.Kept.{AllKeep, IsField, IsHead}
use Rattle.sc_spelling.proofs.Entries.{is_kind, number_at, Tells, via_tells, route_tells, record_route_tells, contact_tells, from_tells, to_tells, call_id_tells, cseq_tells, max_forwards_tells, content_length_tells}
use Rattle.sc_spelling.proofs.PartTexts.{via_spelled, via_value}
use Rattle.sc_spelling.proofs.AddressTexts.{address_spelled, address_value, contact_spelled, contact_value, number_value, cseq_spelled, cseq_value}
use Rattle.sc_spelling.proofs.Segments.{fields_in, values_in, values_joined, values_are, others_have_none, all_others, has_structure, none_other, IsWritable, AreWritable, keep_joined, all_writable, others_writable, lines_spelled}
use Rattle.sc_spelling.proofs.WrittenFields.{hops_values, front, back, fields_for}

-- ## Values by their names

by_name : (wanted : Bytes) (kind : Header) (hops : Option ℕ) (head : Head) (values more : List Bytes) → Tells wanted kind → is_kind kind headers.Other ≡ false → AllKeep IsField head.others
    → values_in wanted (front hops head) ≡ values → values_in wanted (back head) ≡ more → values_of wanted (fields_for hops head) ≡ values ++ more
by_name wanted kind hops head values more tells structured others f b =
    values_joined (fields_in (front hops head)) (head.others ++ fields_in (back head)) wanted
    ∙ ap (λ l. l ++ values_of wanted (head.others ++ fields_in (back head))) (values_are (front hops head) wanted ∙ f)
    ∙ ap (λ l. values ++ l) (values_joined head.others (fields_in (back head)) wanted ∙ ap (λ l. l ++ values_of wanted (fields_in (back head))) (others_have_none head.others wanted kind tells structured others) ∙ values_are (back head) wanted ∙ b)

via_values : (hops : Option ℕ) (head : Head) → AllKeep IsField head.others → values_of via_name (fields_for hops head) ≡ map via_text head.via
unfolding values_in same_name is_kind number_at via_name route_name record_route_name max_forwards_name from_name to_name call_id_name cseq_name contact_name content_length_name
via_values hops head others = by_name via_name headers.Via hops head (map via_text head.via ++ []) [] via_tells refl others refl refl ∙ append-nil (map via_text head.via ++ []) ∙ append-nil (map via_text head.via)

route_values : (hops : Option ℕ) (head : Head) → AllKeep IsField head.others → values_of route_name (fields_for hops head) ≡ map address_text head.route
unfolding values_in same_name is_kind number_at via_name route_name record_route_name max_forwards_name from_name to_name call_id_name cseq_name contact_name content_length_name
route_values hops head others = by_name route_name headers.Route hops head (map address_text head.route ++ []) [] route_tells refl others refl refl ∙ append-nil (map address_text head.route ++ []) ∙ append-nil (map address_text head.route)

record_route_values : (hops : Option ℕ) (head : Head) → AllKeep IsField head.others → values_of record_route_name (fields_for hops head) ≡ map address_text head.record_route
unfolding values_in same_name is_kind number_at via_name route_name record_route_name max_forwards_name from_name to_name call_id_name cseq_name contact_name content_length_name
record_route_values hops head others = by_name record_route_name headers.RecordRoute hops head (map address_text head.record_route ++ []) [] record_route_tells refl others refl refl ∙ append-nil (map address_text head.record_route ++ []) ∙ append-nil (map address_text head.record_route)

max_forwards_values : (hops : Option ℕ) (head : Head) → AllKeep IsField head.others → values_of max_forwards_name (fields_for hops head) ≡ hops_values hops
unfolding values_in same_name is_kind number_at via_name route_name record_route_name max_forwards_name from_name to_name call_id_name cseq_name contact_name content_length_name
max_forwards_values hops head others = by_name max_forwards_name headers.MaxForwards hops head (hops_values hops ++ []) [] max_forwards_tells refl others refl refl ∙ append-nil (hops_values hops ++ []) ∙ append-nil (hops_values hops)

from_values : (hops : Option ℕ) (head : Head) → AllKeep IsField head.others → values_of from_name (fields_for hops head) ≡ address_text head.from ∷ []
unfolding values_in same_name is_kind number_at via_name route_name record_route_name max_forwards_name from_name to_name call_id_name cseq_name contact_name content_length_name
from_values hops head others = by_name from_name headers.From hops head (address_text head.from ∷ []) [] from_tells refl others refl refl

to_values : (hops : Option ℕ) (head : Head) → AllKeep IsField head.others → values_of to_name (fields_for hops head) ≡ address_text head.to ∷ []
unfolding values_in same_name is_kind number_at via_name route_name record_route_name max_forwards_name from_name to_name call_id_name cseq_name contact_name content_length_name
to_values hops head others = by_name to_name headers.To hops head (address_text head.to ∷ []) [] to_tells refl others refl refl

call_id_values : (hops : Option ℕ) (head : Head) → AllKeep IsField head.others → values_of call_id_name (fields_for hops head) ≡ head.call_id ∷ []
unfolding values_in same_name is_kind number_at via_name route_name record_route_name max_forwards_name from_name to_name call_id_name cseq_name contact_name content_length_name
call_id_values hops head others = by_name call_id_name headers.CallId hops head (head.call_id ∷ []) [] call_id_tells refl others refl refl

cseq_values : (hops : Option ℕ) (head : Head) → AllKeep IsField head.others → values_of cseq_name (fields_for hops head) ≡ cseq_text head.cseq ∷ []
unfolding values_in same_name is_kind number_at via_name route_name record_route_name max_forwards_name from_name to_name call_id_name cseq_name contact_name content_length_name
cseq_values hops head others = by_name cseq_name headers.CSeq hops head (cseq_text head.cseq ∷ []) [] cseq_tells refl others refl refl

contact_values : (hops : Option ℕ) (head : Head) → AllKeep IsField head.others → values_of contact_name (fields_for hops head) ≡ map contact_text head.contact
unfolding values_in same_name is_kind number_at via_name route_name record_route_name max_forwards_name from_name to_name call_id_name cseq_name contact_name content_length_name
contact_values hops head others = by_name contact_name headers.Contact hops head (map contact_text head.contact ++ []) [] contact_tells refl others refl refl ∙ append-nil (map contact_text head.contact ++ []) ∙ append-nil (map contact_text head.contact)

content_length_values : (hops : Option ℕ) (head : Head) → AllKeep IsField head.others → values_of content_length_name (fields_for hops head) ≡ decimal (length head.body) ∷ []
unfolding values_in same_name is_kind number_at via_name route_name record_route_name max_forwards_name from_name to_name call_id_name cseq_name contact_name content_length_name
content_length_values hops head others = by_name content_length_name headers.ContentLength hops head [] (decimal (length head.body) ∷ []) content_length_tells refl others refl refl

segments_have_structure : (hops : Option ℕ) (head : Head) → (list_all has_structure (front hops head) ≡ true) × (list_all has_structure (back head) ≡ true)
unfolding is_dialog_name is_routing_name same_name via_name route_name record_route_name max_forwards_name from_name to_name call_id_name cseq_name contact_name content_length_name
segments_have_structure hops head = (refl, refl)

others_are : (hops : Option ℕ) (head : Head) → AllKeep IsField head.others → filter is_other (fields_for hops head) ≡ head.others
others_are hops head others =
    let structured = segments_have_structure hops head in
    filter-append is_other (fields_in (front hops head)) (head.others ++ fields_in (back head)) ∙ ap (λ l. l ++ filter is_other (head.others ++ fields_in (back head))) (none_other (front hops head) structured.0)
    ∙ filter-append is_other head.others (fields_in (back head)) ∙ ap (λ l. l ++ filter is_other (fields_in (back head))) (all_others head.others others) ∙ ap (λ l. head.others ++ l) (none_other (back head) structured.1)
    ∙ append-nil head.others

-- ## They spell the head

-- one item a line
one_each : {X : Type 0} (items : List X) (text : X → Bytes) (Keeps : X → Type 0) (Spells : Bytes → List X → Type 0) → ((item : X) → Keeps item → Spells (text item) (item ∷ [])) → AllKeep Keeps items → AreInLines Spells (map text items) items
unfolding AllKeep AreInLines
one_each [] text Keeps Spells law h = refl
one_each (item ∷ items) text Keeps Spells law h = (item ∷ [], items, law item h.0, one_each items text Keeps Spells law h.1, refl)

alone : {X : Type 0} (Spells : Bytes → X → Type 0) (text : Bytes) (x : X) → Spells text x → AreListed 44 Spells text (x ∷ [])
unfolding AreListed AreLed
alone Spells text x h = (text, [], h, refl, sym (append-nil text))

hops_spelled : (hops : Option ℕ) → ((n : ℕ) → hops ≡ Some n → n ≤ 255) → IsAtMostOnce (λ value n. hops_of value ≡ Some n) (hops_values hops) hops
unfolding IsAtMostOnce IsOnce hops_values hops_of
hops_spelled None h = refl
hops_spelled (Some n) h = let small = h n refl in decimal_is_read n 256 (omega arith) (omega (arith, small))

once : {X : Type 0} (Spells : Bytes → X → Type 0) (values : List Bytes) (text : Bytes) (x : X) → values ≡ text ∷ [] → Spells text x → IsOnce Spells values x
unfolding IsOnce
once Spells values text x is h = subst (λ (vs : List Bytes). IsOnce Spells vs x) (sym is) h

length_spelled : (values : List Bytes) (n : ℕ) → values ≡ decimal n ∷ [] → n < 2 ^ 64 → IsAtMostOnce (λ value k. number_of value ≡ Some k) values (Some n)
unfolding IsAtMostOnce
length_spelled values n is small = once (λ value k. number_of value ≡ Some k) values (decimal n) n is (decimal_is_read n (2 ^ 64) (omega arith) small)

pub fields_are : (hops : Option ℕ) (head : Head) → IsHead head → ((n : ℕ) → hops ≡ Some n → n ≤ 255) → AreFieldsOf (fields_for hops head) head hops (Some (length head.body))
fields_are hops head h small = record {
  via = subst (λ (vs : List Bytes). AreInLines AreViasSpelled vs head.via) (sym (via_values hops head h.others)) (one_each head.via via_text IsVia AreViasSpelled (λ via k. alone _ (via_text via) via (via_spelled via k)) h.via);
  route = subst (λ (vs : List Bytes). AreInLines AreAddressesSpelled vs head.route) (sym (route_values hops head h.others)) (one_each head.route address_text IsAddress AreAddressesSpelled (λ address k. alone (IsAddressIn true) (address_text address) address (address_spelled true address k)) h.route);
  record_route = subst (λ (vs : List Bytes). AreInLines AreAddressesSpelled vs head.record_route) (sym (record_route_values hops head h.others)) (one_each head.record_route address_text IsAddress AreAddressesSpelled (λ address k. alone (IsAddressIn true) (address_text address) address (address_spelled true address k)) h.record_route);
  contact = subst (λ (vs : List Bytes). AreInLines AreContactsSpelled vs head.contact) (sym (contact_values hops head h.others)) (one_each head.contact contact_text IsContact AreContactsSpelled (λ contact k. alone _ (contact_text contact) contact (contact_spelled contact k)) h.contact);
  from = once (IsAddressIn false) (values_of from_name (fields_for hops head)) (address_text head.from) head.from (from_values hops head h.others) (address_spelled false head.from h.from);
  to = once (IsAddressIn false) (values_of to_name (fields_for hops head)) (address_text head.to) head.to (to_values hops head h.others) (address_spelled false head.to h.to);
  call_id = call_id_values hops head h.others;
  cseq = once _ (values_of cseq_name (fields_for hops head)) (cseq_text head.cseq) head.cseq (cseq_values hops head h.others) (cseq_spelled head.cseq h.cseq);
  max_forwards = subst (λ (vs : List Bytes). IsAtMostOnce (λ value n. hops_of value ≡ Some n) vs hops) (sym (max_forwards_values hops head h.others)) (hops_spelled hops small);
  content_length = length_spelled (values_of content_length_name (fields_for hops head)) (length head.body) (content_length_values hops head h.others) h.body;
  others = others_are hops head h.others;
}

-- ## They can be written

all_values : {X : Type 0} (items : List X) (text : X → Bytes) (Keeps : X → Type 0) → ((item : X) → Keeps item → IsValue (text item)) → AllKeep Keeps items → AllKeep IsValue (map text items)
unfolding AllKeep
all_values [] text Keeps law h = tt
all_values (item ∷ items) text Keeps law h = (law item h.0, all_values items text Keeps law h.1)

hops_value : (hops : Option ℕ) → ((n : ℕ) → hops ≡ Some n → n ≤ 255) → AllKeep IsValue (hops_values hops)
unfolding AllKeep hops_values
hops_value None h = tt
hops_value (Some n) h = let small = h n refl in (number_value n 256 (omega arith) (omega (arith, small)), tt)

one_value : (value : Bytes) → IsValue value → AllKeep IsValue (value ∷ [])
unfolding AllKeep
one_value value h = (h, tt)

writable : (hops : Option ℕ) (head : Head) → IsHead head → ((n : ℕ) → hops ≡ Some n → n ≤ 255) → AreWritable (front hops head) × AreWritable (back head)
unfolding AreWritable is_token is_token_byte long_name via_name route_name record_route_name max_forwards_name from_name to_name call_id_name cseq_name contact_name content_length_name
writable hops head h small = (
  (
    refl,
    refl,
    all_values head.via via_text IsVia via_value h.via,
    (
      refl,
      refl,
      all_values head.route address_text IsAddress address_value h.route,
      (
        refl,
        refl,
        all_values head.record_route address_text IsAddress address_value h.record_route,
        (
          refl,
          refl,
          hops_value hops small,
          (
            refl,
            refl,
            one_value (address_text head.from) (address_value head.from h.from),
            (
              refl,
              refl,
              one_value (address_text head.to) (address_value head.to h.to),
              (
                refl,
                refl,
                one_value head.call_id h.call_id,
                (
                  refl,
                  refl,
                  one_value (cseq_text head.cseq) (cseq_value head.cseq h.cseq),
                  (refl, refl, all_values head.contact contact_text IsContact contact_value h.contact, tt),
                ),
              ),
            ),
          ),
        ),
      ),
    ),
  ),
  (refl, refl, one_value (decimal (length head.body)) (number_value (length head.body) (2 ^ 64) (omega arith) h.body), tt),
)

pub fields_spelled : (hops : Option ℕ) (head : Head) → IsHead head → ((n : ℕ) → hops ≡ Some n → n ≤ 255) → AreLinesSpelled (flat_map field_line (fields_for hops head)) (fields_for hops head)
fields_spelled hops head h small =
    let all = writable hops head h small in
    lines_spelled (fields_for hops head) (keep_joined IsWritable (fields_in (front hops head)) (head.others ++ fields_in (back head)) (all_writable (front hops head) all.0)
    (keep_joined IsWritable head.others (fields_in (back head)) (others_writable head.others h.others) (all_writable (back head) all.1)))
