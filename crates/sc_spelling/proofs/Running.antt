-- The headers that spell a head are taken, and leave it.
use Rattle.std.proofs.Common.{◌≡◌, ℕ, Bool, true, false, cond, Option, Some, None, List, [], ◌∷◌, ◌++◌, ◌≤◌, map, refl, sym, ap, subst, ◌∙◌, append-nil, arith}
use Rattle.std.specs.Prelude.{filter, slice_get}
use Rattle.std.specs.List.{list_all}
use Rattle.std.specs.Option.{option_map_or}
use Rattle.sc_tokens.specs.HeaderNames.{via_name, route_name, record_route_name, max_forwards_name, from_name, to_name, call_id_name, cseq_name, contact_name, content_length_name}
use Rattle.sc_tokens.specs.Names.{same_name}
use Rattle.sc_tokens.specs.Tokens.{is_one_line}
use Rattle.sc_value.specs.declared.parts.Via.{Via}
use Rattle.sc_value.specs.declared.parts.Field.{Field}
use Rattle.sc_value.specs.declared.message.Head.{Head}
use Rattle.sc_syntax.specs.declared.left.Lists.{Lists}
use Rattle.sc_syntax.specs.declared.left.Singles.{Singles}
use Rattle.sc_syntax.specs.declared.left.Header.{Header}
use Rattle.sc_syntax.specs.declared.left.Header.TheVariants as headers
use Rattle.sc_tokens.specs.Bytes.{Bytes}
use Rattle.sc_tokens.specs.Numbers.{number_of}
use Rattle.sc_syntax.specs.Vias.{vias_of}
use Rattle.sc_syntax.specs.Addresses.{address_of, addresses_of, contacts_of}
use Rattle.sc_syntax.specs.Sequences.{cseq_of, hops_of}
use Rattle.sc_syntax.specs.Fronts.{values_of}
use Rattle.sc_syntax.specs.Judging.{has_branch, in_line}
use Rattle.sc_syntax.specs.Messages.{no_lists, no_singles, nothing_left}
use Rattle.sc_syntax.specs.SpelledVias.{AreViasSpelled}
use Rattle.sc_syntax.specs.SpelledAddresses.{IsAddressSpelled, AreAddressesSpelled, AreContactsSpelled}
use Rattle.sc_syntax.specs.SpelledSequences.{IsCSeqSpelled}
use Rattle.sc_syntax.proofs.BlankLaws.{both, and_true}
use Rattle.sc_syntax.proofs.SpelledViaLaws.{vias_are_read}
use Rattle.sc_syntax.proofs.SpelledAddressLaws.{address_is_read, addresses_are_read, contacts_are_read}
use Rattle.sc_syntax.proofs.SequenceLaws.{cseq_is_read}
use Rattle.sc_spelling.specs.SpelledHeads.{AreInLines, IsOnce, IsAtMostOnce, is_other, AreFieldsOf, number_if_any as given, value_count}
use Rattle.sc_spelling.proofs.Entries.{Entry, Of, entry_of, values_at, fields_at, all_taken, Tells, via_tells, route_tells, record_route_tells, contact_tells, from_tells, to_tells, call_id_tells, cseq_tells, max_forwards_tells, content_length_tells, same_values, same_others}
use Rattle.sc_spelling.proofs.Readings.{ReadsAll, ReadsOnce, ReadsFields, Reads, held, either_of, are_apart, count, joined, merged, begins_so, Fits}
use Rattle.sc_spelling.proofs.TakenLists.{Runs, via_taken, route_taken, record_route_taken, contact_taken, other_taken}
use Rattle.sc_spelling.proofs.OnceLaws.{from_once, to_once, call_id_once, cseq_once, max_forwards_once, content_length_once}
use Rattle.sc_spelling.proofs.TakenSingles.{once_taken}

-- ## All headers

pub same_lists : (a b : Lists) → a.via ≡ b.via → a.route ≡ b.route → a.record_route ≡ b.record_route → a.contact ≡ b.contact → a.others ≡ b.others → a ≡ b
same_lists a b v r rr c o =
    ap (λ l. record a { via = l }) v ∙ ap (λ l. record a { via = b.via; route = l }) r ∙ ap (λ l. record a { via = b.via; route = b.route; record_route = l }) rr
    ∙ ap (λ l. record b { contact = l; others = a.others }) c ∙ ap (λ l. record b { others = l }) o

pub same_singles : (a b : Singles) → a.from ≡ b.from → a.to ≡ b.to → a.call_id ≡ b.call_id → a.cseq ≡ b.cseq → a.hops ≡ b.hops → a.length ≡ b.length → a ≡ b
same_singles a b f t i s h l =
    ap (λ o. record a { from = o }) f ∙ ap (λ o. record a { from = b.from; to = o }) t ∙ ap (λ o. record a { from = b.from; to = b.to; call_id = o }) i
    ∙ ap (λ o. record b { cseq = o; hops = a.hops; length = a.length }) s ∙ ap (λ o. record b { hops = o; length = a.length }) h ∙ ap (λ o. record b { length = o }) l

no_more : {X : Type 0} (a b : List X) → b ≡ [] → a ≡ a ++ b
no_more a b h = sym (ap (λ l. a ++ l) h ∙ append-nil a)

no_other : {X : Type 0} (a b : Option X) → b ≡ None → a ≡ either_of a b
unfolding either_of
no_other None b h = sym h
no_other (Some x) b h = refl

none_taken : Runs []
unfolding values_at fields_at ReadsAll ReadsOnce all_taken
none_taken left lists singles r f = record {
  final = left;
  taken_so = refl;
  lists_are = same_lists left.lists (joined left.lists lists) (no_more left.lists.via lists.via r.via) (no_more left.lists.route lists.route r.route) (no_more left.lists.record_route lists.record_route r.record_route) (no_more left.lists.contact lists.contact r.contact) (no_more left.lists.others lists.others (sym r.others.0));
  singles_are = same_singles left.singles (merged left.singles singles) (no_other left.singles.from singles.from r.from) (no_other left.singles.to singles.to r.to) (no_other left.singles.call_id singles.call_id r.call_id) (no_other left.singles.cseq singles.cseq r.cseq) (no_other left.singles.hops singles.hops r.max_forwards) (no_other left.singles.length singles.length r.content_length);
}

pub all_run : (entries : List Entry) → Runs entries
all_run [] = none_taken
all_run (Of headers.Via name value ∷ more) = via_taken name value more (all_run more)
all_run (Of headers.Route name value ∷ more) = route_taken name value more (all_run more)
all_run (Of headers.RecordRoute name value ∷ more) = record_route_taken name value more (all_run more)
all_run (Of headers.Contact name value ∷ more) = contact_taken name value more (all_run more)
all_run (Of headers.From name value ∷ more) = once_taken headers.From from_once name value more (all_run more)
all_run (Of headers.To name value ∷ more) = once_taken headers.To to_once name value more (all_run more)
all_run (Of headers.CallId name value ∷ more) = once_taken headers.CallId call_id_once name value more (all_run more)
all_run (Of headers.CSeq name value ∷ more) = once_taken headers.CSeq cseq_once name value more (all_run more)
all_run (Of headers.MaxForwards name value ∷ more) = once_taken headers.MaxForwards max_forwards_once name value more (all_run more)
all_run (Of headers.ContentLength name value ∷ more) = once_taken headers.ContentLength content_length_once name value more (all_run more)
all_run (Of headers.Other name value ∷ more) = other_taken name value more (all_run more)

-- ## What is spelled is read

in_reads : {X : Type 0} (read : Bytes → Option X) (value : Bytes) (x : X) → is_one_line value ≡ true → read value ≡ Some x → in_line read value ≡ Some x
unfolding in_line
in_reads read value x one h = ap (λ t. cond t (read value) None) one ∙ h

all_reads : {X : Type 0} (Spells : Bytes → List X → Type 0) (read : Bytes → Option (List X)) → ((value : Bytes) (items : List X) → Spells value items → read value ≡ Some items)
    → (values : List Bytes) (items : List X) → list_all is_one_line values ≡ true → AreInLines Spells values items → ReadsAll read values items
unfolding AreInLines ReadsAll
all_reads Spells read law [] items one h = h
all_reads Spells read law (value ∷ values) items one (first, more, spells, rest, is) =
    let ones = both (is_one_line value) (list_all is_one_line values) one in
    (first, more, in_reads read value first ones.0 (law value first spells), all_reads Spells read law values more ones.1 rest, is)

once_reads : {X : Type 0} (Spells : Bytes → X → Type 0) (read : Bytes → Option X) → ((value : Bytes) (x : X) → Spells value x → read value ≡ Some x)
    → (values : List Bytes) (x : X) → list_all is_one_line values ≡ true → IsOnce Spells values x → ReadsOnce read values (Some x)
unfolding IsOnce ReadsOnce
once_reads Spells read law [] x one h = absurd h
once_reads Spells read law (value ∷ []) x one h = (x, in_reads read value x (both (is_one_line value) true one).0 (law value x h), refl)
once_reads Spells read law (value ∷ next ∷ more) x one h = absurd h

most_reads : (read : Bytes → Option ℕ) (values : List Bytes) (o : Option ℕ) → list_all is_one_line values ≡ true → IsAtMostOnce (λ value n. read value ≡ Some n) values o → ReadsOnce read values o
unfolding IsAtMostOnce ReadsOnce
most_reads read values None one h = subst (λ (vs : List Bytes). ReadsOnce read vs None) (sym h) refl
most_reads read values (Some n) one h = once_reads (λ value k. read value ≡ Some k) read (λ value k is. is) values n one h

id_reads : (values : List Bytes) (id : Bytes) → list_all is_one_line values ≡ true → values ≡ id ∷ [] → ReadsOnce Some values (Some id)
unfolding ReadsOnce
id_reads values id one is =
    let ones = sym (ap (list_all is_one_line) is) ∙ one in
    subst (λ (vs : List Bytes). ReadsOnce Some vs (Some id)) (sym is) (id, in_reads Some id id (both (is_one_line id) true ones).0 refl, refl)

-- ## Values of one line

abbrev pub AreOneLine : List Field → Type 0
AreOneLine fields = list_all (λ field. is_one_line field.value) fields ≡ true

values_line : (wanted : Bytes) (fields : List Field) → AreOneLine fields → list_all is_one_line (values_of wanted fields) ≡ true
unfolding values_of
values_line wanted [] h = refl
values_line wanted (field ∷ fields) h =
    let ones = both (is_one_line field.value) (list_all (λ f. is_one_line f.value) fields) h in
    elim (same_name field.name wanted) as (λ (t : Bool). list_all is_one_line (map (λ (f : Field). f.value) (cond t (field ∷ filter (λ f. same_name f.name wanted) fields) (filter (λ f. same_name f.name wanted) fields))) ≡ true) [
      | true ↦ and_true (is_one_line field.value) (list_all is_one_line (values_of wanted fields)) ones.0 (values_line wanted fields ones.1)
      | false ↦ values_line wanted fields ones.1
    ]

others_line : (fields : List Field) → AreOneLine fields → AreOneLine (filter is_other fields)
others_line [] h = refl
others_line (field ∷ fields) h =
    let ones = both (is_one_line field.value) (list_all (λ f. is_one_line f.value) fields) h in
    elim (is_other field) as (λ (t : Bool). AreOneLine (cond t (field ∷ filter is_other fields) (filter is_other fields))) [
      | true ↦ and_true (is_one_line field.value) (list_all (λ f. is_one_line f.value) (filter is_other fields)) ones.0 (others_line fields ones.1)
      | false ↦ others_line fields ones.1
    ]

-- ## A head

abbrev pub lists_of : Head → Lists
lists_of head = record { via = head.via; route = head.route; record_route = head.record_route; contact = head.contact; others = head.others }

abbrev pub singles_of : Head → Option ℕ → Option ℕ → Singles
singles_of head hops len = record { from = Some head.from; to = Some head.to; call_id = Some head.call_id; cseq = Some head.cseq; hops = hops; length = len }

-- values of a name are those of its kind
of_kind : (wanted : Bytes) (kind : Header) (fields : List Field) (P : List Bytes → Type 0) → Tells wanted kind → P (values_of wanted fields) → P (values_at kind (map entry_of fields))
of_kind wanted kind fields P tells h = subst P (same_values wanted kind tells fields) h

pub head_reads : (fields : List Field) (head : Head) (hops len : Option ℕ) → AreOneLine fields → AreFieldsOf fields head hops len → Reads (map entry_of fields) (lists_of head) (singles_of head hops len)
head_reads fields head hops len one h = record {
  via = of_kind via_name headers.Via fields (λ vs. ReadsAll vias_of vs head.via) via_tells (all_reads AreViasSpelled vias_of vias_are_read (values_of via_name fields) head.via (values_line via_name fields one) h.via);
  route = of_kind route_name headers.Route fields (λ vs. ReadsAll addresses_of vs head.route) route_tells (all_reads AreAddressesSpelled addresses_of addresses_are_read (values_of route_name fields) head.route (values_line route_name fields one) h.route);
  record_route = of_kind record_route_name headers.RecordRoute fields (λ vs. ReadsAll addresses_of vs head.record_route) record_route_tells (all_reads AreAddressesSpelled addresses_of addresses_are_read (values_of record_route_name fields) head.record_route (values_line record_route_name fields one) h.record_route);
  contact = of_kind contact_name headers.Contact fields (λ vs. ReadsAll contacts_of vs head.contact) contact_tells (all_reads AreContactsSpelled contacts_of contacts_are_read (values_of contact_name fields) head.contact (values_line contact_name fields one) h.contact);
  others = subst (λ (fs : List Field). ReadsFields fs head.others) (same_others fields) (h.others, others_line fields one);
  from = of_kind from_name headers.From fields (λ vs. ReadsOnce address_of vs (Some head.from)) from_tells (once_reads IsAddressSpelled address_of (address_is_read false) (values_of from_name fields) head.from (values_line from_name fields one) h.from);
  to = of_kind to_name headers.To fields (λ vs. ReadsOnce address_of vs (Some head.to)) to_tells (once_reads IsAddressSpelled address_of (address_is_read false) (values_of to_name fields) head.to (values_line to_name fields one) h.to);
  call_id = of_kind call_id_name headers.CallId fields (λ vs. ReadsOnce Some vs (Some head.call_id)) call_id_tells (id_reads (values_of call_id_name fields) head.call_id (values_line call_id_name fields one) h.call_id);
  cseq = of_kind cseq_name headers.CSeq fields (λ vs. ReadsOnce cseq_of vs (Some head.cseq)) cseq_tells (once_reads IsCSeqSpelled cseq_of cseq_is_read (values_of cseq_name fields) head.cseq (values_line cseq_name fields one) h.cseq);
  max_forwards = of_kind max_forwards_name headers.MaxForwards fields (λ vs. ReadsOnce hops_of vs hops) max_forwards_tells (most_reads hops_of (values_of max_forwards_name fields) hops (values_line max_forwards_name fields one) h.max_forwards);
  content_length = of_kind content_length_name headers.ContentLength fields (λ vs. ReadsOnce number_of vs len) content_length_tells (most_reads number_of (values_of content_length_name fields) len (values_line content_length_name fields one) h.content_length);
}

one_held : (o : Option ℕ) → held o ≡ given o
unfolding held given
one_held None = refl
one_held (Some n) = refl

held_some : {X : Type 0} (x : X) → held (Some x) ≡ 1
unfolding held
held_some x = refl

first_branch : (vias : List Via) → option_map_or has_branch (slice_get vias 0) false ≡ true → begins_so vias ≡ true
unfolding begins_so
first_branch [] h = refl
first_branch (via ∷ vias) h = h

pub head_fits : (head : Head) (hops len : Option ℕ) → option_map_or has_branch (slice_get head.via 0) false ≡ true → value_count head hops len ≤ 128 → Fits nothing_left (lists_of head) (singles_of head hops len)
unfolding nothing_left no_lists no_singles are_apart count value_count
head_fits head hops len branched room = record {
  room = omega (arith, room, one_held hops, one_held len, held_some head.from, held_some head.to, held_some head.call_id, held_some head.cseq);
  begun = first_branch head.via branched;
  from = refl;
  to = refl;
  call_id = refl;
  cseq = refl;
  max_forwards = refl;
  content_length = refl;
}
