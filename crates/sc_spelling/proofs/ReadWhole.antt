-- A text that is read as a message spells it.
use Rattle.std.proofs.Common.{◌≡◌, ℕ, Bool, true, false, cond, Option, Some, None, Result, Ok, Err, List, [], ◌∷◌, ◌++◌, ◌==◌, ◌+◌, ◌≤◌, length, take, drop, map, refl, sym, ap, subst, ◌∙◌, append_assoc, append-nil, arith}
use Rattle.std.specs.Prelude.{slice_get, unwrap_or}
use Rattle.std.specs.Option.{option_map, option_map_or}
use Rattle.std.proofs.lemmas.Bool.{false≢true}
use Rattle.std.proofs.lemmas.List.{drop-drop}
use Rattle.sc_tokens.specs.HeaderNames.{via_name, route_name, record_route_name, max_forwards_name, from_name, to_name, call_id_name, cseq_name, contact_name, content_length_name}
use Rattle.sc_tokens.specs.Tokens.{is_one_line}
use Rattle.sc_value.specs.declared.parts.Via.{Via}
use Rattle.sc_value.specs.declared.parts.Field.{Field}
use Rattle.sc_value.specs.declared.message.Head.{Head}
use Rattle.sc_value.specs.declared.message.Message.{Message}
use Rattle.sc_syntax.specs.declared.ending.Ending.TheVariants.{Any, Unfolded, Empty}
use Rattle.sc_syntax.specs.declared.left.Left.{Left}
use Rattle.sc_syntax.specs.declared.left.Header.{Header}
use Rattle.sc_syntax.specs.declared.left.Header.TheVariants as headers
use Rattle.sc_syntax.specs.declared.left.Lists.{Lists}
use Rattle.sc_syntax.specs.declared.left.Singles.{Singles}
use Rattle.sc_syntax.specs.declared.left.Start.{Start}
use Rattle.sc_tokens.specs.Bytes.{Bytes}
use Rattle.sc_tokens.specs.Numbers.{number_of}
use Rattle.sc_syntax.specs.UriParts.{Fault}
use Rattle.sc_syntax.specs.Lines.{begins_break, is_end, end_of, start_line, lines_behind, behind_start, header_lines}
use Rattle.sc_syntax.specs.Vias.{vias_of}
use Rattle.sc_syntax.specs.Addresses.{address_of, addresses_of, contacts_of}
use Rattle.sc_syntax.specs.Sequences.{cseq_of, hops_of}
use Rattle.sc_syntax.specs.Fronts.{values_of}
use Rattle.sc_syntax.specs.StartLines.{start_of}
use Rattle.sc_syntax.specs.Judging.{has_branch, in_line}
use Rattle.sc_syntax.specs.Messages.{fault_at_place as placed, no_lists, nothing_left, all_judged, Peers, head_of, message_with, is_method_of, fits, message_from_parts as finished, message_in, message_of}
use Rattle.sc_syntax.specs.SpelledVias.{AreViasSpelled}
use Rattle.sc_syntax.specs.SpelledAddresses.{IsAddressSpelled, AreAddressesSpelled, AreContactsSpelled}
use Rattle.sc_syntax.specs.SpelledSequences.{IsCSeqSpelled}
use Rattle.sc_syntax.proofs.PartLaws.{then_ok}
use Rattle.sc_syntax.proofs.BlankLaws.{both}
use Rattle.sc_syntax.proofs.ClassLaws.{same_number}
use Rattle.sc_syntax.proofs.ListedLaws.{if_some}
use Rattle.sc_syntax.proofs.ViaLaws.{vias_are_spelled}
use Rattle.sc_syntax.proofs.AddressLaws.{one_address_is_spelled, addresses_are_spelled, contacts_are_spelled}
use Rattle.sc_syntax.proofs.SequenceLaws.{cseq_is_spelled}
use Rattle.sc_spelling.specs.SpelledLines.{line_end_before as ended, AreLinesSpelled}
use Rattle.sc_spelling.specs.SpelledHeads.{AreInLines, IsOnce, IsAtMostOnce, AreFieldsOf, number_if_any as given, value_count}
use Rattle.sc_spelling.specs.SpelledMessages.{head_in, IsSpelledBy, IsSpelled}
use Rattle.sc_spelling.proofs.Entries.{entry_of, values_at, all_taken, Tells, via_tells, route_tells, record_route_tells, contact_tells, from_tells, to_tells, call_id_tells, cseq_tells, max_forwards_tells, content_length_tells, same_values, same_others}
use Rattle.sc_spelling.proofs.Readings.{ReadsAll, ReadsOnce, Reads, held, count, begins_so}
use Rattle.sc_spelling.proofs.LineLaws.{AreSpelledBy}
use Rattle.sc_spelling.proofs.LeftSingles.{all_left}
use Rattle.sc_spelling.proofs.PieceLaws.{break_is, parted, pieces_glued, AreAlone, lines_alone}
use Rattle.sc_spelling.proofs.ReadLines.{placed_ok, all_judged_back}
use Rattle.sc_spelling.proofs.ReadStarts.{IsStartLine, start_back, finished_back, made_start, made_head, made_hops, made_method}
use Rattle.sc_spelling.proofs.WholeLaws.{block, regroup, from_nothing, from_none}

-- ## What is read is spelled

in_line_read : {X : Type 0} (read : Bytes → Option X) (value : Bytes) (x : X) → in_line read value ≡ Some x → read value ≡ Some x
unfolding in_line
in_line_read read value x h = (if_some (is_one_line value) (read value) x h).1

all_spell : {X : Type 0} (Spells : Bytes → List X → Type 0) (read : Bytes → Option (List X)) → ((value : Bytes) (items : List X) → read value ≡ Some items → Spells value items)
    → (values : List Bytes) (items : List X) → ReadsAll read values items → AreInLines Spells values items
unfolding AreInLines ReadsAll
all_spell Spells read law [] items h = h
all_spell Spells read law (value ∷ values) items (first, more, one, rest, is) = (first, more, law value first (in_line_read read value first one), all_spell Spells read law values more rest, is)

once_spell : {X : Type 0} (Spells : Bytes → X → Type 0) (read : Bytes → Option X) → ((value : Bytes) (x : X) → read value ≡ Some x → Spells value x)
    → (values : List Bytes) (o : Option X) (x : X) → o ≡ Some x → ReadsOnce read values o → IsOnce Spells values x
unfolding IsOnce ReadsOnce
once_spell Spells read law [] o x is h = let bad : ◌≡◌ {A = Option _} None (Some x) = sym h ∙ is in cc
once_spell Spells read law (value ∷ []) o x is (y, one, same) = let some : ◌≡◌ {A = Option _} (Some y) (Some x) = sym same ∙ is in let eq : y ≡ x = cc in subst (λ z. Spells value z) eq (law value y (in_line_read read value y one))
once_spell Spells read law (value ∷ next ∷ more) o x is h = absurd h

none_left : (read : Bytes → Option ℕ) (values : List Bytes) → ReadsOnce read values None → values ≡ []
unfolding ReadsOnce
none_left read [] h = refl
none_left read (value ∷ []) (n, one, same) = let bad : ◌≡◌ {A = Option ℕ} None (Some n) = same in cc
none_left read (value ∷ next ∷ more) h = absurd h

most_spell : (read : Bytes → Option ℕ) (o : Option ℕ) (values : List Bytes) → ReadsOnce read values o → IsAtMostOnce (λ value n. read value ≡ Some n) values o
unfolding IsAtMostOnce
most_spell read None values h = none_left read values h
most_spell read (Some n) values h = once_spell (λ value k. read value ≡ Some k) read (λ value k is. is) values (Some n) n refl h

id_spell : (values : List Bytes) (o : Option Bytes) (id : Bytes) → o ≡ Some id → ReadsOnce Some values o → values ≡ id ∷ []
unfolding ReadsOnce
id_spell [] o id is h = let bad : ◌≡◌ {A = Option Bytes} None (Some id) = sym h ∙ is in cc
id_spell (value ∷ []) o id is (y, one, same) =
    let some : ◌≡◌ {A = Option Bytes} (Some y) (Some id) = sym same ∙ is in
    let read : ◌≡◌ {A = Option Bytes} (Some value) (Some y) = in_line_read Some value y one in
    let eq : value ≡ id = cc in ap (λ v. v ∷ []) eq
id_spell (value ∷ next ∷ more) o id is h = absurd h

of_name : (wanted : Bytes) (kind : Header) (fields : List Field) (P : List Bytes → Type 0) → Tells wanted kind → P (values_at kind (map entry_of fields)) → P (values_of wanted fields)
of_name wanted kind fields P tells h = subst P (sym (same_values wanted kind tells fields)) h

fields_back : (fields : List Field) (lists : Lists) (singles : Singles) (peers : Peers) (body : Bytes) → Reads (map entry_of fields) lists singles → singles.from ≡ Some peers.0.0 → singles.to ≡ Some peers.0.1 → singles.call_id ≡ Some peers.1.0 → singles.cseq ≡ Some peers.1.1
    → AreFieldsOf fields (head_of lists peers body) singles.hops singles.length
unfolding head_of
fields_back fields lists singles peers body r from to call_id cseq = record {
  via = of_name via_name headers.Via fields (λ vs. AreInLines AreViasSpelled vs lists.via) via_tells (all_spell AreViasSpelled vias_of vias_are_spelled (values_at headers.Via (map entry_of fields)) lists.via r.via);
  route = of_name route_name headers.Route fields (λ vs. AreInLines AreAddressesSpelled vs lists.route) route_tells (all_spell AreAddressesSpelled addresses_of addresses_are_spelled (values_at headers.Route (map entry_of fields)) lists.route r.route);
  record_route = of_name record_route_name headers.RecordRoute fields (λ vs. AreInLines AreAddressesSpelled vs lists.record_route) record_route_tells (all_spell AreAddressesSpelled addresses_of addresses_are_spelled (values_at headers.RecordRoute (map entry_of fields)) lists.record_route r.record_route);
  contact = of_name contact_name headers.Contact fields (λ vs. AreInLines AreContactsSpelled vs lists.contact) contact_tells (all_spell AreContactsSpelled contacts_of contacts_are_spelled (values_at headers.Contact (map entry_of fields)) lists.contact r.contact);
  from = of_name from_name headers.From fields (λ vs. IsOnce IsAddressSpelled vs peers.0.0) from_tells (once_spell IsAddressSpelled address_of one_address_is_spelled (values_at headers.From (map entry_of fields)) singles.from peers.0.0 from r.from);
  to = of_name to_name headers.To fields (λ vs. IsOnce IsAddressSpelled vs peers.0.1) to_tells (once_spell IsAddressSpelled address_of one_address_is_spelled (values_at headers.To (map entry_of fields)) singles.to peers.0.1 to r.to);
  call_id = of_name call_id_name headers.CallId fields (λ vs. vs ≡ peers.1.0 ∷ []) call_id_tells (id_spell (values_at headers.CallId (map entry_of fields)) singles.call_id peers.1.0 call_id r.call_id);
  cseq = of_name cseq_name headers.CSeq fields (λ vs. IsOnce IsCSeqSpelled vs peers.1.1) cseq_tells (once_spell IsCSeqSpelled cseq_of cseq_is_spelled (values_at headers.CSeq (map entry_of fields)) singles.cseq peers.1.1 cseq r.cseq);
  max_forwards = of_name max_forwards_name headers.MaxForwards fields (λ vs. IsAtMostOnce (λ value n. hops_of value ≡ Some n) vs singles.hops) max_forwards_tells (most_spell hops_of singles.hops (values_at headers.MaxForwards (map entry_of fields)) r.max_forwards);
  content_length = of_name content_length_name headers.ContentLength fields (λ vs. IsAtMostOnce (λ value n. number_of value ≡ Some n) vs singles.length) content_length_tells (most_spell number_of singles.length (values_at headers.ContentLength (map entry_of fields)) r.content_length);
  others = same_others fields ∙ r.others.0;
}

-- ## The message

one_held : (o : Option ℕ) → held o ≡ given o
unfolding held given
one_held None = refl
one_held (Some n) = refl

held_one : {X : Type 0} (o : Option X) (x : X) → o ≡ Some x → held o ≡ 1
unfolding held
held_one o x is = ap held is

branch_first : (vias : List Via) → (length vias == 0) ≡ false → begins_so vias ≡ true → option_map_or has_branch (slice_get vias 0) false ≡ true
unfolding begins_so
branch_first [] some h = absurd (false≢true (sym some))
branch_first (via ∷ vias) some h = h

room_kept : (lists : Lists) (singles : Singles) (peers : Peers) (body : Bytes) → singles.from ≡ Some peers.0.0 → singles.to ≡ Some peers.0.1 → singles.call_id ≡ Some peers.1.0 → singles.cseq ≡ Some peers.1.1
    → count lists singles ≤ 128 → value_count (head_of lists peers body) singles.hops singles.length ≤ 128
unfolding count value_count head_of
room_kept lists singles peers body from to call_id cseq room =
    omega (arith, room, one_held singles.hops, one_held singles.length, held_one singles.from peers.0.0 from, held_one singles.to peers.0.1 to, held_one singles.call_id peers.1.0 call_id, held_one singles.cseq peers.1.1 cseq)

made : (line : Bytes) (fields : List Field) (body : Bytes) (start : Start) (lists : Lists) (singles : Singles) (peers : Peers) → IsStartLine line start → AreFieldsOf fields (head_of lists peers body) singles.hops singles.length
    → is_method_of start peers.1.1.method ≡ true → fits singles.length body ≡ true → option_map_or has_branch (slice_get lists.via 0) false ≡ true → value_count (head_of lists peers body) singles.hops singles.length ≤ 128
    → IsSpelledBy line fields body (message_with start singles.hops (head_of lists peers body))
unfolding fits head_of
made line fields body start lists singles peers begins headers method long branched room =
    let head = head_of lists peers body in
    let same : head_in (message_with start singles.hops head) ≡ head = made_head start singles.hops head in
    record {
      hops = singles.hops;
      len = singles.length;
      begins = made_start line start singles.hops head begins;
      headers = subst (λ (h : Head). AreFieldsOf fields h singles.hops singles.length) (sym same) headers;
      ends = ap (λ (h : Head). h.body) same;
      has_hops = made_hops start singles.hops head;
      has_method = made_method start singles.hops head method;
      fits = same_number (length body) (unwrap_or singles.length 0) long;
      branched = ap (λ (h : Head). option_map_or has_branch (slice_get h.via 0) false) same ∙ branched;
      room = subst (λ (h : Head). value_count h singles.hops singles.length ≤ 128) (sym same) room;
    }

nothing_begun : begins_so nothing_left.lists.via ≡ true
unfolding nothing_left no_lists begins_so
nothing_begun = refl

all_room : nothing_left.room ≡ 128
unfolding nothing_left
all_room = refl

pub spelled_by : (line : Bytes) (fields : List Field) (body : Bytes) (start : Start) (left : Left) (message : Message) → IsStartLine line start → all_taken nothing_left (map entry_of fields) ≡ Ok left → finished start left body ≡ Ok message → IsSpelledBy line fields body message
spelled_by line fields body start left message begins taken_so h =
    let was = all_left (map entry_of fields) nothing_left left nothing_begun taken_so in
    let lists : was.lists ≡ left.lists = sym (was.lists_are ∙ from_nothing was.lists) in
    let singles : was.singles ≡ left.singles = sym (was.singles_are ∙ from_none was.singles) in
    let reads : Reads (map entry_of fields) left.lists left.singles = subst (λ (s : Singles). Reads (map entry_of fields) left.lists s) singles (subst (λ (l : Lists). Reads (map entry_of fields) l was.singles) lists was.reads) in
    let counted : count left.lists left.singles ≤ 128 =
    subst (λ (s : Singles). count left.lists s ≤ 128) singles (subst (λ (l : Lists). count l was.singles ≤ 128) lists (subst (λ (n : ℕ). count was.lists was.singles ≤ n) all_room was.fits.room)) in
    let done = finished_back start left body message h in
    let begun : begins_so left.lists.via ≡ true = ap (λ (l : Lists). begins_so l.via) (sym lists) ∙ ap begins_so (sym (ap (λ (l : Lists). l.via) (from_nothing was.lists))) ∙ was.fits.begun in
    subst (IsSpelledBy line fields body) done.is
    (made line fields body start left.lists left.singles done.peers begins (fields_back fields left.lists left.singles done.peers body reads done.from done.to done.call_id done.cseq) done.method done.long
    (branch_first left.lists.via done.some begun) (room_kept left.lists left.singles done.peers body done.from done.to done.call_id done.cseq counted))

-- ## The head

head_by : (head : Bytes) (o : Option ℕ) → end_of Any head ≡ o
    → (head ≡ option_map_or (λ end. take end head) o head ++ block (lines_behind (option_map (λ end. drop (end + 2) head) o))) × AreAlone (lines_behind (option_map (λ end. drop (end + 2) head) o))
unfolding lines_behind AreAlone
head_by head None e = (sym (append-nil head), tt)
head_by head (Some end) e =
    let p = parted head Any end e in
    let behind = drop (end + 2) head in
    (p.is ∙ ap (λ l. l ++ ended p.behind) p.front_is ∙ ap (λ l. take end head ++ ended l) p.behind_is ∙ ap (λ l. take end head ++ l) (sym (pieces_glued behind Unfolded)), lines_alone behind)

head_parts : (head : Bytes) → (head ≡ start_line head ++ block (header_lines head)) × AreAlone (header_lines head)
unfolding start_line header_lines behind_start
head_parts head = head_by head (end_of Any head) refl

-- the lines, each with its CR LF
unfoldable lines_text : List Bytes → Bytes
lines_text [] = []
lines_text (line ∷ lines) = line ++ ended (lines_text lines)

lines_spell : (lines : List Bytes) (fields : List Field) → AreSpelledBy lines fields → AreLinesSpelled (lines_text lines) fields
unfolding AreSpelledBy AreLinesSpelled lines_text
lines_spell [] [] h = refl
lines_spell [] (field ∷ fields) h = absurd h
lines_spell (line ∷ lines) [] h = absurd h
lines_spell (line ∷ lines) (field ∷ fields) h = (line, lines_text lines, h.0, lines_spell lines fields h.1, refl)

text_block : (lines : List Bytes) → ended (lines_text lines) ≡ block lines ++ ended []
unfolding lines_text
text_block [] = refl
text_block (line ∷ lines) = ap (λ l. ended (line ++ l)) (text_block lines) ∙ ap ended (sym (append_assoc line (block lines) (ended [])))

-- ## The whole

unless_fault : (t : Bool) (r : Result Message Fault) (fault : Fault) (message : Message) → cond t (Err fault) r ≡ Ok message → r ≡ Ok message
unless_fault true r fault message h = let bad : ◌≡◌ {A = Result Message Fault} (Err fault) (Ok message) = h in cc
unless_fault false r fault message h = h

some_end : (f : ℕ → Result Message Fault) (o : Option ℕ) (fault : Fault) (message : Message) → option_map_or f o (Err fault) ≡ Ok message → (end : ℕ) × (o ≡ Some end) × (f end ≡ Ok message)
some_end f None fault message h = let bad : ◌≡◌ {A = Result Message Fault} (Err fault) (Ok message) = h in cc
some_end f (Some end) fault message h = (end, refl, h)

in_head : (head body text : Bytes) (message : Message) → text ≡ head ++ ended (ended body) → message_in head body ≡ Ok message → IsSpelled text message
unfolding message_in
in_head head body text message is h =
    let line = start_line head in
    let lines = header_lines head in
    let parts = head_parts head in
    let one = then_ok (placed 0 (start_of line)) _ message h in
    let two = then_ok (all_judged (length line + 2) nothing_left lines) _ message one.2 in
    let start = start_back line one.0 (placed_ok 0 (start_of line) one.0 one.1) in
    let all = all_judged_back lines (length line + 2) nothing_left two.0 parts.1 two.1 in
    let by = spelled_by line all.fields body one.0 two.0 message start all.taken_so (placed_ok (length head + 2) (finished one.0 two.0 body) message two.2) in
    let whole = is ∙ ap (λ l. l ++ ended (ended body)) parts.0 ∙ sym (regroup line (lines_text lines) body (block lines) (text_block lines)) in
    (line, lines_text lines, body, all.fields, lines_spell lines all.fields all.spelled, by, whole)

empty_behind : (behind : Bytes) → is_end Empty (ended behind) ≡ true → begins_break behind ≡ true
unfolding is_end
empty_behind behind h = (both (begins_break (ended behind)) (begins_break behind) h).1

-- a text that is read as a message spells it
pub message_spelled_back : (text : Bytes) (message : Message) → message_of text ≡ Ok message → IsSpelled text message
unfolding message_of
message_spelled_back text message h =
    let inner = unless_fault (begins_break text) (option_map_or (λ end. message_in (take end text) (drop (end + 4) text)) (end_of Empty text) (Err (record { at = length text; kind = 1 }))) (record { at = 0; kind = 1 }) message h in
    let some = some_end (λ end. message_in (take end text) (drop (end + 4) text)) (end_of Empty text) (record { at = length text; kind = 1 }) message inner in
    let end = some.0 in
    let p = parted text Empty end some.1 in
    let four : ◌≡◌ {A = ℕ} ((end + 2) + 2) (end + 4) = omega arith in
    let body : drop 2 p.behind ≡ drop (end + 4) text = ap (drop 2) p.behind_is ∙ drop-drop 2 (end + 2) text ∙ ap (λ n. drop n text) four in
    let whole : text ≡ take end text ++ ended (ended (drop (end + 4) text)) =
    p.is ∙ ap (λ l. l ++ ended p.behind) p.front_is ∙ ap (λ l. take end text ++ ended l) (break_is p.behind (empty_behind p.behind p.ends)) ∙ ap (λ l. take end text ++ ended (ended l)) body in
    in_head (take end text) (drop (end + 4) text) text message whole some.2
