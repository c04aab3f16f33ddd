-- A message that a text spells keeps the grammar.
use Rattle.std.proofs.Common.{◌≡◌, ℕ, Bool, true, false, cond, Option, Some, None, Ok, List, [], ◌∷◌, ◌<◌, ◌≤◌, ◌^◌, length, map, refl, sym, ap, subst, ◌∙◌, arith}
use Rattle.std.specs.Prelude.{filter, unwrap_or}
use Rattle.std.specs.List.{list_all}
use Rattle.sc_tokens.specs.HeaderNames.{long_name, via_name, from_name, to_name, call_id_name, contact_name, content_length_name, route_name, record_route_name, cseq_name, max_forwards_name}
use Rattle.sc_tokens.specs.Names.{same_name}
use Rattle.sc_tokens.specs.Tokens.{is_token, is_one_line}
use Rattle.sc_value.specs.declared.parts.Field.{Field}
use Rattle.sc_value.specs.declared.message.Head.{Head}
use Rattle.sc_value.specs.declared.message.Message.{Message}
use Rattle.sc_value.specs.declared.message.Message.TheVariants.{Request, Response}
use Rattle.sc_grammar.specs.Written.{text_of_message as written}
use Rattle.sc_tokens.specs.Bytes.{Bytes}
use Rattle.sc_tokens.specs.Numbers.{number_of}
use Rattle.sc_syntax.specs.Sequences.{hops_of}
use Rattle.sc_syntax.specs.Fronts.{values_of}
use Rattle.sc_syntax.proofs.BlankLaws.{both, and_true}
use Rattle.sc_syntax.proofs.NameLaws.{long_is}
use Rattle.sc_spelling.specs.SpelledLines.{IsValue, IsLineSpelled, AreLinesSpelled}
use Rattle.sc_spelling.specs.SpelledHeads.{IsOnce, IsAtMostOnce, is_other, AreFieldsOf}
use Rattle.sc_spelling.specs.SpelledStarts.{IsStartSpelled}
use Rattle.sc_spelling.specs.SpelledMessages.{head_in, HasHops, IsSpelledBy, IsSpelled}
use Rattle.sc_value.specs.AddressValues.{IsAddress}
use Rattle.sc_value.specs.SequenceValues.{IsCSeq}
use Rattle.sc_spelling.specs.Kept.{AllKeep, IsField, IsHead, IsStart, KeepsGrammar, HasBranch, HasRoom}
use Rattle.sc_syntax.specs.Messages.{message_of}
use Rattle.sc_spelling.proofs.Segments.{IsWritable}
use Rattle.sc_spelling.proofs.ReadWhole.{message_spelled_back}
use Rattle.sc_spelling.proofs.WrittenLaws.{written_is_read}
use Rattle.sc_spelling.proofs.KeptParts.{number_small, uri_kept, vias_kept, addresses_kept, contacts_kept, address_kept, cseq_kept}

-- ## Fields

field_kept : (line : Bytes) (field : Field) → IsLineSpelled line field → IsWritable field
field_kept line field (text, folded, (name, gap, rest, token, long, blanks, value, pad, is)) =
    let kept = long_is name token in
    (subst (λ (n : Bytes). is_token n ≡ true) long kept.0, subst (λ (n : Bytes). long_name n ≡ n) long kept.1, value)

fields_kept : (fields : List Field) (text : Bytes) → AreLinesSpelled text fields → AllKeep IsWritable fields
unfolding AreLinesSpelled AllKeep
fields_kept [] text h = tt
fields_kept (field ∷ fields) text (line, rest, one, more, is) = (field_kept line field one, fields_kept fields rest more)

others_kept : (fields : List Field) → AllKeep IsWritable fields → AllKeep IsField (filter is_other fields)
unfolding AllKeep
others_kept [] h = tt
others_kept (field ∷ fields) h = elim (is_other field) as (λ (t : Bool). is_other field ≡ t → AllKeep IsField (cond t (field ∷ filter is_other fields) (filter is_other fields))) [
  | true ↦ λ e. ((h.0.0, h.0.1, e, h.0.2), others_kept fields h.1)
  | false ↦ λ e. others_kept fields h.1
] refl

values_kept : (wanted : Bytes) (fields : List Field) → AllKeep IsWritable fields → AllKeep IsValue (values_of wanted fields)
unfolding AllKeep values_of
values_kept wanted [] h = tt
values_kept wanted (field ∷ fields) h =
    let more = filter (λ (f : Field). same_name f.name wanted) fields in
    elim (same_name field.name wanted) as (λ (t : Bool). AllKeep IsValue (map (λ (f : Field). f.value) (cond t (field ∷ more) more))) [
      | true ↦ (h.0.2, values_kept wanted fields h.1)
      | false ↦ values_kept wanted fields h.1
    ]

are_lines : (values : List Bytes) → AllKeep IsValue values → list_all is_one_line values ≡ true
unfolding AllKeep
are_lines [] h = refl
are_lines (value ∷ values) h = and_true (is_one_line value) (list_all is_one_line values) h.0.0 (are_lines values h.1)

-- ## The head

once_kept : {X : Type 0} (Spells : Bytes → X → Type 0) (Keeps : X → Type 0) → ((text : Bytes) (x : X) → is_one_line text ≡ true → Spells text x → Keeps x) → (values : List Bytes) (x : X) → list_all is_one_line values ≡ true → IsOnce Spells values x → Keeps x
unfolding IsOnce
once_kept Spells Keeps kept [] x one h = absurd h
once_kept Spells Keeps kept (value ∷ []) x one h = kept value x (both (is_one_line value) true one).0 h
once_kept Spells Keeps kept (value ∷ next ∷ more) x one h = absurd h

one_kept : (values : List Bytes) (id : Bytes) → AllKeep IsValue values → values ≡ id ∷ [] → IsValue id
unfolding AllKeep
one_kept values id h is = (subst (AllKeep IsValue) is h).0

most_small : (limit spare : ℕ) (read : Bytes → Option ℕ) → ((text : Bytes) (n : ℕ) → read text ≡ Some n → n < limit) → spare < limit → (values : List Bytes) (o : Option ℕ) → IsAtMostOnce (λ value n. read value ≡ Some n) values o → unwrap_or o spare < limit
unfolding IsAtMostOnce IsOnce
most_small limit spare read small less values None h = less
most_small limit spare read small less [] (Some n) h = absurd h
most_small limit spare read small less (value ∷ []) (Some n) h = small value n h
most_small limit spare read small less (value ∷ next ∷ more) (Some n) h = absurd h

body_kept : (head : Head) (body : Bytes) (n : ℕ) → head.body ≡ body → length body ≡ n → n < 2 ^ 64 → length head.body < 2 ^ 64
body_kept head body n is len small = subst (λ (k : ℕ). k < 2 ^ 64) (sym (ap length is ∙ len)) small

no_length : 0 < 2 ^ 64
no_length = omega arith

head_kept : (start body : Bytes) (fields : List Field) (message : Message) → AllKeep IsWritable fields → IsSpelledBy start fields body message → IsHead (head_in message)
head_kept start body fields message kept by =
    let head = head_in message in
    let one = λ (wanted : Bytes). are_lines (values_of wanted fields) (values_kept wanted fields kept) in
    let h = by.headers in
    record {
      via = vias_kept (values_of via_name fields) head.via (one via_name) h.via;
      route = addresses_kept (values_of route_name fields) head.route (one route_name) h.route;
      record_route = addresses_kept (values_of record_route_name fields) head.record_route (one record_route_name) h.record_route;
      from = once_kept _ IsAddress (address_kept false) (values_of from_name fields) head.from (one from_name) h.from;
      to = once_kept _ IsAddress (address_kept false) (values_of to_name fields) head.to (one to_name) h.to;
      call_id = one_kept (values_of call_id_name fields) head.call_id (values_kept call_id_name fields kept) h.call_id;
      cseq = once_kept _ IsCSeq (λ text cseq line spells. cseq_kept text cseq spells) (values_of cseq_name fields) head.cseq (one cseq_name) h.cseq;
      contact = contacts_kept (values_of contact_name fields) head.contact (one contact_name) h.contact;
      others = subst (AllKeep IsField) h.others (others_kept fields kept);
      body = body_kept head body (unwrap_or by.len 0) by.ends by.fits (most_small (2 ^ 64) 0 number_of (number_small (2 ^ 64)) no_length (values_of content_length_name fields) by.len h.content_length);
    }

-- ## The start line

below_limit : (n : ℕ) → n < 256 → n ≤ 255
below_limit n h = omega (arith, h)

below_700 : (n : ℕ) → n < 700 → n ≤ 699
below_700 n h = omega (arith, h)

seventy : 70 < 256
seventy = omega arith

hops_small : (fields : List Field) (head : Head) (hops len : Option ℕ) → AreFieldsOf fields head hops len → unwrap_or hops 70 < 256
unfolding hops_of
hops_small fields head hops len h = most_small 256 70 hops_of (number_small 256) seventy (values_of max_forwards_name fields) hops h.max_forwards

start_kept : (line : Bytes) (hops : Option ℕ) (message : Message) → IsStartSpelled line message → HasHops hops message → unwrap_or hops 70 < 256 → IsStart message
unfolding IsStart IsStartSpelled HasHops
start_kept line hops (Request request) (token, uri, spelled, is) same small = (token, uri_kept uri request.uri spelled, subst (λ (n : ℕ). n ≤ 255) (sym same) (below_limit (unwrap_or hops 70) small))
start_kept line hops (Response response) (one, digits, code, is) same small = (code.2, below_700 response.code (number_small 700 digits response.code code.1), one)

-- a message that a text spells keeps the grammar
pub spelled_keeps : (text : Bytes) (message : Message) → IsSpelled text message → KeepsGrammar message
spelled_keeps text message (start, lines, body, fields, spelled, by, is) =
    let kept = fields_kept fields lines spelled in
    (start_kept start by.hops message by.begins by.has_hops (hops_small fields (head_in message) by.hops by.len by.headers), head_kept start body fields message kept by, by.has_method)

-- so does one that a text is read as
pub read_keeps : (text : Bytes) (message : Message) → message_of text ≡ Ok message → KeepsGrammar message
read_keeps text message h = spelled_keeps text message (message_spelled_back text message h)

branched : (text : Bytes) (message : Message) → IsSpelled text message → HasBranch message
branched text message (start, lines, body, fields, spelled, by, is) = by.branched

pub read_branched : (text : Bytes) (message : Message) → message_of text ≡ Ok message → HasBranch message
read_branched text message h = branched text message (message_spelled_back text message h)

-- and it is read again from its written form
pub read_again : (text : Bytes) (message : Message) → message_of text ≡ Ok message → HasRoom message → message_of (written message) ≡ Ok message
read_again text message h room = written_is_read message (read_keeps text message h) (read_branched text message h) room
