-- The fields of the written form of a head: they are those of the head, and their lines are its text.
use Rattle.std.proofs.Common.{◌≡◌, ℕ, Option, Some, None, List, [], ◌∷◌, ◌++◌, length, decimal, map, refl, sym, ap, ◌∙◌, append_assoc, append-nil}
use Rattle.std.specs.List.{flat_map}
use Rattle.std.proofs.lemmas.List.Concat.{flat_map-append}
use Rattle.sc_tokens.specs.HeaderNames.{via_name, route_name, record_route_name, max_forwards_name, from_name, to_name, call_id_name, cseq_name, contact_name, content_length_name}
use Rattle.sc_value.specs.declared.parts.Field.{Field}
use Rattle.sc_value.specs.declared.message.Head.{Head}
use Rattle.sc_grammar.specs.Written.{crlf, line, via_text, address_text, contact_text, cseq_text, via_line, route_line, record_route_line, contact_line, field_line, hops_line, routing_lines, dialog_lines, closing_lines, head_text}
use Rattle.sc_tokens.specs.Bytes.{Bytes}
use Rattle.sc_spelling.specs.SpelledLines.{line_end_before as ended}
use Rattle.sc_spelling.proofs.Segments.{Segment, field_in, fields_in}

unfoldable pub hops_values : Option ℕ → List Bytes
hops_values None = []
hops_values (Some hops) = decimal hops ∷ []

-- all before the headers without structure, and Content-Length behind them
abbrev pub front : Option ℕ → Head → List Segment
front hops head =
    (via_name, map via_text head.via) ∷ (route_name, map address_text head.route) ∷ (record_route_name, map address_text head.record_route) ∷ (max_forwards_name, hops_values hops)
    ∷ (from_name, address_text head.from ∷ []) ∷ (to_name, address_text head.to ∷ []) ∷ (call_id_name, head.call_id ∷ []) ∷ (cseq_name, cseq_text head.cseq ∷ []) ∷ (contact_name, map contact_text head.contact) ∷ []

abbrev pub back : Head → List Segment
back head = (content_length_name, decimal (length head.body) ∷ []) ∷ []

abbrev pub fields_for : Option ℕ → Head → List Field
fields_for hops head = fields_in (front hops head) ++ (head.others ++ fields_in (back head))

-- ## Their lines

abbrev pub text_of : List Field → Bytes
text_of fields = flat_map field_line fields

segment_text : {X : Type 0} (items : List X) (text : X → Bytes) (name : Bytes) → text_of (map (field_in name) (map text items)) ≡ flat_map (λ item. line name (text item)) items
unfolding field_line
segment_text [] text name = refl
segment_text (item ∷ items) text name = ap (λ l. line name (text item) ++ l) (segment_text items text name)

-- the lines of the lists, as they are written
lists_text : (head : Head) → (flat_map via_line head.via ≡ text_of (map (field_in via_name) (map via_text head.via))) × (flat_map route_line head.route ≡ text_of (map (field_in route_name) (map address_text head.route)))
    × (flat_map record_route_line head.record_route ≡ text_of (map (field_in record_route_name) (map address_text head.record_route))) × (flat_map contact_line head.contact ≡ text_of (map (field_in contact_name) (map contact_text head.contact)))
unfolding via_line route_line record_route_line contact_line
lists_text head = (
  sym (segment_text head.via via_text via_name),
  sym (segment_text head.route address_text route_name),
  sym (segment_text head.record_route address_text record_route_name),
  sym (segment_text head.contact contact_text contact_name),
)

hops_text : (hops : Option ℕ) → hops_line hops ≡ text_of (map (field_in max_forwards_name) (hops_values hops))
unfolding hops_line hops_values field_line
hops_text None = refl
hops_text (Some n) = sym (append-nil (line max_forwards_name (decimal n)))

one_text : (name value : Bytes) → line name value ≡ text_of (map (field_in name) (value ∷ []))
unfolding field_line
one_text name value = sym (append-nil (line name value))

-- the text of a list of segments
segments_text : Segment → List Segment → Bytes → Bytes
segments_text segment [] rest = text_of (map (field_in segment.0) segment.1) ++ rest
segments_text segment (next ∷ more) rest = text_of (map (field_in segment.0) segment.1) ++ segments_text next more rest

text_joined : (segments : List Segment) (segment : Segment) (rest : Bytes) → text_of (fields_in (segment ∷ segments)) ++ rest ≡ segments_text segment segments rest
unfolding fields_in segments_text
text_joined [] segment rest =
    let own = map (field_in segment.0) segment.1 in
    ap (λ l. l ++ rest) (flat_map-append field_line own [] ∙ append-nil (text_of own))
text_joined (next ∷ more) segment rest =
    let own = map (field_in segment.0) segment.1 in
    ap (λ l. l ++ rest) (flat_map-append field_line own (fields_in (next ∷ more))) ∙ append_assoc (text_of own) (text_of (fields_in (next ∷ more))) rest ∙ ap (λ l. text_of own ++ l) (text_joined more next rest)

regroup : (v r q h f t i s c o l e b : Bytes) → (((((v ++ r) ++ q) ++ h) ++ (((f ++ t) ++ i) ++ s)) ++ ((c ++ o) ++ l) ++ e) ++ b ≡ v ++ (r ++ (q ++ (h ++ (f ++ (t ++ (i ++ (s ++ (c ++ (o ++ (l ++ (e ++ b)))))))))))
regroup v r q h f t i s c o l e b = simp append_assoc

written_is : (hops : Option ℕ) (head : Head) → head_text hops head ≡ flat_map via_line head.via ++ (flat_map route_line head.route ++ (flat_map record_route_line head.record_route ++ (hops_line hops
    ++ (line from_name (address_text head.from) ++ (line to_name (address_text head.to) ++ (line call_id_name head.call_id ++ (line cseq_name (cseq_text head.cseq)
    ++ (flat_map contact_line head.contact ++ (flat_map field_line head.others ++ (line content_length_name (decimal (length head.body)) ++ ended head.body))))))))))
unfolding head_text routing_lines dialog_lines closing_lines crlf
written_is hops head =
    regroup (flat_map via_line head.via) (flat_map route_line head.route) (flat_map record_route_line head.record_route) (hops_line hops) (line from_name (address_text head.from)) (line to_name (address_text head.to)) (line call_id_name head.call_id)
    (line cseq_name (cseq_text head.cseq)) (flat_map contact_line head.contact) (flat_map field_line head.others) (line content_length_name (decimal (length head.body))) (13 ∷ 10 ∷ []) head.body

twelve : (v w r s q p h k f g t u i j c d y z o l m e : Bytes) → v ≡ w → r ≡ s → q ≡ p → h ≡ k → f ≡ g → t ≡ u → i ≡ j → c ≡ d → y ≡ z → l ≡ m
    → v ++ (r ++ (q ++ (h ++ (f ++ (t ++ (i ++ (c ++ (y ++ (o ++ (l ++ e)))))))))) ≡ w ++ (s ++ (p ++ (k ++ (g ++ (u ++ (j ++ (d ++ (z ++ (o ++ (m ++ e))))))))))
twelve v w r s q p h k f g t u i j c d y z o l m e a1 a2 a3 a4 a5 a6 a7 a8 a9 a10 = cc

pub text_is : (hops : Option ℕ) (head : Head) → head_text hops head ≡ text_of (fields_for hops head) ++ ended head.body
unfolding segments_text
text_is hops head =
    let lists = lists_text head in
    let own = λ (name : Bytes) (values : List Bytes). text_of (map (field_in name) values) in
    let end = ended head.body in
    let rest = text_of head.others ++ (own content_length_name (decimal (length head.body) ∷ []) ++ end) in
    let behind : text_of (head.others ++ fields_in (back head)) ++ end ≡ rest =
    ap (λ l. l ++ end) (flat_map-append field_line head.others (fields_in (back head))) ∙ append_assoc (text_of head.others) (text_of (fields_in (back head))) end ∙ ap (λ l. text_of head.others ++ l) (text_joined [] (content_length_name, decimal (length head.body) ∷ []) end) in
    let whole : text_of (fields_for hops head) ++ end ≡ text_of (fields_in (front hops head)) ++ rest =
    ap (λ l. l ++ end) (flat_map-append field_line (fields_in (front hops head)) (head.others ++ fields_in (back head))) ∙ append_assoc (text_of (fields_in (front hops head))) (text_of (head.others ++ fields_in (back head))) end
    ∙ ap (λ l. text_of (fields_in (front hops head)) ++ l) behind in
    written_is hops head
    ∙ twelve (flat_map via_line head.via) (own via_name (map via_text head.via)) (flat_map route_line head.route) (own route_name (map address_text head.route)) (flat_map record_route_line head.record_route) (own record_route_name (map address_text head.record_route))
    (hops_line hops) (own max_forwards_name (hops_values hops)) (line from_name (address_text head.from)) (own from_name (address_text head.from ∷ [])) (line to_name (address_text head.to)) (own to_name (address_text head.to ∷ []))
    (line call_id_name head.call_id) (own call_id_name (head.call_id ∷ [])) (line cseq_name (cseq_text head.cseq)) (own cseq_name (cseq_text head.cseq ∷ [])) (flat_map contact_line head.contact) (own contact_name (map contact_text head.contact))
    (text_of head.others) (line content_length_name (decimal (length head.body))) (own content_length_name (decimal (length head.body) ∷ [])) end
    lists.0 lists.1 lists.2 (hops_text hops) (one_text from_name (address_text head.from)) (one_text to_name (address_text head.to)) (one_text call_id_name head.call_id) (one_text cseq_name (cseq_text head.cseq)) lists.3
    (one_text content_length_name (decimal (length head.body)))
    ∙ sym (whole ∙ text_joined ((route_name, map address_text head.route) ∷ (record_route_name, map address_text head.record_route) ∷ (max_forwards_name, hops_values hops)
    ∷ (from_name, address_text head.from ∷ []) ∷ (to_name, address_text head.to ∷ []) ∷ (call_id_name, head.call_id ∷ []) ∷ (cseq_name, cseq_text head.cseq ∷ []) ∷ (contact_name, map contact_text head.contact) ∷ []) (via_name, map via_text head.via) rest)
