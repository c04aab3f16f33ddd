-- What is spelled is taken: a header that is a list, or one without structure, and those behind it.
use Rattle.std.proofs.Common.{◌≡◌, suc, true, cond, Some, None, Ok, Err, List, [], ◌∷◌, ◌++◌, ◌+◌, ◌-◌, ◌≤◌, length, refl, sym, ap, ◌∙◌, append_assoc, length-append, arith}
use Rattle.std.specs.List.{list_all}
use Rattle.sc_tokens.specs.Tokens.{is_one_line}
use Rattle.sc_value.specs.declared.parts.Via.{Via}
use Rattle.sc_value.specs.declared.parts.Field.{Field}
use Rattle.sc_syntax.specs.declared.left.Left.{Left}
use Rattle.sc_syntax.specs.declared.left.Lists.{Lists}
use Rattle.sc_syntax.specs.declared.left.Singles.{Singles}
use Rattle.sc_syntax.specs.declared.left.Header.TheVariants as headers
use Rattle.sc_tokens.specs.Bytes.{Bytes}
use Rattle.sc_syntax.specs.Vias.{vias_of}
use Rattle.sc_syntax.specs.Judging.{with_values as counted, taken_as, begins_well, with_vias, with_routes, with_record_routes, with_contacts, with_field, in_line, with_header as taken}
use Rattle.sc_spelling.proofs.Entries.{Entry, Of, is_kind, number_at, values_at, fields_at}
use Rattle.sc_spelling.proofs.Readings.{ReadsAll, Reads, count, joined, begins_so, Fits, Ends, ends_on, is_within, begun_by}
use Rattle.sc_syntax.specs.SpelledParts.{AreListed}
use Rattle.sc_syntax.proofs.ListedLaws.{if_some}
use Rattle.sc_syntax.proofs.BlankLaws.{both}
use Rattle.sc_syntax.specs.SpelledVias.{IsViaSpelled}
use Rattle.sc_syntax.proofs.ViaLaws.{vias_are_spelled}

-- what may stand behind any left is taken, whatever it is
abbrev pub Runs : List Entry → Type 0
Runs entries = (left : Left) (lists : Lists) (singles : Singles) → Reads entries lists singles → Fits left lists singles → Ends left entries lists singles

some_via : (text : Bytes) (vias : List Via) → AreListed 44 IsViaSpelled text vias → ¬ (vias ≡ [])
unfolding AreListed
some_via text [] h e = h
some_via text (via ∷ vias) h e = let bad : ◌≡◌ {A = List Via} (via ∷ vias) [] = e in cc

pub vias_some : (value : Bytes) (vias : List Via) → in_line vias_of value ≡ Some vias → ¬ (vias ≡ [])
unfolding in_line
vias_some value vias h = some_via value vias (vias_are_spelled value vias (if_some (is_one_line value) (vias_of value) vias h).1)

pub via_taken : (name value : Bytes) (entries : List Entry) → Runs entries → Runs (Of headers.Via name value ∷ entries)
unfolding values_at fields_at is_kind number_at ReadsAll taken taken_as counted with_vias count begins_well
via_taken name value entries runs left lists singles r f =
    let one = r.via in
    let len : length lists.via ≡ length one.0 + length one.1 = ap length one.4 ∙ length-append one.0 one.1 in
    let next : Left = record left { room = left.room - length one.0; lists = record left.lists { via = left.lists.via ++ one.0 } } in
    let rest : Lists = record lists { via = one.1 } in
    let room : length one.0 ≤ left.room = omega (arith, f.room, len) in
    let behind : Reads entries rest singles = record { via = one.3; route = r.route; record_route = r.record_route; contact = r.contact; others = r.others; from = r.from; to = r.to; call_id = r.call_id; cseq = r.cseq; max_forwards = r.max_forwards; content_length = r.content_length } in
    let fits : Fits next rest singles = record { room = omega (arith, f.room, len); begun = ap begins_so (append_assoc left.lists.via one.0 one.1) ∙ ap (λ l. begins_so (left.lists.via ++ l)) (sym one.4) ∙ f.begun; from = f.from; to = f.to; call_id = f.call_id; cseq = f.cseq; max_forwards = f.max_forwards; content_length = f.content_length } in
    let well : begins_well left one.0 ≡ true = begun_by left.lists.via one.0 one.1 (vias_some value one.0 one.2) (ap (λ l. begins_so (left.lists.via ++ l)) (sym one.4) ∙ f.begun) in
    let step : taken left name headers.Via value ≡ Ok next =
    ap (taken_as (with_vias left)) one.2 ∙ ap (λ t. cond t (counted (length one.0) (record left { lists = record left.lists { via = left.lists.via ++ one.0 } })) (Err 9)) well ∙ ap (λ t. cond t (Ok next) (Err 11)) (is_within (length one.0) left.room room) in
    let all : joined next.lists rest ≡ joined left.lists lists = ap (λ l. record (joined left.lists lists) { via = l }) (append_assoc left.lists.via one.0 one.1 ∙ ap (λ l. left.lists.via ++ l) (sym one.4)) in
    ends_on left next headers.Via name value entries lists rest singles singles step (runs next rest singles behind fits) all refl

pub route_taken : (name value : Bytes) (entries : List Entry) → Runs entries → Runs (Of headers.Route name value ∷ entries)
unfolding values_at fields_at is_kind number_at ReadsAll taken taken_as counted with_routes count
route_taken name value entries runs left lists singles r f =
    let one = r.route in
    let len : length lists.route ≡ length one.0 + length one.1 = ap length one.4 ∙ length-append one.0 one.1 in
    let next : Left = record left { room = left.room - length one.0; lists = record left.lists { route = left.lists.route ++ one.0 } } in
    let rest : Lists = record lists { route = one.1 } in
    let room : length one.0 ≤ left.room = omega (arith, f.room, len) in
    let behind : Reads entries rest singles = record { via = r.via; route = one.3; record_route = r.record_route; contact = r.contact; others = r.others; from = r.from; to = r.to; call_id = r.call_id; cseq = r.cseq; max_forwards = r.max_forwards; content_length = r.content_length } in
    let fits : Fits next rest singles = record { room = omega (arith, f.room, len); begun = f.begun; from = f.from; to = f.to; call_id = f.call_id; cseq = f.cseq; max_forwards = f.max_forwards; content_length = f.content_length } in
    let step : taken left name headers.Route value ≡ Ok next = ap (taken_as (with_routes left)) one.2 ∙ ap (λ t. cond t (Ok next) (Err 11)) (is_within (length one.0) left.room room) in
    let all : joined next.lists rest ≡ joined left.lists lists = ap (λ l. record (joined left.lists lists) { route = l }) (append_assoc left.lists.route one.0 one.1 ∙ ap (λ l. left.lists.route ++ l) (sym one.4)) in
    ends_on left next headers.Route name value entries lists rest singles singles step (runs next rest singles behind fits) all refl

pub record_route_taken : (name value : Bytes) (entries : List Entry) → Runs entries → Runs (Of headers.RecordRoute name value ∷ entries)
unfolding values_at fields_at is_kind number_at ReadsAll taken taken_as counted with_record_routes count
record_route_taken name value entries runs left lists singles r f =
    let one = r.record_route in
    let len : length lists.record_route ≡ length one.0 + length one.1 = ap length one.4 ∙ length-append one.0 one.1 in
    let next : Left = record left { room = left.room - length one.0; lists = record left.lists { record_route = left.lists.record_route ++ one.0 } } in
    let rest : Lists = record lists { record_route = one.1 } in
    let room : length one.0 ≤ left.room = omega (arith, f.room, len) in
    let behind : Reads entries rest singles = record { via = r.via; route = r.route; record_route = one.3; contact = r.contact; others = r.others; from = r.from; to = r.to; call_id = r.call_id; cseq = r.cseq; max_forwards = r.max_forwards; content_length = r.content_length } in
    let fits : Fits next rest singles = record { room = omega (arith, f.room, len); begun = f.begun; from = f.from; to = f.to; call_id = f.call_id; cseq = f.cseq; max_forwards = f.max_forwards; content_length = f.content_length } in
    let step : taken left name headers.RecordRoute value ≡ Ok next = ap (taken_as (with_record_routes left)) one.2 ∙ ap (λ t. cond t (Ok next) (Err 11)) (is_within (length one.0) left.room room) in
    let all : joined next.lists rest ≡ joined left.lists lists = ap (λ l. record (joined left.lists lists) { record_route = l }) (append_assoc left.lists.record_route one.0 one.1 ∙ ap (λ l. left.lists.record_route ++ l) (sym one.4)) in
    ends_on left next headers.RecordRoute name value entries lists rest singles singles step (runs next rest singles behind fits) all refl

pub contact_taken : (name value : Bytes) (entries : List Entry) → Runs entries → Runs (Of headers.Contact name value ∷ entries)
unfolding values_at fields_at is_kind number_at ReadsAll taken taken_as counted with_contacts count
contact_taken name value entries runs left lists singles r f =
    let one = r.contact in
    let len : length lists.contact ≡ length one.0 + length one.1 = ap length one.4 ∙ length-append one.0 one.1 in
    let next : Left = record left { room = left.room - length one.0; lists = record left.lists { contact = left.lists.contact ++ one.0 } } in
    let rest : Lists = record lists { contact = one.1 } in
    let room : length one.0 ≤ left.room = omega (arith, f.room, len) in
    let behind : Reads entries rest singles = record { via = r.via; route = r.route; record_route = r.record_route; contact = one.3; others = r.others; from = r.from; to = r.to; call_id = r.call_id; cseq = r.cseq; max_forwards = r.max_forwards; content_length = r.content_length } in
    let fits : Fits next rest singles = record { room = omega (arith, f.room, len); begun = f.begun; from = f.from; to = f.to; call_id = f.call_id; cseq = f.cseq; max_forwards = f.max_forwards; content_length = f.content_length } in
    let step : taken left name headers.Contact value ≡ Ok next = ap (taken_as (with_contacts left)) one.2 ∙ ap (λ t. cond t (Ok next) (Err 11)) (is_within (length one.0) left.room room) in
    let all : joined next.lists rest ≡ joined left.lists lists = ap (λ l. record (joined left.lists lists) { contact = l }) (append_assoc left.lists.contact one.0 one.1 ∙ ap (λ l. left.lists.contact ++ l) (sym one.4)) in
    ends_on left next headers.Contact name value entries lists rest singles singles step (runs next rest singles behind fits) all refl

pub other_taken : (name value : Bytes) (entries : List Entry) → Runs entries → Runs (Of headers.Other name value ∷ entries)
unfolding values_at fields_at is_kind number_at ReadsAll taken taken_as counted with_field count in_line
other_taken name value entries runs left lists singles r f =
    let field : Field = record { name = name; value = value } in
    let more = fields_at headers.Other entries in
    let is : field ∷ more ≡ lists.others = r.others.0 in
    let ones = both (is_one_line value) (list_all (λ g. is_one_line g.value) more) r.others.1 in
    let len : length lists.others ≡ suc (length more) = ap length (sym is) in
    let next : Left = record left { room = left.room - 1; lists = record left.lists { others = left.lists.others ++ field ∷ [] } } in
    let rest : Lists = record lists { others = more } in
    let room : 1 ≤ left.room = omega (arith, f.room, len) in
    let behind : Reads entries rest singles = record { via = r.via; route = r.route; record_route = r.record_route; contact = r.contact; others = (refl, ones.1); from = r.from; to = r.to; call_id = r.call_id; cseq = r.cseq; max_forwards = r.max_forwards; content_length = r.content_length } in
    let fits : Fits next rest singles = record { room = omega (arith, f.room, len); begun = f.begun; from = f.from; to = f.to; call_id = f.call_id; cseq = f.cseq; max_forwards = f.max_forwards; content_length = f.content_length } in
    let step : taken left name headers.Other value ≡ Ok next = ap (λ t. taken_as (with_field left name) (cond t (Some value) None)) ones.0 ∙ ap (λ t. cond t (Ok next) (Err 11)) (is_within 1 left.room room) in
    let all : joined next.lists rest ≡ joined left.lists lists = ap (λ l. record (joined left.lists lists) { others = l }) (append_assoc left.lists.others (field ∷ []) more ∙ ap (λ l. left.lists.others ++ l) is) in
    ends_on left next headers.Other name value entries lists rest singles singles step (runs next rest singles behind fits) all refl
