-- What is taken was spelled: a header that is a list, or one without structure, and those behind it.
use Rattle.std.proofs.Common.{◌≡◌, ℕ, Bool, true, false, cond, not, Option, Some, None, Result, Ok, Err, List, [], ◌∷◌, ◌++◌, ◌||◌, ◌==◌, ◌+◌, ◌-◌, ◌≤◌, length, refl, sym, ap, ◌∙◌, append_assoc, length-append, arith}
use Rattle.std.specs.Prelude.{nat_le, slice_get}
use Rattle.std.specs.List.{list_all}
use Rattle.std.specs.Option.{option_map_or}
use Rattle.std.proofs.lemmas.Bool.{false≢true}
use Rattle.std.proofs.lemmas.Bool.Decides.{nat_tests}
use Rattle.sc_tokens.specs.Tokens.{is_one_line}
use Rattle.sc_value.specs.declared.parts.Via.{Via}
use Rattle.sc_value.specs.declared.parts.Field.{Field}
use Rattle.sc_syntax.specs.declared.left.Left.{Left}
use Rattle.sc_syntax.specs.declared.left.Lists.{Lists}
use Rattle.sc_syntax.specs.declared.left.Singles.{Singles}
use Rattle.sc_syntax.specs.declared.left.Header.{Header}
use Rattle.sc_syntax.specs.declared.left.Header.TheVariants as headers
use Rattle.sc_tokens.specs.Bytes.{Bytes}
use Rattle.sc_syntax.specs.Vias.{vias_of}
use Rattle.sc_syntax.specs.Addresses.{addresses_of, contacts_of}
use Rattle.sc_syntax.specs.Judging.{with_values as counted, taken_as, has_branch, begins_well, with_vias, with_routes, with_record_routes, with_contacts, with_field, in_line, with_header as taken}
use Rattle.std.specs.Prelude.{unwrap_or}
use Rattle.sc_spelling.proofs.Entries.{Entry, Of, is_kind, number_at, values_at, fields_at, all_taken}
use Rattle.sc_spelling.proofs.Readings.{ReadsAll, Reads, count, joined, merged, begins_so, Fits}
use Rattle.sc_spelling.proofs.LineLaws.{taken_then}
use Rattle.sc_syntax.proofs.BlankLaws.{and_true}
use Rattle.sc_syntax.proofs.ListedLaws.{if_some}

-- what was taken of the headers behind this left
pub record Leaves (entries : List Entry) (left final : Left) : Type 0 where
  pub lists : Lists
  pub singles : Singles
  pub reads : Reads entries lists singles
  pub fits : Fits left lists singles
  pub lists_are : final.lists ≡ joined left.lists lists
  pub singles_are : final.singles ≡ merged left.singles singles

-- headers that were taken have left that
abbrev pub Leave : List Entry → Type 0
Leave entries = (left final : Left) → begins_so left.lists.via ≡ true → all_taken left entries ≡ Ok final → Leaves entries left final

-- ## Steps

pub kept_same : (left : Left) (next : Left) → ◌≡◌ {A = Result Left ℕ} (Ok left) (Ok next) → left ≡ next
kept_same left next e = cc

pub taken_if : (t : Bool) (r : Result Left ℕ) (kind : ℕ) (next : Left) → cond t r (Err kind) ≡ Ok next → (t ≡ true) × (r ≡ Ok next)
taken_if true r kind next h = (refl, h)
taken_if false r kind next h = let bad : ◌≡◌ {A = Result Left ℕ} (Err kind) (Ok next) = h in cc

pub taken_some : {X : Type 0} (take : X → Result Left ℕ) (o : Option X) (next : Left) → taken_as take o ≡ Ok next → (x : X) × (o ≡ Some x) × (take x ≡ Ok next)
unfolding taken_as
taken_some take None next h = let bad : ◌≡◌ {A = Result Left ℕ} (Err 9) (Ok next) = h in cc
taken_some take (Some x) next h = (x, refl, h)

pub no_more_than : (n m : ℕ) → nat_le n m ≡ true → n ≤ m
no_more_than n m h = grind (arith, nat_tests, h)

begun_on : (before first : List Via) → begins_so before ≡ true → (not (length before == 0) || option_map_or has_branch (slice_get first 0) false) ≡ true → begins_so (before ++ first) ≡ true
unfolding begins_so
begun_on [] [] g h = absurd (false≢true h)
begun_on [] (via ∷ vias) g h = h
begun_on (via ∷ vias) first g h = g

-- one header more
pub leaves_on : (left next final : Left) (kind : Header) (name value : Bytes) (entries : List Entry) (lists : Lists) (singles : Singles) (rest : Leaves entries next final) → Reads (Of kind name value ∷ entries) lists singles → Fits left lists singles
    → joined next.lists rest.lists ≡ joined left.lists lists → merged next.singles rest.singles ≡ merged left.singles singles → Leaves (Of kind name value ∷ entries) left final
leaves_on left next final kind name value entries lists singles rest reads fits l s = record {
  lists = lists;
  singles = singles;
  reads = reads;
  fits = fits;
  lists_are = rest.lists_are ∙ l;
  singles_are = rest.singles_are ∙ s;
}

-- ## Lists

pub via_left : (name value : Bytes) (entries : List Entry) → Leave entries → Leave (Of headers.Via name value ∷ entries)
unfolding values_at fields_at is_kind number_at ReadsAll all_taken taken counted count with_vias begins_well
via_left name value entries leave left final begun h =
    let one = taken_then (taken left name headers.Via value) (λ next. all_taken next entries) final h in
    let is = taken_some (with_vias left) (in_line vias_of value) one.0 one.1 in
    let items = is.0 in
    let next : Left = record left { room = left.room - length items; lists = record left.lists { via = left.lists.via ++ items } } in
    let well = taken_if (begins_well left items) (counted (length items) (record left { lists = record left.lists { via = left.lists.via ++ items } })) 9 one.0 is.2 in
    let fit = taken_if (nat_le (length items) left.room) (Ok next) 11 one.0 well.1 in
    let begun_next = begun_on left.lists.via items begun well.0 in
    let room = no_more_than (length items) left.room fit.0 in
    let rest = leave next final begun_next (ap (λ n. all_taken n entries) (kept_same next one.0 fit.1) ∙ one.2) in
    let len : length (items ++ rest.lists.via) ≡ length items + length rest.lists.via = length-append items rest.lists.via in
    let less = rest.fits.room in
    let lists : Lists = record rest.lists { via = items ++ rest.lists.via } in
    let behind : Reads (Of headers.Via name value ∷ entries) lists rest.singles = record { via = (items, rest.lists.via, is.1, rest.reads.via, refl); route = rest.reads.route; record_route = rest.reads.record_route; contact = rest.reads.contact; others = rest.reads.others; from = rest.reads.from; to = rest.reads.to; call_id = rest.reads.call_id; cseq = rest.reads.cseq; max_forwards = rest.reads.max_forwards; content_length = rest.reads.content_length } in
    let fits : Fits left lists rest.singles = record { room = omega (arith, less, len, room); begun = ap begins_so (sym (append_assoc left.lists.via items rest.lists.via)) ∙ rest.fits.begun; from = rest.fits.from; to = rest.fits.to; call_id = rest.fits.call_id; cseq = rest.fits.cseq; max_forwards = rest.fits.max_forwards; content_length = rest.fits.content_length } in
    leaves_on left next final headers.Via name value entries lists rest.singles rest behind fits (ap (λ l. record (joined left.lists lists) { via = l }) (append_assoc left.lists.via items rest.lists.via)) refl

pub route_left : (name value : Bytes) (entries : List Entry) → Leave entries → Leave (Of headers.Route name value ∷ entries)
unfolding values_at fields_at is_kind number_at ReadsAll all_taken taken counted count with_routes
route_left name value entries leave left final begun h =
    let one = taken_then (taken left name headers.Route value) (λ next. all_taken next entries) final h in
    let is = taken_some (with_routes left) (in_line addresses_of value) one.0 one.1 in
    let items = is.0 in
    let next : Left = record left { room = left.room - length items; lists = record left.lists { route = left.lists.route ++ items } } in
    let fit = taken_if (nat_le (length items) left.room) (Ok next) 11 one.0 is.2 in
    let begun_next = begun in
    let room = no_more_than (length items) left.room fit.0 in
    let rest = leave next final begun_next (ap (λ n. all_taken n entries) (kept_same next one.0 fit.1) ∙ one.2) in
    let len : length (items ++ rest.lists.route) ≡ length items + length rest.lists.route = length-append items rest.lists.route in
    let less = rest.fits.room in
    let lists : Lists = record rest.lists { route = items ++ rest.lists.route } in
    let behind : Reads (Of headers.Route name value ∷ entries) lists rest.singles = record { via = rest.reads.via; route = (items, rest.lists.route, is.1, rest.reads.route, refl); record_route = rest.reads.record_route; contact = rest.reads.contact; others = rest.reads.others; from = rest.reads.from; to = rest.reads.to; call_id = rest.reads.call_id; cseq = rest.reads.cseq; max_forwards = rest.reads.max_forwards; content_length = rest.reads.content_length } in
    let fits : Fits left lists rest.singles = record { room = omega (arith, less, len, room); begun = rest.fits.begun; from = rest.fits.from; to = rest.fits.to; call_id = rest.fits.call_id; cseq = rest.fits.cseq; max_forwards = rest.fits.max_forwards; content_length = rest.fits.content_length } in
    leaves_on left next final headers.Route name value entries lists rest.singles rest behind fits (ap (λ l. record (joined left.lists lists) { route = l }) (append_assoc left.lists.route items rest.lists.route)) refl

pub record_route_left : (name value : Bytes) (entries : List Entry) → Leave entries → Leave (Of headers.RecordRoute name value ∷ entries)
unfolding values_at fields_at is_kind number_at ReadsAll all_taken taken counted count with_record_routes
record_route_left name value entries leave left final begun h =
    let one = taken_then (taken left name headers.RecordRoute value) (λ next. all_taken next entries) final h in
    let is = taken_some (with_record_routes left) (in_line addresses_of value) one.0 one.1 in
    let items = is.0 in
    let next : Left = record left { room = left.room - length items; lists = record left.lists { record_route = left.lists.record_route ++ items } } in
    let fit = taken_if (nat_le (length items) left.room) (Ok next) 11 one.0 is.2 in
    let begun_next = begun in
    let room = no_more_than (length items) left.room fit.0 in
    let rest = leave next final begun_next (ap (λ n. all_taken n entries) (kept_same next one.0 fit.1) ∙ one.2) in
    let len : length (items ++ rest.lists.record_route) ≡ length items + length rest.lists.record_route = length-append items rest.lists.record_route in
    let less = rest.fits.room in
    let lists : Lists = record rest.lists { record_route = items ++ rest.lists.record_route } in
    let behind : Reads (Of headers.RecordRoute name value ∷ entries) lists rest.singles = record { via = rest.reads.via; route = rest.reads.route; record_route = (items, rest.lists.record_route, is.1, rest.reads.record_route, refl); contact = rest.reads.contact; others = rest.reads.others; from = rest.reads.from; to = rest.reads.to; call_id = rest.reads.call_id; cseq = rest.reads.cseq; max_forwards = rest.reads.max_forwards; content_length = rest.reads.content_length } in
    let fits : Fits left lists rest.singles = record { room = omega (arith, less, len, room); begun = rest.fits.begun; from = rest.fits.from; to = rest.fits.to; call_id = rest.fits.call_id; cseq = rest.fits.cseq; max_forwards = rest.fits.max_forwards; content_length = rest.fits.content_length } in
    leaves_on left next final headers.RecordRoute name value entries lists rest.singles rest behind fits (ap (λ l. record (joined left.lists lists) { record_route = l }) (append_assoc left.lists.record_route items rest.lists.record_route)) refl

pub contact_left : (name value : Bytes) (entries : List Entry) → Leave entries → Leave (Of headers.Contact name value ∷ entries)
unfolding values_at fields_at is_kind number_at ReadsAll all_taken taken counted count with_contacts
contact_left name value entries leave left final begun h =
    let one = taken_then (taken left name headers.Contact value) (λ next. all_taken next entries) final h in
    let is = taken_some (with_contacts left) (in_line contacts_of value) one.0 one.1 in
    let items = is.0 in
    let next : Left = record left { room = left.room - length items; lists = record left.lists { contact = left.lists.contact ++ items } } in
    let fit = taken_if (nat_le (length items) left.room) (Ok next) 11 one.0 is.2 in
    let begun_next = begun in
    let room = no_more_than (length items) left.room fit.0 in
    let rest = leave next final begun_next (ap (λ n. all_taken n entries) (kept_same next one.0 fit.1) ∙ one.2) in
    let len : length (items ++ rest.lists.contact) ≡ length items + length rest.lists.contact = length-append items rest.lists.contact in
    let less = rest.fits.room in
    let lists : Lists = record rest.lists { contact = items ++ rest.lists.contact } in
    let behind : Reads (Of headers.Contact name value ∷ entries) lists rest.singles = record { via = rest.reads.via; route = rest.reads.route; record_route = rest.reads.record_route; contact = (items, rest.lists.contact, is.1, rest.reads.contact, refl); others = rest.reads.others; from = rest.reads.from; to = rest.reads.to; call_id = rest.reads.call_id; cseq = rest.reads.cseq; max_forwards = rest.reads.max_forwards; content_length = rest.reads.content_length } in
    let fits : Fits left lists rest.singles = record { room = omega (arith, less, len, room); begun = rest.fits.begun; from = rest.fits.from; to = rest.fits.to; call_id = rest.fits.call_id; cseq = rest.fits.cseq; max_forwards = rest.fits.max_forwards; content_length = rest.fits.content_length } in
    leaves_on left next final headers.Contact name value entries lists rest.singles rest behind fits (ap (λ l. record (joined left.lists lists) { contact = l }) (append_assoc left.lists.contact items rest.lists.contact)) refl

pub other_left : (name value : Bytes) (entries : List Entry) → Leave entries → Leave (Of headers.Other name value ∷ entries)
unfolding values_at fields_at is_kind number_at all_taken taken counted count with_field in_line
other_left name value entries leave left final begun h =
    let field : Field = record { name = name; value = value } in
    let one = taken_then (taken left name headers.Other value) (λ next. all_taken next entries) final h in
    let is = taken_some (with_field left name) (cond (is_one_line value) (Some value) None) one.0 one.1 in
    let line = if_some (is_one_line value) (Some value) is.0 is.1 in
    let same : is.0 ≡ value = ap (λ o. unwrap_or o value) (sym line.1) in
    let next : Left = record left { room = left.room - 1; lists = record left.lists { others = left.lists.others ++ field ∷ [] } } in
    let fit = taken_if (nat_le 1 left.room) (Ok next) 11 one.0 (ap (with_field left name) (sym same) ∙ is.2) in
    let room = no_more_than 1 left.room fit.0 in
    let rest = leave next final begun (ap (λ n. all_taken n entries) (kept_same next one.0 fit.1) ∙ one.2) in
    let less = rest.fits.room in
    let lists : Lists = record rest.lists { others = field ∷ rest.lists.others } in
    let line_all = and_true (is_one_line value) (list_all (λ g. is_one_line g.value) (fields_at headers.Other entries)) line.0 rest.reads.others.1 in
    let behind : Reads (Of headers.Other name value ∷ entries) lists rest.singles = record { via = rest.reads.via; route = rest.reads.route; record_route = rest.reads.record_route; contact = rest.reads.contact; others = (ap (λ l. field ∷ l) rest.reads.others.0, line_all); from = rest.reads.from; to = rest.reads.to; call_id = rest.reads.call_id; cseq = rest.reads.cseq; max_forwards = rest.reads.max_forwards; content_length = rest.reads.content_length } in
    let fits : Fits left lists rest.singles = record { room = omega (arith, less, room); begun = rest.fits.begun; from = rest.fits.from; to = rest.fits.to; call_id = rest.fits.call_id; cseq = rest.fits.cseq; max_forwards = rest.fits.max_forwards; content_length = rest.fits.content_length } in
    leaves_on left next final headers.Other name value entries lists rest.singles rest behind fits (ap (λ l. record (joined left.lists lists) { others = l }) (append_assoc left.lists.others (field ∷ []) rest.lists.others)) refl
