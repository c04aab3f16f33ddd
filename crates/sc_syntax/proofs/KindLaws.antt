-- Which faults a start line and header lines have: none is 12, the length of the body.
use Rattle.std.proofs.Common.{◌≡◌, ℕ, Bool, true, false, cond, not, ◌==◌, ◌+◌, Option, Some, None, Result, Ok, Err, List, [], ◌∷◌, length, refl, sym, ap, ◌∙◌}
use Rattle.std.specs.Prelude.{⊤, is_some, nat_le}
use Rattle.std.specs.Option.{option_map_or}
use Rattle.std.specs.Result.{result_ok}
use Rattle.sc_tokens.specs.Bytes.{Bytes}
use Rattle.sc_tokens.specs.Blanks.{without_blanks as trimmed, trimmed_back}
use Rattle.sc_tokens.specs.Cuts.{has, before, after}
use Rattle.sc_tokens.specs.HeaderNames.{long_name}
use Rattle.sc_tokens.specs.Numbers.{number_of}
use Rattle.sc_tokens.specs.Tokens.{is_token, is_one_line}
use Rattle.sc_value.specs.declared.parts.Via.{Via}
use Rattle.sc_syntax.specs.declared.left.Header.{Header}
use Rattle.sc_syntax.specs.declared.left.Header.TheVariants as headers
use Rattle.sc_syntax.specs.declared.left.Left.{Left}
use Rattle.sc_syntax.specs.declared.left.Start.TheVariants.{Request, Status}
use Rattle.sc_syntax.specs.UriParts.{Fault, then_read}
use Rattle.sc_syntax.specs.Uris.{uri_of}
use Rattle.sc_syntax.specs.Vias.{vias_of}
use Rattle.sc_syntax.specs.Addresses.{address_of, addresses_of, contacts_of}
use Rattle.sc_syntax.specs.Sequences.{cseq_of, hops_of}
use Rattle.sc_syntax.specs.Lines.{start_line, header_lines}
use Rattle.sc_syntax.specs.Folds.{text_without_folds as joined}
use Rattle.sc_syntax.specs.StartLines.{is_version, request_in, request_behind, request_of, code_of, status_in, status_behind, status_of, is_status_line, is_broken, start_of}
use Rattle.sc_syntax.specs.Judging.{header_named, with_values as counted, taken_as, taken_once, begins_well, with_vias, with_routes, with_record_routes, with_contacts, with_from, with_to, with_call_id, with_cseq, with_hops, with_length, with_field, in_line, with_header as taken, with_named_header as named, left_with_line as judged}
use Rattle.sc_syntax.specs.Messages.{fault_at_place as placed, nothing_left, all_judged, parts_in}

-- a fault has another kind
IsEarly : {X : Type 0} → Result X ℕ → Type 0
IsEarly (Ok x) = ⊤
IsEarly (Err kind) = (kind == 12) ≡ false

if_early : {X : Type 0} (t : Bool) (a b : Result X ℕ) → IsEarly a → IsEarly b → IsEarly (cond t a b)
if_early true a b g h = g
if_early false a b g h = h

map_early : {X Y : Type 0} (f : X → Result Y ℕ) (o : Option X) (d : Result Y ℕ) → ((x : X) → IsEarly (f x)) → IsEarly d → IsEarly (option_map_or f o d)
map_early f None d g h = h
map_early f (Some x) d g h = g x

-- ## Start lines

request_early : (method uri version : Bytes) → IsEarly (request_in method uri version)
unfolding request_in IsEarly
request_early method uri version =
    if_early (has 32 version) (Err 1) _ refl (if_early (not (is_version version)) (Err 2) _ refl (if_early (not (is_token method)) (Err 3) _ refl (map_early (λ target. Ok (Request method target)) (result_ok (uri_of uri)) (Err 4) (λ target. tt) refl)))

request_line_early : (line : Bytes) → IsEarly (request_of line)
unfolding request_of request_behind IsEarly
request_line_early line =
    map_early (λ rest. option_map_or (request_in (before 32 line) (before 32 rest)) (after 32 rest) (Err 1)) (after 32 line) (Err 1)
    (λ rest. map_early (request_in (before 32 line) (before 32 rest)) (after 32 rest) (Err 1) (λ version. request_early (before 32 line) (before 32 rest) version) refl) refl

status_early : (version code reason : Bytes) → IsEarly (status_in version code reason)
unfolding status_in IsEarly
status_early version code reason =
    if_early (not (is_one_line reason)) (Err 1) _ refl (if_early (not (is_version version)) (Err 2) _ refl (map_early (λ n. Ok (Status n reason)) (code_of code) (Err 5) (λ n. tt) refl))

status_line_early : (line : Bytes) → IsEarly (status_of line)
unfolding status_of status_behind IsEarly
status_line_early line =
    map_early (λ rest. option_map_or (status_in (before 32 line) (before 32 rest)) (after 32 rest) (Err 1)) (after 32 line) (Err 1)
    (λ rest. map_early (status_in (before 32 line) (before 32 rest)) (after 32 rest) (Err 1) (λ reason. status_early (before 32 line) (before 32 rest) reason) refl) refl

start_early : (line : Bytes) → IsEarly (start_of line)
unfolding start_of IsEarly
start_early line = if_early (is_broken line) (Err 1) _ refl (if_early (is_status_line line) (status_of line) (request_of line) (status_line_early line) (request_line_early line))

-- ## Header lines

counted_early : (n : ℕ) (left : Left) → IsEarly (counted n left)
unfolding counted IsEarly
counted_early n left = if_early (nat_le n left.room) _ (Err 11) tt refl

value_early : {X : Type 0} (take : X → Result Left ℕ) (o : Option X) → ((x : X) → IsEarly (take x)) → IsEarly (taken_as take o)
unfolding taken_as IsEarly
value_early take None h = refl
value_early take (Some x) h = h x

once_early : {X : Type 0} (t : Bool) (take : X → Result Left ℕ) (o : Option X) → ((x : X) → IsEarly (take x)) → IsEarly (taken_once t take o)
unfolding taken_once IsEarly
once_early t take o h = if_early t (Err 8) (taken_as take o) refl (value_early take o h)

vias_early : (left : Left) (vias : List Via) → IsEarly (with_vias left vias)
unfolding with_vias IsEarly
vias_early left vias = if_early (begins_well left vias) _ (Err 9) (counted_early (length vias) _) refl

taken_early : (left : Left) (name : Bytes) (kind : Header) (value : Bytes) → IsEarly (taken left name kind value)
unfolding taken with_routes with_record_routes with_contacts with_from with_to with_call_id with_cseq with_hops with_length with_field
taken_early left name headers.Via value = value_early (with_vias left) (in_line vias_of value) (vias_early left)
taken_early left name headers.Route value = value_early (with_routes left) (in_line addresses_of value) (λ x. counted_early (length x) _)
taken_early left name headers.RecordRoute value = value_early (with_record_routes left) (in_line addresses_of value) (λ x. counted_early (length x) _)
taken_early left name headers.Contact value = value_early (with_contacts left) (in_line contacts_of value) (λ x. counted_early (length x) _)
taken_early left name headers.From value = once_early (is_some left.singles.from) (with_from left) (in_line address_of value) (λ x. counted_early 1 _)
taken_early left name headers.To value = once_early (is_some left.singles.to) (with_to left) (in_line address_of value) (λ x. counted_early 1 _)
taken_early left name headers.CallId value = once_early (is_some left.singles.call_id) (with_call_id left) (in_line Some value) (λ x. counted_early 1 _)
taken_early left name headers.CSeq value = once_early (is_some left.singles.cseq) (with_cseq left) (in_line cseq_of value) (λ x. counted_early 1 _)
taken_early left name headers.MaxForwards value = once_early (is_some left.singles.hops) (with_hops left) (in_line hops_of value) (λ x. counted_early 1 _)
taken_early left name headers.ContentLength value = once_early (is_some left.singles.length) (with_length left) (in_line number_of value) (λ x. counted_early 1 _)
taken_early left name headers.Other value = value_early (with_field left name) (in_line Some value) (λ x. counted_early 1 _)

named_early : (left : Left) (name value : Bytes) → IsEarly (named left name value)
unfolding named IsEarly
named_early left name value = if_early (is_token name) _ (Err 6) (taken_early left (long_name name) (header_named (long_name name)) (trimmed value)) refl

judged_early : (left : Left) (line : Bytes) → IsEarly (judged left line)
unfolding judged IsEarly
judged_early left line = map_early (named left (trimmed_back (before 58 line))) (after 58 line) (Err 6) (named_early left (trimmed_back (before 58 line))) refl

-- ## Heads

IsHeadFault : {X : Type 0} → Result X Fault → Type 0
IsHeadFault (Ok x) = ⊤
IsHeadFault (Err fault) = (fault.kind == 12) ≡ false

placed_fault : {X : Type 0} (at : ℕ) (r : Result X ℕ) → IsEarly r → IsHeadFault (placed at r)
unfolding placed IsEarly IsHeadFault
placed_fault at (Ok x) h = tt
placed_fault at (Err kind) h = h

then_fault : {X Y : Type 0} (r : Result X Fault) (next : X → Result Y Fault) → IsHeadFault r → ((x : X) → IsHeadFault (next x)) → IsHeadFault (then_read r next)
unfolding then_read IsHeadFault
then_fault (Ok x) next g h = h x
then_fault (Err fault) next g h = g

lines_fault : (lines : List Bytes) (at : ℕ) (left : Left) → IsHeadFault (all_judged at left lines)
unfolding all_judged IsHeadFault
lines_fault [] at left = tt
lines_fault (line ∷ lines) at left =
    then_fault (placed at (judged left (joined line))) _ (placed_fault at (judged left (joined line)) (judged_early left (joined line))) (λ next. lines_fault lines (at + length line + 2) next)

parts_fault : (head : Bytes) → IsHeadFault (parts_in head)
unfolding parts_in IsHeadFault
parts_fault head =
    then_fault (placed 0 (start_of (start_line head))) _ (placed_fault 0 (start_of (start_line head)) (start_early (start_line head)))
    (λ start. then_fault (all_judged (length (start_line head) + 2) nothing_left (header_lines head)) _ (lines_fault (header_lines head) (length (start_line head) + 2) nothing_left) (λ left. tt))

fault_told : {X : Type 0} (r : Result X Fault) (fault : Fault) → r ≡ Err fault → IsHeadFault r → (fault.kind == 12) ≡ false
unfolding IsHeadFault
fault_told (Ok x) fault is h = let bad : ◌≡◌ {A = Result _ Fault} (Ok x) (Err fault) = is in cc
fault_told (Err other) fault is h = let same_fault : ◌≡◌ {A = Result _ Fault} (Err other) (Err fault) = is in let same : other ≡ fault = cc in ap (λ (f : Fault). f.kind == 12) (sym same) ∙ h

-- the fault of a head isn't the length of its body
pub head_fault : (head : Bytes) (fault : Fault) → parts_in head ≡ Err fault → (fault.kind == 12) ≡ false
head_fault head fault is = fault_told (parts_in head) fault is (parts_fault head)
