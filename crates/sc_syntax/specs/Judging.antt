-- The header lines of a message (RFC 3261 sections 7.3 and 20): what each leaves, or which kind of
-- fault it has: 6 its name, 8 a header that stands twice, 9 its value, 11 too many values. Of
-- several the lowest counts.
use Rattle.std.specs.Prelude.{ℕ, Bool, false, List, [], ◌∷◌, ◌++◌, Option, Some, None, Result, Ok, Err, not, ◌||◌, ◌==◌, ◌-◌, nat_le, is_some, length, slice_get, if◌then◌else◌}
use Rattle.std.specs.Option.{option_map_or}
use Rattle.sc_tokens.specs.HeaderNames.{long_name, via_name, route_name, record_route_name, max_forwards_name, from_name, to_name, call_id_name, cseq_name, contact_name, content_length_name}
use Rattle.sc_tokens.specs.Names.{same_name}
use Rattle.sc_value.specs.Params.{param_value, branch_name}
use Rattle.sc_tokens.specs.Tokens.{is_token, is_one_line}
use Rattle.sc_value.specs.declared.parts.Via.{Via}
use Rattle.sc_value.specs.declared.parts.Address.{Address}
use Rattle.sc_value.specs.declared.parts.Contact.{Contact}
use Rattle.sc_value.specs.declared.parts.CSeq.{CSeq}
use Rattle.sc_syntax.specs.declared.left.Left.{Left}
use Rattle.sc_syntax.specs.declared.left.Header.{Header}
use Rattle.sc_syntax.specs.declared.left.Header.TheVariants as headers
use Rattle.sc_tokens.specs.Bytes.{Bytes}
use Rattle.sc_tokens.specs.Numbers.{number_of}
use Rattle.sc_tokens.specs.Cuts.{before, after}
use Rattle.sc_tokens.specs.Blanks.{trimmed_back, without_blanks}
use Rattle.sc_tokens.specs.Signs.{colon}
use Rattle.sc_syntax.specs.Vias.{vias_of}
use Rattle.sc_syntax.specs.Addresses.{address_of, addresses_of, contacts_of}
use Rattle.sc_syntax.specs.Sequences.{cseq_of, hops_of}

-- which header has this long name
unfoldable pub header_named : Bytes → Header
header_named name =
    if same_name name via_name then headers.Via
    else if same_name name route_name then headers.Route
    else if same_name name record_route_name then headers.RecordRoute
    else if same_name name contact_name then headers.Contact
    else if same_name name from_name then headers.From
    else if same_name name to_name then headers.To
    else if same_name name call_id_name then headers.CallId
    else if same_name name cseq_name then headers.CSeq
    else if same_name name max_forwards_name then headers.MaxForwards
    else if same_name name content_length_name then headers.ContentLength
    else headers.Other

-- ## What is left

-- so many values more, where there is room for them
unfoldable pub with_values : ℕ → Left → Result Left ℕ
with_values n left =
    if nat_le n left.room then Ok (record left { room = left.room - n }) else Err 11

-- what a value that is read makes of all; a value that isn't read is at fault
unfoldable pub taken_as : {X : Type 0} → (X → Result Left ℕ) → Option X → Result Left ℕ
taken_as take None = Err 9
taken_as take (Some x) = take x

-- the same, for a header that stands once at most
unfoldable pub taken_once : {X : Type 0} → Bool → (X → Result Left ℕ) → Option X → Result Left ℕ
taken_once is_there take value = if is_there then Err 8 else taken_as take value

-- the parameter `branch` is there, and isn't empty
unfoldable pub has_branch : Via → Bool
has_branch via =
    option_map_or (λ branch. not (length branch == 0)) (param_value branch_name via.params) false

-- the first Via of the message has its branch
unfoldable pub begins_well : Left → List Via → Bool
begins_well left vias =
    not (length left.lists.via == 0) || option_map_or has_branch (slice_get vias 0) false

-- the Vias of a line, behind those before; of the first one the branch is needed
unfoldable pub with_vias : Left → List Via → Result Left ℕ
with_vias left vias =
    if begins_well left vias
    then with_values (length vias)
    (record left { lists = record left.lists { via = left.lists.via ++ vias } })
    else Err 9

-- the Routes of a line, behind those before
unfoldable pub with_routes : Left → List Address → Result Left ℕ
with_routes left routes =
    with_values (length routes)
    (record left { lists = record left.lists { route = left.lists.route ++ routes } })

-- the Record-Routes of a line, behind those before
unfoldable pub with_record_routes : Left → List Address → Result Left ℕ
with_record_routes left routes =
    with_values (length routes)
    (record left { lists = record left.lists { record_route = left.lists.record_route ++ routes } })

-- the Contacts of a line, behind those before
unfoldable pub with_contacts : Left → List Contact → Result Left ℕ
with_contacts left contacts =
    with_values (length contacts)
    (record left { lists = record left.lists { contact = left.lists.contact ++ contacts } })

-- the one From
unfoldable pub with_from : Left → Address → Result Left ℕ
with_from left address =
    with_values 1 (record left { singles = record left.singles { from = Some address } })

-- the one To
unfoldable pub with_to : Left → Address → Result Left ℕ
with_to left address =
    with_values 1 (record left { singles = record left.singles { to = Some address } })

-- the one Call-ID
unfoldable pub with_call_id : Left → Bytes → Result Left ℕ
with_call_id left text =
    with_values 1 (record left { singles = record left.singles { call_id = Some text } })

-- the one CSeq
unfoldable pub with_cseq : Left → CSeq → Result Left ℕ
with_cseq left cseq =
    with_values 1 (record left { singles = record left.singles { cseq = Some cseq } })

-- the one Max-Forwards
unfoldable pub with_hops : Left → ℕ → Result Left ℕ
with_hops left hops =
    with_values 1 (record left { singles = record left.singles { hops = Some hops } })

-- the one Content-Length
unfoldable pub with_length : Left → ℕ → Result Left ℕ
with_length left len =
    with_values 1 (record left { singles = record left.singles { length = Some len } })

-- a header without structure, behind those before
unfoldable pub with_field : Left → Bytes → Bytes → Result Left ℕ
with_field left name value =
    with_values 1
    (record left {
      lists =
          record left.lists {
            others = left.lists.others ++ record { name = name; value = value } ∷ [];
          };
    })

-- a value of one line, read so
unfoldable pub in_line : {X : Type 0} → (Bytes → Option X) → Bytes → Option X
in_line read value = if is_one_line value then read value else None

-- the header of this long name with this value
unfoldable pub with_header : Left → Bytes → Header → Bytes → Result Left ℕ
with_header left name headers.Via value = taken_as (with_vias left) (in_line vias_of value)
with_header left name headers.Route value = taken_as (with_routes left) (in_line addresses_of value)
with_header left name headers.RecordRoute value =
    taken_as (with_record_routes left) (in_line addresses_of value)
with_header left name headers.Contact value =
    taken_as (with_contacts left) (in_line contacts_of value)
with_header left name headers.From value =
    taken_once (is_some left.singles.from) (with_from left) (in_line address_of value)
with_header left name headers.To value =
    taken_once (is_some left.singles.to) (with_to left) (in_line address_of value)
with_header left name headers.CallId value =
    taken_once (is_some left.singles.call_id) (with_call_id left) (in_line Some value)
with_header left name headers.CSeq value =
    taken_once (is_some left.singles.cseq) (with_cseq left) (in_line cseq_of value)
with_header left name headers.MaxForwards value =
    taken_once (is_some left.singles.hops) (with_hops left) (in_line hops_of value)
with_header left name headers.ContentLength value =
    taken_once (is_some left.singles.length) (with_length left) (in_line number_of value)
with_header left name headers.Other value = taken_as (with_field left name) (in_line Some value)

-- a name, which may be compact, and what stands behind its colon
unfoldable pub with_named_header : Left → Bytes → Bytes → Result Left ℕ
with_named_header left name value =
    if is_token name
    then with_header left (long_name name) (header_named (long_name name)) (without_blanks value)
    else Err 6

-- the text of a header line: the name, perhaps blanks, a colon and the value between blanks
unfoldable pub left_with_line : Left → Bytes → Result Left ℕ
left_with_line left line =
    option_map_or (with_named_header left (trimmed_back (before colon line))) (after colon line)
    (Err 6)
