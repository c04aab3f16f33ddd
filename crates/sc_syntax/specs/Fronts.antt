-- What the bytes of a stream begin with (RFC 3261 sections 7.5 and 18.3). A message has 65,535
-- bytes at most, and its Content-Length gives its body; a missing one is 0.
use Rattle.std.specs.Prelude.{ℕ, false, List, [], ◌∷◌, Option, Some, None, Result, Ok, Err, ◌||◌, ◌==◌, ◌+◌, nat_le, map, filter, slice_get, length, take, drop, unwrap_or, if◌then◌else◌}
use Rattle.std.specs.List.{flat_map, filter_map}
use Rattle.std.specs.Option.{option_map, option_map_or, option_and_then, option_zip}
use Rattle.std.specs.Result.{result_ok}
use Rattle.sc_tokens.specs.HeaderNames.{long_name, via_name, from_name, to_name, call_id_name, cseq_name}
use Rattle.sc_tokens.specs.Names.{same_name}
use Rattle.sc_tokens.specs.Tokens.{is_token}
use Rattle.sc_value.specs.declared.message.Message.{Message}
use Rattle.sc_value.specs.declared.parts.Address.{Address}
use Rattle.sc_value.specs.declared.parts.CSeq.{CSeq}
use Rattle.sc_value.specs.declared.parts.Field.{Field}
use Rattle.sc_value.specs.declared.parts.Via.{Via}
use Rattle.sc_syntax.specs.declared.ending.Ending.TheVariants.{Empty}
use Rattle.sc_value.specs.declared.answerable.Answerable.{Answerable}
use Rattle.sc_syntax.specs.declared.front.Front.{Front}
use Rattle.sc_syntax.specs.declared.front.Front.TheVariants.{Open, Whole, Bad, Long}
use Rattle.sc_tokens.specs.Bytes.{Bytes}
use Rattle.sc_tokens.specs.Cuts.{before, after}
use Rattle.sc_syntax.specs.UriParts.{Fault}
use Rattle.sc_tokens.specs.Blanks.{trimmed_back, without_blanks}
use Rattle.sc_tokens.specs.Signs.{colon}
use Rattle.sc_syntax.specs.Scanning.{all_read}
use Rattle.sc_syntax.specs.Vias.{vias_of}
use Rattle.sc_syntax.specs.Addresses.{address_of}
use Rattle.sc_syntax.specs.Sequences.{cseq_of}
use Rattle.sc_syntax.specs.Lines.{begins_break, end_of, start_line, header_lines}
use Rattle.sc_syntax.specs.Folds.{text_without_folds}
use Rattle.sc_syntax.specs.StartLines.{is_status_line}
use Rattle.sc_syntax.specs.Judging.{has_branch, in_line}
use Rattle.sc_syntax.specs.Messages.{all_judged, message_in, nothing_left}

-- ## What an answer needs

-- the long name and the value of a line, where its name is one
unfoldable pub field_of : Bytes → Option Field
field_of line =
    if is_token (trimmed_back (before colon line))
    then option_map
    (λ value.
    record { name = long_name (trimmed_back (before colon line)); value = without_blanks value })
    (after colon line)
    else None

-- the values of this name, in order
unfoldable pub values_of : Bytes → List Field → List Bytes
values_of name fields =
    map (λ field. field.value) (filter (λ field. same_name field.name name) fields)

-- the one item of a list
unfoldable pub only : List Bytes → Option Bytes
only [] = None
only (value ∷ []) = Some value
only (value ∷ next ∷ more) = None

-- the value of a header that stands once, read
unfoldable pub once : {X : Type 0} → (Bytes → Option X) → Bytes → List Field → Option X
once read name fields = option_and_then (in_line read) (only (values_of name fields))

-- there is a first Via, with its branch
unfoldable pub with_branch : List Via → Option (List Via)
with_branch vias = if option_map_or has_branch (slice_get vias 0) false then Some vias else None

-- all Vias, where each is readable
unfoldable pub vias_in : List Field → Option (List Via)
vias_in fields =
    option_and_then (λ lists. with_branch (flat_map (λ vias. vias) lists))
    (all_read (in_line vias_of) (values_of via_name fields))

-- the Vias, From and To, Call-ID and CSeq
abbrev pub Peers : Type 0
Peers = (List Via × (Address × Address)) × (Bytes × CSeq)

-- the headers of an answer, made of these
unfoldable pub answerable_with : Peers → Answerable
answerable_with peers =
    record {
      via = peers.0.0;
      from = peers.0.1.0;
      to = peers.0.1.1;
      call_id = peers.1.0;
      cseq = peers.1.1;
    }

-- the five headers, where each is there, readable and not doubled
unfoldable pub answerable_in : List Field → Option Answerable
answerable_in fields =
    option_map answerable_with (option_zip
    (option_zip (vias_in fields)
    (option_zip (once address_of from_name fields) (once address_of to_name fields)))
    (option_zip (once Some call_id_name fields) (once cseq_of cseq_name fields)))

-- of a request whose start line has two spaces
unfoldable pub answerable_of : Bytes → Fault → Option Answerable
answerable_of head fault =
    if is_status_line (start_line head) || fault.kind == 1 then None
    else answerable_in (filter_map (λ line. field_of (text_without_folds line)) (header_lines head))

-- ## The front

-- behind the line ends before a message, of which only whole ones are passed
unfoldable pub behind_breaks : Bytes → Bytes
behind_breaks [] = []
behind_breaks (b ∷ []) = b ∷ []
behind_breaks (b ∷ c ∷ bs) = if begins_break (b ∷ c ∷ bs) then behind_breaks bs else b ∷ c ∷ bs

-- the Content-Length of a head whose lines have no fault
unfoldable pub body_len : Bytes → ℕ
body_len head =
    option_map_or (λ left. unwrap_or left.singles.length 0)
    (result_ok (all_judged (length (start_line head) + 2) nothing_left (header_lines head))) 0

-- the front is no message: the place and kind of its fault, and the headers of an answer where
-- there are some
unfoldable pub bad_front : Bytes → Fault → Front
bad_front head fault = Bad fault.at fault.kind (answerable_of head fault)

-- the front is a message of so many bytes, or has a fault
unfoldable pub whole : Bytes → ℕ → Result Message Fault → Front
whole head len (Ok message) = Whole len message
whole head len (Err fault) = bad_front head fault

-- head and body of so many bytes
unfoldable pub front_of_length : Bytes → Bytes → ℕ → Front
front_of_length text head len =
    if nat_le len 65535
    then
    (if nat_le len (length text)
    then whole head len (message_in head (drop (length head + 4) (take len text)))
    else Open)
    else Long

-- a fault of the head comes before its body; only a body's length can't be one yet
unfoldable pub front_after_head : Bytes → Bytes → Result Message Fault → Front
front_after_head text head (Ok message) =
    front_of_length text head (length head + 4 + body_len head)
front_after_head text head (Err fault) =
    if fault.kind == 12 then front_of_length text head (length head + 4 + body_len head)
    else bad_front head fault

-- the front of a text whose first bytes are no CR LF
unfoldable pub front_of : Bytes → Front
front_of text =
    option_map_or (λ end. front_after_head text (take end text) (message_in (take end text) []))
    (end_of Empty (take 65535 text)) (if nat_le (length text) 65535 then Open else Long)
