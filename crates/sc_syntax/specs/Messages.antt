-- Which message a text spells, or its first fault (RFC 3261 section 7). A fault has its place, in
-- bytes from 0, and its kind: those of StartLines.antt at 0, those of Judging.antt at the first
-- byte of their line; at the empty line 7 a missing From, To, Call-ID, CSeq or Via, 10 a CSeq of
-- another method, 12 a body of another length than Content-Length; and 1 at the end of a text
-- without an empty line.
use Rattle.std.specs.Prelude.{ℕ, Bool, List, [], ◌∷◌, Option, None, Some, Result, Ok, Err, not, true, ◌==◌, ◌+◌, length, take, drop, unwrap_or, if◌then◌else◌}
use Rattle.std.specs.Option.{option_map_or, option_zip}
use Rattle.sc_tokens.specs.Names.{same_bytes}
use Rattle.sc_value.specs.declared.parts.Address.{Address}
use Rattle.sc_value.specs.declared.parts.CSeq.{CSeq}
use Rattle.sc_value.specs.declared.message.Head.{Head}
use Rattle.sc_value.specs.declared.message.Message.{Message}
use Rattle.sc_value.specs.declared.message.Message.TheVariants as messages
use Rattle.sc_syntax.specs.declared.ending.Ending.TheVariants.{Empty}
use Rattle.sc_syntax.specs.declared.left.HeadParts.{HeadParts}
use Rattle.sc_syntax.specs.declared.left.Left.{Left}
use Rattle.sc_syntax.specs.declared.left.Lists.{Lists}
use Rattle.sc_syntax.specs.declared.left.Singles.{Singles}
use Rattle.sc_syntax.specs.declared.left.Start.{Start}
use Rattle.sc_syntax.specs.declared.left.Start.TheVariants.{Request, Status}
use Rattle.sc_tokens.specs.Bytes.{Bytes}
use Rattle.sc_syntax.specs.UriParts.{Fault, then_read}
use Rattle.sc_syntax.specs.Lines.{begins_break, end_of, start_line, header_lines}
use Rattle.sc_syntax.specs.Folds.{text_without_folds}
use Rattle.sc_syntax.specs.StartLines.{start_of}
use Rattle.sc_syntax.specs.Judging.{left_with_line}

-- what is read, or the kind of its fault at this place
unfoldable pub fault_at_place : {X : Type 0} → ℕ → Result X ℕ → Result X Fault
fault_at_place at (Ok x) = Ok x
fault_at_place at (Err kind) = Err (record { at = at; kind = kind })

-- ## The header lines

-- before the first line; a message has at most 128 values
unfoldable pub no_lists : Lists
no_lists = record { via = []; route = []; record_route = []; contact = []; others = [] }

-- no header yet that stands once
unfoldable pub no_singles : Singles
no_singles =
    record { from = None; to = None; call_id = None; cseq = None; hops = None; length = None }

-- no value yet, and room for 128
unfoldable pub nothing_left : Left
nothing_left = record { room = 128; lists = no_lists; singles = no_singles }

-- the lines one by one, of which the first begins at this place
unfoldable pub all_judged : ℕ → Left → List Bytes → Result Left Fault
all_judged at left [] = Ok left
all_judged at left (line ∷ more) =
    then_read (fault_at_place at (left_with_line left (text_without_folds line)))
    (λ next. all_judged (at + length line + 2) next more)

-- ## The message

-- From and To, Call-ID and CSeq
abbrev pub Peers : Type 0
Peers = (Address × Address) × (Bytes × CSeq)

-- these four, where each is there
unfoldable pub peers_of : Singles → Option Peers
peers_of singles =
    option_zip (option_zip singles.from singles.to) (option_zip singles.call_id singles.cseq)

-- the head of these lists and these four, with the body
unfoldable pub head_of : Lists → Peers → Bytes → Head
head_of lists peers body = record {
  via = lists.via;
  route = lists.route;
  record_route = lists.record_route;
  from = peers.0.0;
  to = peers.0.1;
  call_id = peers.1.0;
  cseq = peers.1.1;
  contact = lists.contact;
  others = lists.others;
  body = body;
}

-- a request without Max-Forwards has 70 (RFC 3261 section 16.6); that of a response is dropped
unfoldable pub message_with : Start → Option ℕ → Head → Message
message_with (Request method uri) hops head =
    messages.Request (record { method = method; uri = uri; hops = unwrap_or hops 70; head = head })
message_with (Status code reason) hops head =
    messages.Response (record { code = code; reason = reason; head = head })

-- the method is the request's, where there is one (RFC 3261 section 8.1.1.5)
unfoldable pub is_method_of : Start → Bytes → Bool
is_method_of (Request method uri) named = same_bytes method named
is_method_of (Status code reason) named = true

-- Content-Length is that of the body; a missing one is 0 (RFC 3261 section 20.14)
unfoldable pub fits : Option ℕ → Bytes → Bool
fits len body = length body == unwrap_or len 0

-- the message, where method and Content-Length agree
unfoldable pub finished_with : Start → Lists → Option ℕ → Option ℕ → Bytes → Peers
    → Result Message ℕ
finished_with start lists hops len body peers =
    if not (is_method_of start peers.1.1.method) then Err 10
    else if not (fits len body) then Err 12
    else Ok (message_with start hops (head_of lists peers body))

-- the message of a start line, of what its header lines have left and of the body
unfoldable pub message_from_parts : Start → Left → Bytes → Result Message ℕ
message_from_parts start left body =
    if length left.lists.via == 0 then Err 7
    else option_map_or (finished_with start left.lists left.singles.hops left.singles.length body)
    (peers_of left.singles) (Err 7)

-- ## The head alone

-- start line and header lines, read
unfoldable pub parts_in : Bytes → Result HeadParts Fault
parts_in head =
    then_read (fault_at_place 0 (start_of (start_line head))) (λ start.
    then_read (all_judged (length (start_line head) + 2) nothing_left (header_lines head)) (λ left.
    Ok (record { start = start; left = left })))

-- the kind of the fault that shows at the empty line, whatever the body is
unfoldable pub lacking : HeadParts → Option ℕ
lacking parts =
    if length parts.left.lists.via == 0 then Some 7
    else option_map_or
    (λ peers. if is_method_of parts.start peers.1.1.method then None else Some 10)
    (peers_of parts.left.singles) (Some 7)

-- ## The text

-- the message of a head, which ends at this place, and of a body
unfoldable pub message_in : Bytes → Bytes → Result Message Fault
message_in head body =
    then_read (fault_at_place 0 (start_of (start_line head))) (λ start.
    then_read (all_judged (length (start_line head) + 2) nothing_left (header_lines head)) (λ left.
    fault_at_place (length head + 2) (message_from_parts start left body)))

-- the message, or the first fault. A text that begins with CR LF has an empty start line
unfoldable pub message_of : Bytes → Result Message Fault
message_of text =
    if begins_break text then Err (record { at = 0; kind = 1 })
    else option_map_or (λ end. message_in (take end text) (drop (end + 4) text)) (end_of Empty text)
    (Err (record { at = length text; kind = 1 }))
