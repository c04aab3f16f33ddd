-- A text that spells a message is read as it.
use Rattle.std.proofs.Common.{◌≡◌, ℕ, suc, true, false, cond, not, Option, Some, None, Result, Ok, Err, List, [], ◌∷◌, ◌++◌, ◌&&◌, ◌==◌, ◌+◌, length, take, drop, map, refl, sym, ap, ◌∙◌, append_assoc, append-nil, arith}
use Rattle.std.specs.Prelude.{slice_get, unwrap_or}
use Rattle.std.specs.List.{list_all, flat_map}
use Rattle.std.specs.Option.{option_map, option_map_or}
use Rattle.std.proofs.lemmas.Bool.{false≢true}
use Rattle.std.proofs.lemmas.Bool.Decides.{nat_tests}
use Rattle.std.proofs.Math.Seq.{take-append_seam}
use Rattle.sc_tokens.specs.Names.{same_bytes}
use Rattle.sc_tokens.specs.Tokens.{is_line_break, is_one_line, begins_blank}
use Rattle.sc_value.specs.declared.parts.Via.{Via}
use Rattle.sc_value.specs.declared.parts.Field.{Field}
use Rattle.sc_value.specs.declared.message.Head.{Head}
use Rattle.sc_value.specs.declared.message.Request.{Request as Asked}
use Rattle.sc_value.specs.declared.message.Message.{Message}
use Rattle.sc_value.specs.declared.message.Message.TheVariants as messages
use Rattle.sc_syntax.specs.declared.ending.Ending.TheVariants.{Any, Unfolded, Empty}
use Rattle.sc_syntax.specs.declared.left.Lists.{Lists}
use Rattle.sc_syntax.specs.declared.left.Singles.{Singles}
use Rattle.sc_syntax.specs.declared.left.Start.TheVariants.{Request}
use Rattle.sc_tokens.specs.Bytes.{Bytes}
use Rattle.sc_tokens.specs.Hosts.{begins}
use Rattle.sc_syntax.specs.UriParts.{Fault, then_read}
use Rattle.sc_syntax.specs.Lines.{begins_break, is_end, end_of, pieces_at, start_line, lines_behind, behind_start, header_lines}
use Rattle.sc_syntax.specs.StartLines.{start_of}
use Rattle.sc_syntax.specs.Judging.{has_branch}
use Rattle.sc_syntax.specs.Messages.{fault_at_place as placed, no_lists, no_singles, nothing_left, all_judged, Peers, peers_of, head_of, message_with, is_method_of, fits, finished_with, message_from_parts as finished, message_in, message_of}
use Rattle.sc_syntax.proofs.BlankLaws.{both, and_true}
use Rattle.sc_syntax.proofs.ClassLaws.{positive}
use Rattle.sc_spelling.specs.SpelledLines.{line_end_before as ended, IsLineSpelled, AreLinesSpelled}
use Rattle.sc_spelling.specs.SpelledMessages.{head_in, HasMethod, HasHops, IsSpelledBy, IsSpelled}
use Rattle.sc_spelling.proofs.Entries.{entry_of}
use Rattle.sc_spelling.proofs.Readings.{either_of, joined, merged}
use Rattle.sc_spelling.proofs.EndLaws.{is_clear, end_behind, no_end, clear_joined, line_clear, break_clear, no_return, any_end, empty_end, not_empty, line_ends, piece_alone, piece_first}
use Rattle.sc_spelling.proofs.LineLaws.{fold_not_empty, folded_clear, BeginsLine, folded_begins, AreSpelledBy, lines_judged}
use Rattle.sc_spelling.proofs.LineLaws as lines
use Rattle.sc_spelling.proofs.StartLaws.{start_at, same_itself, start_is_read}
use Rattle.sc_spelling.proofs.Running.{all_run, AreOneLine, lists_of, singles_of, head_reads, head_fits}

-- ## The lines of a text

-- the lines behind the start line, each behind CR LF
abbrev pub block : List Bytes → Bytes
block lines = flat_map ended lines

pub record LinesOf (text : Bytes) (fields : List Field) : Type 0 where
  pub lines : List Bytes
  pub spelled : AreSpelledBy lines fields
  pub is : ended text ≡ block lines ++ ended []
  pub one : AreOneLine fields

pub lines_of : (fields : List Field) (text : Bytes) → AreLinesSpelled text fields → LinesOf text fields
unfolding AreLinesSpelled AreSpelledBy
lines_of [] text h = record { lines = []; spelled = tt; is = ap ended h; one = refl }
lines_of (field ∷ fields) text (line, rest, spelled, more, is) =
    let others = lines_of fields rest more in
    record {
      lines = line ∷ others.lines;
      spelled = (spelled, others.spelled);
      is = ap ended is ∙ ap (λ l. ended (line ++ l)) others.is ∙ ap ended (sym (append_assoc line (block others.lines) (ended [])));
      one = and_true (is_one_line field.value) (list_all (λ f. is_one_line f.value) fields) spelled.2.6.0 others.one;
    }

line_begins : (line : Bytes) (field : Field) → IsLineSpelled line field → BeginsLine line
line_begins line field (text, folded, spelled) = folded_begins line text folded

begins_no_end : (line rest : Bytes) → BeginsLine line → is_end Empty (ended (line ++ rest)) ≡ false
begins_no_end line rest (b, bs, is, solid, other) = ap (λ l. is_end Empty (ended (l ++ rest))) is ∙ not_empty b (bs ++ rest) other

begins_end : (line rest : Bytes) → BeginsLine line → is_end Unfolded (ended (line ++ rest)) ≡ true
unfolding begins_blank
begins_end line rest (b, bs, is, solid, other) = ap (λ l. is_end Unfolded (ended (l ++ rest))) is ∙ line_ends (b ∷ (bs ++ rest)) solid

block_clear : (lines : List Bytes) (fields : List Field) (rest : Bytes) → AreSpelledBy lines fields → is_clear Empty (block lines) rest ≡ true
unfolding AreSpelledBy is_clear
block_clear [] [] rest h = refl
block_clear [] (field ∷ fields) rest h = absurd h
block_clear (line ∷ more) [] rest h = absurd h
block_clear (line ∷ more) (field ∷ fields) rest h =
    let behind = block more in
    break_clear Empty (line ++ behind) rest (ap (λ l. is_end Empty (ended l)) (append_assoc line behind rest) ∙ begins_no_end line (behind ++ rest) (line_begins line field h.0))
    (clear_joined Empty line behind rest (folded_clear line h.0.0 Empty (behind ++ rest) fold_not_empty h.0.1) (block_clear more fields rest h.1))

pieces_are : (line : Bytes) (lines : List Bytes) (field : Field) (fields : List Field) → IsLineSpelled line field → AreSpelledBy lines fields → pieces_at Unfolded (line ++ block lines) ≡ line ∷ lines
unfolding AreSpelledBy
pieces_are line [] field [] one h = ap (pieces_at Unfolded) (append-nil line) ∙ piece_alone Unfolded line (folded_clear line one.0 Unfolded [] lines.fold_goes one.1)
pieces_are line [] field (other ∷ fields) one h = absurd h
pieces_are line (next ∷ more) field [] one h = absurd h
pieces_are line (next ∷ more) field (other ∷ fields) one h =
    piece_first Unfolded line (next ++ block more) (folded_clear line one.0 Unfolded (ended (next ++ block more)) lines.fold_goes one.1) (begins_end next (block more) (line_begins next other h.0))
    ∙ ap (λ l. line ∷ l) (pieces_are next more other fields h.0 h.1)

-- ## The head

start_end : (start : Bytes) (lines : List Bytes) (line : Bytes) → is_one_line start ≡ true → end_of Any (start ++ block (line ∷ lines)) ≡ Some (length start)
start_end start lines line one = end_behind Any start (line ++ block lines) (line_clear Any start (ended (line ++ block lines)) one) (any_end (line ++ block lines))

alone_end : (start : Bytes) → is_one_line start ≡ true → end_of Any (start ++ []) ≡ None
alone_end start one = ap (end_of Any) (append-nil start) ∙ no_end Any start (line_clear Any start [] one)

pub start_is : (start : Bytes) (lines : List Bytes) → is_one_line start ≡ true → start_line (start ++ block lines) ≡ start
unfolding start_line
start_is start [] one = ap (λ o. option_map_or (λ end. take end (start ++ [])) o (start ++ [])) (alone_end start one) ∙ append-nil start
start_is start (line ∷ more) one =
    let head = start ++ block (line ∷ more) in
    ap (λ o. option_map_or (λ end. take end head) o head) (start_end start more line one) ∙ take-append_seam start (block (line ∷ more))

behind_seam : (text rest : Bytes) → drop (length text + 2) (text ++ ended rest) ≡ rest
behind_seam [] rest = refl
behind_seam (b ∷ bs) rest = let one : ◌≡◌ {A = ℕ} (suc (length bs) + 2) (suc (length bs + 2)) = omega arith in rw one (behind_seam bs rest)

pub lines_are : (start : Bytes) (lines : List Bytes) (fields : List Field) → is_one_line start ≡ true → AreSpelledBy lines fields → header_lines (start ++ block lines) ≡ lines
unfolding header_lines behind_start lines_behind AreSpelledBy
lines_are start [] fields one h = ap (λ o. lines_behind (option_map (λ end. drop (end + 2) (start ++ [])) o)) (alone_end start one)
lines_are start (line ∷ more) [] one h = absurd h
lines_are start (line ∷ more) (field ∷ fields) one h =
    let head = start ++ block (line ∷ more) in
    ap (λ o. lines_behind (option_map (λ end. drop (end + 2) head) o)) (start_end start more line one) ∙ ap (pieces_at Unfolded) (behind_seam start (line ++ block more)) ∙ pieces_are line more field fields h.0 h.1

-- ## What is finished

request_done : (hops : Option ℕ) (head : Head) (request : Asked) → request.hops ≡ unwrap_or hops 70 → head ≡ request.head → message_with (Request request.method request.uri) hops head ≡ messages.Request request
unfolding message_with
request_done hops head request h is = ap (λ n. messages.Request (record request { hops = n; head = head })) (sym h) ∙ ap (λ l. messages.Request (record request { head = l })) is

pub message_done : (hops : Option ℕ) (head : Head) (message : Message) → HasHops hops message → head ≡ head_in message → message_with (start_at message) hops head ≡ message
unfolding message_with start_at HasHops head_in
message_done hops head (messages.Request request) h is = request_done hops head request h is
message_done hops head (messages.Response response) h is = ap (λ l. messages.Response (record response { head = l })) is

method_done : (message : Message) → HasMethod message → is_method_of (start_at message) (head_in message).cseq.method ≡ true
unfolding is_method_of start_at HasMethod head_in
method_done (messages.Request request) h = ap (λ m. same_bytes request.method m) (sym h) ∙ same_itself request.method
method_done (messages.Response response) h = refl

same_length : (n m : ℕ) → n ≡ m → (n == m) ≡ true
same_length n m h = grind (arith, nat_tests, h)

some_vias : (vias : List Via) → option_map_or has_branch (slice_get vias 0) false ≡ true → (length vias == 0) ≡ false
some_vias [] h = absurd (false≢true h)
some_vias (via ∷ vias) h = positive (length vias)

head_done : (head : Head) (body : Bytes) → head.body ≡ body → record head { body = body } ≡ head
head_done head body is = ap (λ l. record head { body = l }) (sym is)

with_all : (message : Message) (room : ℕ) (hops len : Option ℕ) (body : Bytes) → (head_in message).body ≡ body → HasHops hops message → HasMethod message → length body ≡ unwrap_or len 0
    → option_map_or has_branch (slice_get (head_in message).via 0) false ≡ true → finished (start_at message) (record { room = room; lists = lists_of (head_in message); singles = singles_of (head_in message) hops len }) body ≡ Ok message
unfolding finished peers_of finished_with head_of fits
with_all message room hops len body ends has_hops has_method is_long branched =
    let head = head_in message in
    let peers : Peers = ((head.from, head.to), (head.call_id, head.cseq)) in
    let done : Head = record head { body = body } in
    ap (λ t. cond t (Err 7) (finished_with (start_at message) (lists_of head) hops len body peers)) (some_vias head.via branched)
    ∙ ap (λ t. cond (not t) (Err 10) (cond (not (fits len body)) (Err 12) (Ok (message_with (start_at message) hops done)))) (method_done message has_method)
    ∙ ap (λ t. cond (not t) (Err 12) (Ok (message_with (start_at message) hops done))) (same_length (length body) (unwrap_or len 0) is_long)
    ∙ ap Ok (message_done hops done message has_hops (head_done head body ends))

pub from_nothing : (lists : Lists) → joined nothing_left.lists lists ≡ lists
unfolding nothing_left no_lists
from_nothing lists = refl

pub from_none : (singles : Singles) → merged nothing_left.singles singles ≡ singles
unfolding nothing_left no_singles either_of
from_none singles = refl

-- ## The whole

head_read : (start : Bytes) (lines : List Bytes) (fields : List Field) (body : Bytes) (message : Message) → AreSpelledBy lines fields → AreOneLine fields → IsSpelledBy start fields body message → message_in (start ++ block lines) body ≡ Ok message
unfolding message_in placed then_read
head_read start lines fields body message spelled one h =
    let head = start ++ block lines in
    let first = start_is_read start message h.begins in
    let run = all_run (map entry_of fields) nothing_left (lists_of (head_in message)) (singles_of (head_in message) h.hops h.len) (head_reads fields (head_in message) h.hops h.len one h.headers)
    (head_fits (head_in message) h.hops h.len h.branched h.room) in
    let lists_are = run.lists_are ∙ from_nothing (lists_of (head_in message)) in
    let singles_are = run.singles_are ∙ from_none (singles_of (head_in message) h.hops h.len) in
    ap (λ l. then_read (placed 0 (start_of l)) (λ s. then_read (all_judged (length l + 2) nothing_left (header_lines head)) (λ left. placed (length head + 2) (finished s left body)))) (start_is start lines first.one)
    ∙ ap (λ r. then_read (placed 0 r) (λ s. then_read (all_judged (length start + 2) nothing_left (header_lines head)) (λ left. placed (length head + 2) (finished s left body)))) first.read
    ∙ ap (λ ls. then_read (all_judged (length start + 2) nothing_left ls) (λ left. placed (length head + 2) (finished (start_at message) left body))) (lines_are start lines fields first.one spelled)
    ∙ ap (λ r. then_read r (λ left. placed (length head + 2) (finished (start_at message) left body))) (lines_judged lines fields (length start + 2) nothing_left run.final spelled run.taken_so)
    ∙ ap (λ ls. placed (length head + 2) (finished (start_at message) (record run.final { lists = ls }) body)) lists_are
    ∙ ap (λ ss. placed (length head + 2) (finished (start_at message) (record run.final { lists = lists_of (head_in message); singles = ss }) body)) singles_are
    ∙ ap (placed (length head + 2)) (with_all message run.final.room h.hops h.len body h.ends h.has_hops h.has_method h.fits h.branched)

drop_four : (text rest : Bytes) → drop (length text + 4) (text ++ ended (ended rest)) ≡ rest
drop_four [] rest = refl
drop_four (b ∷ bs) rest = let one : ◌≡◌ {A = ℕ} (suc (length bs) + 4) (suc (length bs + 4)) = omega arith in rw one (drop_four bs rest)

no_break_first : (text rest : Bytes) → is_one_line text ≡ true → (b : ℕ) × (bs : Bytes) × (text ≡ b ∷ bs) → begins_break (text ++ rest) ≡ false
unfolding begins_break begins is_one_line
no_break_first text rest one (b, bs, is) =
    let free = no_return b (both (not (is_line_break b)) (list_all (λ c. not (is_line_break c)) bs) (sym (ap (list_all (λ c. not (is_line_break c))) is) ∙ one)).0 in
    ap (λ l. begins_break (l ++ rest)) is ∙ ap (λ t. t && begins 10 (bs ++ rest)) free

pub text_cut : (start : Bytes) (lines : List Bytes) (fields : List Field) (body : Bytes) → is_one_line start ≡ true → ((b : ℕ) × (bs : Bytes) × (start ≡ b ∷ bs)) → AreSpelledBy lines fields
    → message_of ((start ++ block lines) ++ ended (ended body)) ≡ message_in (start ++ block lines) body
unfolding message_of
text_cut start lines fields body one some spelled =
    let head = start ++ block lines in
    let text = head ++ ended (ended body) in
    let clear = clear_joined Empty start (block lines) (ended (ended body)) (line_clear Empty start (block lines ++ ended (ended body)) one) (block_clear lines fields (ended (ended body)) spelled) in
    let begin = ap begins_break (append_assoc start (block lines) (ended (ended body))) ∙ no_break_first start (block lines ++ ended (ended body)) one some in
    ap (λ t. cond t (Err (record { at = 0; kind = 1 })) (option_map_or (λ end. message_in (take end text) (drop (end + 4) text)) (end_of Empty text) (Err (record { at = length text; kind = 1 })))) begin
    ∙ ap (λ o. option_map_or (λ end. message_in (take end text) (drop (end + 4) text)) o (Err (record { at = length text; kind = 1 }))) (end_behind Empty head (ended body) clear (empty_end body))
    ∙ ap (λ l. message_in l (drop (length head + 4) text)) (take-append_seam head (ended (ended body))) ∙ ap (message_in head) (drop_four head body)

pub regroup : (start lines body : Bytes) (block_of : Bytes) → ended lines ≡ block_of ++ ended [] → start ++ ended (lines ++ ended body) ≡ (start ++ block_of) ++ ended (ended body)
regroup start lines body block_of is =
    ap (λ l. start ++ (l ++ ended body)) is ∙ ap (λ l. start ++ l) (append_assoc block_of (ended []) (ended body)) ∙ sym (append_assoc start block_of (ended (ended body)))

-- a text that spells a message is read as it
pub message_is_read : (text : Bytes) (message : Message) → IsSpelled text message → message_of text ≡ Ok message
message_is_read text message (start, lines, body, fields, spelled, by, is) =
    let all = lines_of fields lines spelled in
    let first = start_is_read start message by.begins in
    ap message_of (is ∙ regroup start lines body (block all.lines) all.is) ∙ text_cut start all.lines fields body first.one first.some all.spelled ∙ head_read start all.lines fields body message all.spelled all.one by

-- so it spells one message at most
pub one_message : (text : Bytes) (first second : Message) → IsSpelled text first → IsSpelled text second → first ≡ second
one_message text first second g h =
    let same : ◌≡◌ {A = Result Message Fault} (Ok first) (Ok second) = sym (message_is_read text first g) ∙ message_is_read text second h in cc
