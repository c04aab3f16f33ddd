-- A message's text, part by part.
use Rattle.std.proofs.Common.{◌≡◌, List, ℕ, Ok, Err, Option, Some, None, Result, ◌+◌, ◌≤◌, ◌^◌, length, Bor, refl, sym, ap, ◌∙◌, arith}
use Rattle.std.specs.Prelude.{IfSome}
use Rattle.std.specs.Option.{option_copied, option_map_or}
use Rattle.sc_value.specs.declared.message.Message.{Message}
use Rattle.sc_syntax.specs.declared.ending.Ending.TheVariants.{Unfolded}
use Rattle.sc_syntax.specs.declared.left.HeadParts.{HeadParts}
use Rattle.sc_syntax.specs.declared.left.Left.{Left}
use Rattle.sc_syntax.specs.declared.left.Start.{Start}
use Rattle.sc_tokens.specs.Bytes.{Bytes}
use Rattle.sc_syntax.specs.UriParts.{Fault, then_read}
use Rattle.sc_syntax.specs.Lines.{start_line, behind_start, header_lines}
use Rattle.sc_syntax.specs.StartLines.{start_of}
use Rattle.sc_syntax.specs.Messages.{fault_at_place as placed, nothing_left, all_judged, message_from_parts as finished, message_in, parts_in}
use Rattle.sc_syntax.proofs.HeadLaws.{with_body, message_by_parts, message_read}
use Rattle.sc_message_text.specs.declared.refused.MessageRefused.{MessageRefused}
use Rattle.sc_message_text.specs.declared.refused.MessageRefused.TheVariants as messages
use Rattle.sc_message_text.specs.Answers.{HasPlace, Reads}
use Rattle.sc_message_text.specs.Pieces.{pieces_behind, parts_behind}
use Rattle.sc_message_text.proofs.HeadSteps.{lines_are}

reads_same : {X : Type 0} (result : Result X MessageRefused) (a b : Result X Fault) → b ≡ a → Reads result a → Reads result b
reads_same (Ok x) a b same h = same ∙ h
reads_same (Err (messages.Refused at kind)) a b same h = same ∙ h
reads_same (Err messages.NoMemory) a b same h = tt

then_ok : {A B : Type 0} (read : Result A Fault) (a : A) (next : A → Result B Fault) → read ≡ Ok a → then_read read next ≡ next a
unfolding then_read
then_ok read a next h = ap (λ r. then_read r next) h

then_err : {A B : Type 0} (read : Result A Fault) (fault : Fault) (next : A → Result B Fault) → read ≡ Err fault → then_read read next ≡ Err fault
unfolding then_read
then_err read fault next h = ap (λ r. then_read r next) h

pub reads_then : {A B : Type 0} (result : Result B MessageRefused) (read : Result A Fault) (a : A) (next : A → Result B Fault) → read ≡ Ok a → Reads result (next a) → Reads result (then_read read next)
reads_then result read a next is h = reads_same result (next a) (then_read read next) (then_ok read a next is) h

pub refused_then : {A B : Type 0} (refused : MessageRefused) (read : Result A Fault) (next : A → Result B Fault) → HasPlace refused read → HasPlace refused (then_read read next)
refused_then (messages.Refused at kind) read next h = then_err read (record { at = at; kind = kind }) next h
refused_then messages.NoMemory read next h = tt

-- ## Behind the start line

abbrev in_head : Start → Left → HeadParts
in_head start left = record { start = start; left = left }

read_ok : (start : Start) (at : ℕ) (pieces : List Bytes) (first left : Left) → first ≡ nothing_left → all_judged at first pieces ≡ Ok left → then_read (all_judged at nothing_left pieces) (λ l. Ok (in_head start l)) ≡ Ok (in_head start left)
read_ok start at pieces first left new is = then_ok (all_judged at nothing_left pieces) left (λ l. Ok (in_head start l)) (sym (ap (λ l. all_judged at l pieces) new) ∙ is)

pub behind_done : (start : Start) (rest : Option Bytes) (at : ℕ) (first left : Left) → first ≡ nothing_left
    → all_judged at first (pieces_behind Unfolded rest) ≡ Ok left → parts_behind start rest at ≡ Ok (in_head start left)
behind_done start rest at first left new is = read_ok start at (pieces_behind Unfolded rest) first left new is

place_same : {X : Type 0} (refused : MessageRefused) (a b : Result X Fault) → b ≡ a → HasPlace refused a → HasPlace refused b
place_same (messages.Refused at kind) a b same h = same ∙ h
place_same messages.NoMemory a b same h = tt

pub behind_refused : (refused : MessageRefused) (start : Start) (rest : Option Bytes) (at : ℕ) (first : Left) → first ≡ nothing_left
    → HasPlace refused (all_judged at first (pieces_behind Unfolded rest)) → HasPlace refused (parts_behind start rest at)
behind_refused refused start rest at first new h =
    refused_then refused (all_judged at nothing_left (pieces_behind Unfolded rest)) (λ l. Ok (in_head start l))
    (place_same refused (all_judged at first (pieces_behind Unfolded rest)) (all_judged at nothing_left (pieces_behind Unfolded rest)) (sym (ap (λ l. all_judged at l (pieces_behind Unfolded rest)) new)) h)

-- ## The head

parts_are : (head : Bytes) → parts_in head ≡ then_read (placed 0 (start_of (start_line head))) (λ start. parts_behind start (behind_start head) (length (start_line head) + 2))
unfolding parts_in header_lines
parts_are head =
    ap (λ lines. then_read (placed 0 (start_of (start_line head))) (λ start. then_read (all_judged (length (start_line head) + 2) nothing_left lines) (λ left. Ok (in_head start left)))) (lines_are (behind_start head))

-- with the start line and what stands behind it
head_split : (head line : Bytes) (rest : Option Bytes) → line ≡ start_line head → rest ≡ behind_start head
    → parts_in head ≡ then_read (placed 0 (start_of line)) (λ start. parts_behind start rest (length line + 2))
head_split head line rest is behind =
    parts_are head
    ∙ ap (λ l. then_read (placed 0 (start_of l)) (λ start. parts_behind start (behind_start head) (length l + 2))) (sym is)
    ∙ ap (λ r. then_read (placed 0 (start_of line)) (λ start. parts_behind start r (length line + 2))) (sym behind)

pub head_read : (result : Result HeadParts MessageRefused) (head line : Bytes) (rest : Option Bytes) (start : Start) → line ≡ start_line head → rest ≡ behind_start head → placed 0 (start_of line) ≡ Ok start
    → Reads result (parts_behind start rest (length line + 2)) → Reads result (parts_in head)
head_read result head line rest start is behind first h =
    reads_same result (then_read (placed 0 (start_of line)) (λ s. parts_behind s rest (length line + 2))) (parts_in head) (head_split head line rest is behind)
    (reads_then result (placed 0 (start_of line)) start (λ s. parts_behind s rest (length line + 2)) first h)

pub head_refused : (refused : MessageRefused) (head line : Bytes) → line ≡ start_line head → HasPlace refused (placed 0 (start_of line)) → HasPlace refused (parts_in head)
head_refused refused head line is h =
    place_same refused (then_read (placed 0 (start_of line)) (λ s. parts_behind s (behind_start head) (length line + 2))) (parts_in head) (head_split head line (behind_start head) is refl)
    (refused_then refused (placed 0 (start_of line)) (λ s. parts_behind s (behind_start head) (length line + 2)) h)

-- ## The whole

pub parts_finished : (result : Result Message MessageRefused) (head body : Bytes) (parts : HeadParts) → parts_in head ≡ Ok parts → Reads result (placed (length head + 2) (finished parts.start parts.left body)) → Reads result (message_in head body)
parts_finished result head body parts is h = reads_same result (with_body head body parts) (message_in head body) (message_read head body parts is) h

pub parts_refused : (refused : MessageRefused) (head body : Bytes) → HasPlace refused (parts_in head) → HasPlace refused (message_in head body)
parts_refused refused head body h = place_same refused (then_read (parts_in head) (with_body head body)) (message_in head body) (message_by_parts head body) (refused_then refused (parts_in head) (with_body head body) h)

-- the places of the header lines fit
pub first_room : (line head : ℕ) (rest : Option (Bor Bytes)) → head + 4 ≤ 2 ^ 63 → IfSome rest (λ r. line + 2 + length r.now ≡ head) → option_map_or (λ t. line + 2 + length t) (option_copied rest) 0 ≤ 2 ^ 63
first_room line head None fits less = omega (arith)
first_room line head (Some r) fits less = omega (arith, fits, less)
