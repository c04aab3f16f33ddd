-- A head that is read alone, and then with its body.
use Rattle.std.proofs.Common.{◌≡◌, ℕ, Bool, true, false, cond, not, ◌==◌, ◌+◌, Option, Some, None, Result, Ok, Err, [], length, refl, sym, ap, ◌∙◌}
use Rattle.std.specs.Prelude.{unwrap_or}
use Rattle.std.specs.Option.{option_map_or}
use Rattle.std.specs.Result.{result_ok}
use Rattle.sc_tokens.specs.Bytes.{Bytes}
use Rattle.sc_value.specs.declared.message.Message.{Message}
use Rattle.sc_syntax.specs.declared.left.HeadParts.{HeadParts}
use Rattle.sc_syntax.specs.declared.left.Left.{Left}
use Rattle.sc_syntax.specs.declared.left.Lists.{Lists}
use Rattle.sc_syntax.specs.declared.left.Start.{Start}
use Rattle.sc_syntax.specs.UriParts.{Fault, then_read}
use Rattle.sc_syntax.specs.Lines.{start_line, header_lines}
use Rattle.sc_syntax.specs.StartLines.{start_of}
use Rattle.sc_syntax.specs.Messages.{fault_at_place as placed, nothing_left, all_judged, Peers, peers_of, head_of, message_with, is_method_of, fits, finished_with, message_from_parts as finished, message_in, parts_in, lacking}
use Rattle.sc_syntax.specs.Fronts.{bad_front as bad, body_len, front_after_head as headed, front_of_length as sized}
use Rattle.sc_syntax.proofs.CutLaws.{none_some, some_same}
use Rattle.sc_syntax.proofs.KindLaws.{head_fault}
use Rattle.sc_syntax.proofs.PartLaws.{then_ok}

-- ## The head before the body

abbrev pub with_body : Bytes → Bytes → HeadParts → Result Message Fault
with_body head body parts = placed (length head + 2) (finished parts.start parts.left body)

in_two : (start : Result Start Fault) (left : Result Left Fault) (next : HeadParts → Result Message Fault)
    → then_read start (λ s. then_read left (λ l. next (record { start = s; left = l }))) ≡ then_read (then_read start (λ s. then_read left (λ l. Ok (record { start = s; left = l })))) next
unfolding then_read
in_two (Err fault) left next = refl
in_two (Ok start) (Err fault) next = refl
in_two (Ok start) (Ok left) next = refl

pub message_by_parts : (head body : Bytes) → message_in head body ≡ then_read (parts_in head) (with_body head body)
unfolding message_in parts_in
message_by_parts head body = in_two (placed 0 (start_of (start_line head))) (all_judged (length (start_line head) + 2) nothing_left (header_lines head)) (with_body head body)

pub message_read : (head body : Bytes) (parts : HeadParts) → parts_in head ≡ Ok parts → message_in head body ≡ with_body head body parts
unfolding then_read
message_read head body parts is = message_by_parts head body ∙ ap (λ r. then_read r (with_body head body)) is

pub message_refused : (head body : Bytes) (fault : Fault) → parts_in head ≡ Err fault → message_in head body ≡ Err fault
unfolding then_read
message_refused head body fault is = message_by_parts head body ∙ ap (λ r. then_read r (with_body head body)) is

-- ## What a body can mend

by_tests : (none : Bool) (o : Option Peers) (start : Start) (lists : Lists) (hops len : Option ℕ) (body : Bytes) (kind : ℕ)
    → cond none (Some 7) (option_map_or (λ (peers : Peers). cond (is_method_of start peers.1.1.method) None (Some 10)) o (Some 7)) ≡ Some kind
    → (cond none (Err 7) (option_map_or (finished_with start lists hops len body) o (Err 7)) ≡ Err kind) × ((kind == 12) ≡ false)
unfolding finished_with
by_tests true o start lists hops len body kind h = let same : 7 ≡ kind = some_same 7 kind h in (ap Err same, ap (λ k. k == 12) (sym same))
by_tests false None start lists hops len body kind h = let same : 7 ≡ kind = some_same 7 kind h in (ap Err same, ap (λ k. k == 12) (sym same))
by_tests false (Some peers) start lists hops len body kind h = by_method (is_method_of start peers.1.1.method) h
  where
    by_method : (t : Bool) → cond {A = Option ℕ} t None (Some 10) ≡ Some kind
        → (cond {A = Result Message ℕ} (not t) (Err 10) (cond (not (fits len body)) (Err 12) (Ok (message_with start hops (head_of lists peers body)))) ≡ Err kind) × ((kind == 12) ≡ false)
    by_method true g = absurd (none_some kind g)
    by_method false g = let same : 10 ≡ kind = some_same 10 kind g in (ap Err same, ap (λ k. k == 12) (sym same))

pub lacking_refused : (parts : HeadParts) (kind : ℕ) (body : Bytes) → lacking parts ≡ Some kind → (finished parts.start parts.left body ≡ Err kind) × ((kind == 12) ≡ false)
unfolding lacking finished
lacking_refused parts kind body h =
    by_tests (length parts.left.lists.via == 0) (peers_of parts.left.singles) parts.start parts.left.lists parts.left.singles.hops parts.left.singles.length body kind h

-- nothing, or the length of the body alone
FitsOrNot : Result Message ℕ → Type 0
FitsOrNot (Ok message) = Unit {0}
FitsOrNot (Err kind) = (kind == 12) ≡ true

by_fits : (none : Bool) (o : Option Peers) (start : Start) (lists : Lists) (hops len : Option ℕ) (body : Bytes)
    → cond {A = Option ℕ} none (Some 7) (option_map_or (λ (peers : Peers). cond (is_method_of start peers.1.1.method) None (Some 10)) o (Some 7)) ≡ None
    → FitsOrNot (cond {A = Result Message ℕ} none (Err 7) (option_map_or (finished_with start lists hops len body) o (Err 7)))
unfolding finished_with FitsOrNot
by_fits true o start lists hops len body h = let none : ◌≡◌ {A = Option ℕ} (Some 7) None = h in absurd (none_some 7 (sym none))
by_fits false None start lists hops len body h = let none : ◌≡◌ {A = Option ℕ} (Some 7) None = h in absurd (none_some 7 (sym none))
by_fits false (Some peers) start lists hops len body h = by_method (is_method_of start peers.1.1.method) h
  where
    by_length : (t : Bool) (message : Message) → FitsOrNot (cond {A = Result Message ℕ} (not t) (Err 12) (Ok message))
    by_length true message = tt
    by_length false message = refl

    by_method : (t : Bool) → cond {A = Option ℕ} t None (Some 10) ≡ None
        → FitsOrNot (cond {A = Result Message ℕ} (not t) (Err 10) (cond (not (fits len body)) (Err 12) (Ok (message_with start hops (head_of lists peers body)))))
    by_method true g = by_length (fits len body) (message_with start hops (head_of lists peers body))
    by_method false g = let none : ◌≡◌ {A = Option ℕ} (Some 10) None = g in absurd (none_some 10 (sym none))

lacking_none : (parts : HeadParts) (body : Bytes) → lacking parts ≡ None → FitsOrNot (finished parts.start parts.left body)
unfolding lacking finished
lacking_none parts body h =
    by_fits (length parts.left.lists.via == 0) (peers_of parts.left.singles) parts.start parts.left.lists parts.left.singles.hops parts.left.singles.length body h

-- ## The front

told_len : (left : Result Left Fault) (l : Left) → left ≡ Ok l → option_map_or (λ (l : Left). unwrap_or l.singles.length 0) (result_ok left) 0 ≡ unwrap_or l.singles.length 0
told_len left l is = ap (λ r. option_map_or (λ (l : Left). unwrap_or l.singles.length 0) (result_ok r) 0) is

pub body_len_is : (head : Bytes) (parts : HeadParts) → parts_in head ≡ Ok parts → body_len head ≡ unwrap_or parts.left.singles.length 0
unfolding parts_in body_len
body_len_is head parts h =
    let one = then_ok (placed 0 (start_of (start_line head))) _ parts h in
    let two = then_ok (all_judged (length (start_line head) + 2) nothing_left (header_lines head)) _ parts one.2 in
    let whole : ◌≡◌ {A = Result HeadParts Fault} (Ok (record { start = one.0; left = two.0 })) (Ok parts) = two.2 in
    let same : record { start = one.0; left = two.0 } ≡ parts = cc in
    told_len (all_judged (length (start_line head) + 2) nothing_left (header_lines head)) two.0 two.1 ∙ ap (λ (p : HeadParts). unwrap_or p.left.singles.length 0) same

pub headed_refused : (text head : Bytes) (fault : Fault) → parts_in head ≡ Err fault → headed text head (message_in head []) ≡ bad head fault
unfolding headed
headed_refused text head fault is =
    ap (headed text head) (message_refused head [] fault is) ∙ ap (λ t. cond t (sized text head (length head + 4 + body_len head)) (bad head fault)) (head_fault head fault is)

pub headed_lacking : (text head : Bytes) (parts : HeadParts) (kind : ℕ) → parts_in head ≡ Ok parts → lacking parts ≡ Some kind → headed text head (message_in head []) ≡ bad head (record { at = length head + 2; kind = kind })
unfolding headed placed
headed_lacking text head parts kind is lacks =
    let refused = lacking_refused parts kind [] lacks in
    ap (headed text head) (message_read head [] parts is ∙ ap (placed (length head + 2)) refused.0)
    ∙ ap (λ t. cond t (sized text head (length head + 4 + body_len head)) (bad head (record { at = length head + 2; kind = kind }))) refused.1

placed_front : (text head : Bytes) (read : Result Message ℕ) → FitsOrNot read → headed text head (placed (length head + 2) read) ≡ sized text head (length head + 4 + body_len head)
unfolding headed placed FitsOrNot
placed_front text head (Ok message) h = refl
placed_front text head (Err kind) h = ap (λ t. cond t (sized text head (length head + 4 + body_len head)) (bad head (record { at = length head + 2; kind = kind }))) h

pub headed_read : (text head : Bytes) (parts : HeadParts) → parts_in head ≡ Ok parts → lacking parts ≡ None → headed text head (message_in head []) ≡ sized text head (length head + 4 + unwrap_or parts.left.singles.length 0)
headed_read text head parts is none =
    ap (headed text head) (message_read head [] parts is) ∙ placed_front text head (finished parts.start parts.left []) (lacking_none parts [] none)
    ∙ ap (λ n. sized text head (length head + 4 + n)) (body_len_is head parts is)
