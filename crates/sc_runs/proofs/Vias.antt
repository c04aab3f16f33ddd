-- A message that a stream begins with has a Via.
use Rattle.std.proofs.Common.{◌≡◌, ℕ, ◌+◌, ◌<◌, Bool, true, false, Option, None, Some, [], length, refl, ap, ◌∙◌, subst, arith, if◌then◌else◌}
use Rattle.std.specs.Prelude.{Result, Ok, Err, take, nat_le, ◌==◌}
use Rattle.std.specs.Option.{option_map_or}
use Rattle.sc_value.specs.declared.message.Message.{Message}
use Rattle.sc_syntax.specs.declared.front.Front.TheVariants.{Open, Whole, Long}
use Rattle.sc_syntax.specs.declared.ending.Ending.TheVariants.{Empty}
use Rattle.sc_syntax.specs.declared.left.Left.{Left}
use Rattle.sc_syntax.specs.declared.left.Lists.{Lists}
use Rattle.sc_syntax.specs.declared.left.Start.{Start}
use Rattle.sc_syntax.specs.declared.left.Start.TheVariants.{Request, Status}
use Rattle.sc_tokens.specs.Bytes.{Bytes}
use Rattle.sc_syntax.specs.UriParts.{Fault, then_read}
use Rattle.sc_syntax.specs.Lines.{end_of, start_line, header_lines}
use Rattle.sc_syntax.specs.StartLines.{start_of}
use Rattle.sc_syntax.specs.Fronts.{bad_front as bad, front_of, front_after_head as headed, front_of_length as sized, whole}
use Rattle.sc_syntax.specs.Messages.{Peers, all_judged, message_from_parts as finished, finished_with, fits, head_of, is_method_of, message_in, message_with, nothing_left, peers_of, fault_at_place as placed}
use Rattle.std.proofs.lemmas.Bool.Decides.{nat_tests}
use Rattle.sc_stream.specs.Frames.{front_behind}
use Rattle.sc_hosts.specs.Runs.{HasVia}

Ok-inj : {A E : Type 0} (a b : A) → ◌≡◌ {A = Result A E} (Ok a) (Ok b) → a ≡ b
Ok-inj a b e = cc

via-with : (start : Start) (hops : Option ℕ) (lists : Lists) (peers : Peers) (body : Bytes) → 0 < length lists.via → HasVia (message_with start hops (head_of lists peers body))
unfolding message_with head_of HasVia
via-with (Request method uri) hops lists peers body some = some
via-with (Status code reason) hops lists peers body some = some

via-if : (start : Start) (lists : Lists) (hops len : Option ℕ) (body : Bytes) (peers : Peers) (message : Message) (method fit : Bool) → is_method_of start peers.1.1.method ≡ method → fits len body ≡ fit → 0 < length lists.via
    → finished_with start lists hops len body peers ≡ Ok message → HasVia message
unfolding finished_with
via-if start lists hops len body peers message false fit m f some e = let x = rw m at e in cc
via-if start lists hops len body peers message true false m f some e = let x = rw (m, f) at e in cc
via-if start lists hops len body peers message true true m f some e = subst HasVia (Ok-inj _ message (rw (m, f) at e)) (via-with start hops lists peers body some)

via-peers : (start : Start) (left : Left) (body : Bytes) (message : Message) (o : Option Peers) → peers_of left.singles ≡ o → 0 < length left.lists.via
    → option_map_or (finished_with start left.lists left.singles.hops left.singles.length body) o (Err 7) ≡ Ok message → HasVia message
via-peers start left body message None o some e = cc
via-peers start left body message (Some peers) o some e = via-if start left.lists left.singles.hops left.singles.length body peers message _ _ refl refl some e

some-of : (n : ℕ) → (n == 0) ≡ false → 0 < n
some-of n e = grind (arith, nat_tests)

via-finished : (start : Start) (left : Left) (body : Bytes) (message : Message) (b : Bool) → (length left.lists.via == 0) ≡ b → finished start left body ≡ Ok message → HasVia message
unfolding finished
via-finished start left body message true none e = let x = rw none at e in cc
via-finished start left body message false some e = via-peers start left body message (peers_of left.singles) refl (some-of _ some) (rw some at e)

via-placed : (at : ℕ) (start : Start) (left : Left) (body : Bytes) (message : Message) (r : Result Message ℕ) → finished start left body ≡ r → placed at r ≡ Ok message → HasVia message
unfolding placed
via-placed at start left body message (Ok m) r e = via-finished start left body message _ refl (r ∙ ap Ok (Ok-inj m message e))
via-placed at start left body message (Err kind) r e = cc

via-left : (at : ℕ) (start : Start) (body : Bytes) (message : Message) (r : Result Left Fault) → then_read r (λ left. placed at (finished start left body)) ≡ Ok message → HasVia message
unfolding then_read
via-left at start body message (Ok left) e = via-placed at start left body message (finished start left body) refl e
via-left at start body message (Err fault) e = cc

via-start : (at : ℕ) (head body : Bytes) (message : Message) (r : Result Start Fault)
    → then_read r (λ start. then_read (all_judged (length (start_line head) + 2) nothing_left (header_lines head)) (λ left. placed at (finished start left body))) ≡ Ok message → HasVia message
unfolding then_read
via-start at head body message (Ok start) e = via-left at start body message (all_judged (length (start_line head) + 2) nothing_left (header_lines head)) e
via-start at head body message (Err fault) e = cc

via-message : (head body : Bytes) (message : Message) → message_in head body ≡ Ok message → HasVia message
unfolding message_in
via-message head body message e = via-start (length head + 2) head body message (placed 0 (start_of (start_line head))) e

via-whole : (head body : Bytes) (len size : ℕ) (message : Message) (r : Result Message Fault) → message_in head body ≡ r → whole head len r ≡ Whole size message → HasVia message
unfolding whole bad
via-whole head body len size message (Ok m) r e = via-message head body message (r ∙ ap Ok (cc))
via-whole head body len size message (Err fault) r e = cc

via-sized : (text head : Bytes) (len size : ℕ) (message : Message) (fits there : Bool) → nat_le len 65535 ≡ fits → nat_le len (length text) ≡ there → sized text head len ≡ Whole size message → HasVia message
unfolding sized
via-sized text head len size message false there f t e = let x = rw f at e in cc
via-sized text head len size message true false f t e = let x = rw (f, t) at e in cc
via-sized text head len size message true true f t e = via-whole head _ len size message _ refl (rw (f, t) at e)

via-fault : (text head : Bytes) (fault : Fault) (size : ℕ) (message : Message) (b : Bool) → (fault.kind == 12) ≡ b → headed text head (Err fault) ≡ Whole size message → HasVia message
unfolding headed bad
via-fault text head fault size message true k e = via-sized text head _ size message _ _ refl refl (rw k at e)
via-fault text head fault size message false k e = let x = rw k at e in cc

via-headed : (text head : Bytes) (size : ℕ) (message : Message) (r : Result Message Fault) → headed text head r ≡ Whole size message → HasVia message
unfolding headed
via-headed text head size message (Ok m) e = via-sized text head _ size message _ _ refl refl e
via-headed text head size message (Err fault) e = via-fault text head fault size message _ refl e

via-open : (b : Bool) (size : ℕ) (message : Message) → (if b then Open else Long) ≡ Whole size message → HasVia message
via-open true size message e = cc
via-open false size message e = cc

via-end : (text : Bytes) (size : ℕ) (message : Message) (o : Option ℕ) → option_map_or (λ end. headed text (take end text) (message_in (take end text) [])) o (if nat_le (length text) 65535 then Open else Long) ≡ Whole size message → HasVia message
via-end text size message None e = via-open (nat_le (length text) 65535) size message e
via-end text size message (Some end) e = via-headed text (take end text) size message (message_in (take end text) []) e

pub heard_via : (bytes : Bytes) (size : ℕ) (message : Message) → front_behind bytes ≡ Whole size message → HasVia message
unfolding front_of
heard_via bytes size message e = via-end _ size message (end_of Empty (take 65535 _)) e
