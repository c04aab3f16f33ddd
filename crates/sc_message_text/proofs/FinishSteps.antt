-- A message put together, and its text as a whole.
use Rattle.std.proofs.Common.{◌≡◌, ℕ, Bool, true, false, cond, not, ◌==◌, Ok, Err, Option, Some, None, Result, length, refl, sym, ap, ◌∙◌}
use Rattle.std.specs.Prelude.{is_some, IfOk}
use Rattle.std.specs.Option.{option_map_or}
use Rattle.std.proofs.lemmas.Bool.{false≢true}
use Rattle.sc_value.specs.declared.message.Message.{Message}
use Rattle.sc_syntax.specs.declared.left.Left.{Left}
use Rattle.sc_syntax.specs.declared.left.Lists.{Lists}
use Rattle.sc_syntax.specs.declared.left.Start.{Start}
use Rattle.sc_tokens.specs.Bytes.{Bytes}
use Rattle.sc_syntax.specs.Messages.{Peers, peers_of, head_of, message_with, is_method_of, fits, finished_with, message_from_parts as finished}

by_tests : (m f : Bool) (message : Message) → ◌≡◌ {A = Option ℕ} None (cond (not m) (Some 10) (cond (not f) (Some 12) None)) → ◌≡◌ {A = Result Message ℕ} (cond (not m) (Err 10) (cond (not f) (Err 12) (Ok message))) (Ok message)
by_tests true true message h = refl
by_tests true false message h = absurd (false≢true (ap is_some h))
by_tests false f message h = absurd (false≢true (ap is_some h))

-- neither CSeq nor Content-Length is at fault
pub finished_well : (start : Start) (lists : Lists) (hops len : Option ℕ) (body : Bytes) (peers : Peers)
    → ◌≡◌ {A = Option ℕ} None (cond (not (is_method_of start peers.1.1.method)) (Some 10) (cond (not (fits len body)) (Some 12) None))
    → finished_with start lists hops len body peers ≡ Ok (message_with start hops (head_of lists peers body))
unfolding finished_with
finished_well start lists hops len body peers h = by_tests (is_method_of start peers.1.1.method) (fits len body) (message_with start hops (head_of lists peers body)) h

-- no header is missing
complete : (start : Start) (left : Left) (body : Bytes) (peers : Peers) → (length left.lists.via == 0) ≡ false → peers_of left.singles ≡ Some peers
    → finished start left body ≡ finished_with start left.lists left.singles.hops left.singles.length body peers
unfolding finished
complete start left body peers some is =
    ap (λ t. cond t (Err 7) (option_map_or (finished_with start left.lists left.singles.hops left.singles.length body) (peers_of left.singles) (Err 7))) some
    ∙ ap (λ o. option_map_or (finished_with start left.lists left.singles.hops left.singles.length body) o (Err 7)) is

pub finished_read : {E : Type 0} (result : Result (Result Message ℕ) E) (start : Start) (left : Left) (body : Bytes) (peers : Peers) → (length left.lists.via == 0) ≡ false → Some peers ≡ peers_of left.singles
    → IfOk result (λ read. read ≡ finished_with start left.lists left.singles.hops left.singles.length body peers) → IfOk result (λ read. read ≡ finished start left body)
finished_read (Ok read) start left body peers some is h = h ∙ sym (complete start left body peers some (sym is))
finished_read (Err cause) start left body peers some is h = h

pub finished_made : {E : Type 0} (result : Result (Result Message ℕ) E) (start : Start) (lists : Lists) (hops len : Option ℕ) (bytes body : Bytes) (peers : Peers) → bytes ≡ body
    → ◌≡◌ {A = Option ℕ} None (cond (not (is_method_of start peers.1.1.method)) (Some 10) (cond (not (fits len bytes)) (Some 12) None))
    → IfOk result (λ read. read ≡ Ok (message_with start hops (head_of lists peers body))) → IfOk result (λ read. read ≡ finished_with start lists hops len body peers)
finished_made (Ok read) start lists hops len bytes body peers same none made =
    made
    ∙ sym (finished_well start lists hops len body peers (none ∙ ap (λ b. cond (not (is_method_of start peers.1.1.method)) (Some 10) (cond (not (fits len b)) (Some 12) None)) same))
finished_made (Err cause) start lists hops len bytes body peers same none made = made
