-- A start line that is read spells the start of a message, and what is finished is a message.
use Rattle.std.proofs.Common.{◌≡◌, ℕ, Bool, true, false, cond, not, Option, Some, None, Result, Ok, Err, ◌∷◌, ◌++◌, ◌==◌, ◌≤◌, length, refl, sym, ap, subst, ◌∙◌, arith}
use Rattle.std.specs.Prelude.{codes, nat_le, unwrap_or}
use Rattle.std.specs.Option.{option_map_or, option_and_then, option_zip}
use Rattle.std.specs.Result.{result_ok}
use Rattle.std.proofs.lemmas.Bool.{false≢true}
use Rattle.std.proofs.lemmas.Bool.Decides.{nat_tests}
use Rattle.sc_tokens.specs.Tokens.{is_token, is_one_line}
use Rattle.sc_value.specs.declared.message.Head.{Head}
use Rattle.sc_value.specs.declared.message.Message.{Message}
use Rattle.sc_syntax.specs.declared.left.Left.{Left}
use Rattle.sc_syntax.specs.declared.left.Start.{Start}
use Rattle.sc_syntax.specs.declared.left.Start.TheVariants.{Request, Status}
use Rattle.sc_tokens.specs.Bytes.{Bytes}
use Rattle.sc_tokens.specs.Numbers.{number_below}
use Rattle.sc_tokens.specs.Cuts.{has, before, after}
use Rattle.sc_syntax.specs.Uris.{uri_of}
use Rattle.sc_syntax.specs.StartLines.{is_version, request_in, request_behind, request_of, at_least_100, code_of, status_in, status_behind, status_of, is_status_line, is_broken, start_of}
use Rattle.sc_syntax.specs.Messages.{Peers, peers_of, head_of, message_with, is_method_of, fits, finished_with, message_from_parts as finished}
use Rattle.sc_syntax.specs.SpelledUris.{behind_sign as led}
use Rattle.sc_syntax.proofs.PartLaws.{led_text}
use Rattle.sc_syntax.proofs.ListedLaws.{if_some, then_some, same_text}
use Rattle.sc_syntax.proofs.ViaLaws.{result_is}
use Rattle.sc_syntax.proofs.UriLaws.{read_is_spelled}
use Rattle.sc_syntax.proofs.ClassLaws.{same_number}
use Rattle.sc_spelling.specs.SpelledStarts.{IsCodeSpelled, IsRequestLine, IsStatusLine, IsStartSpelled}
use Rattle.sc_spelling.specs.SpelledMessages.{head_in, HasMethod, HasHops}

-- ## Answers

unless_ok : {X : Type 0} (t : Bool) (r : Result X ℕ) (kind : ℕ) (x : X) → cond t (Err kind) r ≡ Ok x → (t ≡ false) × (r ≡ Ok x)
unless_ok true r kind x h = let bad : ◌≡◌ {A = Result _ ℕ} (Err kind) (Ok x) = h in cc
unless_ok false r kind x h = (refl, h)

not_false : (t : Bool) → not t ≡ false → t ≡ true
not_false true h = refl
not_false false h = absurd (false≢true (sym h))

map_ok : {X Y : Type 0} (f : Y → Result X ℕ) (o : Option Y) (kind : ℕ) (x : X) → option_map_or f o (Err kind) ≡ Ok x → (y : Y) × (o ≡ Some y) × (f y ≡ Ok x)
map_ok f None kind x h = let bad : ◌≡◌ {A = Result _ ℕ} (Err kind) (Ok x) = h in cc
map_ok f (Some y) kind x h = (y, refl, h)

same_start : (a b : Start) → ◌≡◌ {A = Result Start ℕ} (Ok a) (Ok b) → a ≡ b
same_start a b h = cc

-- the text before a sign, the sign, and the rest
split_at : (sign : ℕ) (text rest : Bytes) → after sign text ≡ Some rest → text ≡ before sign text ++ sign ∷ rest
unfolding led
split_at sign text rest h = sym (led_text sign text) ∙ ap (λ o. before sign text ++ led sign o) h

-- ## Start lines

unfoldable pub IsStartLine : Bytes → Start → Type 0
IsStartLine line (Request method uri) = IsRequestLine line method uri
IsStartLine line (Status code reason) = IsStatusLine line code reason

version_is : (text : Bytes) → is_version text ≡ true → text ≡ codes "SIP/2.0"
unfolding is_version
version_is text h = same_text text (codes "SIP/2.0") h

request_back : (line : Bytes) (start : Start) → request_of line ≡ Ok start → IsStartLine line start
unfolding request_of request_behind request_in IsStartLine
request_back line start h =
    let method = before 32 line in
    let one = map_ok (request_behind method) (after 32 line) 1 start h in
    let rest = one.0 in
    let uri = before 32 rest in
    let two = map_ok (request_in method uri) (after 32 rest) 1 start one.2 in
    let version = two.0 in
    let built = option_map_or (λ target. Ok (Request method target)) (result_ok (uri_of uri)) (Err 4) in
    let three = unless_ok (has 32 version) (cond (not (is_version version)) (Err 2) (cond (not (is_token method)) (Err 3) built)) 1 start two.2 in
    let four = unless_ok (not (is_version version)) (cond (not (is_token method)) (Err 3) built) 2 start three.1 in
    let five = unless_ok (not (is_token method)) built 3 start four.1 in
    let read = map_ok (λ target. Ok (Request method target)) (result_ok (uri_of uri)) 4 start five.1 in
    let whole = split_at 32 line rest one.1 ∙ ap (λ l. method ++ 32 ∷ l) (split_at 32 rest version two.1 ∙ ap (λ v. uri ++ 32 ∷ v) (version_is version (not_false (is_version version) four.0))) in
    let is : IsStartLine line (Request method read.0) = (not_false (is_token method) five.0, uri, read_is_spelled uri read.0 (result_is (uri_of uri) read.0 read.1), whole) in
    subst (IsStartLine line) (same_start (Request method read.0) start read.2) is

least : (n : ℕ) → nat_le 100 n ≡ true → 100 ≤ n
least n h = grind (arith, nat_tests, h)

code_back : (text : Bytes) (code : ℕ) → code_of text ≡ Some code → IsCodeSpelled text code
unfolding code_of at_least_100
code_back text code h =
    let three = if_some (length text == 3) (option_and_then at_least_100 (number_below 700 text)) code h in
    let number = then_some at_least_100 (number_below 700 text) code three.1 in
    let at_least = if_some (nat_le 100 number.0) (Some number.0) code number.2 in
    let same : number.0 ≡ code = (let some : ◌≡◌ {A = Option ℕ} (Some number.0) (Some code) = at_least.1 in cc) in
    (same_number (length text) 3 three.0, number.1 ∙ ap Some same, least code (ap (nat_le 100) (sym same) ∙ at_least.0))

status_back : (line : Bytes) (start : Start) → status_of line ≡ Ok start → IsStartLine line start
unfolding status_of status_behind status_in IsStartLine
status_back line start h =
    let version = before 32 line in
    let one = map_ok (status_behind version) (after 32 line) 1 start h in
    let rest = one.0 in
    let digits = before 32 rest in
    let two = map_ok (status_in version digits) (after 32 rest) 1 start one.2 in
    let reason = two.0 in
    let built = option_map_or (λ number. Ok (Status number reason)) (code_of digits) (Err 5) in
    let three = unless_ok (not (is_one_line reason)) (cond (not (is_version version)) (Err 2) built) 1 start two.2 in
    let four = unless_ok (not (is_version version)) built 2 start three.1 in
    let read = map_ok (λ number. Ok (Status number reason)) (code_of digits) 5 start four.1 in
    let whole = split_at 32 line rest one.1 ∙ ap (λ l. version ++ 32 ∷ l) (split_at 32 rest reason two.1) ∙ ap (λ v. v ++ 32 ∷ (digits ++ 32 ∷ reason)) (version_is version (not_false (is_version version) four.0)) in
    let is : IsStartLine line (Status read.0 reason) = (not_false (is_one_line reason) three.0, digits, code_back digits read.0 read.1, whole) in
    subst (IsStartLine line) (same_start (Status read.0 reason) start read.2) is

pub start_back : (line : Bytes) (start : Start) → start_of line ≡ Ok start → IsStartLine line start
unfolding start_of
start_back line start h =
    let one = unless_ok (is_broken line) (cond (is_status_line line) (status_of line) (request_of line)) 1 start h in
    elim (is_status_line line) as (λ (t : Bool). cond t (status_of line) (request_of line) ≡ Ok start → IsStartLine line start) [
      | true ↦ λ e. status_back line start e
      | false ↦ λ e. request_back line start e
    ] one.1

-- ## What is finished

zip_some : {X Y : Type 0} (o : Option X) (p : Option Y) (z : X × Y) → option_zip o p ≡ Some z → (o ≡ Some z.0) × (p ≡ Some z.1)
zip_some None p z h = let bad : ◌≡◌ {A = Option _} None (Some z) = h in cc
zip_some (Some x) None z h = let bad : ◌≡◌ {A = Option _} None (Some z) = h in cc
zip_some (Some x) (Some y) z h = let some : (x, y) ≡ z = ap (λ o. unwrap_or o z) h in (ap (λ w. Some w.0) some, ap (λ w. Some w.1) some)

-- the message is that of its parts
pub record Finished (start : Start) (left : Left) (body : Bytes) (message : Message) : Type 0 where
  pub peers : Peers
  pub from : left.singles.from ≡ Some peers.0.0
  pub to : left.singles.to ≡ Some peers.0.1
  pub call_id : left.singles.call_id ≡ Some peers.1.0
  pub cseq : left.singles.cseq ≡ Some peers.1.1
  pub some : (length left.lists.via == 0) ≡ false
  pub method : is_method_of start peers.1.1.method ≡ true
  pub long : fits left.singles.length body ≡ true
  pub is : message_with start left.singles.hops (head_of left.lists peers body) ≡ message

pub finished_back : (start : Start) (left : Left) (body : Bytes) (message : Message) → finished start left body ≡ Ok message → Finished start left body message
unfolding finished finished_with peers_of
finished_back start left body message h =
    let singles = left.singles in
    let with_peers = finished_with start left.lists singles.hops singles.length body in
    let one = unless_ok (length left.lists.via == 0) (option_map_or with_peers (option_zip (option_zip singles.from singles.to) (option_zip singles.call_id singles.cseq)) (Err 7)) 7 message h in
    let two = map_ok with_peers (option_zip (option_zip singles.from singles.to) (option_zip singles.call_id singles.cseq)) 7 message one.1 in
    let peers = two.0 in
    let pairs = zip_some (option_zip singles.from singles.to) (option_zip singles.call_id singles.cseq) peers two.1 in
    let first = zip_some singles.from singles.to peers.0 pairs.0 in
    let second = zip_some singles.call_id singles.cseq peers.1 pairs.1 in
    let built = message_with start singles.hops (head_of left.lists peers body) in
    let three = unless_ok (not (is_method_of start peers.1.1.method)) (cond (not (fits singles.length body)) (Err 12) (Ok built)) 10 message two.2 in
    let four = unless_ok (not (fits singles.length body)) (Ok built) 12 message three.1 in
    let same : ◌≡◌ {A = Result Message ℕ} (Ok built) (Ok message) = four.1 in
    record {
      peers = peers;
      from = first.0;
      to = first.1;
      call_id = second.0;
      cseq = second.1;
      some = one.0;
      method = not_false (is_method_of start peers.1.1.method) three.0;
      long = not_false (fits singles.length body) four.0;
      is = cc;
    }

-- what the start line makes of a head is a message with that start
pub made_start : (line : Bytes) (start : Start) (hops : Option ℕ) (head : Head) → IsStartLine line start → IsStartSpelled line (message_with start hops head)
unfolding IsStartLine IsStartSpelled message_with
made_start line (Request method uri) hops head h = h
made_start line (Status code reason) hops head h = h

pub made_head : (start : Start) (hops : Option ℕ) (head : Head) → head_in (message_with start hops head) ≡ head
unfolding head_in message_with
made_head (Request method uri) hops head = refl
made_head (Status code reason) hops head = refl

pub made_hops : (start : Start) (hops : Option ℕ) (head : Head) → HasHops hops (message_with start hops head)
unfolding HasHops message_with
made_hops (Request method uri) hops head = refl
made_hops (Status code reason) hops head = tt

pub made_method : (start : Start) (hops : Option ℕ) (head : Head) → is_method_of start head.cseq.method ≡ true → HasMethod (message_with start hops head)
unfolding HasMethod is_method_of message_with
made_method (Request method uri) hops head h = same_text method head.cseq.method h
made_method (Status code reason) hops head h = tt
