-- The written form of a message spells it.
use Rattle.std.proofs.Common.{◌≡◌, ℕ, Option, Some, None, Ok, List, [], ◌∷◌, ◌++◌, ◌<◌, ◌≤◌, ◌+◌, ◌/◌, ◌%◌, length, decimal, refl, ap, subst, ◌∙◌, append_assoc, length-append, arith}
use Rattle.std.specs.Prelude.{codes}
use Rattle.std.proofs.lemmas.Fmt.{decimal_by_steps}
use Rattle.sc_value.specs.declared.parts.Field.{Field}
use Rattle.sc_value.specs.declared.message.Head.{Head}
use Rattle.sc_value.specs.declared.message.Request.{Request as Asked}
use Rattle.sc_value.specs.declared.message.Response.{Response as Answered}
use Rattle.sc_value.specs.declared.message.Message.{Message}
use Rattle.sc_value.specs.declared.message.Message.TheVariants.{Request, Response}
use Rattle.sc_grammar.specs.Written.{crlf, version, uri_text, head_text, request_line, status_line, text_of_message as written}
use Rattle.sc_tokens.specs.Bytes.{Bytes}
use Rattle.sc_syntax.proofs.DecimalLaws.{decimal_is_read}
use Rattle.sc_spelling.specs.SpelledLines.{line_end_before as ended}
use Rattle.sc_spelling.specs.SpelledStarts.{IsCodeSpelled, IsStartSpelled}
use Rattle.sc_spelling.specs.SpelledMessages.{head_in, HasHops, IsSpelledBy, IsSpelled}
use Rattle.sc_spelling.specs.Kept.{IsStart, KeepsGrammar, HasBranch, written_hops, HasRoom}
use Rattle.sc_spelling.proofs.PartTexts.{uri_spelled}
use Rattle.sc_spelling.proofs.WrittenFields.{fields_for, text_of, text_is}
use Rattle.sc_syntax.specs.Messages.{message_of}
use Rattle.sc_spelling.proofs.WholeLaws.{message_is_read}
use Rattle.sc_spelling.proofs.WrittenHeads.{fields_are, fields_spelled}

-- ## Start lines

-- a number of three digits
Digits : ℕ → Bytes → Type 0
Digits n ds = (n < 10 → length ds ≡ 1) × (10 ≤ n → n < 100 → length ds ≡ 2) × (100 ≤ n → n < 1000 → length ds ≡ 3)

one_digit : (n : ℕ) → n < 10 → Digits n ((48 + n) ∷ [])
unfolding Digits
one_digit n h = ((λ _. refl), (λ m _. absurd (omega (arith, m, h))), (λ m _. absurd (omega (arith, m, h))))

more_digits : (n : ℕ) (ds : Bytes) → 10 ≤ n → Digits (n / 10) ds → Digits n (ds ++ (48 + n % 10) ∷ [])
unfolding Digits
more_digits n ds big h =
    let len : length (ds ++ (48 + n % 10) ∷ []) ≡ length ds + 1 = length-append ds ((48 + n % 10) ∷ []) in (
      (λ m. absurd (omega (arith, m, big))),
      (λ m k. (let one = h.0 (omega (arith, k)) in omega (arith, one, len))),
      (λ m k. (let two = h.1 (omega (arith, m)) (omega (arith, k)) in omega (arith, two, len))),
    )

code_spelled : (code : ℕ) → 100 ≤ code → code ≤ 699 → IsCodeSpelled (decimal code) code
unfolding Digits
code_spelled code least most = ((decimal_by_steps Digits one_digit more_digits code (omega (arith, most))).2 least (omega (arith, most)), decimal_is_read code 700 (omega arith) (omega (arith, most)), least)

-- the start line of the written form
unfoldable pub first_line : Message → Bytes
first_line (Request request) = request.method ++ 32 ∷ (uri_text request.uri ++ 32 ∷ codes "SIP/2.0")
first_line (Response response) = codes "SIP/2.0" ++ 32 ∷ (decimal response.code ++ 32 ∷ response.reason)

pub start_spelled : (message : Message) → IsStart message → IsStartSpelled (first_line message) message
unfolding IsStart IsStartSpelled first_line
start_spelled (Request request) h = (h.0, uri_text request.uri, uri_spelled request.uri h.1, refl)
start_spelled (Response response) h = (h.2, decimal response.code, code_spelled response.code h.0 h.1, refl)

regroup : (a b c d e f : Bytes) → (((((a ++ b) ++ c) ++ d) ++ e) ++ f) ≡ (a ++ (b ++ (c ++ (d ++ e)))) ++ f
regroup a b c d e f = simp append_assoc

request_is : (request : Asked) → request_line request ≡ (request.method ++ 32 ∷ (uri_text request.uri ++ 32 ∷ codes "SIP/2.0")) ++ ended []
unfolding request_line version crlf
request_is request = regroup request.method (32 ∷ []) (uri_text request.uri) (32 ∷ []) (codes "SIP/2.0") (ended [])

status_is : (response : Answered) → status_line response ≡ (codes "SIP/2.0" ++ 32 ∷ (decimal response.code ++ 32 ∷ response.reason)) ++ ended []
unfolding status_line version crlf
status_is response = regroup (codes "SIP/2.0") (32 ∷ []) (decimal response.code) (32 ∷ []) response.reason (ended [])

-- ## The whole

abbrev pub fields_of : Message → List Field
fields_of message = fields_for (written_hops message) (head_in message)

with_head : (line start : Bytes) (hops : Option ℕ) (head : Head) → line ≡ start ++ ended [] → line ++ head_text hops head ≡ start ++ ended (text_of (fields_for hops head) ++ ended head.body)
with_head line start hops head is = ap (λ l. l ++ head_text hops head) is ∙ append_assoc start (ended []) (head_text hops head) ∙ ap (λ l. start ++ ended l) (text_is hops head)

pub written_is : (message : Message) → written message ≡ first_line message ++ ended (text_of (fields_of message) ++ ended (head_in message).body)
unfolding written first_line written_hops head_in
written_is (Request request) = with_head (request_line request) (request.method ++ 32 ∷ (uri_text request.uri ++ 32 ∷ codes "SIP/2.0")) (Some request.hops) request.head (request_is request)
written_is (Response response) = with_head (status_line response) (codes "SIP/2.0" ++ 32 ∷ (decimal response.code ++ 32 ∷ response.reason)) None response.head (status_is response)

small_hops : (message : Message) → IsStart message → (n : ℕ) → written_hops message ≡ Some n → n ≤ 255
unfolding IsStart written_hops
small_hops (Request request) h n is = let some : ◌≡◌ {A = Option ℕ} (Some request.hops) (Some n) = is in let same : request.hops ≡ n = cc in subst (λ (k : ℕ). k ≤ 255) same h.2
small_hops (Response response) h n is = let bad : ◌≡◌ {A = Option ℕ} None (Some n) = is in cc

pub hops_kept : (message : Message) → HasHops (written_hops message) message
unfolding HasHops written_hops
hops_kept (Request request) = refl
hops_kept (Response response) = tt

-- the written form of a message that keeps the grammar spells it
pub message_is_spelled : (message : Message) → KeepsGrammar message → HasBranch message → HasRoom message → IsSpelled (written message) message
message_is_spelled message (start, head, method) branch room =
    let small = small_hops message start in
    let by : IsSpelledBy (first_line message) (fields_of message) (head_in message).body message = record {
      hops = written_hops message;
      len = Some (length (head_in message).body);
      begins = start_spelled message start;
      headers = fields_are (written_hops message) (head_in message) head small;
      ends = refl;
      has_hops = hops_kept message;
      has_method = method;
      fits = refl;
      branched = branch;
      room = room;
    } in
    (first_line message, text_of (fields_of message), (head_in message).body, fields_of message, fields_spelled (written_hops message) (head_in message) head small, by, written_is message)

pub written_is_read : (message : Message) → KeepsGrammar message → HasBranch message → HasRoom message → message_of (written message) ≡ Ok message
written_is_read message kept branch room = message_is_read (written message) message (message_is_spelled message kept branch room)
