-- What is kept by types is the grammar.
use Rattle.std.proofs.Common.{◌≡◌, ◌+◌, ℕ, zero, suc, true, not, Ok, List, [], ◌∷◌, ◌||◌, ◌<◌, ◌≤◌, ◌^◌, length, take, get_or, sym, ap, subst, ◌∙◌, arith}
use Rattle.sc_tokens.specs.HeaderNames.{is_dialog_name, is_routing_name, is_system_name}
use Rattle.sc_tokens.specs.Tokens.{is_token, is_one_line, is_value}
use Rattle.sc_value.specs.AddressValues.{IsUri, IsAddress}
use Rattle.sc_value.specs.ContactRules.{IsContact}
use Rattle.sc_value.specs.SequenceValues.{IsCSeq}
use Rattle.sc_value.specs.ViaValues.{IsVia}
use Rattle.sc_value.specs.declared.message.Head.{Head}
use Rattle.sc_value.specs.OtherFields.{IsOther, AreOthers}
use Rattle.sc_value.specs.declared.parts.Field.{Field}
use Rattle.sc_value.specs.declared.message.Request.{Request as Asked}
use Rattle.sc_value.specs.declared.message.Response.{Response as Answered}
use Rattle.sc_value.specs.declared.message.Message.{Message}
use Rattle.sc_value.specs.declared.message.Message.TheVariants.{Request, Response}
use Rattle.sc_tokens.specs.Bytes.{Bytes}
use Rattle.sc_grammar.specs.Written.{text_of_message as written}
use Rattle.sc_syntax.specs.Messages.{message_of}
use Rattle.sc_syntax.proofs.ValueLaws.{value_is_line, value_is_trimmed}
use Rattle.sc_spelling.specs.SpelledLines.{IsValue}
use Rattle.sc_spelling.specs.SpelledHeads.{is_other}
use Rattle.sc_spelling.specs.SpelledMessages.{head_in, HasMethod}
use Rattle.sc_spelling.specs.Kept.{AllKeep, IsField, IsHead, IsStart, HasBranch, HasRoom}
use Rattle.sc_spelling.specs.Made.{IsMadeStart, IsMade, HasCode}
use Rattle.sc_spelling.proofs.WrittenLaws.{written_is_read}

-- ## Parts

value_made : (text : Bytes) → is_value text ≡ true → IsValue text
value_made text h = (value_is_line text h, value_is_trimmed text h)

field_made : (field : Field) → IsOther field → IsField field
unfolding is_other is_system_name
field_made field h = (h.name, h.long, ap not (sym (ap (λ n. is_dialog_name n || is_routing_name n) h.long) ∙ h.free), value_made field.value h.value)

others_made : (fields : List Field) → AreOthers fields → AllKeep IsField fields
unfolding AreOthers AllKeep
others_made [] h = tt
others_made (field ∷ fields) h = (field_made field h.0, others_made fields h.1)

-- ## Messages

pub head_made : (head : Head) → AllKeep IsVia head.via → AllKeep IsAddress head.route → AllKeep IsAddress head.record_route → IsAddress head.from → IsAddress head.to → is_value head.call_id ≡ true → IsCSeq head.cseq
    → AllKeep IsContact head.contact → AreOthers head.others → length head.body < 2 ^ 64 → IsHead head
head_made head via route record_route from to call_id cseq contact others body = record {
  via = via;
  route = route;
  record_route = record_route;
  from = from;
  to = to;
  call_id = value_made head.call_id call_id;
  cseq = cseq;
  contact = contact;
  others = others_made head.others others;
  body = body;
}

at_most : (n : ℕ) → n < 256 → n ≤ 255
at_most n h = omega (arith, h)

pub start_made : (message : Message) → IsMadeStart message → HasCode message → IsStart message
unfolding IsMadeStart HasCode IsStart
start_made (Request request) h code = (h.0, h.1, at_most request.hops h.2)
start_made (Response response) h code = (code.0, code.1, h.0)

pub request_made : (message : Message) (request : Asked) → message ≡ Request request → is_token request.method ≡ true → IsUri request.uri → request.hops < 256 → IsHead request.head → IsMade message
unfolding IsMadeStart head_in
request_made message request is method uri hops head = subst (λ (m : Message). IsMade m) (sym is) ((method, uri, hops), head)

pub response_made : (message : Message) (response : Answered) → message ≡ Response response → is_one_line response.reason ≡ true → response.code < 65536 → IsHead response.head → IsMade message
unfolding IsMadeStart head_in
response_made message response is reason code head = subst (λ (m : Message). IsMade m) (sym is) ((reason, code), head)

pub made_again : (message : Message) → IsMade message → HasMethod message → HasCode message → HasBranch message → HasRoom message → message_of (written message) ≡ Ok message
made_again message made method code branch room = written_is_read message (start_made message made.0 code, made.1, method) branch room

-- ## Lists, item by item

pub all_next : {X : Type 0} (Keeps : X → Type 0) (xs : List X) (at : ℕ) (d : X) → at < length xs → AllKeep Keeps (take at xs) → Keeps (get_or xs at d) → AllKeep Keeps (take (at + 1) xs)
unfolding AllKeep
all_next Keeps [] at d below h is = absurd (omega (arith, below))
all_next Keeps (x ∷ xs) zero d below h is = (is, tt)
all_next {X} Keeps (x ∷ xs) (suc at) d below h is =
    let one : suc (at + 1) ≡ suc at + 1 = omega arith in
    subst (λ (n : ℕ). AllKeep Keeps (take n (x ∷ xs))) one (h.0, all_next Keeps xs at d (omega (arith, below)) h.1 is)

pub all_done : {X : Type 0} (Keeps : X → Type 0) (xs : List X) (at : ℕ) → length xs ≤ at → AllKeep Keeps (take at xs) → AllKeep Keeps xs
unfolding AllKeep
all_done Keeps [] at past h = tt
all_done Keeps (x ∷ xs) zero past h = absurd (omega (arith, past))
all_done Keeps (x ∷ xs) (suc at) past h = (h.0, all_done Keeps xs at (omega (arith, past)) h.1)
