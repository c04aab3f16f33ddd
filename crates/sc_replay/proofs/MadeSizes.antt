-- The messages of a script of calls are short.
use Rattle.std.proofs.Common.{◌≡◌, ◌≤◌, ◌+◌, ◌*◌, ◌-◌, ℕ, zero, suc, List, [], ◌∷◌, Some, None, codes, decimal, length, refl, ap, ◌∙◌, arith, append-nil}
use Rattle.std.specs.List.{flat_map, range_with_len}
use Rattle.std.specs.Fmt.{digits}
use Rattle.std.proofs.lemmas.Fmt.{length-decimal-le}
use Rattle.std.proofs.lemmas.List.{length-append}
use Rattle.std.proofs.lemmas.List.Concat.{flat_map-cons}
use Rattle.sc_value.specs.declared.parts.Address.{Address}
use Rattle.sc_value.specs.declared.parts.Contact.{Contact}
use Rattle.sc_value.specs.declared.parts.Uri.{Uri}
use Rattle.sc_value.specs.declared.message.Request.{Request}
use Rattle.sc_value.specs.declared.message.Message.TheVariants as messages
use Rattle.sc_value.specs.Params.{tag_name, branch_name}
use Rattle.sc_tokens.specs.HeaderNames.{via_name, route_name, max_forwards_name, from_name, to_name, call_id_name, cseq_name, contact_name, content_length_name}
use Rattle.sc_tokens.specs.Bytes.{Bytes}
use Rattle.sc_grammar.specs.Written.{crlf, version, signed_text, param_text, params_text, ended_text, port_text, scheme, sip_uri_text, uri_text, address_text, contact_text, via_text, cseq_text, line, via_line, route_line, contact_line, hops_line, routing_lines, dialog_lines, closing_lines, head_text, request_line, text_of_message as written}
use Rattle.sc_model.specs.SessionStates.{ack, bye, invite}
use Rattle.sc_model.specs.Names.{loose_param, tcp_param}
use Rattle.sc_model.specs.Generated.{in_word, home, local, caller, called_user as called, name_and_value as valued, session_text, user_uri, session_param, session_uri, mark, answer_tag, cookie, branch_of, call_of, via_of, from_side, to_side, answered_side, caller_contact, route_of, head_of, invite_of, later_of, ack_of, bye_of, run_line, end_line, tick_word, tick_line, arriving_text, arrives, call_text, generated_text as generated}

few_digits : (i : ℕ) → i ≤ 1000 → length (decimal i) ≤ 4
few_digits i few = length-decimal-le 4 i (omega arith) (omega (arith, few)) (omega (arith, few))

-- ## Parts

via_short : (i : ℕ) (letter : Bytes) → i ≤ 1000 → length letter ≤ 1 → length (via_text (via_of i letter)) ≤ 60
unfolding digits version port_text signed_text param_text params_text via_text local valued branch_name cookie branch_of via_of
via_short i letter few short = let d = few_digits i few in grind (arith, d, short, length-append)

session_short : (host i : ℕ) → host ≤ 1 → i ≤ 1000 → length (uri_text (session_uri host i)) ≤ 60
unfolding digits scheme ended_text port_text signed_text param_text params_text sip_uri_text uri_text local valued tcp_param loose_param session_text session_param session_uri
session_short host i low few =
    let d = few_digits i few in
    let h = few_digits host (omega (arith, low)) in
    grind (arith, d, h, length-append)

route_short : (i : ℕ) → i ≤ 1000 → length (address_text (route_of i)) ≤ 62
unfolding ended_text params_text address_text route_of
route_short i few = let u = session_short 0 i (omega arith) few in grind (arith, u, length-append)

answered_short : (i : ℕ) → i ≤ 1000 → length (address_text (answered_side i)) ≤ 50
unfolding scheme ended_text port_text signed_text param_text params_text sip_uri_text uri_text address_text home called valued user_uri tag_name mark answer_tag answered_side
answered_short i few = let d = few_digits i few in grind (arith, d, length-append)

to_short : length (address_text to_side) ≤ 50
unfolding scheme ended_text port_text signed_text param_text params_text sip_uri_text uri_text address_text home called user_uri to_side
to_short = omega arith

from_short : length (address_text from_side) ≤ 50
unfolding scheme ended_text port_text signed_text param_text params_text sip_uri_text uri_text address_text home caller valued user_uri tag_name from_side
from_short = omega arith

contact_short : length (contact_text caller_contact) ≤ 50
unfolding digits scheme ended_text port_text signed_text param_text params_text sip_uri_text uri_text address_text contact_text local caller user_uri caller_contact
contact_short = omega arith

call_short : (i : ℕ) → i ≤ 1000 → length (call_of i) ≤ 5
unfolding caller call_of
call_short i few = let d = few_digits i few in grind (arith, d, length-append)

sequence_short : (number : ℕ) (method : Bytes) → number ≤ 2 → length method ≤ 6 → length (cseq_text (record { number = number; method = method })) ≤ 11
unfolding cseq_text
sequence_short number method low short = let d = few_digits number (omega (arith, low)) in grind (arith, d, short, length-append)

-- ## Messages

-- a line, of its name and its value
line_short : (name value : Bytes) → length (line name value) ≤ length name + length value + 4
unfolding line crlf
line_short name value = grind (arith, length-append)

one_line : {A : Type 0} (f : A → Bytes) (a : A) (most : ℕ) → length (f a) ≤ most → length (flat_map f (a ∷ [])) ≤ most
one_line f a most short = let same = flat_map-cons f a [] ∙ append-nil (f a) in rw same short

dialog_short : (i number : ℕ) (letter method : Bytes) (to : Address) (route : List Address) (contact : List Contact) → i ≤ 1000 → number ≤ 2 → length method ≤ 6 → length (address_text to) ≤ 50
    → length (dialog_lines (head_of i letter method number to route contact)) ≤ 200
unfolding dialog_lines head_of from_name to_name call_id_name cseq_name
dialog_short i number letter method to route contact few low short to_is =
    let a = line_short (codes "From") (address_text from_side) in
    let b = line_short (codes "To") (address_text to) in
    let c = line_short (codes "Call-ID") (call_of i) in
    let d = line_short (codes "CSeq") (cseq_text (record { number = number; method = method })) in
    let ca = call_short i few in
    let se = sequence_short number method low short in
    grind (arith, a, b, c, d, from_short, to_is, ca, se, length-append)

routing_short : (i number : ℕ) (letter method : Bytes) (to : Address) (route : List Address) (contact : List Contact) → i ≤ 1000 → length letter ≤ 1 → length (flat_map route_line route) ≤ 100
    → length (routing_lines (head_of i letter method number to route contact)) ≤ 200
unfolding routing_lines via_line head_of via_name
routing_short i number letter method to route contact few short routes =
    let a = line_short (codes "Via") (via_text (via_of i letter)) in
    let v = via_short i letter few short in
    grind (arith, a, v, routes, length-append, flat_map-cons)

closing_short : (i number : ℕ) (letter method : Bytes) (to : Address) (route : List Address) (contact : List Contact) → length (flat_map contact_line contact) ≤ 100
    → length (closing_lines (head_of i letter method number to route contact)) ≤ 200
unfolding digits closing_lines head_of content_length_name
closing_short i number letter method to route contact contacts =
    let a = line_short (codes "Content-Length") (codes "0") in
    grind (arith, a, contacts, length-append)

hops_short : length (hops_line (Some 70)) ≤ 20
unfolding digits crlf line hops_line max_forwards_name
hops_short = omega arith

no_body : (i number : ℕ) (letter method : Bytes) (to : Address) (route : List Address) (contact : List Contact) → (head_of i letter method number to route contact).body ≡ []
unfolding head_of
no_body i number letter method to route contact = refl

head_short : (i number : ℕ) (letter method : Bytes) (to : Address) (route : List Address) (contact : List Contact) → i ≤ 1000 → number ≤ 2 → length letter ≤ 1 → length method ≤ 6 → length (address_text to) ≤ 50
    → length (flat_map route_line route) ≤ 100 → length (flat_map contact_line contact) ≤ 100 → length (head_text (Some 70) (head_of i letter method number to route contact)) ≤ 630
unfolding crlf head_text
head_short i number letter method to route contact few low short brief to_is routes contacts =
    let a = routing_short i number letter method to route contact few short routes in
    let b = dialog_short i number letter method to route contact few low brief to_is in
    let c = closing_short i number letter method to route contact contacts in
    let d = hops_short in
    let e = ap length (no_body i number letter method to route contact) in
    grind (arith, a, b, c, d, e, length-append)

-- ## Requests

request_short : (method : Bytes) (uri : Uri) → length method ≤ 6 → length (uri_text uri) ≤ 60 → (request : Request) → request.method ≡ method → request.uri ≡ uri → length (request_line request) ≤ 80
unfolding crlf version request_line
request_short method uri short brief request method_is uri_is =
    let a = ap length method_is in
    let b = ap (λ (u : Uri). length (uri_text u)) uri_is in
    grind (arith, a, b, short, brief, length-append)

user_short : length (uri_text (user_uri called home None)) ≤ 60
unfolding scheme ended_text port_text signed_text params_text sip_uri_text uri_text home called user_uri
user_short = omega arith

contacts_short : length (flat_map contact_line (caller_contact ∷ [])) ≤ 100
unfolding contact_line contact_name
contacts_short =
    let a = line_short (codes "Contact") (contact_text caller_contact) in
    let short : length (line (codes "Contact") (contact_text caller_contact)) ≤ 100 = omega (arith, a, contact_short) in
    one_line contact_line caller_contact 100 short

routes_short : (i : ℕ) → i ≤ 1000 → length (flat_map route_line (route_of i ∷ [])) ≤ 100
unfolding route_line route_name
routes_short i few =
    let a = line_short (codes "Route") (address_text (route_of i)) in
    let short : length (line (codes "Route") (address_text (route_of i))) ≤ 100 = omega (arith, a, route_short i few) in
    one_line route_line (route_of i) 100 short

-- a message has bytes, and not many
pub record IsShort (text : Bytes) : Type 0 where
  pub some : 1 ≤ length text
  pub few : length text ≤ 1000

invite_bytes : (i : ℕ) → i ≤ 1000 → length (written (messages.Request (invite_of i))) ≤ 1000
unfolding invite invite_of written
invite_bytes i few =
    let a = request_short (codes "INVITE") (user_uri called home None) (omega arith) user_short (invite_of i) refl refl in
    let b = head_short i 1 [] (codes "INVITE") to_side [] (caller_contact ∷ []) few (omega arith) (omega arith) (omega arith) to_short (omega arith) contacts_short in
    grind (arith, a, b, length-append)

later_bytes : (i number : ℕ) (letter method : Bytes) → i ≤ 1000 → number ≤ 2 → length letter ≤ 1 → length method ≤ 6 → length (written (messages.Request (later_of i letter method number))) ≤ 1000
unfolding later_of written
later_bytes i number letter method few low short brief =
    let a = request_short method (session_uri 1 i) brief (session_short 1 i (omega arith) few) (later_of i letter method number) refl refl in
    let b = head_short i number letter method (answered_side i) (route_of i ∷ []) [] few low short brief (answered_short i few) (routes_short i few) (omega arith) in
    grind (arith, a, b, length-append)

some_bytes : (request : Request) → 1 ≤ length request.method → 1 ≤ length (written (messages.Request request))
unfolding request_line written
some_bytes request some = grind (arith, some, length-append)

pub invite_short : (i : ℕ) → i ≤ 1000 → IsShort (written (messages.Request (invite_of i)))
unfolding invite invite_of
invite_short i few = record { some = some_bytes (invite_of i) (omega arith); few = invite_bytes i few }

pub ack_short : (i : ℕ) → i ≤ 1000 → IsShort (written (messages.Request (ack_of i)))
unfolding ack ack_of later_of
ack_short i few = record { some = some_bytes (ack_of i) (omega arith); few = later_bytes i 1 (codes "a") (codes "ACK") few (omega arith) (omega arith) (omega arith) }

pub bye_short : (i : ℕ) → i ≤ 1000 → IsShort (written (messages.Request (bye_of i)))
unfolding bye bye_of later_of
bye_short i few = record { some = some_bytes (bye_of i) (omega arith); few = later_bytes i 2 (codes "b") (codes "BYE") few (omega arith) (omega arith) (omega arith) }

-- ## Scripts

arrives_short : (request : Request) → IsShort (written (messages.Request request)) → length (arrives request) ≤ 1020
unfolding in_word run_line arriving_text arrives
arrives_short request short =
    let d = length-decimal-le 4 (length (written (messages.Request request))) (omega arith) (omega (arith, short.few)) (omega (arith, short.few)) in
    grind (arith, d, short.few, length-append)

tick_short : (now : ℕ) → now ≤ 2000000 → length (tick_line now) ≤ 13
unfolding tick_word tick_line
tick_short now few = let d = length-decimal-le 7 now (omega arith) (omega (arith, few)) (omega (arith, few)) in grind (arith, d, length-append)

call_bytes : (i : ℕ) → i ≤ 1000 → length (call_text i) ≤ 4000
unfolding run_line call_text
call_bytes i few =
    let a = arrives_short (invite_of i) (invite_short i few) in
    let b = arrives_short (ack_of i) (ack_short i few) in
    let c = arrives_short (bye_of i) (bye_short i few) in
    let d = tick_short (2000 * i - 1000) (omega (arith, few)) in
    let e = tick_short (2000 * i) (omega (arith, few)) in
    grind (arith, a, b, c, d, e, length-append)

calls_bytes : (k a : ℕ) → a + k ≤ 1001 → length (flat_map call_text (range_with_len a k)) ≤ 4000 * k
calls_bytes zero a few = omega arith
calls_bytes (suc k) a few =
    let one = call_bytes a (omega (arith, few)) in
    let more = calls_bytes k (a + 1) (omega (arith, few)) in
    let same = ap length (flat_map-cons call_text a (range_with_len (a + 1) k)) in
    let both = length-append (call_text a) (flat_map call_text (range_with_len (a + 1) k)) in
    omega (arith, one, more, same, both)

pub script_short : (n : ℕ) → n ≤ 1000 → length (generated n) ≤ 67108864
unfolding end_line generated
script_short n few =
    let calls = calls_bytes n 1 (omega (arith, few)) in
    let both = length-append (flat_map call_text (range_with_len 1 n)) (codes "end\n") in
    omega (arith, calls, both, few)
