-- The length of each written part of a message as a sum.
use Rattle.std.proofs.Common.{◌≡◌, ℕ, ◌+◌, ◌/◌, ◌%◌, ◌<◌, ◌≤◌, ◌^◌, [], ◌∷◌, ◌++◌, Option, Some, None, length, decimal, refl, ap, ◌∙◌, arith, length-append}
use Rattle.std.specs.Prelude.{codes}
use Rattle.std.specs.List.{flat_map}
use Rattle.std.proofs.lemmas.Fmt.{decimal_step, decimal_digit, length-decimal-le}
use Rattle.sc_tokens.specs.HeaderNames.{via_name, route_name, record_route_name, max_forwards_name, from_name, to_name, call_id_name, cseq_name, contact_name, content_length_name}
use Rattle.sc_value.specs.declared.parts.Param.{Param}
use Rattle.sc_value.specs.declared.parts.SipUri.{SipUri}
use Rattle.sc_value.specs.declared.parts.Address.{Address}
use Rattle.sc_value.specs.declared.parts.Contact.{Contact}
use Rattle.sc_value.specs.declared.parts.Via.{Via}
use Rattle.sc_value.specs.declared.parts.CSeq.{CSeq}
use Rattle.sc_value.specs.declared.parts.Field.{Field}
use Rattle.sc_value.specs.declared.message.Head.{Head}
use Rattle.sc_value.specs.declared.message.Request.{Request}
use Rattle.sc_value.specs.declared.message.Response.{Response}
use Rattle.sc_tokens.specs.Bytes.{Bytes}
use Rattle.sc_grammar.specs.Written.{crlf, version, signed_text, param_text, params_text, ended_text, port_text, scheme, sip_uri_text, uri_text, address_text, contact_text, via_text, cseq_text, line, via_line, route_line, record_route_line, contact_line, field_line, hops_line, routing_lines, dialog_lines, closing_lines, head_text, request_line, status_line}
use Rattle.sc_switch.specs.Lengths.{marked_length}

-- ## Texts one after the other

pub two : (a b : Bytes) → length (a ++ b) ≡ length a + length b
two a b = length-append a b

three : (a b c : Bytes) → length (a ++ b ++ c) ≡ length a + length b + length c
three a b c = two (a ++ b) c ∙ ap (λ n. n + length c) (two a b)

four : (a b c d : Bytes) → length (a ++ b ++ c ++ d) ≡ length a + length b + length c + length d
four a b c d = two (a ++ b ++ c) d ∙ ap (λ n. n + length d) (three a b c)

five : (a b c d e : Bytes) → length (a ++ b ++ c ++ d ++ e) ≡ length a + length b + length c + length d + length e
five a b c d e = two (a ++ b ++ c ++ d) e ∙ ap (λ n. n + length e) (four a b c d)

six : (a b c d e f : Bytes) → length (a ++ b ++ c ++ d ++ e ++ f) ≡ length a + length b + length c + length d + length e + length f
six a b c d e f = two (a ++ b ++ c ++ d ++ e) f ∙ ap (λ n. n + length f) (five a b c d e)

-- ## Decimals

pub digits_more : (n : ℕ) → 10 ≤ n → n < 2 ^ 64 → length (decimal n) ≡ length (decimal (n / 10)) + 1
digits_more n many small = ap (λ (text : Bytes). length text) (decimal_step n many small) ∙ two (decimal (n / 10)) ((48 + n % 10) ∷ [])

pub digits_one : (n : ℕ) → n < 10 → length (decimal n) ≡ 1
digits_one n small = ap (λ (text : Bytes). length text) (decimal_digit n small)

pub digits_few : (n : ℕ) → n < 2 ^ 64 → length (decimal n) ≤ 20
digits_few n small = length-decimal-le 20 n (omega arith) (omega arith) small

-- ## URIs and addresses

signed_length : (sign : ℕ) (text : Option Bytes) → length (signed_text sign text) ≡ marked_length text
unfolding signed_text marked_length
signed_length sign None = refl
signed_length sign (Some text) = omega arith

ended_length : (text : Option Bytes) (sign : ℕ) → length (ended_text text sign) ≡ marked_length text
unfolding ended_text marked_length
ended_length None sign = refl
ended_length (Some text) sign = two text (sign ∷ [])

pub param_length : (param : Param) → length (param_text param) ≡ length param.name + marked_length param.value + 1
unfolding param_text
param_length param = omega (arith, two param.name (signed_text 61 param.value), signed_length 61 param.value)

sip_uri_parts : (uri : SipUri) → length (sip_uri_text uri) ≡ 4 + length (ended_text uri.user 64) + length uri.host + length (port_text uri.port) + length (params_text uri.params) + length (signed_text 63 uri.headers)
unfolding sip_uri_text scheme
sip_uri_parts uri = six scheme (ended_text uri.user 64) uri.host (port_text uri.port) (params_text uri.params) (signed_text 63 uri.headers)

pub sip_uri_length : (uri : SipUri) → length (sip_uri_text uri) ≡ marked_length uri.user + length uri.host + length (port_text uri.port) + length (params_text uri.params) + marked_length uri.headers + 4
sip_uri_length uri = omega (arith, sip_uri_parts uri, ended_length uri.user 64, signed_length 63 uri.headers)

address_parts : (address : Address) → length (address_text address) ≡ length (ended_text address.display 32) + 1 + length (uri_text address.uri) + 1 + length (params_text address.params)
unfolding address_text
address_parts address = five (ended_text address.display 32) (codes "<") (uri_text address.uri) (codes ">") (params_text address.params)

pub address_length : (address : Address) → length (address_text address) ≡ marked_length address.display + length (uri_text address.uri) + length (params_text address.params) + 2
address_length address = omega (arith, address_parts address, ended_length address.display 32)

-- ## Headers

via_parts : (via : Via) → length (via_text via) ≡ 7 + 1 + length via.transport + 1 + length (via.host ++ port_text via.port ++ params_text via.params)
unfolding via_text version
via_parts via = five version (codes "/") via.transport (codes " ") (via.host ++ port_text via.port ++ params_text via.params)

pub via_length : (via : Via) → length (via_text via) ≡ length via.transport + length via.host + length (port_text via.port) + length (params_text via.params) + 9
via_length via = omega (arith, via_parts via, three via.host (port_text via.port) (params_text via.params))

pub cseq_length : (cseq : CSeq) → length (cseq_text cseq) ≡ length (decimal cseq.number) + length cseq.method + 1
unfolding cseq_text
cseq_length cseq = three (decimal cseq.number) (codes " ") cseq.method ∙ omega arith

line_length : (name value : Bytes) → length (line name value) ≡ length name + 2 + length value + 2
unfolding line crlf
line_length name value = four name (codes ": ") value crlf

pub via_line_length : (via : Via) → length (via_line via) ≡ length (via_text via) + 7
unfolding via_line via_name
via_line_length via = line_length via_name (via_text via) ∙ omega arith

pub route_line_length : (address : Address) → length (route_line address) ≡ length (address_text address) + 9
unfolding route_line route_name
route_line_length address = line_length route_name (address_text address) ∙ omega arith

pub record_route_line_length : (address : Address) → length (record_route_line address) ≡ length (address_text address) + 16
unfolding record_route_line record_route_name
record_route_line_length address = line_length record_route_name (address_text address) ∙ omega arith

pub contact_line_length : (contact : Contact) → length (contact_line contact) ≡ length (contact_text contact) + 11
unfolding contact_line contact_name
contact_line_length contact = line_length contact_name (contact_text contact) ∙ omega arith

pub field_line_length : (field : Field) → length (field_line field) ≡ length field.name + length field.value + 4
unfolding field_line
field_line_length field = line_length field.name field.value ∙ omega arith

pub max_forwards_length : (value : Bytes) → length (line max_forwards_name value) ≡ length value + 16
unfolding max_forwards_name
max_forwards_length value = line_length max_forwards_name value ∙ omega arith

from_length : (value : Bytes) → length (line from_name value) ≡ length value + 8
unfolding from_name
from_length value = line_length from_name value ∙ omega arith

to_length : (value : Bytes) → length (line to_name value) ≡ length value + 6
unfolding to_name
to_length value = line_length to_name value ∙ omega arith

call_id_length : (value : Bytes) → length (line call_id_name value) ≡ length value + 11
unfolding call_id_name
call_id_length value = line_length call_id_name value ∙ omega arith

cseq_line_length : (value : Bytes) → length (line cseq_name value) ≡ length value + 8
unfolding cseq_name
cseq_line_length value = line_length cseq_name value ∙ omega arith

content_length_length : (value : Bytes) → length (line content_length_name value) ≡ length value + 18
unfolding content_length_name
content_length_length value = line_length content_length_name value ∙ omega arith

pub routing_length : (head : Head) → length (routing_lines head) ≡ length (flat_map via_line head.via) + length (flat_map route_line head.route) + length (flat_map record_route_line head.record_route)
unfolding routing_lines
routing_length head = three (flat_map via_line head.via) (flat_map route_line head.route) (flat_map record_route_line head.record_route)

pub dialog_length : (head : Head) → length (dialog_lines head) ≡ length (address_text head.from) + length (address_text head.to) + length head.call_id + length (cseq_text head.cseq) + 33
unfolding dialog_lines
dialog_length head =
    four (line from_name (address_text head.from)) (line to_name (address_text head.to)) (line call_id_name head.call_id) (line cseq_name (cseq_text head.cseq))
    ∙ omega (arith, from_length (address_text head.from), to_length (address_text head.to), call_id_length head.call_id, cseq_line_length (cseq_text head.cseq))

pub closing_length : (head : Head) → length (closing_lines head) ≡ length (flat_map contact_line head.contact) + length (flat_map field_line head.others) + length (decimal (length head.body)) + 18
unfolding closing_lines
closing_length head =
    three (flat_map contact_line head.contact) (flat_map field_line head.others) (line content_length_name (decimal (length head.body)))
    ∙ omega (arith, content_length_length (decimal (length head.body)))

pub head_length : (hops : Option ℕ) (head : Head) → length (head_text hops head) ≡ length (routing_lines head) + length (hops_line hops) + length (dialog_lines head) + length (closing_lines head) + 2 + length head.body
unfolding head_text crlf
head_length hops head = six (routing_lines head) (hops_line hops) (dialog_lines head) (closing_lines head) crlf head.body

-- ## Start lines

request_line_parts : (request : Request) → length (request_line request) ≡ length request.method + 1 + length (uri_text request.uri) + 1 + 7 + 2
unfolding request_line version crlf
request_line_parts request = six request.method (codes " ") (uri_text request.uri) (codes " ") version crlf

pub request_line_length : (request : Request) → length (request_line request) ≡ length request.method + length (uri_text request.uri) + 11
request_line_length request = request_line_parts request ∙ omega arith

status_line_parts : (response : Response) → length (status_line response) ≡ 7 + 1 + length (decimal response.code) + 1 + length response.reason + 2
unfolding status_line version crlf
status_line_parts response = six version (codes " ") (decimal response.code) (codes " ") response.reason crlf

pub status_line_length : (response : Response) → length (status_line response) ≡ length (decimal response.code) + length response.reason + 11
status_line_length response = status_line_parts response ∙ omega arith
