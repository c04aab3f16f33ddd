-- The written form of a message (RFC 3261 section 7). The order of the headers is this project's
-- own: Via, Route, Record-Route, Max-Forwards, From, To, Call-ID, CSeq, Contact, all others,
-- Content-Length; one line an item.
use Rattle.std.specs.Prelude.{ℕ, List, [], ◌∷◌, ◌++◌, Option, None, Some, codes, decimal, length}
use Rattle.std.specs.List.{flat_map}
use Rattle.sc_tokens.specs.Bytes.{Bytes}
use Rattle.sc_tokens.specs.HeaderNames.{via_name, route_name, record_route_name, max_forwards_name, from_name, to_name, call_id_name, cseq_name, contact_name, content_length_name}
use Rattle.sc_tokens.specs.Signs.{at_sign, carriage_return, colon, equal, line_feed, question, semicolon, space}
use Rattle.sc_value.specs.declared.parts.Param.{Param}
use Rattle.sc_value.specs.declared.parts.SipUri.{SipUri}
use Rattle.sc_value.specs.declared.parts.Uri.{Uri}
use Rattle.sc_value.specs.declared.parts.Uri.TheVariants.{Sip, Other}
use Rattle.sc_value.specs.declared.parts.Address.{Address}
use Rattle.sc_value.specs.declared.parts.Contact.{Contact}
use Rattle.sc_value.specs.declared.parts.Contact.TheVariants.{Star, At}
use Rattle.sc_value.specs.declared.parts.Via.{Via}
use Rattle.sc_value.specs.declared.parts.CSeq.{CSeq}
use Rattle.sc_value.specs.declared.parts.Field.{Field}
use Rattle.sc_value.specs.declared.message.Head.{Head}
use Rattle.sc_value.specs.declared.message.Request.{Request}
use Rattle.sc_value.specs.declared.message.Response.{Response}
use Rattle.sc_value.specs.declared.message.Message.{Message}
use Rattle.sc_value.specs.declared.message.Message.TheVariants as messages

-- the end of a line
unfoldable pub crlf : Bytes
crlf = carriage_return ∷ line_feed ∷ []

-- the version of SIP (RFC 3261 section 7.1)
unfoldable pub version : Bytes
version = codes "SIP/2.0"

-- ## URIs and addresses (RFC 3261 sections 19.1.1 and 20.10)

-- nothing, or the sign and the text
unfoldable pub signed_text : ℕ → Option Bytes → Bytes
signed_text sign None = []
signed_text sign (Some text) = sign ∷ text

-- `;name` or `;name=value`
unfoldable pub param_text : Param → Bytes
param_text param = semicolon ∷ (param.name ++ signed_text equal param.value)

-- each parameter behind its semicolon
unfoldable pub params_text : List Param → Bytes
params_text params = flat_map param_text params

-- nothing, or the text and the sign after it
unfoldable pub ended_text : Option Bytes → ℕ → Bytes
ended_text None sign = []
ended_text (Some text) sign = text ++ sign ∷ []

-- `:port`, or nothing
unfoldable pub port_text : Option ℕ → Bytes
port_text None = []
port_text (Some port) = colon ∷ decimal port

-- the scheme of a SIP URI with its colon
unfoldable pub scheme : Bytes
scheme = codes "sip:"

-- `sip:user@host:port;params?headers`
unfoldable pub sip_uri_text : SipUri → Bytes
sip_uri_text uri =
    scheme ++ ended_text uri.user at_sign ++ uri.host ++ port_text uri.port
    ++ params_text uri.params ++ signed_text question uri.headers

-- a URI; one of another scheme stands as it came
unfoldable pub uri_text : Uri → Bytes
uri_text (Sip uri) = sip_uri_text uri
uri_text (Other text) = text

-- `display <uri>;params`, the display only where there is one
unfoldable pub address_text : Address → Bytes
address_text address =
    ended_text address.display space ++ codes "<" ++ uri_text address.uri ++ codes ">"
    ++ params_text address.params

-- `*`, or an address
unfoldable pub contact_text : Contact → Bytes
contact_text Star = codes "*"
contact_text (At address) = address_text address

-- ## Headers (RFC 3261 section 20)

-- `SIP/2.0/TCP host:port;params`
unfoldable pub via_text : Via → Bytes
via_text via =
    version ++ codes "/" ++ via.transport ++ codes " "
    ++ (via.host ++ port_text via.port ++ params_text via.params)

-- `number method`
unfoldable pub cseq_text : CSeq → Bytes
cseq_text cseq = decimal cseq.number ++ codes " " ++ cseq.method

-- `name: value` and the line's end
unfoldable pub line : Bytes → Bytes → Bytes
line name value = name ++ codes ": " ++ value ++ crlf

-- the line of one Via
unfoldable pub via_line : Via → Bytes
via_line via = line via_name (via_text via)

-- the line of one Route
unfoldable pub route_line : Address → Bytes
route_line address = line route_name (address_text address)

-- the line of one Record-Route
unfoldable pub record_route_line : Address → Bytes
record_route_line address = line record_route_name (address_text address)

-- the line of one Contact
unfoldable pub contact_line : Contact → Bytes
contact_line contact = line contact_name (contact_text contact)

-- the line of a header without structure
unfoldable pub field_line : Field → Bytes
field_line field = line field.name field.value

-- Max-Forwards stands in requests alone
unfoldable pub hops_line : Option ℕ → Bytes
hops_line None = []
hops_line (Some hops) = line max_forwards_name (decimal hops)

-- the lists of Via, Route and Record-Route
unfoldable pub routing_lines : Head → Bytes
routing_lines head =
    flat_map via_line head.via ++ flat_map route_line head.route
    ++ flat_map record_route_line head.record_route

-- From, To, Call-ID and CSeq
unfoldable pub dialog_lines : Head → Bytes
dialog_lines head =
    line from_name (address_text head.from) ++ line to_name (address_text head.to)
    ++ line call_id_name head.call_id ++ line cseq_name (cseq_text head.cseq)

-- Contact, all others and Content-Length
unfoldable pub closing_lines : Head → Bytes
closing_lines head =
    flat_map contact_line head.contact ++ flat_map field_line head.others
    ++ line content_length_name (decimal (length head.body))

-- all that follows the start line
unfoldable pub head_text : Option ℕ → Head → Bytes
head_text hops head =
    routing_lines head ++ hops_line hops ++ dialog_lines head ++ closing_lines head ++ crlf
    ++ head.body

-- ## Messages

-- `Method Request-URI SIP/2.0`
unfoldable pub request_line : Request → Bytes
request_line request =
    request.method ++ codes " " ++ uri_text request.uri ++ codes " " ++ version ++ crlf

-- `SIP/2.0 code reason`
unfoldable pub status_line : Response → Bytes
status_line response =
    version ++ codes " " ++ decimal response.code ++ codes " " ++ response.reason ++ crlf

-- the written form
unfoldable pub text_of_message : Message → Bytes
text_of_message (messages.Request request) =
    request_line request ++ head_text (Some request.hops) request.head
text_of_message (messages.Response response) = status_line response ++ head_text None response.head
