-- The response to a received request (RFC 3261 section 8.2.6).
use Rattle.std.specs.Prelude.{[], ◌∷◌, ◌++◌, Bool, not, Some, is_some, if◌then◌else◌, map, filter}
use Rattle.sc_value.specs.declared.parts.Address.{Address}
use Rattle.sc_value.specs.declared.parts.Param.{Param}
use Rattle.sc_value.specs.declared.parts.Field.{Field}
use Rattle.sc_value.specs.declared.message.Head.{Head}
use Rattle.sc_value.specs.declared.message.Request.{Request}
use Rattle.sc_value.specs.declared.message.Response.{Response}
use Rattle.sc_tokens.specs.HeaderNames.{long_name}
use Rattle.sc_value.specs.Params.{param_value, tag_name, is_named}
use Rattle.sc_terms.specs.declared.calls.Answer.{Answer}
use Rattle.sc_tokens.specs.Bytes.{Bytes}

-- `;tag=..`
unfoldable pub tag_param : Bytes → Param
tag_param tag = record { name = tag_name; value = Some tag }

-- the parameter is a `tag`, with a value or without
abbrev pub is_tag : Param → Bool
is_tag param = is_named tag_name param

-- the address without its parameters `tag`
unfoldable pub address_without_tag : Address → Address
address_without_tag address =
    record address { params = filter (λ param. not (is_tag param)) address.params }

-- with this tag in place of its own
unfoldable pub address_with_tag : Bytes → Address → Address
address_with_tag tag address =
    record address { params = (address_without_tag address).params ++ tag_param tag ∷ [] }

-- the address with this tag, where it has none; a parameter `tag` without a value is none (RFC 3261
-- section 25.1)
unfoldable pub with_tag : Bytes → Address → Address
with_tag tag address =
    if is_some (param_value tag_name address.params) then address else address_with_tag tag address

-- a header that a servlet sets; its compact name is kept as its long one
unfoldable pub kept_field : Field → Field
kept_field field = record { name = long_name field.name; value = field.value }

-- Via, From, Call-ID and CSeq are those of the request, and To with the own tag
unfoldable pub response_head : Bytes → Request → Answer → Head
response_head tag request answer = record {
  via = request.head.via;
  route = [];
  record_route = [];
  from = request.head.from;
  to = with_tag tag request.head.to;
  call_id = request.head.call_id;
  cseq = request.head.cseq;
  contact = answer.contact;
  others = map kept_field answer.fields;
  body = answer.body;
}

-- the response with the answer's code and reason, to this request and with this own tag
unfoldable pub response_to : Bytes → Request → Answer → Response
response_to tag request answer =
    record { code = answer.code; reason = answer.reason; head = response_head tag request answer }
