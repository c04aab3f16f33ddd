-- Worked cases of the written form.
use Rattle.std.proofs.Common.{◌≡◌, [], ◌∷◌, None, Some, refl}
use Rattle.std.specs.Prelude.{codes}
use Rattle.std.specs.Fmt.{digits}
use Rattle.sc_value.specs.declared.message.Message.TheVariants as messages
use Rattle.sc_value.specs.declared.parts.Uri.{Uri}
use Rattle.sc_value.specs.declared.parts.Uri.TheVariants.{Sip}
use Rattle.sc_value.specs.declared.parts.Address.{Address}
use Rattle.sc_value.specs.declared.parts.Via.{Via}
use Rattle.sc_value.specs.declared.parts.CSeq.{CSeq}
use Rattle.sc_value.specs.declared.message.Head.{Head}
use Rattle.sc_value.specs.declared.message.Request.{Request}
use Rattle.sc_tokens.specs.HeaderNames.{via_name, route_name, record_route_name, max_forwards_name, from_name, to_name, call_id_name, cseq_name, contact_name, content_length_name}
use Rattle.sc_tokens.specs.Bytes.{Bytes}
use Rattle.sc_grammar.specs.Written.{crlf, version, signed_text, param_text, params_text, ended_text, port_text, scheme, sip_uri_text, uri_text, address_text, contact_text, via_text, cseq_text, line, via_line, route_line, record_route_line, contact_line, field_line, hops_line, routing_lines, dialog_lines, closing_lines, head_text, request_line, status_line, text_of_message as written}

options : Bytes
options = codes "OPTIONS"

home_host : Bytes
home_host = codes "home.test"

-- `sip:user@home.test`
home_uri : Bytes → Uri
home_uri user = Sip (record { user = Some user; host = home_host; port = None; params = []; headers = None })

alice : Bytes
alice = codes "alice"

bob : Bytes
bob = codes "bob"

-- `<sip:bob@home.test>;tag=b1`
first_from : Address
first_from = record { display = None; uri = home_uri bob; params = record { name = codes "tag"; value = Some (codes "b1") } ∷ [] }

-- `<sip:alice@home.test>`
first_to : Address
first_to = record { display = None; uri = home_uri alice; params = [] }

-- `SIP/2.0/TCP 127.0.0.1:5090;branch=z9hG4bKa1`
first_via : Via
first_via = record {
  transport = codes "TCP";
  host = codes "127.0.0.1";
  port = Some 5090;
  params = record { name = codes "branch"; value = Some (codes "z9hG4bKa1") } ∷ [];
}

first_cseq : CSeq
first_cseq = record { number = 1; method = options }

first_head : Head
first_head = record {
  via = first_via ∷ [];
  route = [];
  record_route = [];
  from = first_from;
  to = first_to;
  call_id = codes "c1";
  cseq = first_cseq;
  contact = [];
  others = [];
  body = [];
}

-- OPTIONS from Bob to Alice
first_request : Request
first_request = record { method = options; uri = home_uri alice; hops = 70; head = first_head }

-- its written form, line by line
first_text : written (messages.Request first_request)
    ≡ codes "OPTIONS sip:alice@home.test SIP/2.0\r\nVia: SIP/2.0/TCP 127.0.0.1:5090;branch=z9hG4bKa1\r\nMax-Forwards: 70\r\nFrom: <sip:bob@home.test>;tag=b1\r\nTo: <sip:alice@home.test>\r\nCall-ID: c1\r\nCSeq: 1 OPTIONS\r\nContent-Length: 0\r\n\r\n"
unfolding digits crlf version signed_text param_text params_text ended_text port_text scheme sip_uri_text uri_text address_text contact_text via_text cseq_text line via_name route_name record_route_name max_forwards_name from_name to_name call_id_name cseq_name contact_name content_length_name via_line route_line record_route_line contact_line field_line hops_line routing_lines dialog_lines closing_lines head_text request_line status_line written options home_host home_uri alice bob first_from first_to first_via first_cseq first_head first_request
first_text = refl
