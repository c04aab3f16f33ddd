-- Worked dialogs: the call of RFC 3261 section 24.2, as it stands there, where no proxy stays in the
-- dialog, and with the two proxies of section 16.12.1.1, which stay. Each text is the whole request as the
-- dialog makes it, before its host adds Via and Contact.
use Rattle.std.proofs.Common.{◌≡◌, List, [], ◌∷◌, None, Some, refl}
use Rattle.std.specs.Prelude.{codes}
use Rattle.std.specs.Fmt.{digits}
use Rattle.sc_value.specs.declared.parts.Address.{Address}
use Rattle.sc_value.specs.declared.parts.Contact.{Contact}
use Rattle.sc_value.specs.declared.parts.Contact.TheVariants.{Star, At}
use Rattle.sc_value.specs.declared.parts.Param.{Param}
use Rattle.sc_value.specs.declared.parts.Uri.{Uri}
use Rattle.sc_value.specs.declared.parts.Uri.TheVariants.{Sip}
use Rattle.sc_value.specs.declared.message.Head.{Head}
use Rattle.sc_value.specs.declared.message.Request.{Request}
use Rattle.sc_value.specs.declared.message.Response.{Response}
use Rattle.sc_value.specs.declared.message.Message.TheVariants as messages
use Rattle.sc_terms.specs.declared.inside.Inside.{Inside}
use Rattle.sc_tokens.specs.HeaderNames.{via_name, route_name, record_route_name, max_forwards_name, from_name, to_name, call_id_name, cseq_name, contact_name, content_length_name, long_of, long_name}
use Rattle.sc_tokens.specs.Names.{same_name}
use Rattle.sc_value.specs.Params.{tag_name, param_value}
use Rattle.sc_tokens.specs.Bytes.{Bytes}
use Rattle.sc_grammar.specs.Written.{crlf, version, signed_text, param_text, params_text, ended_text, port_text, scheme, sip_uri_text, uri_text, address_text, contact_text, via_text, cseq_text, line, via_line, route_line, record_route_line, contact_line, field_line, hops_line, routing_lines, dialog_lines, closing_lines, head_text, request_line, text_of_message as written}
use Rattle.sc_model.specs.Responses.{tag_param, kept_field}
use Rattle.sc_model.specs.SessionStates.{ack, bye, invite}
use Rattle.sc_model.specs.Dialogs.{Beginning.Called, Beginning.Calling, Passed, Passed.By_peer, Passed.By_self, DialogState, update, subscribe, notify, refer, sets_target, last_uri, request_target, answers_first, may_set_target, response_target, given_target, target_of, greatest, tag_params, bare, local_of, remote_of, route_set_of, dialog_of}
use Rattle.sc_model.specs.DialogRequests.{later_head, later_request, next_request, ack_request}

-- ## The call

person : Bytes → Bytes → Uri
person user host = Sip (record { user = Some user; host = host; port = None; params = []; headers = None })

-- a proxy that stays, with its `lr`
proxy : Bytes → Address
proxy host = record {
  display = None;
  uri = Sip (record { user = None; host = host; port = None; params = record { name = codes "lr"; value = None } ∷ []; headers = None });
  params = [];
}

-- the Record-Route list that reaches the called side, and comes back
recorded : List Address
recorded = proxy (codes "p2.domain.com") ∷ proxy (codes "p1.example.com") ∷ []

alice : Address
alice = record { display = Some (codes "Alice"); uri = person (codes "alice") (codes "atlanta.com"); params = record { name = codes "tag"; value = Some (codes "1928301774") } ∷ [] }

bob : List Param → Address
bob params = record { display = Some (codes "Bob"); uri = person (codes "bob") (codes "biloxi.com"); params = params }

bob_tag : Bytes
bob_tag = codes "a6c85cf"

at : Bytes → Bytes → Contact
at user host = At (record { display = None; uri = person user host; params = [] })

head : Address → List Address → Contact → Head
head to routes contact = record {
  via = [];
  route = [];
  record_route = routes;
  from = alice;
  to = to;
  call_id = codes "a84b4c76e66710";
  cseq = record { number = 314159; method = codes "INVITE" };
  contact = contact ∷ [];
  others = [];
  body = [];
}

-- the INVITE, at the side that made it or at the one that got it
invited : List Address → Request
invited routes = record { method = codes "INVITE"; uri = person (codes "bob") (codes "biloxi.com"); hops = 70; head = head (bob []) routes (at (codes "alice") (codes "pc33.atlanta.com")) }

accepted : List Address → Response
accepted routes = record { code = 200; reason = codes "OK"; head = head (bob (record { name = codes "tag"; value = Some bob_tag } ∷ [])) routes (at (codes "bob") (codes "192.0.2.4")) }

alice_side : List Address → DialogState
alice_side routes = dialog_of (Calling (invited []) (accepted routes)) []

bob_side : List Address → List Passed → DialogState
bob_side routes later = dialog_of (Called bob_tag (invited routes)) later

bye_asked : Inside
bye_asked = record { method = bye; fields = []; body = [] }

bye_in : DialogState → Bytes
bye_in dialog = written (messages.Request (next_request dialog bye_asked))

-- a later INVITE of Alice from another place: the last Contact other than `*` counts
moved : Passed
moved = By_peer (messages.Request (record (invited []) {
  head = record (invited []).head {
    cseq = record { number = 314161; method = codes "INVITE" };
    contact = at (codes "alice") (codes "pc34.atlanta.com") ∷ at (codes "alice") (codes "pc35.atlanta.com") ∷ Star ∷ [];
  };
}))

-- a later INFO, which sets no target, and an own request of number 7
info : Passed
info = By_peer (messages.Request (record (invited []) { method = codes "INFO"; head = record (invited []).head { cseq = record { number = 314162; method = codes "INFO" } } }))

own : Passed
own = By_self (messages.Request (record (invited []) { head = record (invited []).head { cseq = record { number = 7; method = codes "INVITE" } } }))

-- ## What the sides send

-- Alice's ACK to the 200
alice_acknowledges : written (messages.Request (ack_request (alice_side []) 314159 []))
    ≡ codes "ACK sip:bob@192.0.2.4 SIP/2.0\r\nMax-Forwards: 70\r\nFrom: <sip:alice@atlanta.com>;tag=1928301774\r\nTo: <sip:bob@biloxi.com>;tag=a6c85cf\r\nCall-ID: a84b4c76e66710\r\nCSeq: 314159 ACK\r\nContent-Length: 0\r\n\r\n"
unfolding digits person proxy recorded alice bob bob_tag at head invited accepted alice_side bob_side bye_asked bye_in moved info own long_of long_name same_name tag_name param_value via_name route_name record_route_name max_forwards_name from_name to_name call_id_name cseq_name contact_name content_length_name crlf version signed_text param_text params_text ended_text port_text scheme sip_uri_text uri_text address_text contact_text via_text cseq_text line via_line route_line record_route_line contact_line field_line hops_line routing_lines dialog_lines closing_lines head_text request_line written tag_param kept_field invite bye ack update subscribe notify refer sets_target last_uri request_target answers_first may_set_target response_target given_target target_of greatest tag_params bare local_of remote_of route_set_of dialog_of later_head later_request next_request ack_request
alice_acknowledges = refl

-- Bob's BYE, the first request that he makes
bob_ends : bye_in (bob_side [] [])
    ≡ codes "BYE sip:alice@pc33.atlanta.com SIP/2.0\r\nMax-Forwards: 70\r\nFrom: <sip:bob@biloxi.com>;tag=a6c85cf\r\nTo: <sip:alice@atlanta.com>;tag=1928301774\r\nCall-ID: a84b4c76e66710\r\nCSeq: 1 BYE\r\nContent-Length: 0\r\n\r\n"
unfolding digits person proxy recorded alice bob bob_tag at head invited accepted alice_side bob_side bye_asked bye_in moved info own long_of long_name same_name tag_name param_value via_name route_name record_route_name max_forwards_name from_name to_name call_id_name cseq_name contact_name content_length_name crlf version signed_text param_text params_text ended_text port_text scheme sip_uri_text uri_text address_text contact_text via_text cseq_text line via_line route_line record_route_line contact_line field_line hops_line routing_lines dialog_lines closing_lines head_text request_line written tag_param kept_field invite bye ack update subscribe notify refer sets_target last_uri request_target answers_first may_set_target response_target given_target target_of greatest tag_params bare local_of remote_of route_set_of dialog_of later_head later_request next_request ack_request
bob_ends = refl

-- Alice's BYE by the proxies that stayed: the nearest is the one that recorded its route first
alice_ends : bye_in (alice_side recorded)
    ≡ codes "BYE sip:bob@192.0.2.4 SIP/2.0\r\nRoute: <sip:p1.example.com;lr>\r\nRoute: <sip:p2.domain.com;lr>\r\nMax-Forwards: 70\r\nFrom: <sip:alice@atlanta.com>;tag=1928301774\r\nTo: <sip:bob@biloxi.com>;tag=a6c85cf\r\nCall-ID: a84b4c76e66710\r\nCSeq: 314160 BYE\r\nContent-Length: 0\r\n\r\n"
unfolding digits person proxy recorded alice bob bob_tag at head invited accepted alice_side bob_side bye_asked bye_in moved info own long_of long_name same_name tag_name param_value via_name route_name record_route_name max_forwards_name from_name to_name call_id_name cseq_name contact_name content_length_name crlf version signed_text param_text params_text ended_text port_text scheme sip_uri_text uri_text address_text contact_text via_text cseq_text line via_line route_line record_route_line contact_line field_line hops_line routing_lines dialog_lines closing_lines head_text request_line written tag_param kept_field invite bye ack update subscribe notify refer sets_target last_uri request_target answers_first may_set_target response_target given_target target_of greatest tag_params bare local_of remote_of route_set_of dialog_of later_head later_request next_request ack_request
alice_ends = refl

-- Bob's BYE after these
bob_ends_later : bye_in (bob_side recorded (own ∷ info ∷ moved ∷ []))
    ≡ codes "BYE sip:alice@pc35.atlanta.com SIP/2.0\r\nRoute: <sip:p2.domain.com;lr>\r\nRoute: <sip:p1.example.com;lr>\r\nMax-Forwards: 70\r\nFrom: <sip:bob@biloxi.com>;tag=a6c85cf\r\nTo: <sip:alice@atlanta.com>;tag=1928301774\r\nCall-ID: a84b4c76e66710\r\nCSeq: 8 BYE\r\nContent-Length: 0\r\n\r\n"
unfolding digits person proxy recorded alice bob bob_tag at head invited accepted alice_side bob_side bye_asked bye_in moved info own long_of long_name same_name tag_name param_value via_name route_name record_route_name max_forwards_name from_name to_name call_id_name cseq_name contact_name content_length_name crlf version signed_text param_text params_text ended_text port_text scheme sip_uri_text uri_text address_text contact_text via_text cseq_text line via_line route_line record_route_line contact_line field_line hops_line routing_lines dialog_lines closing_lines head_text request_line written tag_param kept_field invite bye ack update subscribe notify refer sets_target last_uri request_target answers_first may_set_target response_target given_target target_of greatest tag_params bare local_of remote_of route_set_of dialog_of later_head later_request next_request ack_request
bob_ends_later = refl

-- the greatest number that he received
bob_received : (bob_side recorded (own ∷ info ∷ moved ∷ [])).received ≡ 314162
unfolding digits person proxy recorded alice bob bob_tag at head invited accepted alice_side bob_side bye_asked bye_in moved info own long_of long_name same_name tag_name param_value via_name route_name record_route_name max_forwards_name from_name to_name call_id_name cseq_name contact_name content_length_name crlf version signed_text param_text params_text ended_text port_text scheme sip_uri_text uri_text address_text contact_text via_text cseq_text line via_line route_line record_route_line contact_line field_line hops_line routing_lines dialog_lines closing_lines head_text request_line written tag_param kept_field invite bye ack update subscribe notify refer sets_target last_uri request_target answers_first may_set_target response_target given_target target_of greatest tag_params bare local_of remote_of route_set_of dialog_of later_head later_request next_request ack_request
bob_received = refl
