-- The script of one call, byte by byte.
use Rattle.std.proofs.Common.{◌≡◌, refl}
use Rattle.std.specs.Prelude.{codes}
use Rattle.std.specs.Fmt.{digits}
use Rattle.sc_tokens.specs.HeaderNames.{via_name, route_name, record_route_name, max_forwards_name, from_name, to_name, call_id_name, cseq_name, contact_name, content_length_name}
use Rattle.sc_grammar.specs.Written.{crlf, version, signed_text, param_text, params_text, ended_text, port_text, scheme, sip_uri_text, uri_text, address_text, contact_text, via_text, cseq_text, line, via_line, route_line, record_route_line, contact_line, field_line, hops_line, routing_lines, dialog_lines, closing_lines, head_text, request_line, text_of_message as written}
use Rattle.sc_model.specs.SessionStates.{ack, bye, invite}
use Rattle.sc_model.specs.Generated.{in_word, home, local, caller, called_user as called, name_and_value as valued, session_text, user_uri, session_param, session_uri, mark, answer_tag, cookie, branch_of, call_of, via_of, from_side, to_side, answered_side, caller_contact, route_of, head_of, invite_of, later_of, ack_of, bye_of, run_line, end_line, tick_word, tick_line, arriving_text, arrives, call_text, generated_text as generated}
use Rattle.sc_value.specs.Params.{tag_name, branch_name}
use Rattle.sc_model.specs.Names.{loose_param, tcp_param}

one_call : generated 1
    ≡ codes "in c1 237\nINVITE sip:u@home.test SIP/2.0\r\nVia: SIP/2.0/TCP 127.0.0.1:5090;branch=z9hG4bKm1\r\nMax-Forwards: 70\r\nFrom: <sip:m@home.test>;tag=m\r\nTo: <sip:u@home.test>\r\nCall-ID: m1\r\nCSeq: 1 INVITE\r\nContact: <sip:m@127.0.0.1:5090>\r\nContent-Length: 0\r\n\r\n\nrun\ntick 1000\nrun\nin c1 292\nACK sip:127.0.0.1:5060;transport=tcp;lr;ap=1-1 SIP/2.0\r\nVia: SIP/2.0/TCP 127.0.0.1:5090;branch=z9hG4bKm1a\r\nRoute: <sip:127.0.0.1:5060;transport=tcp;lr;ap=0-1>\r\nMax-Forwards: 70\r\nFrom: <sip:m@home.test>;tag=m\r\nTo: <sip:u@home.test>;tag=s1-1-1-1\r\nCall-ID: m1\r\nCSeq: 1 ACK\r\nContent-Length: 0\r\n\r\n\nrun\nin c1 292\nBYE sip:127.0.0.1:5060;transport=tcp;lr;ap=1-1 SIP/2.0\r\nVia: SIP/2.0/TCP 127.0.0.1:5090;branch=z9hG4bKm1b\r\nRoute: <sip:127.0.0.1:5060;transport=tcp;lr;ap=0-1>\r\nMax-Forwards: 70\r\nFrom: <sip:m@home.test>;tag=m\r\nTo: <sip:u@home.test>;tag=s1-1-1-1\r\nCall-ID: m1\r\nCSeq: 2 BYE\r\nContent-Length: 0\r\n\r\n\nrun\ntick 2000\nend\n"
unfolding digits via_name route_name record_route_name max_forwards_name from_name to_name call_id_name cseq_name contact_name content_length_name crlf version signed_text param_text params_text ended_text port_text scheme sip_uri_text uri_text address_text contact_text via_text cseq_text line via_line route_line record_route_line contact_line field_line hops_line routing_lines dialog_lines closing_lines head_text request_line written in_word invite bye ack home local caller called tag_name branch_name valued session_text user_uri tcp_param loose_param session_param session_uri mark answer_tag cookie branch_of call_of via_of from_side to_side answered_side caller_contact route_of head_of invite_of later_of ack_of bye_of run_line end_line tick_word tick_line arriving_text arrives call_text generated
one_call = refl
