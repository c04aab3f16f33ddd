-- Worked cases: whole messages, read and refused at the place and with the kind of their first fault.
use Rattle.std.proofs.Common.{◌≡◌, ℕ, Some, None, Ok, Err, List, [], ◌∷◌, ◌++◌, refl}
use Rattle.std.specs.Prelude.{codes, replicate}
use Rattle.std.specs.List.{flat_map}
use Rattle.sc_value.specs.declared.parts.Uri.{Uri}
use Rattle.sc_value.specs.declared.parts.Uri.TheVariants.{Sip}
use Rattle.sc_value.specs.declared.message.Head.{Head}
use Rattle.sc_value.specs.declared.message.Message.TheVariants as messages
use Rattle.sc_tokens.specs.HeaderNames.{long_of, long_name, via_name, route_name, record_route_name, max_forwards_name, from_name, to_name, call_id_name, cseq_name, contact_name, content_length_name, content_type_name, content_encoding_name, subject_name, supported_name}
use Rattle.sc_tokens.specs.Names.{same_name}
use Rattle.sc_value.specs.Params.{branch_name, param_value}
use Rattle.sc_tokens.specs.Tokens.{is_token, is_token_byte, is_blank, begins_blank, is_line_break, is_one_line}
use Rattle.sc_tokens.specs.Bytes.{is_host_byte, is_scheme_byte, is_closed, is_open}
use Rattle.sc_tokens.specs.Numbers.{is_digits, with_digit, number_in, number_below}
use Rattle.sc_tokens.specs.Cuts.{has, before, after, onto_first}
use Rattle.sc_tokens.specs.Hosts.{is_host_name, begins, is_none_left, is_host, host_len}
use Rattle.sc_syntax.specs.UriParts.{then_read, port_in, is_port_start, sent_at, params_at, headers_at}
use Rattle.sc_tokens.specs.UriTokens.{is_scheme, sip_scheme}
use Rattle.sc_syntax.specs.Uris.{user_in, behind_user, sent_in, params_text_in, sip_behind, sip_at, other_of, uri_behind, uri_of}
use Rattle.sc_tokens.specs.Blanks.{trimmed_front, trimmed_back, without_blanks as trimmed, first_word, behind_word}
use Rattle.sc_syntax.specs.Scanning.{is_outside, past_front, past_word, past_bracketed, past_params, in_string, past, is_part_end, parts, with_first, all_read}
use Rattle.sc_tokens.specs.HeaderTokens.{is_value_byte, is_param_text, is_display_byte}
use Rattle.sc_syntax.specs.Parameters.{param_in, param_of}
use Rattle.sc_syntax.specs.Vias.{behind_slash, behind_version, hop_in, via_with, via_in, via_of, vias_of}
use Rattle.sc_syntax.specs.Addresses.{uri_in_brackets as enclosed, unless_empty, token_named, named_in, with_uri, address_with, address_in, address_of, addresses_of}
use Rattle.sc_syntax.specs.Sequences.{cseq_in, cseq_of, hops_of}
use Rattle.sc_syntax.specs.Lines.{begins_break, is_end, end_of, pieces_at, start_line, lines_behind, behind_start, header_lines}
use Rattle.sc_syntax.specs.Folds.{with_piece as continued, all_continued, text_without_folds as joined}
use Rattle.sc_syntax.specs.StartLines.{is_version, request_in, request_behind, request_of, at_least_100, code_of, status_in, status_behind, status_of, is_status_line, is_broken, start_of}
use Rattle.sc_syntax.specs.Judging.{header_named, with_values as counted, taken_as, taken_once, has_branch, begins_well, with_vias, with_routes, with_from, with_to, with_call_id, with_cseq, with_hops, with_length, with_field, in_line, with_header as taken, with_named_header as named, left_with_line as judged}
use Rattle.sc_syntax.specs.Messages.{fault_at_place as placed, no_lists, no_singles, nothing_left, all_judged, peers_of, head_of, message_with, is_method_of, fits, finished_with, message_from_parts as finished, message_in, message_of}

-- ## Messages that are read

unfoldable home : List ℕ → Uri
home user = Sip (record { user = Some user; host = codes "home.test"; port = None; params = []; headers = None })

unfoldable home_head : Head
home_head = record {
  via = record { transport = codes "TCP"; host = codes "127.0.0.1"; port = Some 5090; params = record { name = codes "branch"; value = Some (codes "z9hG4bKa1") } ∷ [] } ∷ [];
  route = [];
  record_route = [];
  from = record { display = None; uri = home (codes "bob"); params = record { name = codes "tag"; value = Some (codes "b1") } ∷ [] };
  to = record { display = None; uri = home (codes "alice"); params = [] };
  call_id = codes "c1";
  cseq = record { number = 1; method = codes "OPTIONS" };
  contact = [];
  others = [];
  body = [];
}

-- the request of the smallest run
reads_options : message_of (codes "OPTIONS sip:alice@home.test SIP/2.0\r\nVia: SIP/2.0/TCP 127.0.0.1:5090;branch=z9hG4bKa1\r\nMax-Forwards: 70\r\nFrom: <sip:bob@home.test>;tag=b1\r\nTo: <sip:alice@home.test>\r\nCall-ID: c1\r\nCSeq: 1 OPTIONS\r\nContent-Length: 0\r\n\r\n") ≡ Ok (messages.Request (record { method = codes "OPTIONS"; uri = home (codes "alice"); hops = 70; head = home_head }))
unfolding long_of long_name via_name route_name record_route_name max_forwards_name from_name to_name call_id_name cseq_name contact_name content_length_name content_type_name content_encoding_name subject_name supported_name same_name branch_name param_value is_token is_token_byte is_blank begins_blank is_line_break is_one_line is_host_byte is_scheme_byte is_closed is_open is_digits with_digit number_in number_below has before after onto_first is_host_name begins is_none_left is_host host_len then_read port_in is_port_start sent_at params_at headers_at is_scheme sip_scheme user_in behind_user sent_in params_text_in sip_behind sip_at other_of uri_behind uri_of trimmed_front trimmed_back trimmed first_word behind_word is_outside past_front past_word past_bracketed past_params in_string past is_part_end parts with_first all_read is_value_byte is_param_text param_in param_of behind_slash behind_version hop_in via_with via_in via_of vias_of enclosed unless_empty token_named is_display_byte named_in with_uri address_with address_in address_of addresses_of cseq_in cseq_of hops_of begins_break is_end end_of pieces_at start_line lines_behind behind_start header_lines continued all_continued joined is_version request_in request_behind request_of at_least_100 code_of status_in status_behind status_of is_status_line is_broken start_of header_named counted taken_as taken_once has_branch begins_well with_vias with_routes with_from with_to with_call_id with_cseq with_hops with_length with_field in_line taken named judged placed no_lists no_singles nothing_left all_judged peers_of head_of message_with is_method_of fits finished_with finished message_in message_of home home_head
reads_options = refl

-- compact names, a name in another case, a fold; no Max-Forwards and no Content-Length
reads_compact : message_of (codes "OPTIONS sip:alice@home.test SIP/2.0\r\nv: SIP/2.0/TCP 127.0.0.1:5090;branch=z9hG4bKa1\r\nf: sip:bob@home.test;tag=b1\r\nt: <sip:alice@home.test>\r\ni: c1\r\ncseq: 1 OPTIONS\r\ns: a\r\n b\r\n\r\n") ≡ Ok (messages.Request (record { method = codes "OPTIONS"; uri = home (codes "alice"); hops = 70; head = record home_head { others = record { name = codes "Subject"; value = codes "a b" } ∷ [] } }))
unfolding long_of long_name via_name route_name record_route_name max_forwards_name from_name to_name call_id_name cseq_name contact_name content_length_name content_type_name content_encoding_name subject_name supported_name same_name branch_name param_value is_token is_token_byte is_blank begins_blank is_line_break is_one_line is_host_byte is_scheme_byte is_closed is_open is_digits with_digit number_in number_below has before after onto_first is_host_name begins is_none_left is_host host_len then_read port_in is_port_start sent_at params_at headers_at is_scheme sip_scheme user_in behind_user sent_in params_text_in sip_behind sip_at other_of uri_behind uri_of trimmed_front trimmed_back trimmed first_word behind_word is_outside past_front past_word past_bracketed past_params in_string past is_part_end parts with_first all_read is_value_byte is_param_text param_in param_of behind_slash behind_version hop_in via_with via_in via_of vias_of enclosed unless_empty token_named is_display_byte named_in with_uri address_with address_in address_of addresses_of cseq_in cseq_of hops_of begins_break is_end end_of pieces_at start_line lines_behind behind_start header_lines continued all_continued joined is_version request_in request_behind request_of at_least_100 code_of status_in status_behind status_of is_status_line is_broken start_of header_named counted taken_as taken_once has_branch begins_well with_vias with_routes with_from with_to with_call_id with_cseq with_hops with_length with_field in_line taken named judged placed no_lists no_singles nothing_left all_judged peers_of head_of message_with is_method_of fits finished_with finished message_in message_of home home_head
reads_compact = refl

-- Max-Forwards is dropped, a fold before the colon is one space, and a body may begin with a blank
reads_response : message_of (codes "SIP/2.0 200 \r\nv: SIP/2.0/TCP 127.0.0.1:5090;branch=z9hG4bKa1\r\nf: sip:bob@home.test;tag=b1\r\nt: <sip:alice@home.test>\r\ni\r\n : \r\n \t\r\n c1 \r\n\t\r\ncseq: 1 OPTIONS\r\nMAX-FORWARDS: 1\r\nl: 3\r\n\r\n \r\n") ≡ Ok (messages.Response (record { code = 200; reason = []; head = record home_head { body = codes " \r\n" } }))
unfolding long_of long_name via_name route_name record_route_name max_forwards_name from_name to_name call_id_name cseq_name contact_name content_length_name content_type_name content_encoding_name subject_name supported_name same_name branch_name param_value is_token is_token_byte is_blank begins_blank is_line_break is_one_line is_host_byte is_scheme_byte is_closed is_open is_digits with_digit number_in number_below has before after onto_first is_host_name begins is_none_left is_host host_len then_read port_in is_port_start sent_at params_at headers_at is_scheme sip_scheme user_in behind_user sent_in params_text_in sip_behind sip_at other_of uri_behind uri_of trimmed_front trimmed_back trimmed first_word behind_word is_outside past_front past_word past_bracketed past_params in_string past is_part_end parts with_first all_read is_value_byte is_param_text param_in param_of behind_slash behind_version hop_in via_with via_in via_of vias_of enclosed unless_empty token_named is_display_byte named_in with_uri address_with address_in address_of addresses_of cseq_in cseq_of hops_of begins_break is_end end_of pieces_at start_line lines_behind behind_start header_lines continued all_continued joined is_version request_in request_behind request_of at_least_100 code_of status_in status_behind status_of is_status_line is_broken start_of header_named counted taken_as taken_once has_branch begins_well with_vias with_routes with_from with_to with_call_id with_cseq with_hops with_length with_field in_line taken named judged placed no_lists no_singles nothing_left all_judged peers_of head_of message_with is_method_of fits finished_with finished message_in message_of home home_head
reads_response = refl

-- ## Refusals, by their kinds

refuses_no_line : message_of (codes "OPTIONS\r\n\r\n") ≡ Err (record { at = 0; kind = 1 })
unfolding long_of long_name via_name route_name record_route_name max_forwards_name from_name to_name call_id_name cseq_name contact_name content_length_name content_type_name content_encoding_name subject_name supported_name same_name branch_name param_value is_token is_token_byte is_blank begins_blank is_line_break is_one_line is_host_byte is_scheme_byte is_closed is_open is_digits with_digit number_in number_below has before after onto_first is_host_name begins is_none_left is_host host_len then_read port_in is_port_start sent_at params_at headers_at is_scheme sip_scheme user_in behind_user sent_in params_text_in sip_behind sip_at other_of uri_behind uri_of trimmed_front trimmed_back trimmed first_word behind_word is_outside past_front past_word past_bracketed past_params in_string past is_part_end parts with_first all_read is_value_byte is_param_text param_in param_of behind_slash behind_version hop_in via_with via_in via_of vias_of enclosed unless_empty token_named is_display_byte named_in with_uri address_with address_in address_of addresses_of cseq_in cseq_of hops_of begins_break is_end end_of pieces_at start_line lines_behind behind_start header_lines continued all_continued joined is_version request_in request_behind request_of at_least_100 code_of status_in status_behind status_of is_status_line is_broken start_of header_named counted taken_as taken_once has_branch begins_well with_vias with_routes with_from with_to with_call_id with_cseq with_hops with_length with_field in_line taken named judged placed no_lists no_singles nothing_left all_judged peers_of head_of message_with is_method_of fits finished_with finished message_in message_of
refuses_no_line = refl

-- two spaces exactly
refuses_spaces : message_of (codes "M  sip:h SIP/2.0\r\n\r\n") ≡ Err (record { at = 0; kind = 1 })
unfolding long_of long_name via_name route_name record_route_name max_forwards_name from_name to_name call_id_name cseq_name contact_name content_length_name content_type_name content_encoding_name subject_name supported_name same_name branch_name param_value is_token is_token_byte is_blank begins_blank is_line_break is_one_line is_host_byte is_scheme_byte is_closed is_open is_digits with_digit number_in number_below has before after onto_first is_host_name begins is_none_left is_host host_len then_read port_in is_port_start sent_at params_at headers_at is_scheme sip_scheme user_in behind_user sent_in params_text_in sip_behind sip_at other_of uri_behind uri_of trimmed_front trimmed_back trimmed first_word behind_word is_outside past_front past_word past_bracketed past_params in_string past is_part_end parts with_first all_read is_value_byte is_param_text param_in param_of behind_slash behind_version hop_in via_with via_in via_of vias_of enclosed unless_empty token_named is_display_byte named_in with_uri address_with address_in address_of addresses_of cseq_in cseq_of hops_of begins_break is_end end_of pieces_at start_line lines_behind behind_start header_lines continued all_continued joined is_version request_in request_behind request_of at_least_100 code_of status_in status_behind status_of is_status_line is_broken start_of header_named counted taken_as taken_once has_branch begins_well with_vias with_routes with_from with_to with_call_id with_cseq with_hops with_length with_field in_line taken named judged placed no_lists no_singles nothing_left all_judged peers_of head_of message_with is_method_of fits finished_with finished message_in message_of
refuses_spaces = refl

refuses_break_at_front : message_of (codes "\r\nM sip:h SIP/2.0\r\n\r\n") ≡ Err (record { at = 0; kind = 1 })
unfolding long_of long_name via_name route_name record_route_name max_forwards_name from_name to_name call_id_name cseq_name contact_name content_length_name content_type_name content_encoding_name subject_name supported_name same_name branch_name param_value is_token is_token_byte is_blank begins_blank is_line_break is_one_line is_host_byte is_scheme_byte is_closed is_open is_digits with_digit number_in number_below has before after onto_first is_host_name begins is_none_left is_host host_len then_read port_in is_port_start sent_at params_at headers_at is_scheme sip_scheme user_in behind_user sent_in params_text_in sip_behind sip_at other_of uri_behind uri_of trimmed_front trimmed_back trimmed first_word behind_word is_outside past_front past_word past_bracketed past_params in_string past is_part_end parts with_first all_read is_value_byte is_param_text param_in param_of behind_slash behind_version hop_in via_with via_in via_of vias_of enclosed unless_empty token_named is_display_byte named_in with_uri address_with address_in address_of addresses_of cseq_in cseq_of hops_of begins_break is_end end_of pieces_at start_line lines_behind behind_start header_lines continued all_continued joined is_version request_in request_behind request_of at_least_100 code_of status_in status_behind status_of is_status_line is_broken start_of header_named counted taken_as taken_once has_branch begins_well with_vias with_routes with_from with_to with_call_id with_cseq with_hops with_length with_field in_line taken named judged placed no_lists no_singles nothing_left all_judged peers_of head_of message_with is_method_of fits finished_with finished message_in message_of
refuses_break_at_front = refl

-- before each fault of a line
refuses_no_empty_line : message_of (codes "OPTIONS\r\n") ≡ Err (record { at = 9; kind = 1 })
unfolding long_of long_name via_name route_name record_route_name max_forwards_name from_name to_name call_id_name cseq_name contact_name content_length_name content_type_name content_encoding_name subject_name supported_name same_name branch_name param_value is_token is_token_byte is_blank begins_blank is_line_break is_one_line is_host_byte is_scheme_byte is_closed is_open is_digits with_digit number_in number_below has before after onto_first is_host_name begins is_none_left is_host host_len then_read port_in is_port_start sent_at params_at headers_at is_scheme sip_scheme user_in behind_user sent_in params_text_in sip_behind sip_at other_of uri_behind uri_of trimmed_front trimmed_back trimmed first_word behind_word is_outside past_front past_word past_bracketed past_params in_string past is_part_end parts with_first all_read is_value_byte is_param_text param_in param_of behind_slash behind_version hop_in via_with via_in via_of vias_of enclosed unless_empty token_named is_display_byte named_in with_uri address_with address_in address_of addresses_of cseq_in cseq_of hops_of begins_break is_end end_of pieces_at start_line lines_behind behind_start header_lines continued all_continued joined is_version request_in request_behind request_of at_least_100 code_of status_in status_behind status_of is_status_line is_broken start_of header_named counted taken_as taken_once has_branch begins_well with_vias with_routes with_from with_to with_call_id with_cseq with_hops with_length with_field in_line taken named judged placed no_lists no_singles nothing_left all_judged peers_of head_of message_with is_method_of fits finished_with finished message_in message_of
refuses_no_empty_line = refl

-- a reason is of one line
refuses_reason : message_of (codes "SIP/2.0 200 a\nb\r\n\r\n") ≡ Err (record { at = 0; kind = 1 })
unfolding long_of long_name via_name route_name record_route_name max_forwards_name from_name to_name call_id_name cseq_name contact_name content_length_name content_type_name content_encoding_name subject_name supported_name same_name branch_name param_value is_token is_token_byte is_blank begins_blank is_line_break is_one_line is_host_byte is_scheme_byte is_closed is_open is_digits with_digit number_in number_below has before after onto_first is_host_name begins is_none_left is_host host_len then_read port_in is_port_start sent_at params_at headers_at is_scheme sip_scheme user_in behind_user sent_in params_text_in sip_behind sip_at other_of uri_behind uri_of trimmed_front trimmed_back trimmed first_word behind_word is_outside past_front past_word past_bracketed past_params in_string past is_part_end parts with_first all_read is_value_byte is_param_text param_in param_of behind_slash behind_version hop_in via_with via_in via_of vias_of enclosed unless_empty token_named is_display_byte named_in with_uri address_with address_in address_of addresses_of cseq_in cseq_of hops_of begins_break is_end end_of pieces_at start_line lines_behind behind_start header_lines continued all_continued joined is_version request_in request_behind request_of at_least_100 code_of status_in status_behind status_of is_status_line is_broken start_of header_named counted taken_as taken_once has_branch begins_well with_vias with_routes with_from with_to with_call_id with_cseq with_hops with_length with_field in_line taken named judged placed no_lists no_singles nothing_left all_judged peers_of head_of message_with is_method_of fits finished_with finished message_in message_of
refuses_reason = refl

refuses_version : message_of (codes "M sip:h SIP/2.1\r\n\r\n") ≡ Err (record { at = 0; kind = 2 })
unfolding long_of long_name via_name route_name record_route_name max_forwards_name from_name to_name call_id_name cseq_name contact_name content_length_name content_type_name content_encoding_name subject_name supported_name same_name branch_name param_value is_token is_token_byte is_blank begins_blank is_line_break is_one_line is_host_byte is_scheme_byte is_closed is_open is_digits with_digit number_in number_below has before after onto_first is_host_name begins is_none_left is_host host_len then_read port_in is_port_start sent_at params_at headers_at is_scheme sip_scheme user_in behind_user sent_in params_text_in sip_behind sip_at other_of uri_behind uri_of trimmed_front trimmed_back trimmed first_word behind_word is_outside past_front past_word past_bracketed past_params in_string past is_part_end parts with_first all_read is_value_byte is_param_text param_in param_of behind_slash behind_version hop_in via_with via_in via_of vias_of enclosed unless_empty token_named is_display_byte named_in with_uri address_with address_in address_of addresses_of cseq_in cseq_of hops_of begins_break is_end end_of pieces_at start_line lines_behind behind_start header_lines continued all_continued joined is_version request_in request_behind request_of at_least_100 code_of status_in status_behind status_of is_status_line is_broken start_of header_named counted taken_as taken_once has_branch begins_well with_vias with_routes with_from with_to with_call_id with_cseq with_hops with_length with_field in_line taken named judged placed no_lists no_singles nothing_left all_judged peers_of head_of message_with is_method_of fits finished_with finished message_in message_of
refuses_version = refl

refuses_status_version : message_of (codes "sip/2.0 200 OK\r\n\r\n") ≡ Err (record { at = 0; kind = 2 })
unfolding long_of long_name via_name route_name record_route_name max_forwards_name from_name to_name call_id_name cseq_name contact_name content_length_name content_type_name content_encoding_name subject_name supported_name same_name branch_name param_value is_token is_token_byte is_blank begins_blank is_line_break is_one_line is_host_byte is_scheme_byte is_closed is_open is_digits with_digit number_in number_below has before after onto_first is_host_name begins is_none_left is_host host_len then_read port_in is_port_start sent_at params_at headers_at is_scheme sip_scheme user_in behind_user sent_in params_text_in sip_behind sip_at other_of uri_behind uri_of trimmed_front trimmed_back trimmed first_word behind_word is_outside past_front past_word past_bracketed past_params in_string past is_part_end parts with_first all_read is_value_byte is_param_text param_in param_of behind_slash behind_version hop_in via_with via_in via_of vias_of enclosed unless_empty token_named is_display_byte named_in with_uri address_with address_in address_of addresses_of cseq_in cseq_of hops_of begins_break is_end end_of pieces_at start_line lines_behind behind_start header_lines continued all_continued joined is_version request_in request_behind request_of at_least_100 code_of status_in status_behind status_of is_status_line is_broken start_of header_named counted taken_as taken_once has_branch begins_well with_vias with_routes with_from with_to with_call_id with_cseq with_hops with_length with_field in_line taken named judged placed no_lists no_singles nothing_left all_judged peers_of head_of message_with is_method_of fits finished_with finished message_in message_of
refuses_status_version = refl

refuses_method : message_of (codes "M, sip:h SIP/2.0\r\n\r\n") ≡ Err (record { at = 0; kind = 3 })
unfolding long_of long_name via_name route_name record_route_name max_forwards_name from_name to_name call_id_name cseq_name contact_name content_length_name content_type_name content_encoding_name subject_name supported_name same_name branch_name param_value is_token is_token_byte is_blank begins_blank is_line_break is_one_line is_host_byte is_scheme_byte is_closed is_open is_digits with_digit number_in number_below has before after onto_first is_host_name begins is_none_left is_host host_len then_read port_in is_port_start sent_at params_at headers_at is_scheme sip_scheme user_in behind_user sent_in params_text_in sip_behind sip_at other_of uri_behind uri_of trimmed_front trimmed_back trimmed first_word behind_word is_outside past_front past_word past_bracketed past_params in_string past is_part_end parts with_first all_read is_value_byte is_param_text param_in param_of behind_slash behind_version hop_in via_with via_in via_of vias_of enclosed unless_empty token_named is_display_byte named_in with_uri address_with address_in address_of addresses_of cseq_in cseq_of hops_of begins_break is_end end_of pieces_at start_line lines_behind behind_start header_lines continued all_continued joined is_version request_in request_behind request_of at_least_100 code_of status_in status_behind status_of is_status_line is_broken start_of header_named counted taken_as taken_once has_branch begins_well with_vias with_routes with_from with_to with_call_id with_cseq with_hops with_length with_field in_line taken named judged placed no_lists no_singles nothing_left all_judged peers_of head_of message_with is_method_of fits finished_with finished message_in message_of
refuses_method = refl

refuses_uri : message_of (codes "M h SIP/2.0\r\n\r\n") ≡ Err (record { at = 0; kind = 4 })
unfolding long_of long_name via_name route_name record_route_name max_forwards_name from_name to_name call_id_name cseq_name contact_name content_length_name content_type_name content_encoding_name subject_name supported_name same_name branch_name param_value is_token is_token_byte is_blank begins_blank is_line_break is_one_line is_host_byte is_scheme_byte is_closed is_open is_digits with_digit number_in number_below has before after onto_first is_host_name begins is_none_left is_host host_len then_read port_in is_port_start sent_at params_at headers_at is_scheme sip_scheme user_in behind_user sent_in params_text_in sip_behind sip_at other_of uri_behind uri_of trimmed_front trimmed_back trimmed first_word behind_word is_outside past_front past_word past_bracketed past_params in_string past is_part_end parts with_first all_read is_value_byte is_param_text param_in param_of behind_slash behind_version hop_in via_with via_in via_of vias_of enclosed unless_empty token_named is_display_byte named_in with_uri address_with address_in address_of addresses_of cseq_in cseq_of hops_of begins_break is_end end_of pieces_at start_line lines_behind behind_start header_lines continued all_continued joined is_version request_in request_behind request_of at_least_100 code_of status_in status_behind status_of is_status_line is_broken start_of header_named counted taken_as taken_once has_branch begins_well with_vias with_routes with_from with_to with_call_id with_cseq with_hops with_length with_field in_line taken named judged placed no_lists no_singles nothing_left all_judged peers_of head_of message_with is_method_of fits finished_with finished message_in message_of
refuses_uri = refl

refuses_code : message_of (codes "SIP/2.0 099 x\r\n\r\n") ≡ Err (record { at = 0; kind = 5 })
unfolding long_of long_name via_name route_name record_route_name max_forwards_name from_name to_name call_id_name cseq_name contact_name content_length_name content_type_name content_encoding_name subject_name supported_name same_name branch_name param_value is_token is_token_byte is_blank begins_blank is_line_break is_one_line is_host_byte is_scheme_byte is_closed is_open is_digits with_digit number_in number_below has before after onto_first is_host_name begins is_none_left is_host host_len then_read port_in is_port_start sent_at params_at headers_at is_scheme sip_scheme user_in behind_user sent_in params_text_in sip_behind sip_at other_of uri_behind uri_of trimmed_front trimmed_back trimmed first_word behind_word is_outside past_front past_word past_bracketed past_params in_string past is_part_end parts with_first all_read is_value_byte is_param_text param_in param_of behind_slash behind_version hop_in via_with via_in via_of vias_of enclosed unless_empty token_named is_display_byte named_in with_uri address_with address_in address_of addresses_of cseq_in cseq_of hops_of begins_break is_end end_of pieces_at start_line lines_behind behind_start header_lines continued all_continued joined is_version request_in request_behind request_of at_least_100 code_of status_in status_behind status_of is_status_line is_broken start_of header_named counted taken_as taken_once has_branch begins_well with_vias with_routes with_from with_to with_call_id with_cseq with_hops with_length with_field in_line taken named judged placed no_lists no_singles nothing_left all_judged peers_of head_of message_with is_method_of fits finished_with finished message_in message_of
refuses_code = refl

-- a blank behind the start line begins a line of its own
refuses_name : message_of (codes "M sip:h SIP/2.0\r\n x: y\r\n\r\n") ≡ Err (record { at = 17; kind = 6 })
unfolding long_of long_name via_name route_name record_route_name max_forwards_name from_name to_name call_id_name cseq_name contact_name content_length_name content_type_name content_encoding_name subject_name supported_name same_name branch_name param_value is_token is_token_byte is_blank begins_blank is_line_break is_one_line is_host_byte is_scheme_byte is_closed is_open is_digits with_digit number_in number_below has before after onto_first is_host_name begins is_none_left is_host host_len then_read port_in is_port_start sent_at params_at headers_at is_scheme sip_scheme user_in behind_user sent_in params_text_in sip_behind sip_at other_of uri_behind uri_of trimmed_front trimmed_back trimmed first_word behind_word is_outside past_front past_word past_bracketed past_params in_string past is_part_end parts with_first all_read is_value_byte is_param_text param_in param_of behind_slash behind_version hop_in via_with via_in via_of vias_of enclosed unless_empty token_named is_display_byte named_in with_uri address_with address_in address_of addresses_of cseq_in cseq_of hops_of begins_break is_end end_of pieces_at start_line lines_behind behind_start header_lines continued all_continued joined is_version request_in request_behind request_of at_least_100 code_of status_in status_behind status_of is_status_line is_broken start_of header_named counted taken_as taken_once has_branch begins_well with_vias with_routes with_from with_to with_call_id with_cseq with_hops with_length with_field in_line taken named judged placed no_lists no_singles nothing_left all_judged peers_of head_of message_with is_method_of fits finished_with finished message_in message_of
refuses_name = refl

refuses_missing : message_of (codes "M sip:h SIP/2.0\r\n\r\n") ≡ Err (record { at = 17; kind = 7 })
unfolding long_of long_name via_name route_name record_route_name max_forwards_name from_name to_name call_id_name cseq_name contact_name content_length_name content_type_name content_encoding_name subject_name supported_name same_name branch_name param_value is_token is_token_byte is_blank begins_blank is_line_break is_one_line is_host_byte is_scheme_byte is_closed is_open is_digits with_digit number_in number_below has before after onto_first is_host_name begins is_none_left is_host host_len then_read port_in is_port_start sent_at params_at headers_at is_scheme sip_scheme user_in behind_user sent_in params_text_in sip_behind sip_at other_of uri_behind uri_of trimmed_front trimmed_back trimmed first_word behind_word is_outside past_front past_word past_bracketed past_params in_string past is_part_end parts with_first all_read is_value_byte is_param_text param_in param_of behind_slash behind_version hop_in via_with via_in via_of vias_of enclosed unless_empty token_named is_display_byte named_in with_uri address_with address_in address_of addresses_of cseq_in cseq_of hops_of begins_break is_end end_of pieces_at start_line lines_behind behind_start header_lines continued all_continued joined is_version request_in request_behind request_of at_least_100 code_of status_in status_behind status_of is_status_line is_broken start_of header_named counted taken_as taken_once has_branch begins_well with_vias with_routes with_from with_to with_call_id with_cseq with_hops with_length with_field in_line taken named judged placed no_lists no_singles nothing_left all_judged peers_of head_of message_with is_method_of fits finished_with finished message_in message_of
refuses_missing = refl

refuses_double : message_of (codes "M sip:h SIP/2.0\r\ni: a\r\n b\r\nCall-ID: c\r\n\r\n") ≡ Err (record { at = 27; kind = 8 })
unfolding long_of long_name via_name route_name record_route_name max_forwards_name from_name to_name call_id_name cseq_name contact_name content_length_name content_type_name content_encoding_name subject_name supported_name same_name branch_name param_value is_token is_token_byte is_blank begins_blank is_line_break is_one_line is_host_byte is_scheme_byte is_closed is_open is_digits with_digit number_in number_below has before after onto_first is_host_name begins is_none_left is_host host_len then_read port_in is_port_start sent_at params_at headers_at is_scheme sip_scheme user_in behind_user sent_in params_text_in sip_behind sip_at other_of uri_behind uri_of trimmed_front trimmed_back trimmed first_word behind_word is_outside past_front past_word past_bracketed past_params in_string past is_part_end parts with_first all_read is_value_byte is_param_text param_in param_of behind_slash behind_version hop_in via_with via_in via_of vias_of enclosed unless_empty token_named is_display_byte named_in with_uri address_with address_in address_of addresses_of cseq_in cseq_of hops_of begins_break is_end end_of pieces_at start_line lines_behind behind_start header_lines continued all_continued joined is_version request_in request_behind request_of at_least_100 code_of status_in status_behind status_of is_status_line is_broken start_of header_named counted taken_as taken_once has_branch begins_well with_vias with_routes with_from with_to with_call_id with_cseq with_hops with_length with_field in_line taken named judged placed no_lists no_singles nothing_left all_judged peers_of head_of message_with is_method_of fits finished_with finished message_in message_of
refuses_double = refl

refuses_sign : message_of (codes "M sip:h SIP/2.0\r\nl: +1\r\n\r\n") ≡ Err (record { at = 17; kind = 9 })
unfolding long_of long_name via_name route_name record_route_name max_forwards_name from_name to_name call_id_name cseq_name contact_name content_length_name content_type_name content_encoding_name subject_name supported_name same_name branch_name param_value is_token is_token_byte is_blank begins_blank is_line_break is_one_line is_host_byte is_scheme_byte is_closed is_open is_digits with_digit number_in number_below has before after onto_first is_host_name begins is_none_left is_host host_len then_read port_in is_port_start sent_at params_at headers_at is_scheme sip_scheme user_in behind_user sent_in params_text_in sip_behind sip_at other_of uri_behind uri_of trimmed_front trimmed_back trimmed first_word behind_word is_outside past_front past_word past_bracketed past_params in_string past is_part_end parts with_first all_read is_value_byte is_param_text param_in param_of behind_slash behind_version hop_in via_with via_in via_of vias_of enclosed unless_empty token_named is_display_byte named_in with_uri address_with address_in address_of addresses_of cseq_in cseq_of hops_of begins_break is_end end_of pieces_at start_line lines_behind behind_start header_lines continued all_continued joined is_version request_in request_behind request_of at_least_100 code_of status_in status_behind status_of is_status_line is_broken start_of header_named counted taken_as taken_once has_branch begins_well with_vias with_routes with_from with_to with_call_id with_cseq with_hops with_length with_field in_line taken named judged placed no_lists no_singles nothing_left all_judged peers_of head_of message_with is_method_of fits finished_with finished message_in message_of
refuses_sign = refl

refuses_no_branch : message_of (codes "M sip:h SIP/2.0\r\nv: SIP/2.0/TCP h;branch\r\n\r\n") ≡ Err (record { at = 17; kind = 9 })
unfolding long_of long_name via_name route_name record_route_name max_forwards_name from_name to_name call_id_name cseq_name contact_name content_length_name content_type_name content_encoding_name subject_name supported_name same_name branch_name param_value is_token is_token_byte is_blank begins_blank is_line_break is_one_line is_host_byte is_scheme_byte is_closed is_open is_digits with_digit number_in number_below has before after onto_first is_host_name begins is_none_left is_host host_len then_read port_in is_port_start sent_at params_at headers_at is_scheme sip_scheme user_in behind_user sent_in params_text_in sip_behind sip_at other_of uri_behind uri_of trimmed_front trimmed_back trimmed first_word behind_word is_outside past_front past_word past_bracketed past_params in_string past is_part_end parts with_first all_read is_value_byte is_param_text param_in param_of behind_slash behind_version hop_in via_with via_in via_of vias_of enclosed unless_empty token_named is_display_byte named_in with_uri address_with address_in address_of addresses_of cseq_in cseq_of hops_of begins_break is_end end_of pieces_at start_line lines_behind behind_start header_lines continued all_continued joined is_version request_in request_behind request_of at_least_100 code_of status_in status_behind status_of is_status_line is_broken start_of header_named counted taken_as taken_once has_branch begins_well with_vias with_routes with_from with_to with_call_id with_cseq with_hops with_length with_field in_line taken named judged placed no_lists no_singles nothing_left all_judged peers_of head_of message_with is_method_of fits finished_with finished message_in message_of
refuses_no_branch = refl

refuses_other_method : message_of (codes "M sip:h SIP/2.0\r\nv:SIP/2.0/TCP h;branch=b\r\nf:sip:a\r\nt:sip:b\r\ni:c\r\nCSeq:1 N\r\n\r\n") ≡ Err (record { at = 76; kind = 10 })
unfolding long_of long_name via_name route_name record_route_name max_forwards_name from_name to_name call_id_name cseq_name contact_name content_length_name content_type_name content_encoding_name subject_name supported_name same_name branch_name param_value is_token is_token_byte is_blank begins_blank is_line_break is_one_line is_host_byte is_scheme_byte is_closed is_open is_digits with_digit number_in number_below has before after onto_first is_host_name begins is_none_left is_host host_len then_read port_in is_port_start sent_at params_at headers_at is_scheme sip_scheme user_in behind_user sent_in params_text_in sip_behind sip_at other_of uri_behind uri_of trimmed_front trimmed_back trimmed first_word behind_word is_outside past_front past_word past_bracketed past_params in_string past is_part_end parts with_first all_read is_value_byte is_param_text param_in param_of behind_slash behind_version hop_in via_with via_in via_of vias_of enclosed unless_empty token_named is_display_byte named_in with_uri address_with address_in address_of addresses_of cseq_in cseq_of hops_of begins_break is_end end_of pieces_at start_line lines_behind behind_start header_lines continued all_continued joined is_version request_in request_behind request_of at_least_100 code_of status_in status_behind status_of is_status_line is_broken start_of header_named counted taken_as taken_once has_branch begins_well with_vias with_routes with_from with_to with_call_id with_cseq with_hops with_length with_field in_line taken named judged placed no_lists no_singles nothing_left all_judged peers_of head_of message_with is_method_of fits finished_with finished message_in message_of
refuses_other_method = refl

-- the 129th value
refuses_too_many : message_of (codes "M sip:h SIP/2.0\r\nRoute:" ++ flat_map codes (replicate 128 "a:,") ++ codes "a:\r\n\r\n") ≡ Err (record { at = 17; kind = 11 })
unfolding long_of long_name via_name route_name record_route_name max_forwards_name from_name to_name call_id_name cseq_name contact_name content_length_name content_type_name content_encoding_name subject_name supported_name same_name branch_name param_value is_token is_token_byte is_blank begins_blank is_line_break is_one_line is_host_byte is_scheme_byte is_closed is_open is_digits with_digit number_in number_below has before after onto_first is_host_name begins is_none_left is_host host_len then_read port_in is_port_start sent_at params_at headers_at is_scheme sip_scheme user_in behind_user sent_in params_text_in sip_behind sip_at other_of uri_behind uri_of trimmed_front trimmed_back trimmed first_word behind_word is_outside past_front past_word past_bracketed past_params in_string past is_part_end parts with_first all_read is_value_byte is_param_text param_in param_of behind_slash behind_version hop_in via_with via_in via_of vias_of enclosed unless_empty token_named is_display_byte named_in with_uri address_with address_in address_of addresses_of cseq_in cseq_of hops_of begins_break is_end end_of pieces_at start_line lines_behind behind_start header_lines continued all_continued joined is_version request_in request_behind request_of at_least_100 code_of status_in status_behind status_of is_status_line is_broken start_of header_named counted taken_as taken_once has_branch begins_well with_vias with_routes with_from with_to with_call_id with_cseq with_hops with_length with_field in_line taken named judged placed no_lists no_singles nothing_left all_judged peers_of head_of message_with is_method_of fits finished_with finished message_in message_of
refuses_too_many = refl

-- a missing Content-Length is 0
refuses_length : message_of (codes "M sip:h SIP/2.0\r\nv:SIP/2.0/TCP h;branch=b\r\nf:sip:a\r\nt:sip:b\r\ni:c\r\nCSeq:1 M\r\n\r\nx") ≡ Err (record { at = 76; kind = 12 })
unfolding long_of long_name via_name route_name record_route_name max_forwards_name from_name to_name call_id_name cseq_name contact_name content_length_name content_type_name content_encoding_name subject_name supported_name same_name branch_name param_value is_token is_token_byte is_blank begins_blank is_line_break is_one_line is_host_byte is_scheme_byte is_closed is_open is_digits with_digit number_in number_below has before after onto_first is_host_name begins is_none_left is_host host_len then_read port_in is_port_start sent_at params_at headers_at is_scheme sip_scheme user_in behind_user sent_in params_text_in sip_behind sip_at other_of uri_behind uri_of trimmed_front trimmed_back trimmed first_word behind_word is_outside past_front past_word past_bracketed past_params in_string past is_part_end parts with_first all_read is_value_byte is_param_text param_in param_of behind_slash behind_version hop_in via_with via_in via_of vias_of enclosed unless_empty token_named is_display_byte named_in with_uri address_with address_in address_of addresses_of cseq_in cseq_of hops_of begins_break is_end end_of pieces_at start_line lines_behind behind_start header_lines continued all_continued joined is_version request_in request_behind request_of at_least_100 code_of status_in status_behind status_of is_status_line is_broken start_of header_named counted taken_as taken_once has_branch begins_well with_vias with_routes with_from with_to with_call_id with_cseq with_hops with_length with_field in_line taken named judged placed no_lists no_singles nothing_left all_judged peers_of head_of message_with is_method_of fits finished_with finished message_in message_of
refuses_length = refl
