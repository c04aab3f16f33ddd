-- Worked cases: what the bytes of a stream begin with.
use Rattle.std.proofs.Common.{◌≡◌, Some, None, [], ◌∷◌, ◌++◌, refl}
use Rattle.std.specs.Prelude.{codes}
use Rattle.sc_value.specs.declared.parts.Uri.{Uri}
use Rattle.sc_value.specs.declared.parts.Uri.TheVariants.{Sip}
use Rattle.sc_value.specs.declared.message.Message.TheVariants as messages
use Rattle.sc_syntax.specs.declared.front.Front.TheVariants.{Open, Whole, Bad, Long}
use Rattle.sc_tokens.specs.HeaderNames.{long_of, long_name, via_name, route_name, record_route_name, max_forwards_name, from_name, to_name, call_id_name, cseq_name, contact_name, content_length_name, content_type_name, content_encoding_name, subject_name, supported_name}
use Rattle.sc_tokens.specs.Names.{same_name}
use Rattle.sc_value.specs.Params.{branch_name, param_value}
use Rattle.sc_tokens.specs.Tokens.{is_token, is_token_byte, is_blank, begins_blank, is_line_break, is_one_line}
use Rattle.sc_tokens.specs.Bytes.{Bytes, is_host_byte, is_scheme_byte, is_closed, is_open}
use Rattle.sc_tokens.specs.Numbers.{is_digits, with_digit, number_in, number_below}
use Rattle.sc_tokens.specs.Cuts.{has, before, after, onto_first}
use Rattle.sc_tokens.specs.Hosts.{is_host_name, begins, is_none_left, is_host, host_len}
use Rattle.sc_syntax.specs.UriParts.{then_read, port_in, is_port_start, sent_at, params_at, headers_at}
use Rattle.sc_tokens.specs.UriTokens.{is_scheme, sip_scheme}
use Rattle.sc_syntax.specs.Uris.{user_in, behind_user, sent_in, params_text_in, sip_behind, sip_at, other_of, uri_behind, uri_of}
use Rattle.sc_tokens.specs.Blanks.{trimmed_front, trimmed_back, without_blanks as trimmed, first_word, behind_word}
use Rattle.sc_syntax.specs.Scanning.{is_outside, past_front, past_word, past_bracketed, past_params, in_string, past, is_part_end, parts, with_first, all_read}
use Rattle.sc_tokens.specs.HeaderTokens.{is_value_byte, is_param_text, is_display_byte}
use Rattle.sc_syntax.specs.Parameters.{param_in, param_of}
use Rattle.sc_syntax.specs.Vias.{behind_slash, behind_version, hop_in, via_with, via_in, via_of, vias_of}
use Rattle.sc_syntax.specs.Addresses.{uri_in_brackets as enclosed, unless_empty, token_named, named_in, with_uri, address_with, address_in, address_of, addresses_of}
use Rattle.sc_syntax.specs.Sequences.{cseq_in, cseq_of, hops_of}
use Rattle.sc_syntax.specs.Lines.{begins_break, is_end, end_of, pieces_at, start_line, lines_behind, behind_start, header_lines}
use Rattle.sc_syntax.specs.Folds.{with_piece as continued, all_continued, text_without_folds as joined}
use Rattle.sc_syntax.specs.StartLines.{is_version, request_in, request_behind, request_of, at_least_100, code_of, status_in, status_behind, status_of, is_status_line, is_broken, start_of}
use Rattle.sc_syntax.specs.Judging.{header_named, with_values as counted, taken_as, taken_once, has_branch, begins_well, with_vias, with_routes, with_from, with_to, with_call_id, with_cseq, with_hops, with_length, with_field, in_line, with_header as taken, with_named_header as named, left_with_line as judged}
use Rattle.sc_syntax.specs.Messages.{fault_at_place as placed, no_lists, no_singles, nothing_left, all_judged, peers_of, head_of, message_with, is_method_of, fits, finished_with, message_from_parts as finished, message_in, message_of}
use Rattle.sc_syntax.specs.Fronts.{field_of, values_of, only, once, with_branch, vias_in, answerable_with, answerable_in, answerable_of, behind_breaks, body_len, bad_front as bad, whole, front_of_length as sized, front_after_head as headed, front_of}

unfoldable host : Bytes → Uri
host name = Sip (record { user = None; host = name; port = None; params = []; headers = None })

-- a request up to its CSeq
unfoldable request : Bytes
request = codes "M sip:h SIP/2.0\r\nv:SIP/2.0/TCP h;branch=b\r\nf:sip:a\r\nt:sip:b\r\ni:c\r\nCSeq:1 "

-- a lone CR stays
skips_breaks : behind_breaks (codes "\r\n\r\n\rM") ≡ codes "\rM"
unfolding long_of long_name via_name route_name record_route_name max_forwards_name from_name to_name call_id_name cseq_name contact_name content_length_name content_type_name content_encoding_name subject_name supported_name same_name branch_name param_value is_token is_token_byte is_blank begins_blank is_line_break is_one_line is_host_byte is_scheme_byte is_closed is_open is_digits with_digit number_in number_below has before after onto_first is_host_name begins is_none_left is_host host_len then_read port_in is_port_start sent_at params_at headers_at is_scheme sip_scheme user_in behind_user sent_in params_text_in sip_behind sip_at other_of uri_behind uri_of trimmed_front trimmed_back trimmed first_word behind_word is_outside past_front past_word past_bracketed past_params in_string past is_part_end parts with_first all_read is_value_byte is_param_text param_in param_of behind_slash behind_version hop_in via_with via_in via_of vias_of enclosed unless_empty token_named is_display_byte named_in with_uri address_with address_in address_of addresses_of cseq_in cseq_of hops_of begins_break is_end end_of pieces_at start_line lines_behind behind_start header_lines continued all_continued joined is_version request_in request_behind request_of at_least_100 code_of status_in status_behind status_of is_status_line is_broken start_of header_named counted taken_as taken_once has_branch begins_well with_vias with_routes with_from with_to with_call_id with_cseq with_hops with_length with_field in_line taken named judged placed no_lists no_singles nothing_left all_judged peers_of head_of message_with is_method_of fits finished_with finished message_in message_of field_of values_of only once with_branch vias_in answerable_with answerable_in answerable_of behind_breaks body_len bad whole sized headed front_of host request
skips_breaks = refl

open_head : front_of (codes "M sip:h SIP/2.0\r\n") ≡ Open
unfolding long_of long_name via_name route_name record_route_name max_forwards_name from_name to_name call_id_name cseq_name contact_name content_length_name content_type_name content_encoding_name subject_name supported_name same_name branch_name param_value is_token is_token_byte is_blank begins_blank is_line_break is_one_line is_host_byte is_scheme_byte is_closed is_open is_digits with_digit number_in number_below has before after onto_first is_host_name begins is_none_left is_host host_len then_read port_in is_port_start sent_at params_at headers_at is_scheme sip_scheme user_in behind_user sent_in params_text_in sip_behind sip_at other_of uri_behind uri_of trimmed_front trimmed_back trimmed first_word behind_word is_outside past_front past_word past_bracketed past_params in_string past is_part_end parts with_first all_read is_value_byte is_param_text param_in param_of behind_slash behind_version hop_in via_with via_in via_of vias_of enclosed unless_empty token_named is_display_byte named_in with_uri address_with address_in address_of addresses_of cseq_in cseq_of hops_of begins_break is_end end_of pieces_at start_line lines_behind behind_start header_lines continued all_continued joined is_version request_in request_behind request_of at_least_100 code_of status_in status_behind status_of is_status_line is_broken start_of header_named counted taken_as taken_once has_branch begins_well with_vias with_routes with_from with_to with_call_id with_cseq with_hops with_length with_field in_line taken named judged placed no_lists no_singles nothing_left all_judged peers_of head_of message_with is_method_of fits finished_with finished message_in message_of field_of values_of only once with_branch vias_in answerable_with answerable_in answerable_of behind_breaks body_len bad whole sized headed front_of host request
open_head = refl

open_body : front_of (request ++ codes "M\r\nl:2\r\n\r\nx") ≡ Open
unfolding long_of long_name via_name route_name record_route_name max_forwards_name from_name to_name call_id_name cseq_name contact_name content_length_name content_type_name content_encoding_name subject_name supported_name same_name branch_name param_value is_token is_token_byte is_blank begins_blank is_line_break is_one_line is_host_byte is_scheme_byte is_closed is_open is_digits with_digit number_in number_below has before after onto_first is_host_name begins is_none_left is_host host_len then_read port_in is_port_start sent_at params_at headers_at is_scheme sip_scheme user_in behind_user sent_in params_text_in sip_behind sip_at other_of uri_behind uri_of trimmed_front trimmed_back trimmed first_word behind_word is_outside past_front past_word past_bracketed past_params in_string past is_part_end parts with_first all_read is_value_byte is_param_text param_in param_of behind_slash behind_version hop_in via_with via_in via_of vias_of enclosed unless_empty token_named is_display_byte named_in with_uri address_with address_in address_of addresses_of cseq_in cseq_of hops_of begins_break is_end end_of pieces_at start_line lines_behind behind_start header_lines continued all_continued joined is_version request_in request_behind request_of at_least_100 code_of status_in status_behind status_of is_status_line is_broken start_of header_named counted taken_as taken_once has_branch begins_well with_vias with_routes with_from with_to with_call_id with_cseq with_hops with_length with_field in_line taken named judged placed no_lists no_singles nothing_left all_judged peers_of head_of message_with is_method_of fits finished_with finished message_in message_of field_of values_of only once with_branch vias_in answerable_with answerable_in answerable_of behind_breaks body_len bad whole sized headed front_of host request
open_body = refl

-- what follows it isn't looked at
reads_whole : front_of (request ++ codes "M\r\nl:1\r\n\r\nxM sip") ≡ Whole 84 (messages.Request (record { method = codes "M"; uri = host (codes "h"); hops = 70; head = record { via = record { transport = codes "TCP"; host = codes "h"; port = None; params = record { name = codes "branch"; value = Some (codes "b") } ∷ [] } ∷ []; route = []; record_route = []; from = record { display = None; uri = host (codes "a"); params = [] }; to = record { display = None; uri = host (codes "b"); params = [] }; call_id = codes "c"; cseq = record { number = 1; method = codes "M" }; contact = []; others = []; body = codes "x" } }))
unfolding long_of long_name via_name route_name record_route_name max_forwards_name from_name to_name call_id_name cseq_name contact_name content_length_name content_type_name content_encoding_name subject_name supported_name same_name branch_name param_value is_token is_token_byte is_blank begins_blank is_line_break is_one_line is_host_byte is_scheme_byte is_closed is_open is_digits with_digit number_in number_below has before after onto_first is_host_name begins is_none_left is_host host_len then_read port_in is_port_start sent_at params_at headers_at is_scheme sip_scheme user_in behind_user sent_in params_text_in sip_behind sip_at other_of uri_behind uri_of trimmed_front trimmed_back trimmed first_word behind_word is_outside past_front past_word past_bracketed past_params in_string past is_part_end parts with_first all_read is_value_byte is_param_text param_in param_of behind_slash behind_version hop_in via_with via_in via_of vias_of enclosed unless_empty token_named is_display_byte named_in with_uri address_with address_in address_of addresses_of cseq_in cseq_of hops_of begins_break is_end end_of pieces_at start_line lines_behind behind_start header_lines continued all_continued joined is_version request_in request_behind request_of at_least_100 code_of status_in status_behind status_of is_status_line is_broken start_of header_named counted taken_as taken_once has_branch begins_well with_vias with_routes with_from with_to with_call_id with_cseq with_hops with_length with_field in_line taken named judged placed no_lists no_singles nothing_left all_judged peers_of head_of message_with is_method_of fits finished_with finished message_in message_of field_of values_of only once with_branch vias_in answerable_with answerable_in answerable_of behind_breaks body_len bad whole sized headed front_of host request
reads_whole = refl

bad_method : front_of (request ++ codes "N\r\n\r\n") ≡ Bad 76 10 (Some (record { via = record { transport = codes "TCP"; host = codes "h"; port = None; params = record { name = codes "branch"; value = Some (codes "b") } ∷ [] } ∷ []; from = record { display = None; uri = host (codes "a"); params = [] }; to = record { display = None; uri = host (codes "b"); params = [] }; call_id = codes "c"; cseq = record { number = 1; method = codes "N" } }))
unfolding long_of long_name via_name route_name record_route_name max_forwards_name from_name to_name call_id_name cseq_name contact_name content_length_name content_type_name content_encoding_name subject_name supported_name same_name branch_name param_value is_token is_token_byte is_blank begins_blank is_line_break is_one_line is_host_byte is_scheme_byte is_closed is_open is_digits with_digit number_in number_below has before after onto_first is_host_name begins is_none_left is_host host_len then_read port_in is_port_start sent_at params_at headers_at is_scheme sip_scheme user_in behind_user sent_in params_text_in sip_behind sip_at other_of uri_behind uri_of trimmed_front trimmed_back trimmed first_word behind_word is_outside past_front past_word past_bracketed past_params in_string past is_part_end parts with_first all_read is_value_byte is_param_text param_in param_of behind_slash behind_version hop_in via_with via_in via_of vias_of enclosed unless_empty token_named is_display_byte named_in with_uri address_with address_in address_of addresses_of cseq_in cseq_of hops_of begins_break is_end end_of pieces_at start_line lines_behind behind_start header_lines continued all_continued joined is_version request_in request_behind request_of at_least_100 code_of status_in status_behind status_of is_status_line is_broken start_of header_named counted taken_as taken_once has_branch begins_well with_vias with_routes with_from with_to with_call_id with_cseq with_hops with_length with_field in_line taken named judged placed no_lists no_singles nothing_left all_judged peers_of head_of message_with is_method_of fits finished_with finished message_in message_of field_of values_of only once with_branch vias_in answerable_with answerable_in answerable_of behind_breaks body_len bad whole sized headed front_of host request
bad_method = refl

-- the five headers are looked for behind the fault too, and past lines without a name
bad_line : front_of (codes "M sip:h SIP/2.0\r\n x\r\nv:SIP/2.0/TCP h;branch=b\r\nf:sip:a\r\nt:sip:b\r\ni:c\r\nCSeq:1 M\r\nl:9\r\n\r\n") ≡ Bad 17 6 (Some (record { via = record { transport = codes "TCP"; host = codes "h"; port = None; params = record { name = codes "branch"; value = Some (codes "b") } ∷ [] } ∷ []; from = record { display = None; uri = host (codes "a"); params = [] }; to = record { display = None; uri = host (codes "b"); params = [] }; call_id = codes "c"; cseq = record { number = 1; method = codes "M" } }))
unfolding long_of long_name via_name route_name record_route_name max_forwards_name from_name to_name call_id_name cseq_name contact_name content_length_name content_type_name content_encoding_name subject_name supported_name same_name branch_name param_value is_token is_token_byte is_blank begins_blank is_line_break is_one_line is_host_byte is_scheme_byte is_closed is_open is_digits with_digit number_in number_below has before after onto_first is_host_name begins is_none_left is_host host_len then_read port_in is_port_start sent_at params_at headers_at is_scheme sip_scheme user_in behind_user sent_in params_text_in sip_behind sip_at other_of uri_behind uri_of trimmed_front trimmed_back trimmed first_word behind_word is_outside past_front past_word past_bracketed past_params in_string past is_part_end parts with_first all_read is_value_byte is_param_text param_in param_of behind_slash behind_version hop_in via_with via_in via_of vias_of enclosed unless_empty token_named is_display_byte named_in with_uri address_with address_in address_of addresses_of cseq_in cseq_of hops_of begins_break is_end end_of pieces_at start_line lines_behind behind_start header_lines continued all_continued joined is_version request_in request_behind request_of at_least_100 code_of status_in status_behind status_of is_status_line is_broken start_of header_named counted taken_as taken_once has_branch begins_well with_vias with_routes with_from with_to with_call_id with_cseq with_hops with_length with_field in_line taken named judged placed no_lists no_singles nothing_left all_judged peers_of head_of message_with is_method_of fits finished_with finished message_in message_of field_of values_of only once with_branch vias_in answerable_with answerable_in answerable_of behind_breaks body_len bad whole sized headed front_of host request
bad_line = refl

-- a doubled one is none
bad_double : front_of (request ++ codes "M\r\ni:d\r\n\r\n") ≡ Bad 76 8 None
unfolding long_of long_name via_name route_name record_route_name max_forwards_name from_name to_name call_id_name cseq_name contact_name content_length_name content_type_name content_encoding_name subject_name supported_name same_name branch_name param_value is_token is_token_byte is_blank begins_blank is_line_break is_one_line is_host_byte is_scheme_byte is_closed is_open is_digits with_digit number_in number_below has before after onto_first is_host_name begins is_none_left is_host host_len then_read port_in is_port_start sent_at params_at headers_at is_scheme sip_scheme user_in behind_user sent_in params_text_in sip_behind sip_at other_of uri_behind uri_of trimmed_front trimmed_back trimmed first_word behind_word is_outside past_front past_word past_bracketed past_params in_string past is_part_end parts with_first all_read is_value_byte is_param_text param_in param_of behind_slash behind_version hop_in via_with via_in via_of vias_of enclosed unless_empty token_named is_display_byte named_in with_uri address_with address_in address_of addresses_of cseq_in cseq_of hops_of begins_break is_end end_of pieces_at start_line lines_behind behind_start header_lines continued all_continued joined is_version request_in request_behind request_of at_least_100 code_of status_in status_behind status_of is_status_line is_broken start_of header_named counted taken_as taken_once has_branch begins_well with_vias with_routes with_from with_to with_call_id with_cseq with_hops with_length with_field in_line taken named judged placed no_lists no_singles nothing_left all_judged peers_of head_of message_with is_method_of fits finished_with finished message_in message_of field_of values_of only once with_branch vias_in answerable_with answerable_in answerable_of behind_breaks body_len bad whole sized headed front_of host request
bad_double = refl

bad_start : front_of (codes "M\r\n\r\n") ≡ Bad 0 1 None
unfolding long_of long_name via_name route_name record_route_name max_forwards_name from_name to_name call_id_name cseq_name contact_name content_length_name content_type_name content_encoding_name subject_name supported_name same_name branch_name param_value is_token is_token_byte is_blank begins_blank is_line_break is_one_line is_host_byte is_scheme_byte is_closed is_open is_digits with_digit number_in number_below has before after onto_first is_host_name begins is_none_left is_host host_len then_read port_in is_port_start sent_at params_at headers_at is_scheme sip_scheme user_in behind_user sent_in params_text_in sip_behind sip_at other_of uri_behind uri_of trimmed_front trimmed_back trimmed first_word behind_word is_outside past_front past_word past_bracketed past_params in_string past is_part_end parts with_first all_read is_value_byte is_param_text param_in param_of behind_slash behind_version hop_in via_with via_in via_of vias_of enclosed unless_empty token_named is_display_byte named_in with_uri address_with address_in address_of addresses_of cseq_in cseq_of hops_of begins_break is_end end_of pieces_at start_line lines_behind behind_start header_lines continued all_continued joined is_version request_in request_behind request_of at_least_100 code_of status_in status_behind status_of is_status_line is_broken start_of header_named counted taken_as taken_once has_branch begins_well with_vias with_routes with_from with_to with_call_id with_cseq with_hops with_length with_field in_line taken named judged placed no_lists no_singles nothing_left all_judged peers_of head_of message_with is_method_of fits finished_with finished message_in message_of field_of values_of only once with_branch vias_in answerable_with answerable_in answerable_of behind_breaks body_len bad whole sized headed front_of host request
bad_start = refl

long_body : front_of (request ++ codes "M\r\nl:65535\r\n\r\n") ≡ Long
unfolding long_of long_name via_name route_name record_route_name max_forwards_name from_name to_name call_id_name cseq_name contact_name content_length_name content_type_name content_encoding_name subject_name supported_name same_name branch_name param_value is_token is_token_byte is_blank begins_blank is_line_break is_one_line is_host_byte is_scheme_byte is_closed is_open is_digits with_digit number_in number_below has before after onto_first is_host_name begins is_none_left is_host host_len then_read port_in is_port_start sent_at params_at headers_at is_scheme sip_scheme user_in behind_user sent_in params_text_in sip_behind sip_at other_of uri_behind uri_of trimmed_front trimmed_back trimmed first_word behind_word is_outside past_front past_word past_bracketed past_params in_string past is_part_end parts with_first all_read is_value_byte is_param_text param_in param_of behind_slash behind_version hop_in via_with via_in via_of vias_of enclosed unless_empty token_named is_display_byte named_in with_uri address_with address_in address_of addresses_of cseq_in cseq_of hops_of begins_break is_end end_of pieces_at start_line lines_behind behind_start header_lines continued all_continued joined is_version request_in request_behind request_of at_least_100 code_of status_in status_behind status_of is_status_line is_broken start_of header_named counted taken_as taken_once has_branch begins_well with_vias with_routes with_from with_to with_call_id with_cseq with_hops with_length with_field in_line taken named judged placed no_lists no_singles nothing_left all_judged peers_of head_of message_with is_method_of fits finished_with finished message_in message_of field_of values_of only once with_branch vias_in answerable_with answerable_in answerable_of behind_breaks body_len bad whole sized headed front_of host request
long_body = refl
