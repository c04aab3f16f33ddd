-- Worked case: a response with folds, whose Max-Forwards is dropped, is spelled, and keeps the grammar.
use Rattle.std.proofs.Common.{◌≡◌, ℕ, Some, None, Ok, List, [], ◌∷◌, refl, arith}
use Rattle.std.specs.Prelude.{codes}
use Rattle.sc_value.specs.declared.parts.Uri.{Uri}
use Rattle.sc_value.specs.declared.parts.Uri.TheVariants.{Sip}
use Rattle.sc_value.specs.declared.message.Head.{Head}
use Rattle.sc_value.specs.declared.message.Message.TheVariants as messages
use Rattle.sc_tokens.specs.HeaderNames.{long_of, long_name, via_name, route_name, record_route_name, max_forwards_name, from_name, to_name, call_id_name, cseq_name, contact_name, content_length_name, content_type_name, content_encoding_name, subject_name, supported_name}
use Rattle.sc_tokens.specs.Names.{same_name}
use Rattle.sc_value.specs.Params.{branch_name, param_value}
use Rattle.sc_tokens.specs.Tokens.{is_token, is_token_byte, is_blank, begins_blank, is_line_break, is_one_line}
use Rattle.sc_tokens.specs.Bytes.{is_host_byte, is_scheme_byte, is_closed, is_open}
use Rattle.sc_tokens.specs.Numbers.{is_digits, with_digit, number_in, number_below}
use Rattle.sc_tokens.specs.Cuts.{has, before, after, onto_first}
use Rattle.sc_tokens.specs.Hosts.{is_host_name, begins, is_none_left, is_host, host_len}
use Rattle.sc_syntax.specs.UriParts.{then_read, port_in, is_port_start, sent_at, params_at, headers_at}
use Rattle.sc_tokens.specs.UriTokens.{is_scheme, sip_scheme}
use Rattle.sc_syntax.specs.Uris.{user_in, behind_user, sent_in, params_text_in, sip_behind, sip_at, other_of, uri_behind, uri_of}
use Rattle.sc_tokens.specs.Blanks.{trimmed_front, trimmed_back, without_blanks as trimmed, first_word, behind_word}
use Rattle.sc_syntax.specs.Scanning.{is_outside, past_front, past_word, past_bracketed, past_params, in_string, past, is_part_end, parts, with_first, all_read}
use Rattle.sc_tokens.specs.HeaderTokens.{is_value_byte, is_param_text, is_display_byte}
use Rattle.sc_syntax.specs.Parameters.{param_in, param_of}
use Rattle.sc_syntax.specs.Vias.{behind_slash, behind_version, hop_in, via_with, via_in, via_of, vias_of}
use Rattle.sc_syntax.specs.Addresses.{uri_in_brackets as enclosed, unless_empty, token_named, named_in, with_uri, address_with, address_in, address_of, addresses_of}
use Rattle.sc_syntax.specs.Sequences.{cseq_in, cseq_of, hops_of}
use Rattle.sc_syntax.specs.Lines.{begins_break, is_end, end_of, pieces_at, start_line, lines_behind, behind_start, header_lines}
use Rattle.sc_syntax.specs.Folds.{with_piece as continued, all_continued, text_without_folds as joined}
use Rattle.sc_syntax.specs.StartLines.{is_version, request_in, request_behind, request_of, at_least_100, code_of, status_in, status_behind, status_of, is_status_line, is_broken, start_of}
use Rattle.sc_syntax.specs.Judging.{header_named, with_values as counted, taken_as, taken_once, has_branch, begins_well, with_vias, with_routes, with_from, with_to, with_call_id, with_cseq, with_hops, with_length, with_field, in_line, with_header as taken, with_named_header as named, left_with_line as judged}
use Rattle.sc_syntax.specs.Messages.{fault_at_place as placed, no_lists, no_singles, nothing_left, all_judged, peers_of, head_of, message_with, is_method_of, fits, finished_with, message_from_parts as finished, message_in, message_of}
use Rattle.sc_value.specs.declared.message.Message.{Message}
use Rattle.sc_spelling.specs.SpelledMessages.{IsSpelled}
use Rattle.sc_grammar.specs.Written.{text_of_message as written}
use Rattle.sc_spelling.specs.SpelledHeads.{number_if_any as given, value_count}
use Rattle.sc_spelling.specs.SpelledMessages.{head_in}
use Rattle.sc_spelling.specs.Kept.{KeepsGrammar, HasRoom, written_hops}
use Rattle.sc_spelling.proofs.WrittenLaws.{message_is_spelled}
use Rattle.sc_spelling.proofs.ReadWhole.{message_spelled_back}
use Rattle.sc_spelling.proofs.KeptLaws.{read_keeps, read_branched}

unfoldable home : List ℕ → Uri
home user = Sip (record { user = Some user; host = codes "home.test"; port = None; params = []; headers = None })

unfoldable home_head : Head
home_head = record {
  via = record { transport = codes "TCP"; host = codes "127.0.0.1"; port = Some 5090; params = record { name = codes "branch"; value = Some (codes "z9hG4bKa1") } ∷ [] } ∷ [];
  route = [];
  record_route = [];
  from = record { display = None; uri = home (codes "bob"); params = record { name = codes "tag"; value = Some (codes "b1") } ∷ [] };
  to = record { display = None; uri = home (codes "alice"); params = [] };
  call_id = codes "c1";
  cseq = record { number = 1; method = codes "OPTIONS" };
  contact = [];
  others = [];
  body = [];
}

unfoldable text : List ℕ
text = codes "SIP/2.0 200 \r\nv: SIP/2.0/TCP 127.0.0.1:5090;branch=z9hG4bKa1\r\nf: sip:bob@home.test;tag=b1\r\nt: <sip:alice@home.test>\r\ni\r\n : \r\n \t\r\n c1 \r\n\t\r\ncseq: 1 OPTIONS\r\nMAX-FORWARDS: 1\r\nl: 3\r\n\r\n \r\n"

unfoldable message : Message
message = messages.Response (record { code = 200; reason = []; head = record home_head { body = codes " \r\n" } })

reads : message_of text ≡ Ok message
unfolding long_of long_name via_name route_name record_route_name max_forwards_name from_name to_name call_id_name cseq_name contact_name content_length_name content_type_name content_encoding_name subject_name supported_name same_name branch_name param_value is_token is_token_byte is_blank begins_blank is_line_break is_one_line is_host_byte is_scheme_byte is_closed is_open is_digits with_digit number_in number_below has before after onto_first is_host_name begins is_none_left is_host host_len then_read port_in is_port_start sent_at params_at headers_at is_scheme sip_scheme user_in behind_user sent_in params_text_in sip_behind sip_at other_of uri_behind uri_of trimmed_front trimmed_back trimmed first_word behind_word is_outside past_front past_word past_bracketed past_params in_string past is_part_end parts with_first all_read is_value_byte is_param_text param_in param_of behind_slash behind_version hop_in via_with via_in via_of vias_of enclosed unless_empty token_named is_display_byte named_in with_uri address_with address_in address_of addresses_of cseq_in cseq_of hops_of begins_break is_end end_of pieces_at start_line lines_behind behind_start header_lines continued all_continued joined is_version request_in request_behind request_of at_least_100 code_of status_in status_behind status_of is_status_line is_broken start_of header_named counted taken_as taken_once has_branch begins_well with_vias with_routes with_from with_to with_call_id with_cseq with_hops with_length with_field in_line taken named judged placed no_lists no_singles nothing_left all_judged peers_of head_of message_with is_method_of fits finished_with finished message_in message_of home home_head text message
reads = refl

spells : IsSpelled text message
spells = message_spelled_back text message reads

keeps : KeepsGrammar message
keeps = read_keeps text message reads

room : HasRoom message
unfolding value_count given written_hops head_in message home_head
room = omega arith

-- and its written form spells it again
writes : IsSpelled (written message) message
writes = message_is_spelled message keeps (read_branched text message reads) room
