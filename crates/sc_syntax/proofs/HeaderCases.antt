-- Worked cases: parameters, Vias, addresses and sequence numbers, read and refused.
use Rattle.std.proofs.Common.{◌≡◌, Some, None, [], ◌∷◌, refl}
use Rattle.std.specs.Prelude.{codes}
use Rattle.sc_tokens.specs.Names.{same_name}
use Rattle.sc_tokens.specs.Tokens.{is_token, is_token_byte, is_blank}
use Rattle.sc_value.specs.declared.parts.Uri.TheVariants.{Sip, Other}
use Rattle.sc_value.specs.declared.parts.Contact.TheVariants.{Star, At}
use Rattle.sc_tokens.specs.Bytes.{is_host_byte, is_scheme_byte, is_closed, is_open}
use Rattle.sc_tokens.specs.Numbers.{is_digits, with_digit, number_in, number_below}
use Rattle.sc_tokens.specs.Cuts.{before, after, onto_first, pieces}
use Rattle.sc_tokens.specs.Hosts.{is_host_name, begins, is_group, groups_of, sum_of, groups_in, groups, begins_gap, gap_of, leaves_gap, is_ipv6, is_none_left, is_literal_end, is_host, host_len}
use Rattle.sc_tokens.specs.Quoted.{closing, is_quote_at, quoted_end}
use Rattle.sc_syntax.specs.UriParts.{then_read, port_in, is_port_start, sent_at, params_at, headers_at}
use Rattle.sc_tokens.specs.UriTokens.{is_scheme, sip_scheme}
use Rattle.sc_syntax.specs.Uris.{user_in, behind_user, sent_in, params_text_in, sip_behind, sip_at, other_of, uri_behind, uri_of}
use Rattle.sc_tokens.specs.Blanks.{trimmed_front, trimmed_back, without_blanks as trimmed, first_word, behind_word}
use Rattle.sc_syntax.specs.Scanning.{is_outside, past_front, past_word, past_bracketed, past_params, in_string, past, is_part_end, parts, with_first, all_read}
use Rattle.sc_tokens.specs.HeaderTokens.{is_value_byte, is_string, is_param_text, is_display_byte}
use Rattle.sc_syntax.specs.Parameters.{param_in, param_of}
use Rattle.sc_syntax.specs.Vias.{behind_slash, behind_version, hop_in, via_with, via_in, via_of, vias_of}
use Rattle.sc_syntax.specs.Addresses.{uri_in_brackets as enclosed, in_brackets, quoted_named, unless_empty, token_named, named_in, with_uri, address_with, address_in, address_of, addresses_of, contact_of, contacts_of}
use Rattle.sc_syntax.specs.Sequences.{cseq_in, cseq_of, hops_of}

-- ## Parameters

reads_string : param_of (codes " x=\"a;\\\"b\" ") ≡ Some (record { name = codes "x"; value = Some (codes "\"a;\\\"b\"") })
unfolding param_of param_in trimmed trimmed_front trimmed_back is_blank is_token is_token_byte before after is_param_text is_value_byte is_string quoted_end is_quote_at closing
reads_string = refl

-- an empty value is one
reads_empty : param_of (codes "x=") ≡ Some (record { name = codes "x"; value = Some [] })
unfolding param_of param_in trimmed trimmed_front trimmed_back is_blank is_token is_token_byte before after is_param_text is_value_byte
reads_empty = refl

reads_flag : param_of (codes "\tlr") ≡ Some (record { name = codes "lr"; value = None })
unfolding param_of param_in trimmed trimmed_front trimmed_back is_blank is_token is_token_byte before after
reads_flag = refl

-- no blanks round `=`
refuses_blanks : param_of (codes "x =1") ≡ None
unfolding param_of param_in trimmed trimmed_front trimmed_back is_blank is_token is_token_byte before after
refuses_blanks = refl

refuses_open_string : param_of (codes "x=\"a\\\"") ≡ None
unfolding param_of param_in trimmed trimmed_front trimmed_back is_blank is_token is_token_byte before after is_param_text is_value_byte is_string quoted_end is_quote_at closing
refuses_open_string = refl

-- ## Vias

reads_vias : vias_of (codes "SIP / 2.0/TCP  h.test:05090 ;branch=z9;x=\"a,b;c\"; lr ,SIP/2.0/UDP [::1]") ≡ Some (
    record { transport = codes "TCP"; host = codes "h.test"; port = Some 5090; params = record { name = codes "branch"; value = Some (codes "z9") } ∷ record { name = codes "x"; value = Some (codes "\"a,b;c\"") } ∷ record { name = codes "lr"; value = None } ∷ [] }
    ∷ record { transport = codes "UDP"; host = codes "[::1]"; port = None; params = [] } ∷ []
    )
unfolding vias_of via_of via_in via_with hop_in behind_version behind_slash first_word behind_word all_read with_first parts is_part_end is_outside past past_word past_front past_bracketed past_params in_string onto_first trimmed trimmed_front trimmed_back is_blank is_token is_token_byte before after param_of param_in is_param_text is_value_byte is_string quoted_end is_quote_at closing then_read sent_at is_host is_host_name is_host_byte host_len begins is_port_start port_in number_below is_digits number_in with_digit is_none_left is_literal_end is_ipv6 begins_gap gap_of leaves_gap groups groups_in groups_of sum_of is_group pieces
reads_vias = refl

refuses_version : via_of (codes "SIP/2.1/TCP h") ≡ None
unfolding via_of via_in via_with hop_in behind_version behind_slash first_word behind_word all_read with_first parts is_part_end is_outside past past_word past_front past_bracketed past_params in_string onto_first trimmed trimmed_front trimmed_back is_blank is_token is_token_byte before after
refuses_version = refl

-- no blank before the port's colon
refuses_gap_at_port : via_of (codes "SIP/2.0/TCP h :5090") ≡ None
unfolding via_of via_in via_with hop_in behind_version behind_slash first_word behind_word all_read with_first parts is_part_end is_outside past past_word past_front past_bracketed past_params in_string onto_first trimmed trimmed_front trimmed_back is_blank is_token is_token_byte before after then_read sent_at is_host is_host_name is_host_byte host_len begins is_port_start port_in number_below is_digits number_in with_digit
refuses_gap_at_port = refl

refuses_empty_item : vias_of (codes "SIP/2.0/TCP h,") ≡ None
unfolding vias_of via_of via_in via_with hop_in behind_version behind_slash first_word behind_word all_read with_first parts is_part_end is_outside past past_word past_front past_bracketed past_params in_string onto_first trimmed trimmed_front trimmed_back is_blank is_token is_token_byte before after then_read sent_at is_host is_host_name is_host_byte host_len begins is_port_start port_in number_below is_digits number_in with_digit
refuses_empty_item = refl

-- ## Addresses

-- brackets and strings protect commas; a quote in a user is a byte like others
reads_addresses : addresses_of (codes "\"a, b\" <sip:c,d@h>;x=\"y,z\", sip:q\"r@h;lr , Bob  B<sip:s>") ≡ Some (
    record { display = Some (codes "\"a, b\""); uri = Sip (record { user = Some (codes "c,d"); host = codes "h"; port = None; params = []; headers = None }); params = record { name = codes "x"; value = Some (codes "\"y,z\"") } ∷ [] }
    ∷ record { display = None; uri = Sip (record { user = Some (codes "q\"r"); host = codes "h"; port = None; params = []; headers = None }); params = record { name = codes "lr"; value = None } ∷ [] }
    ∷ record { display = Some (codes "Bob  B"); uri = Sip (record { user = None; host = codes "s"; port = None; params = []; headers = None }); params = [] } ∷ []
    )
unfolding addresses_of address_of address_in address_with with_uri named_in token_named quoted_named unless_empty in_brackets enclosed is_display_byte is_none_left all_read with_first parts is_part_end is_outside past past_word past_front past_bracketed past_params in_string onto_first trimmed trimmed_front trimmed_back is_blank is_token is_token_byte before after param_of param_in is_param_text is_value_byte is_string quoted_end is_quote_at closing then_read sent_at is_host is_host_name is_host_byte host_len begins is_port_start port_in number_below is_digits number_in with_digit uri_of is_scheme is_scheme_byte uri_behind same_name sip_scheme sip_at user_in behind_user is_open is_closed sip_behind sent_in params_text_in params_at headers_at other_of
reads_addresses = refl

-- From and To aren't cut at commas
reads_comma : address_of (codes "sip:a,b@h") ≡ Some (record { display = None; uri = Sip (record { user = Some (codes "a,b"); host = codes "h"; port = None; params = []; headers = None }); params = [] })
unfolding address_of address_in address_with with_uri named_in token_named quoted_named unless_empty in_brackets enclosed is_display_byte is_none_left all_read with_first parts is_part_end is_outside past past_word past_front past_bracketed past_params in_string onto_first trimmed trimmed_front trimmed_back is_blank is_token is_token_byte before after param_of param_in is_param_text is_value_byte is_string quoted_end is_quote_at closing then_read sent_at is_host is_host_name is_host_byte host_len begins is_port_start port_in number_below is_digits number_in with_digit uri_of is_scheme is_scheme_byte uri_behind same_name sip_scheme sip_at user_in behind_user is_open is_closed sip_behind sent_in params_text_in params_at headers_at other_of
reads_comma = refl

-- a semicolon in brackets is the URI's
reads_other : address_of (codes "<tel:+1;x>;tag=9") ≡ Some (record { display = None; uri = Other (codes "tel:+1;x"); params = record { name = codes "tag"; value = Some (codes "9") } ∷ [] })
unfolding address_of address_in address_with with_uri named_in token_named quoted_named unless_empty in_brackets enclosed is_display_byte is_none_left all_read with_first parts is_part_end is_outside past past_word past_front past_bracketed past_params in_string onto_first trimmed trimmed_front trimmed_back is_blank is_token is_token_byte before after param_of param_in is_param_text is_value_byte is_string quoted_end is_quote_at closing then_read sent_at is_host is_host_name is_host_byte host_len begins is_port_start port_in number_below is_digits number_in with_digit uri_of is_scheme is_scheme_byte uri_behind same_name sip_scheme sip_at user_in behind_user is_open is_closed sip_behind sent_in params_text_in params_at headers_at other_of
reads_other = refl

reads_star : contacts_of (codes "* , sip:h") ≡ Some (Star ∷ At (record { display = None; uri = Sip (record { user = None; host = codes "h"; port = None; params = []; headers = None }); params = [] }) ∷ [])
unfolding contacts_of contact_of address_of address_in address_with with_uri named_in token_named quoted_named unless_empty in_brackets enclosed is_display_byte is_none_left all_read with_first parts is_part_end is_outside past past_word past_front past_bracketed past_params in_string onto_first trimmed trimmed_front trimmed_back is_blank is_token is_token_byte before after param_of param_in is_param_text is_value_byte is_string quoted_end is_quote_at closing then_read sent_at is_host is_host_name is_host_byte host_len begins is_port_start port_in number_below is_digits number_in with_digit uri_of is_scheme is_scheme_byte uri_behind same_name sip_scheme sip_at user_in behind_user is_open is_closed sip_behind sent_in params_text_in params_at headers_at other_of
reads_star = refl

refuses_star_with_params : contacts_of (codes "*;x") ≡ None
unfolding contacts_of contact_of address_of address_in address_with with_uri named_in token_named quoted_named unless_empty in_brackets enclosed is_display_byte is_none_left all_read with_first parts is_part_end is_outside past past_word past_front past_bracketed past_params in_string onto_first trimmed trimmed_front trimmed_back is_blank is_token is_token_byte before after param_of param_in is_param_text is_value_byte is_string quoted_end is_quote_at closing then_read sent_at is_host is_host_name is_host_byte host_len begins is_port_start port_in number_below is_digits number_in with_digit uri_of is_scheme is_scheme_byte uri_behind same_name sip_scheme sip_at user_in behind_user is_open is_closed sip_behind sent_in params_text_in params_at headers_at other_of
refuses_star_with_params = refl

refuses_two_displays : address_of (codes "Bob \"B\" <sip:s>") ≡ None
unfolding address_of address_in address_with with_uri named_in token_named quoted_named unless_empty in_brackets enclosed is_display_byte is_none_left all_read with_first parts is_part_end is_outside past past_word past_front past_bracketed past_params in_string onto_first trimmed trimmed_front trimmed_back is_blank is_token is_token_byte before after param_of param_in is_param_text is_value_byte is_string quoted_end is_quote_at closing then_read sent_at is_host is_host_name is_host_byte host_len begins is_port_start port_in number_below is_digits number_in with_digit uri_of is_scheme is_scheme_byte uri_behind same_name sip_scheme sip_at user_in behind_user is_open is_closed sip_behind sent_in params_text_in params_at headers_at other_of
refuses_two_displays = refl

-- a bare URI ends at a blank
refuses_blank : address_of (codes "sip:a@h x") ≡ None
unfolding address_of address_in address_with with_uri named_in token_named quoted_named unless_empty in_brackets enclosed is_display_byte is_none_left all_read with_first parts is_part_end is_outside past past_word past_front past_bracketed past_params in_string onto_first trimmed trimmed_front trimmed_back is_blank is_token is_token_byte before after param_of param_in is_param_text is_value_byte is_string quoted_end is_quote_at closing then_read sent_at is_host is_host_name is_host_byte host_len begins is_port_start port_in number_below is_digits number_in with_digit uri_of is_scheme is_scheme_byte uri_behind same_name sip_scheme sip_at user_in behind_user is_open is_closed sip_behind sent_in params_text_in params_at headers_at other_of
refuses_blank = refl

-- ## Numbers

reads_cseq : cseq_of (codes "0002147483647 \t INVITE") ≡ Some (record { number = 2147483647; method = codes "INVITE" })
unfolding cseq_of cseq_in trimmed trimmed_front trimmed_back is_blank is_token is_token_byte first_word behind_word number_below is_digits number_in with_digit
reads_cseq = refl

refuses_greater : cseq_of (codes "2147483648 INVITE") ≡ None
unfolding cseq_of cseq_in trimmed trimmed_front trimmed_back is_blank is_token is_token_byte first_word behind_word number_below is_digits number_in with_digit
refuses_greater = refl

refuses_no_method : cseq_of (codes "1") ≡ None
unfolding cseq_of cseq_in trimmed trimmed_front trimmed_back is_blank is_token is_token_byte first_word behind_word number_below is_digits number_in with_digit
refuses_no_method = refl

reads_hops : hops_of (codes "0255") ≡ Some 255
unfolding hops_of number_below is_digits number_in with_digit
reads_hops = refl

refuses_hops : hops_of (codes "256") ≡ None
unfolding hops_of number_below is_digits number_in with_digit
refuses_hops = refl
