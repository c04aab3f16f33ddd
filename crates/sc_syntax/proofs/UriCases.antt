-- Worked cases: the URIs of RFC 3261 section 19.1.3, and refusals of each kind.
use Rattle.std.proofs.Common.{◌≡◌, true, false, Some, None, Ok, Err, [], ◌∷◌, refl}
use Rattle.std.specs.Prelude.{codes}
use Rattle.sc_tokens.specs.Names.{same_name}
use Rattle.sc_value.specs.declared.parts.Uri.TheVariants.{Sip, Other}
use Rattle.sc_tokens.specs.Bytes.{is_host_byte, is_scheme_byte, is_mark, is_param_sign, is_param_byte, is_closed, is_open}
use Rattle.sc_tokens.specs.Numbers.{is_digits, with_digit, number_in, number_below, number_of}
use Rattle.sc_tokens.specs.Cuts.{before, after, onto_first, pieces}
use Rattle.sc_tokens.specs.Hosts.{is_host_name, begins, is_octet, is_ipv4, is_group, groups_of, sum_of, groups_in, groups, begins_gap, gap_of, leaves_gap, is_ipv6, is_none_left, is_literal_end, is_host, host_len}
use Rattle.sc_tokens.specs.Quoted.{closing, is_quote_at, quoted_end}
use Rattle.sc_tokens.specs.UriTokens.{is_param_name, is_param_value, is_scheme, sip_scheme}
use Rattle.sc_syntax.specs.UriParts.{then_read, port_in, is_port_start, sent_at, param_at, params_in, params_at, headers_at}
use Rattle.sc_syntax.specs.Uris.{user_in, behind_user, sent_in, params_text_in, sip_behind, sip_at, other_of, uri_behind, uri_of}

-- ## URIs that are read

reads_plain : uri_of (codes "sip:alice@atlanta.com") ≡ Ok (Sip (record { user = Some (codes "alice"); host = codes "atlanta.com"; port = None; params = []; headers = None }))
unfolding uri_of is_scheme is_scheme_byte is_host_byte before after uri_behind same_name sip_scheme sip_at user_in behind_user is_open is_closed sip_behind sent_in params_text_in then_read sent_at is_host is_host_name host_len begins is_port_start port_in params_at headers_at
reads_plain = refl

-- a password stays in the user, the scheme has any case, the port any zeros
reads_password : uri_of (codes "SIP:alice:secretword@atlanta.com:05060;transport=tcp;lr") ≡ Ok (Sip (record {
  user = Some (codes "alice:secretword");
  host = codes "atlanta.com";
  port = Some 5060;
  params = record { name = codes "transport"; value = Some (codes "tcp") } ∷ record { name = codes "lr"; value = None } ∷ [];
  headers = None;
}))
unfolding uri_of is_scheme is_scheme_byte is_host_byte before after uri_behind same_name sip_scheme sip_at user_in behind_user is_open is_closed sip_behind sent_in params_text_in then_read sent_at is_host is_host_name host_len begins is_port_start port_in number_below is_digits number_in with_digit params_at pieces onto_first params_in param_at is_param_name is_param_value is_param_byte is_mark is_param_sign headers_at
reads_password = refl

reads_headers : uri_of (codes "sip:atlanta.com;method=REGISTER?to=alice%40atlanta.com") ≡ Ok (Sip (record {
  user = None;
  host = codes "atlanta.com";
  port = None;
  params = record { name = codes "method"; value = Some (codes "REGISTER") } ∷ [];
  headers = Some (codes "to=alice%40atlanta.com");
}))
unfolding uri_of is_scheme is_scheme_byte is_host_byte before after uri_behind same_name sip_scheme sip_at user_in behind_user is_open is_closed sip_behind sent_in params_text_in then_read sent_at is_host is_host_name host_len begins is_port_start port_in params_at pieces onto_first params_in param_at is_param_name is_param_value is_param_byte is_mark is_param_sign headers_at
reads_headers = refl

-- the user may hold semicolons and question marks
reads_user : uri_of (codes "sip:alice;day=tuesday@atlanta.com") ≡ Ok (Sip (record { user = Some (codes "alice;day=tuesday"); host = codes "atlanta.com"; port = None; params = []; headers = None }))
unfolding uri_of is_scheme is_scheme_byte is_host_byte before after uri_behind same_name sip_scheme sip_at user_in behind_user is_open is_closed sip_behind sent_in params_text_in then_read sent_at is_host is_host_name host_len begins is_port_start port_in params_at headers_at
reads_user = refl

reads_ipv6 : uri_of (codes "sip:[2001:db8::9:1]:65535?") ≡ Ok (Sip (record { user = None; host = codes "[2001:db8::9:1]"; port = Some 65535; params = []; headers = Some [] }))
unfolding uri_of is_scheme is_scheme_byte is_host_byte before after uri_behind same_name sip_scheme sip_at user_in behind_user is_open is_closed sip_behind sent_in params_text_in then_read sent_at is_host is_none_left is_literal_end is_ipv6 begins_gap gap_of leaves_gap groups groups_in groups_of sum_of is_group pieces onto_first host_len begins is_port_start port_in number_below is_digits number_in with_digit params_at headers_at
reads_ipv6 = refl

reads_other : uri_of (codes "sips:alice@atlanta.com") ≡ Ok (Other (codes "sips:alice@atlanta.com"))
unfolding uri_of is_scheme is_scheme_byte is_host_byte before after uri_behind same_name sip_scheme other_of is_open is_closed
reads_other = refl

-- ## Refusals

refuses_scheme : uri_of (codes "1sip:alice@atlanta.com") ≡ Err (record { at = 0; kind = 1 })
unfolding uri_of is_scheme is_scheme_byte is_host_byte before
refuses_scheme = refl

refuses_blank : uri_of (codes "tel:+1 2") ≡ Err (record { at = 0; kind = 1 })
unfolding uri_of is_scheme is_scheme_byte is_host_byte before after uri_behind same_name sip_scheme other_of is_open is_closed
refuses_blank = refl

refuses_host : uri_of (codes "sip:alice@;lr") ≡ Err (record { at = 10; kind = 2 })
unfolding uri_of is_scheme is_scheme_byte is_host_byte before after uri_behind same_name sip_scheme sip_at user_in behind_user is_open is_closed sip_behind sent_in params_text_in then_read sent_at is_host is_host_name host_len begins
refuses_host = refl

refuses_port : uri_of (codes "sip:alice@atlanta.com:65536") ≡ Err (record { at = 22; kind = 3 })
unfolding uri_of is_scheme is_scheme_byte is_host_byte before after uri_behind same_name sip_scheme sip_at user_in behind_user is_open is_closed sip_behind sent_in params_text_in then_read sent_at is_host is_host_name host_len begins is_port_start port_in number_below is_digits number_in with_digit
refuses_port = refl

refuses_param : uri_of (codes "sip:atlanta.com;lr;=1") ≡ Err (record { at = 19; kind = 4 })
unfolding uri_of is_scheme is_scheme_byte is_host_byte before after uri_behind same_name sip_scheme sip_at user_in behind_user is_open is_closed sip_behind sent_in params_text_in then_read sent_at is_host is_host_name host_len begins is_port_start port_in params_at pieces onto_first params_in param_at is_param_name is_param_value is_param_byte is_mark is_param_sign
refuses_param = refl

-- ## Hosts, numbers and strings

takes_ipv4_tail : is_host (codes "[::ffff:192.0.2.1]") ≡ true
unfolding is_host begins is_literal_end is_none_left before after is_ipv6 begins_gap gap_of leaves_gap groups groups_in groups_of sum_of is_group is_ipv4 is_octet number_below is_digits number_in with_digit pieces onto_first
takes_ipv4_tail = refl

refuses_two_gaps : is_host (codes "[1::2::3]") ≡ false
unfolding is_host begins is_literal_end is_none_left before after is_ipv6 begins_gap gap_of leaves_gap groups groups_in groups_of sum_of is_group is_ipv4 is_octet number_below is_digits number_in with_digit pieces onto_first
refuses_two_gaps = refl

refuses_ipv4_before_gap : is_host (codes "[192.0.2.1::]") ≡ false
unfolding is_host begins is_literal_end is_none_left before after is_ipv6 begins_gap gap_of leaves_gap groups groups_in groups_of sum_of is_group is_ipv4 is_octet number_below is_digits number_in with_digit pieces onto_first
refuses_ipv4_before_gap = refl

takes_greatest : number_of (codes "0018446744073709551615") ≡ Some 18446744073709551615
unfolding number_below is_digits number_in with_digit
takes_greatest = refl

refuses_greater : number_of (codes "18446744073709551616") ≡ None
unfolding number_below is_digits number_in with_digit
refuses_greater = refl

passes_escaped_quote : quoted_end 1 (codes "x\"a\\\"b\"c") ≡ Some 7
unfolding quoted_end is_quote_at closing
passes_escaped_quote = refl
