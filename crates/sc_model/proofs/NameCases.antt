-- Worked cases of names.
use Rattle.std.proofs.Common.{◌≡◌, refl}
use Rattle.std.specs.Prelude.{codes}
use Rattle.std.specs.Fmt.{digits}
use Rattle.sc_value.specs.declared.ids.AppId.{AppId}
use Rattle.sc_value.specs.declared.ids.Region.TheVariants.{Neutral}
use Rattle.sc_grammar.specs.Written.{scheme, ended_text, port_text, params_text, param_text, signed_text, sip_uri_text}
use Rattle.sc_model.specs.Names.{mark_text, counted_text, tag_text, branch_cookie, branch_text, call_id_text, edge_word, edge_tag, app_text, ap_value, ar_value, tcp_param, loose_param, own_uri, ap_name, ar_name, session_uri, return_uri}

first_app : AppId
first_app = record { host = 0; serial = 1 }

branch_of_first : branch_text (codes "s1") 0 first_app 2 ≡ codes "z9hG4bKs1-0-1-2"
unfolding digits first_app mark_text counted_text tag_text branch_cookie branch_text
branch_of_first = refl

tag_of_first : tag_text (codes "s1") 0 first_app 1 ≡ codes "s1-0-1-1"
unfolding digits first_app mark_text counted_text tag_text
tag_of_first = refl

tag_of_later : tag_text (codes "s1") 2 first_app 1 ≡ codes "s1.2-0-1-1"
unfolding digits first_app mark_text counted_text tag_text
tag_of_later = refl

call_id_of_first : call_id_text (codes "s1") 0 (codes "127.0.0.1") first_app 2 ≡ codes "s1-0-1-2@127.0.0.1"
unfolding digits first_app mark_text counted_text tag_text call_id_text
call_id_of_first = refl

tag_of_edge : edge_tag (codes "s1") ≡ codes "s1-edge"
unfolding edge_word edge_tag
tag_of_edge = refl

uri_of_first : sip_uri_text (session_uri (codes "127.0.0.1") 5060 0 (record { host = 1; serial = 3 })) ≡ codes "sip:127.0.0.1:5060;transport=tcp;lr;ap=1-3"
unfolding digits scheme ended_text port_text params_text param_text signed_text sip_uri_text app_text ap_value tcp_param loose_param own_uri ap_name session_uri
uri_of_first = refl

uri_of_later : sip_uri_text (session_uri (codes "127.0.0.1") 5060 2 (record { host = 1; serial = 3 })) ≡ codes "sip:127.0.0.1:5060;transport=tcp;lr;ap=1-3.2"
unfolding digits scheme ended_text port_text params_text param_text signed_text sip_uri_text app_text ap_value tcp_param loose_param own_uri ap_name session_uri
uri_of_later = refl

uri_of_return : sip_uri_text (return_uri (codes "127.0.0.1") 5060 2 Neutral) ≡ codes "sip:127.0.0.1:5060;transport=tcp;lr;ar=2-N"
unfolding digits scheme ended_text port_text params_text param_text signed_text sip_uri_text ar_value tcp_param loose_param own_uri ar_name return_uri
uri_of_return = refl
