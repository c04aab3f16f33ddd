-- Names of headers that are written as they mostly are.
use Rattle.std.proofs.Common.{◌≡◌, true, cond, Err, refl, sym, ap, subst, ◌∙◌}
use Rattle.sc_tokens.specs.Bytes.{Bytes}
use Rattle.sc_tokens.specs.Blanks.{without_blanks}
use Rattle.sc_tokens.specs.Names.{same_name}
use Rattle.sc_tokens.specs.Tokens.{is_token, is_token_byte}
use Rattle.sc_tokens.specs.HeaderNames.{long_name, via_name, route_name, record_route_name, contact_name, from_name, to_name, call_id_name, cseq_name, max_forwards_name, content_length_name}
use Rattle.sc_syntax.specs.declared.left.Header.{Header}
use Rattle.sc_syntax.specs.declared.left.Header.TheVariants as headers
use Rattle.sc_syntax.specs.declared.left.Left.{Left}
use Rattle.sc_syntax.specs.Judging.{header_named, with_header, with_named_header}
use Rattle.sc_message_text.specs.UsualNames.{IsUsual}

-- a token that is a long name, and this header's
abbrev IsLong : Header → Bytes → Type 0
IsLong header name = (is_token name ≡ true) × (long_name name ≡ name) × (header ≡ header_named name)

long_ones : IsLong headers.Via via_name
    × IsLong headers.Route route_name
    × IsLong headers.RecordRoute record_route_name
    × IsLong headers.Contact contact_name
    × IsLong headers.From from_name
    × IsLong headers.To to_name
    × IsLong headers.CallId call_id_name
    × IsLong headers.CSeq cseq_name
    × IsLong headers.MaxForwards max_forwards_name
    × IsLong headers.ContentLength content_length_name
unfolding long_name is_token is_token_byte header_named same_name via_name route_name record_route_name contact_name from_name to_name call_id_name cseq_name max_forwards_name content_length_name
long_ones = ((refl, refl, refl), (refl, refl, refl), (refl, refl, refl), (refl, refl, refl), (refl, refl, refl), (refl, refl, refl), (refl, refl, refl), (refl, refl, refl), (refl, refl, refl), (refl, refl, refl))

so_written : (header : Header) (usual name : Bytes) → name ≡ usual → IsLong header usual → IsLong header name
so_written header usual name is long = subst (λ n. IsLong header n) (sym is) long

usual_is : (header : Header) (name : Bytes) → IsUsual header name → IsLong header name
usual_is headers.Via name is = so_written headers.Via via_name name is long_ones.0
usual_is headers.Route name is = so_written headers.Route route_name name is long_ones.1
usual_is headers.RecordRoute name is = so_written headers.RecordRoute record_route_name name is long_ones.2
usual_is headers.Contact name is = so_written headers.Contact contact_name name is long_ones.3
usual_is headers.From name is = so_written headers.From from_name name is long_ones.4
usual_is headers.To name is = so_written headers.To to_name name is long_ones.5
usual_is headers.CallId name is = so_written headers.CallId call_id_name name is long_ones.6
usual_is headers.CSeq name is = so_written headers.CSeq cseq_name name is long_ones.7
usual_is headers.MaxForwards name is = so_written headers.MaxForwards max_forwards_name name is long_ones.8
usual_is headers.ContentLength name is = so_written headers.ContentLength content_length_name name is long_ones.9
usual_is headers.Other name is = absurd is

pub usual_token : (header : Header) (name : Bytes) → IsUsual header name → is_token name ≡ true
usual_token header name is = (usual_is header name is).0

pub usual_long : (header : Header) (name : Bytes) → IsUsual header name → long_name name ≡ name
usual_long header name is = (usual_is header name is).1

pub usual_named : (header : Header) (name : Bytes) → IsUsual header name → header ≡ header_named name
usual_named header name is = (usual_is header name is).2

-- such a name is taken as it stands
pub usual_taken : (left : Left) (header : Header) (name value : Bytes) → IsUsual header name → with_named_header left name value ≡ with_header left name header (without_blanks value)
unfolding with_named_header
usual_taken left header name value is =
    ap (λ t. cond t (with_header left (long_name name) (header_named (long_name name)) (without_blanks value)) (Err 6)) (usual_token header name is)
    ∙ ap (λ n. with_header left n (header_named n) (without_blanks value)) (usual_long header name is)
    ∙ ap (λ h. with_header left name h (without_blanks value)) (sym (usual_named header name is))
