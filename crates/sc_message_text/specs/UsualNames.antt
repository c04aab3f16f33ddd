-- The names of headers as most senders write them (RFC 3261 section 20).
use Rattle.std.specs.Prelude.{◌≡◌}
use Rattle.sc_tokens.specs.Bytes.{Bytes}
use Rattle.sc_tokens.specs.HeaderNames.{via_name, route_name, record_route_name, contact_name, from_name, to_name, call_id_name, cseq_name, max_forwards_name, content_length_name}
use Rattle.sc_syntax.specs.declared.left.Header.{Header}
use Rattle.sc_syntax.specs.declared.left.Header.TheVariants as headers

-- the name is the long one of this header, letter for letter; headers without structure have none
abbrev pub IsUsual : Header → Bytes → Type 0
IsUsual headers.Via name = name ≡ via_name
IsUsual headers.Route name = name ≡ route_name
IsUsual headers.RecordRoute name = name ≡ record_route_name
IsUsual headers.Contact name = name ≡ contact_name
IsUsual headers.From name = name ≡ from_name
IsUsual headers.To name = name ≡ to_name
IsUsual headers.CallId name = name ≡ call_id_name
IsUsual headers.CSeq name = name ≡ cseq_name
IsUsual headers.MaxForwards name = name ≡ max_forwards_name
IsUsual headers.ContentLength name = name ≡ content_length_name
IsUsual headers.Other name = ⊥
