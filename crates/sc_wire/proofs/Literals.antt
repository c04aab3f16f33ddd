-- An IPv4 address is read exactly where the text writes one.
use Rattle.std.proofs.Common.{◌≡◌, [], ◌∷◌, Option, Some, None, refl, ap, sym, ◌∙◌, subst, append-nil, lit≤}
use Rattle.std.specs.Net.Addr.{ipv4_octets}
use Rattle.std.specs.Net.Grammar.{IsDotted}
use Rattle.std.specs.Net.Reader.{read_ipv4}
use Rattle.std.specs.declared.net.ipv4_addr.Ipv4Addr.{Ipv4Addr}
use Rattle.std.proofs.NetLemmas.Ipv4.{read_ipv4_complete, read_ipv4_sound}
use Rattle.sc_tokens.specs.Bytes.{Bytes}
use Rattle.sc_hosts.specs.Destinations.{literal, whole}

pub literal_some : (text octets : Bytes) → IsDotted text octets → literal text ≡ Some octets
unfolding literal whole
literal_some text octets dotted = ap (λ t. whole (read_ipv4 t)) (sym (append-nil text)) ∙ ap whole (read_ipv4_complete text octets [] dotted (lit≤ tt))

none_read : (text : Bytes) (r : Option (Bytes × Bytes)) → ((a : Ipv4Addr) → ¬ (IsDotted text (ipv4_octets a))) → read_ipv4 text ≡ r → whole r ≡ None
unfolding whole
none_read text None none e = refl
none_read text (Some (octets, b ∷ rest)) none e = refl
none_read text (Some (octets, [])) none e =
    let (front, split, dotted) = read_ipv4_sound text octets [] e in
    absurd (none (record { octets = octets }) (subst (λ t. IsDotted t octets) (sym (split ∙ append-nil front)) dotted))

pub literal_none : (text : Bytes) → ((a : Ipv4Addr) → ¬ (IsDotted text (ipv4_octets a))) → literal text ≡ None
unfolding literal
literal_none text none = none_read text (read_ipv4 text) none refl
