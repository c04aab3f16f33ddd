-- An IPv4 address is read exactly where the text writes one.
use Rattle.std.proofs.Common.{◌≡◌, ℕ, [], ◌∷◌, Option, Some, None, refl, ap, sym, ◌∙◌, subst, append-nil, lit≤, true, false, ◌<◌, ◌+◌, ◌^◌, ◌==◌, length, nat_lt, arith, rules}
use Rattle.std.specs.List.{list_all, position_or_len, before_first, after_first}
use Rattle.std.specs.Char.{is_ascii_digit, digit_value}
use Rattle.std.specs.Int.{IsInRange}
use Rattle.std.specs.Str.Parse.{AllDigits, digits_value, without_leading_plus, IsNumeral}
use Rattle.std.proofs.lemmas.Str.{digit_value_digit}
use Rattle.std.proofs.lemmas.Bool.Decides.{nat_tests}
use Rattle.std.proofs.lemmas.Bool.{and_parts}
use Rattle.std.proofs.lemmas.List.{drop_all}
use Rattle.std.specs.Net.Addr.{ipv4_octets}
use Rattle.std.specs.Net.Grammar.{IsDotted}
use Rattle.std.specs.Net.Reader.{read_ipv4}
use Rattle.std.specs.declared.net.ipv4_addr.Ipv4Addr.{Ipv4Addr}
use Rattle.std.proofs.NetLemmas.Ipv4.{read_ipv4_complete, read_ipv4_sound}
use Rattle.sc_tokens.specs.Bytes.{Bytes}
use Rattle.sc_config.specs.KeyValues.{ip_of, if_whole, port_of, is_colon, both, listen_text}

pub ip_some : (text octets : Bytes) → IsDotted text octets → ip_of text ≡ Some octets
unfolding ip_of
ip_some text octets dotted = ap (λ t. if_whole (read_ipv4 t)) (sym (append-nil text)) ∙ ap if_whole (read_ipv4_complete text octets [] dotted (lit≤ tt))

none_read : (text : Bytes) (r : Option (Bytes × Bytes)) → ((a : Ipv4Addr) → ¬ (IsDotted text (ipv4_octets a))) → read_ipv4 text ≡ r → if_whole r ≡ None
none_read text None none e = refl
none_read text (Some (octets, b ∷ rest)) none e = refl
none_read text (Some (octets, [])) none e =
    let (front, split, dotted) = read_ipv4_sound text octets [] e in
    absurd (none (record { octets = octets }) (subst (λ t. IsDotted t octets) (sym (split ∙ append-nil front)) dotted))

pub ip_none : (text : Bytes) → ((a : Ipv4Addr) → ¬ (IsDotted text (ipv4_octets a))) → ip_of text ≡ None
unfolding ip_of
ip_none text none = none_read text (read_ipv4 text) none refl

digit_below : (c : ℕ) → is_ascii_digit c ≡ true → digit_value c < 10
digit_below c digit =
    let range : IsInRange 48 57 c = grind (arith, nat_tests) in
    omega (arith, range, digit_value_digit c range)

all_digits : (text : Bytes) → list_all is_ascii_digit text ≡ true → AllDigits 10 text
all_digits [] digits = tt
all_digits (c ∷ cs) digits =
    let (first, rest) = and_parts (is_ascii_digit c) (list_all is_ascii_digit cs) digits in
    (digit_below c first, all_digits cs rest)

no_plus : (text : Bytes) → list_all is_ascii_digit text ≡ true → without_leading_plus text ≡ text
no_plus [] digits = refl
no_plus (c ∷ cs) digits =
    let (first, rest) = and_parts (is_ascii_digit c) (list_all is_ascii_digit cs) digits in
    let other : (c == 43) ≡ false = grind (arith, nat_tests) in
    rw other refl

-- digits that `parse` takes for no number of 16 bits write none
pub past_port : (text : Bytes) → list_all is_ascii_digit text ≡ true → 0 < length text
    → ¬ (IsNumeral 10 (without_leading_plus text) × (digits_value 10 (without_leading_plus text) < 2 ^ 16)) → port_of text ≡ None
unfolding port_of
past_port text digits some past =
    let same = no_plus text digits in
    let numeral : IsNumeral 10 text = (some, all_digits text digits) in
    let none : ¬ (IsNumeral 10 text × (digits_value 10 text < 2 ^ 16)) = rw same at past in
    let not_below : ¬ (digits_value 10 text < 65536) = λ below. none (numeral, below) in
    let above : nat_lt (digits_value 10 text) 65536 ≡ false = grind (arith, nat_tests, not_below) in
    rw above (search rules)

no_second : {A B : Type 0} (a : Option A) → both {B = B} a None ≡ None
no_second None = refl
no_second (Some a) = refl

nothing_after : (text : Bytes) → position_or_len is_colon text ≡ length text → after_first is_colon text ≡ []
nothing_after text last = rw last (drop_all (length text + 1) text (omega arith))

-- without a colon there is no port
pub no_colon : (text : Bytes) → position_or_len is_colon text ≡ length text → listen_text text ≡ None
unfolding listen_text port_of
no_colon text last = rw (nothing_after text last) (no_second (ip_of (before_first is_colon text)))
