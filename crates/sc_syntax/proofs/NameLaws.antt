-- Names of headers: long names, and those without structure.
use Rattle.std.proofs.Common.{◌≡◌, ℕ, Bool, true, false, cond, Option, Some, None, [], ◌∷◌, ◌&&◌, ◌||◌, ◌==◌, refl, sym, ap, ◌∙◌}
use Rattle.std.specs.Prelude.{unwrap_or}
use Rattle.std.specs.Char.{to_ascii_lowercase}
use Rattle.std.specs.Option.{option_map_or}
use Rattle.std.proofs.lemmas.Bool.{false≢true}
use Rattle.sc_tokens.specs.Bytes.{Bytes}
use Rattle.sc_tokens.specs.Names.{same_bytes, same_name}
use Rattle.sc_tokens.specs.Tokens.{is_token, is_token_byte}
use Rattle.sc_tokens.specs.HeaderNames.{long_of, long_name, via_name, from_name, to_name, call_id_name, contact_name, content_length_name, content_type_name, content_encoding_name, subject_name, supported_name, route_name, record_route_name, cseq_name, max_forwards_name, is_dialog_name, is_routing_name, is_system_name}
use Rattle.sc_syntax.specs.declared.left.Header.{Header}
use Rattle.sc_syntax.specs.declared.left.Header.TheVariants as headers
use Rattle.sc_syntax.specs.Judging.{header_named}
use Rattle.sc_syntax.proofs.BlankLaws.{both}
use Rattle.sc_syntax.proofs.ListedLaws.{same_text}

-- ## Long names

-- a long name is a token, and its own long name
abbrev is_long : Bytes → Bool
is_long name = is_token name && same_bytes (long_name name) name

by_letter : (t : Bool) (name : Bytes) (o : Option Bytes) → is_long name ≡ true → option_map_or is_long o true ≡ true → option_map_or is_long (cond t (Some name) o) true ≡ true
by_letter true name o g h = g
by_letter false name o g h = h

long_ones : (is_long call_id_name ≡ true) × (is_long contact_name ≡ true) × (is_long content_encoding_name ≡ true) × (is_long content_length_name ≡ true) × (is_long content_type_name ≡ true)
    × (is_long from_name ≡ true) × (is_long subject_name ≡ true) × (is_long supported_name ≡ true) × (is_long to_name ≡ true) × (is_long via_name ≡ true)
unfolding long_name is_token is_token_byte call_id_name contact_name content_encoding_name content_length_name content_type_name from_name subject_name supported_name to_name via_name
long_ones = (refl, refl, refl, refl, refl, refl, refl, refl, refl, refl)

all_long : (letter : ℕ) → option_map_or is_long (long_of letter) true ≡ true
unfolding long_of
all_long letter =
    by_letter (letter == 105) call_id_name _ long_ones.0 (by_letter (letter == 109) contact_name _ long_ones.1 (by_letter (letter == 101) content_encoding_name _ long_ones.2 (by_letter (letter == 108) content_length_name _ long_ones.3
    (by_letter (letter == 99) content_type_name _ long_ones.4 (by_letter (letter == 102) from_name _ long_ones.5 (by_letter (letter == 115) subject_name _ long_ones.6 (by_letter (letter == 107) supported_name _ long_ones.7
    (by_letter (letter == 116) to_name _ long_ones.8 (by_letter (letter == 118) via_name None long_ones.9 refl)))))))))

-- the long name of a token
pub long_is : (name : Bytes) → is_token name ≡ true → (is_token (long_name name) ≡ true) × (long_name (long_name name) ≡ long_name name)
unfolding long_name
long_is [] h = (h, refl)
long_is (letter ∷ []) h = elim (long_of (to_ascii_lowercase letter)) as (λ (o : Option Bytes). long_of (to_ascii_lowercase letter) ≡ o → (is_token (unwrap_or o (letter ∷ [])) ≡ true) × (long_name (unwrap_or o (letter ∷ [])) ≡ unwrap_or o (letter ∷ []))) [
  | None ↦ λ e. (h, ap (λ o. unwrap_or o (letter ∷ [])) e)
  | Some name ↦ λ e. let is = both (is_token name) (same_bytes (long_name name) name) (ap (λ o. option_map_or is_long o true) (sym e) ∙ all_long (to_ascii_lowercase letter)) in (is.0, same_text (long_name name) name is.1)
] refl
long_is (first ∷ second ∷ rest) h = (h, refl)

pub long_token : (name : Bytes) → is_token name ≡ true → is_token (long_name name) ≡ true
long_token name h = (long_is name h).0

pub long_again : (name : Bytes) → is_token name ≡ true → long_name (long_name name) ≡ long_name name
long_again name h = (long_is name h).1

-- ## Headers without structure

has_none : Header → Bool
has_none headers.Other = true
has_none headers.Via = false
has_none headers.Route = false
has_none headers.RecordRoute = false
has_none headers.Contact = false
has_none headers.From = false
has_none headers.To = false
has_none headers.CallId = false
has_none headers.CSeq = false
has_none headers.MaxForwards = false
has_none headers.ContentLength = false

not_here : (t : Bool) (kind more : Header) → has_none kind ≡ false → has_none (cond t kind more) ≡ true → (t ≡ false) × (has_none more ≡ true)
not_here true kind more is h = absurd (false≢true (sym is ∙ h))
not_here false kind more is h = (refl, h)

-- none of the names that have structure
none_named : (name : Bytes) → header_named name ≡ headers.Other → (is_dialog_name name || is_routing_name name) ≡ false
unfolding header_named has_none is_dialog_name is_routing_name
none_named name h =
    let via = not_here (same_name name via_name) headers.Via _ refl (ap has_none h) in
    let route = not_here (same_name name route_name) headers.Route _ refl via.1 in
    let record_route = not_here (same_name name record_route_name) headers.RecordRoute _ refl route.1 in
    let contact = not_here (same_name name contact_name) headers.Contact _ refl record_route.1 in
    let from = not_here (same_name name from_name) headers.From _ refl contact.1 in
    let to = not_here (same_name name to_name) headers.To _ refl from.1 in
    let call_id = not_here (same_name name call_id_name) headers.CallId _ refl to.1 in
    let cseq = not_here (same_name name cseq_name) headers.CSeq _ refl call_id.1 in
    let max_forwards = not_here (same_name name max_forwards_name) headers.MaxForwards _ refl cseq.1 in
    let content_length = not_here (same_name name content_length_name) headers.ContentLength _ refl max_forwards.1 in
    rw (via.0, route.0, record_route.0, contact.0, from.0, to.0, call_id.0, cseq.0, max_forwards.0, content_length.0) refl

pub other_is_free : (name : Bytes) → long_name name ≡ name → header_named name ≡ headers.Other → is_system_name name ≡ false
unfolding is_system_name
other_is_free name long h = ap (λ n. is_dialog_name n || is_routing_name n) long ∙ none_named name h
