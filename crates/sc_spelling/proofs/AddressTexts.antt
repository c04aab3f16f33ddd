-- The written forms of addresses, contacts, numbers and CSeq spell them, and are values of one line.
use Rattle.std.proofs.Common.{◌≡◌, ℕ, Bool, true, false, Option, Some, None, [], ◌∷◌, ◌++◌, ◌<◌, ◌≤◌, ◌^◌, inl, inr, decimal, refl, sym, ap, subst, ◌∙◌, append_assoc, arith}
use Rattle.std.specs.Prelude.{unwrap_or}
use Rattle.std.specs.Option.{option_map_or}
use Rattle.std.specs.Char.{is_ascii_digit}
use Rattle.std.proofs.lemmas.Bool.{false≢true}
use Rattle.sc_tokens.specs.Tokens.{is_token_byte, is_blank, is_line_break, is_one_line}
use Rattle.sc_value.specs.declared.parts.Address.{Address}
use Rattle.sc_value.specs.declared.parts.Contact.{Contact}
use Rattle.sc_value.specs.declared.parts.Contact.TheVariants.{Star, At}
use Rattle.sc_value.specs.declared.parts.CSeq.{CSeq}
use Rattle.sc_grammar.specs.Written.{params_text, ended_text, uri_text, address_text, contact_text, cseq_text}
use Rattle.sc_tokens.specs.Bytes.{Bytes}
use Rattle.sc_tokens.specs.Blanks.{trimmed_front, trimmed_back, without_blanks as trimmed}
use Rattle.sc_tokens.specs.HeaderTokens.{is_string, IsWords, IsDisplay}
use Rattle.sc_syntax.specs.SpelledParts.{IsBlanks}
use Rattle.sc_syntax.specs.SpelledAddresses.{IsAddressIn, IsContactSpelled}
use Rattle.sc_syntax.specs.SpelledSequences.{IsCSeqSpelled}
use Rattle.sc_syntax.proofs.ValueLaws.{first_solid}
use Rattle.sc_syntax.proofs.ClassLaws.{BeginsSolid, EndsSolid, begins_joined, ends_joined, class_begins, class_ends}
use Rattle.sc_syntax.proofs.RunLaws.{comma_sign, string_is_closed}
use Rattle.sc_syntax.proofs.ParameterLaws.{solid_by, token_is, token_solid}
use Rattle.sc_syntax.proofs.DecimalLaws.{decimal_is_read}
use Rattle.sc_value.specs.AddressValues.{IsAddress}
use Rattle.sc_value.specs.ContactRules.{IsContact}
use Rattle.sc_value.specs.SequenceValues.{IsCSeq}
use Rattle.sc_spelling.specs.SpelledLines.{IsValue}
use Rattle.sc_spelling.proofs.StartLaws.{line_joined, token_line, digits_line}
use Rattle.sc_spelling.proofs.PartTexts.{number_text, uri_spelled, uri_line, itself_padded, params_spelled, signs_line, params_line, params_end, solid_value, blank_gap}

spaced : Option Bytes → Bytes
spaced None = []
spaced (Some text) = 32 ∷ []

spaced_blank : (o : Option Bytes) → IsBlanks (spaced o)
unfolding spaced
spaced_blank None = refl
spaced_blank (Some text) = blank_gap

display_is : (o : Option Bytes) → ended_text o 32 ≡ unwrap_or o [] ++ spaced o
unfolding ended_text spaced
display_is None = refl
display_is (Some text) = refl

-- display, if there is one, and the URI in its brackets
abbrev named : Address → Bytes
named address = unwrap_or address.display [] ++ (spaced address.display ++ 60 ∷ (uri_text address.uri ++ 62 ∷ []))

address_is : (address : Address) → address_text address ≡ named address ++ params_text address.params
unfolding address_text
address_is address =
    let shown = unwrap_or address.display [] in
    let gap = spaced address.display in
    let uri = uri_text address.uri in
    let front : ◌≡◌ {A = Bytes} (((ended_text address.display 32 ++ 60 ∷ []) ++ uri) ++ 62 ∷ []) (named address) =
    ap (λ l. ((l ++ 60 ∷ []) ++ uri) ++ 62 ∷ []) (display_is address.display) ∙ append_assoc ((shown ++ gap) ++ 60 ∷ []) uri (62 ∷ []) ∙ append_assoc (shown ++ gap) (60 ∷ []) (uri ++ 62 ∷ []) ∙ append_assoc shown gap (60 ∷ (uri ++ 62 ∷ [])) in
    ap (λ l. l ++ params_text address.params) front

pub address_spelled : (listed : Bool) (address : Address) → IsAddress address → IsAddressIn listed (address_text address) address
address_spelled listed address kept = (
  named address,
  named address,
  params_text address.params,
  inl (kept.display, spaced address.display, uri_text address.uri, spaced_blank address.display, uri_spelled address.uri kept.uri, refl),
  itself_padded (named address),
  params_spelled address.params kept.params,
  address_is address,
)

blank_line : (o : Option Bytes) → is_one_line (spaced o) ≡ true
unfolding spaced
blank_line None = signs_line.5
blank_line (Some text) = signs_line.4

display_line : (o : Option Bytes) → option_map_or is_one_line o true ≡ true → is_one_line (unwrap_or o []) ≡ true
display_line None h = signs_line.5
display_line (Some text) h = h

bracket_solid : (is_blank 60 ≡ false) × (is_blank 62 ≡ false) × (is_blank 34 ≡ false)
unfolding is_blank
bracket_solid = (refl, refl, refl)

words_begin : (text : Bytes) → IsWords text → BeginsSolid text
words_begin [] h = absurd (false≢true (sym h.0))
words_begin (b ∷ bs) h = (b, bs, first_solid b bs h.2, refl)

string_begins : (text : Bytes) → is_string text ≡ true → BeginsSolid text
string_begins text h = let is = string_is_closed 44 text comma_sign h in (34, is.2, bracket_solid.2, is.3)

display_begins : (display : Option Bytes) (rest : Bytes) → IsDisplay display → BeginsSolid (unwrap_or display [] ++ (spaced display ++ 60 ∷ rest))
unfolding IsDisplay spaced
display_begins None rest h = (60, rest, bracket_solid.0, refl)
display_begins (Some text) rest (inl string) = begins_joined text (32 ∷ 60 ∷ rest) (string_begins text string)
display_begins (Some text) rest (inr words) = begins_joined text (32 ∷ 60 ∷ rest) (words_begin text words)

pub address_value : (address : Address) → IsAddress address → IsValue (address_text address)
address_value address kept =
    let shown = unwrap_or address.display [] in
    let gap = spaced address.display in
    let text = uri_text address.uri in
    let rest = params_text address.params in
    let line = line_joined (named address) rest
    (line_joined shown (gap ++ 60 ∷ (text ++ 62 ∷ [])) (display_line address.display kept.line) (line_joined gap (60 ∷ (text ++ 62 ∷ [])) (blank_line address.display) (line_joined (60 ∷ []) (text ++ 62 ∷ []) signs_line.2 (line_joined text (62 ∷ []) (uri_line address.uri kept.uri) signs_line.3))))
    (params_line address.params kept.params) in
    let last : EndsSolid (60 ∷ (text ++ 62 ∷ [])) = (60 ∷ text, 62, bracket_solid.1, refl) in
    let end = params_end address.params (named address) (ends_joined shown (gap ++ 60 ∷ (text ++ 62 ∷ [])) (ends_joined gap (60 ∷ (text ++ 62 ∷ [])) last)) kept.params in
    let begin = begins_joined (named address) rest (display_begins address.display (text ++ 62 ∷ []) kept.display) in
    subst IsValue (sym (address_is address)) (solid_value (named address ++ rest) line begin end)

-- ## Contact

star_value : IsValue (42 ∷ [])
unfolding is_one_line is_line_break trimmed trimmed_front trimmed_back is_blank
star_value = (refl, refl)

pub contact_value : (contact : Contact) → IsContact contact → IsValue (contact_text contact)
unfolding IsContact contact_text
contact_value Star h = star_value
contact_value (At address) h = address_value address h

pub contact_spelled : (contact : Contact) → IsContact contact → IsContactSpelled (contact_text contact) contact
unfolding IsContact contact_text IsContactSpelled
contact_spelled Star h = itself_padded (42 ∷ [])
contact_spelled (At address) h = address_spelled true address h

-- ## Numbers

digit_solid : (b : ℕ) → is_ascii_digit b ≡ true → is_blank b ≡ false
digit_solid b h = solid_by is_ascii_digit refl refl b h

pub number_value : (n limit : ℕ) → limit ≤ 2 ^ 64 → n < limit → IsValue (decimal n)
number_value n limit less small =
    let is = number_text n limit less small in
    solid_value (decimal n) (digits_line (decimal n) is.1) (class_begins is_ascii_digit digit_solid (decimal n) is.0 is.1) (class_ends is_ascii_digit digit_solid (decimal n) is.0 is.1)

small_limit : 2 ^ 31 ≤ 2 ^ 64
small_limit = omega arith

cseq_is : (cseq : CSeq) → cseq_text cseq ≡ decimal cseq.number ++ 32 ∷ cseq.method
unfolding cseq_text
cseq_is cseq = append_assoc (decimal cseq.number) (32 ∷ []) cseq.method

pub cseq_spelled : (cseq : CSeq) → IsCSeq cseq → IsCSeqSpelled (cseq_text cseq) cseq
cseq_spelled cseq kept =
    (cseq_text cseq, (kept.method, decimal cseq.number, 32 ∷ [], decimal_is_read cseq.number (2 ^ 31) small_limit kept.number, blank_gap, refl, cseq_is cseq), itself_padded (cseq_text cseq))

pub cseq_value : (cseq : CSeq) → IsCSeq cseq → IsValue (cseq_text cseq)
cseq_value cseq kept =
    let digits = decimal cseq.number in
    let is = number_text cseq.number (2 ^ 31) small_limit kept.number in
    let bytes = token_is cseq.method kept.method in
    let one = line_joined digits (32 ∷ cseq.method) (digits_line digits is.1) (line_joined (32 ∷ []) cseq.method signs_line.4 (token_line cseq.method kept.method)) in
    let begin = begins_joined digits (32 ∷ cseq.method) (class_begins is_ascii_digit digit_solid digits is.0 is.1) in
    let end = ends_joined digits (32 ∷ cseq.method) (ends_joined (32 ∷ []) cseq.method (class_ends is_token_byte token_solid cseq.method bytes.0 bytes.1)) in
    subst IsValue (sym (cseq_is cseq)) (solid_value (digits ++ 32 ∷ cseq.method) one begin end)
