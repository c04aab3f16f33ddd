-- The parts of a text of one line keep the grammar.
use Rattle.std.proofs.Common.{◌≡◌, ℕ, Bool, true, Option, Some, None, List, [], ◌∷◌, ◌++◌, ◌&&◌, ◌<◌, ◌^◌, ◌⊎◌, inl, inr, refl, sym, ap, subst, ◌∙◌, arith}
use Rattle.std.specs.Prelude.{unwrap_or, nat_lt, IfSome}
use Rattle.std.specs.List.{list_all}
use Rattle.std.specs.Option.{option_map_or}
use Rattle.std.proofs.lemmas.Bool.Decides.{nat_tests}
use Rattle.sc_tokens.specs.Tokens.{is_one_line}
use Rattle.sc_value.specs.declared.parts.Param.{Param}
use Rattle.sc_value.specs.declared.parts.Uri.{Uri}
use Rattle.sc_value.specs.declared.parts.Uri.TheVariants.{Sip, Other}
use Rattle.sc_value.specs.declared.parts.Address.{Address}
use Rattle.sc_value.specs.declared.parts.Contact.{Contact}
use Rattle.sc_value.specs.declared.parts.Contact.TheVariants.{Star, At}
use Rattle.sc_value.specs.declared.parts.Via.{Via}
use Rattle.sc_value.specs.declared.parts.CSeq.{CSeq}
use Rattle.sc_tokens.specs.Bytes.{Bytes}
use Rattle.sc_tokens.specs.Numbers.{is_digits, number_in, number_below}
use Rattle.sc_tokens.specs.UriTokens.{IsOtherSpelled}
use Rattle.sc_syntax.specs.SpelledUris.{behind_sign as led, IsPortSpelled, IsUriSpelled}
use Rattle.sc_syntax.specs.SpelledParts.{Padded, AreLed, AreListed, header_param, AreParamsSpelled}
use Rattle.sc_syntax.specs.SpelledVias.{IsViaSpelled, AreViasSpelled}
use Rattle.sc_tokens.specs.HeaderTokens.{IsDisplay}
use Rattle.sc_syntax.specs.SpelledAddresses.{IsNamedSpelled, IsBareSpelled, IsAddressIn, AreAddressesSpelled, IsContactSpelled, AreContactsSpelled}
use Rattle.sc_syntax.specs.SpelledSequences.{IsCSeqSpelled}
use Rattle.sc_syntax.proofs.BlankLaws.{both}
use Rattle.sc_syntax.proofs.ListedLaws.{if_some}
use Rattle.sc_value.specs.AddressValues.{IsUri, IsAddress}
use Rattle.sc_value.specs.ContactRules.{IsContact}
use Rattle.sc_value.specs.ParamRules.{AreHeaderParams}
use Rattle.sc_value.specs.SequenceValues.{IsCSeq}
use Rattle.sc_value.specs.ViaValues.{IsVia}
use Rattle.sc_spelling.specs.SpelledHeads.{AreInLines}
use Rattle.sc_spelling.specs.Kept.{AllKeep}
use Rattle.sc_spelling.proofs.Segments.{keep_joined}
use Rattle.sc_spelling.proofs.ReadLines.{line_split}

-- ## Numbers

below_is : (n limit : ℕ) → nat_lt n limit ≡ true → n < limit
below_is n limit h = grind (arith, nat_tests, h)

pub number_small : (limit : ℕ) (text : Bytes) (n : ℕ) → number_below limit text ≡ Some n → n < limit
unfolding number_below
number_small limit text n h =
    let is = if_some (is_digits text && nat_lt (number_in text) limit) (Some (number_in text)) n h in
    let small = below_is (number_in text) limit (both (is_digits text) (nat_lt (number_in text) limit) is.0).1 in
    let same : number_in text ≡ n = ap (λ o. unwrap_or o n) is.1 in
    subst (λ (k : ℕ). k < limit) same small

port_kept : (text : Bytes) (port : Option ℕ) → IsPortSpelled text port → IfSome port (λ n. n < 65536)
unfolding IsPortSpelled
port_kept text None h = tt
port_kept text (Some port) h = number_small 65536 h.0 port h.1

-- ## URIs

pub uri_kept : (text : Bytes) (uri : Uri) → IsUriSpelled text uri → IsUri uri
unfolding IsUri IsUriSpelled
uri_kept text (Sip uri) (kept, scheme, port, same, spelled, is) = (kept, port_kept port uri.port spelled)
uri_kept text (Other other) h = subst (λ (t : Bytes). IsOtherSpelled t other) h.0 h

-- ## Parameters

padded_line : (inner text : Bytes) → Padded inner text → is_one_line text ≡ true → is_one_line inner ≡ true
padded_line inner text (front, back, f, b, is) h = (line_split inner back (line_split front (inner ++ back) (ap is_one_line (sym is) ∙ h)).1).0

led_line : (value : Option Bytes) → is_one_line (led 61 value) ≡ true → option_map_or is_one_line value true ≡ true
unfolding led
led_line None h = refl
led_line (Some value) h = (line_split (61 ∷ []) value h).1

pub params_kept : (params : List Param) (text : Bytes) → AreParamsSpelled text params → is_one_line text ≡ true → AreHeaderParams params
unfolding AreHeaderParams AreLed header_param
params_kept [] text h one = tt
params_kept (param ∷ params) text (item, rest, (kept, pad), more, is) one =
    let parts = line_split item rest (line_split (59 ∷ []) (item ++ rest) (ap is_one_line (sym is) ∙ one)).1 in
    let own = padded_line (param.name ++ led 61 param.value) item pad parts.0 in
    ((kept, led_line param.value (line_split param.name (led 61 param.value) own).1), params_kept params rest more parts.1)

-- ## Vias

via_kept : (text : Bytes) (via : Via) → is_one_line text ≡ true → IsViaSpelled text via → IsVia via
via_kept text via one (name, version, inner, hop, rest, n, v, (token, host, gap, port, g, some, spelled, whole), pad, params, is) =
    let behind = line_split version (47 ∷ (hop ++ rest)) (line_split (47 ∷ []) (version ++ 47 ∷ (hop ++ rest)) (line_split name (47 ∷ (version ++ 47 ∷ (hop ++ rest))) (ap is_one_line (sym is) ∙ one)).1).1 in
    record { transport = token; host = host; port = port_kept port via.port spelled; params = params_kept via.params rest params (line_split hop rest (line_split (47 ∷ []) (hop ++ rest) behind.1).1).1 }

-- ## Addresses

display_kept : (display : Option Bytes) (rest : Bytes) → is_one_line (unwrap_or display [] ++ rest) ≡ true → option_map_or is_one_line display true ≡ true
display_kept None rest h = refl
display_kept (Some text) rest h = (line_split text rest h).0

nothing_shown : (display : Option Bytes) → display ≡ None → IsDisplay display × (option_map_or is_one_line display true ≡ true)
unfolding IsDisplay
nothing_shown None h = (tt, refl)
nothing_shown (Some text) h = let bad : ◌≡◌ {A = Option Bytes} (Some text) None = h in cc

form_kept : (listed : Bool) (text : Bytes) (address : Address) → is_one_line text ≡ true → IsNamedSpelled text address ⊎ IsBareSpelled listed text address → IsDisplay address.display × (option_map_or is_one_line address.display true ≡ true) × IsUri address.uri
form_kept listed text address one (inl (display, gap, uri, g, spelled, is)) =
    (display, display_kept address.display (gap ++ 60 ∷ (uri ++ 62 ∷ [])) (ap is_one_line (sym is) ∙ one), uri_kept uri address.uri spelled)
form_kept listed text address one (inr (none, spelled, semi, comma)) = let shown = nothing_shown address.display none in (shown.0, shown.1, uri_kept text address.uri spelled)

pub address_kept : (listed : Bool) (text : Bytes) (address : Address) → is_one_line text ≡ true → IsAddressIn listed text address → IsAddress address
address_kept listed text address one (inner, first, rest, form, pad, params, is) =
    let parts = line_split first rest (ap is_one_line (sym is) ∙ one) in
    let kept = form_kept listed inner address (padded_line inner first pad parts.0) form in
    record { display = kept.0; line = kept.1; uri = kept.2; params = params_kept address.params rest params parts.1 }

contact_kept : (text : Bytes) (contact : Contact) → is_one_line text ≡ true → IsContactSpelled text contact → IsContact contact
unfolding IsContact IsContactSpelled
contact_kept text Star one h = tt
contact_kept text (At address) one h = address_kept true text address one h

pub cseq_kept : (text : Bytes) (cseq : CSeq) → IsCSeqSpelled text cseq → IsCSeq cseq
cseq_kept text cseq (inner, (token, digits, gap, number, g, some, is), pad) = record { number = number_small (2 ^ 31) digits cseq.number number; method = token }

-- ## Lists

module _ {X : Type 0} (Spells : Bytes → X → Type 0) (Keeps : X → Type 0) (kept : (text : Bytes) (x : X) → is_one_line text ≡ true → Spells text x → Keeps x) where
  led_kept : (xs : List X) (text : Bytes) → is_one_line text ≡ true → AreLed 44 Spells text xs → AllKeep Keeps xs
  unfolding AllKeep AreLed
  led_kept [] text one h = tt
  led_kept (x ∷ xs) text one (item, rest, spells, more, is) =
      let parts = line_split item rest (line_split (44 ∷ []) (item ++ rest) (ap is_one_line (sym is) ∙ one)).1 in (kept item x parts.0 spells, led_kept xs rest parts.1 more)

  listed_kept : (xs : List X) (text : Bytes) → is_one_line text ≡ true → AreListed 44 Spells text xs → AllKeep Keeps xs
  unfolding AllKeep AreListed
  listed_kept [] text one h = tt
  listed_kept (x ∷ xs) text one (item, rest, spells, more, is) =
      let parts = line_split item rest (ap is_one_line (sym is) ∙ one) in (kept item x parts.0 spells, led_kept xs rest parts.1 more)

  pub lines_kept : (values : List Bytes) (xs : List X) → list_all is_one_line values ≡ true → AreInLines (λ text ys. AreListed 44 Spells text ys) values xs → AllKeep Keeps xs
  unfolding AreInLines AllKeep
  lines_kept [] xs one h = subst (AllKeep Keeps) (sym h) tt
  lines_kept (value ∷ values) xs one (first, more, spells, rest, is) =
      let ones = both (is_one_line value) (list_all is_one_line values) one in
      subst (AllKeep Keeps) (sym is) (keep_joined Keeps first more (listed_kept first value ones.0 spells) (lines_kept values more ones.1 rest))

pub vias_kept : (values : List Bytes) (vias : List Via) → list_all is_one_line values ≡ true → AreInLines AreViasSpelled values vias → AllKeep IsVia vias
vias_kept values vias one h = lines_kept IsViaSpelled IsVia via_kept values vias one h

pub addresses_kept : (values : List Bytes) (addresses : List Address) → list_all is_one_line values ≡ true → AreInLines AreAddressesSpelled values addresses → AllKeep IsAddress addresses
addresses_kept values addresses one h = lines_kept (IsAddressIn true) IsAddress (address_kept true) values addresses one h

pub contacts_kept : (values : List Bytes) (contacts : List Contact) → list_all is_one_line values ≡ true → AreInLines AreContactsSpelled values contacts → AllKeep IsContact contacts
contacts_kept values contacts one h = lines_kept IsContactSpelled IsContact contact_kept values contacts one h
