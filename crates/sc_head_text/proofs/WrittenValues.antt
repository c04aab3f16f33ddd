-- What is written is spelled, so it is read again.
use Rattle.std.proofs.Common.{◌≡◌, ℕ, Bool, true, Option, Some, None, List, [], ◌∷◌, ◌++◌, ◌<◌, ◌^◌, inl, decimal, refl, sym, ap, ◌∙◌, arith, append_assoc, append-nil}
use Rattle.std.specs.Prelude.{codes, IfSome, unwrap_or}
use Rattle.sc_tokens.specs.Tokens.{is_blank}
use Rattle.sc_value.specs.declared.parts.Param.{Param}
use Rattle.sc_value.specs.declared.parts.Via.{Via}
use Rattle.sc_value.specs.declared.parts.Uri.{Uri}
use Rattle.sc_value.specs.declared.parts.Uri.TheVariants.{Sip, Other}
use Rattle.sc_value.specs.declared.parts.Address.{Address}
use Rattle.sc_value.specs.declared.parts.Contact.{Contact}
use Rattle.sc_value.specs.declared.parts.Contact.TheVariants.{Star, At}
use Rattle.sc_value.specs.declared.parts.CSeq.{CSeq}
use Rattle.sc_tokens.specs.Bytes.{Bytes}
use Rattle.sc_grammar.specs.Written.{version, signed_text, param_text, params_text, ended_text, port_text, uri_text, address_text, contact_text, via_text, cseq_text}
use Rattle.sc_uri_text.proofs.WrittenLaws.{written_is_spelled}
use Rattle.sc_syntax.specs.SpelledUris.{behind_sign as led, IsPortSpelled, IsUriSpelled}
use Rattle.sc_syntax.specs.SpelledParts.{IsBlanks, Padded, AreLed, AreListed, header_param, AreParamsSpelled}
use Rattle.sc_syntax.specs.SpelledVias.{IsViaSpelled}
use Rattle.sc_syntax.specs.SpelledAddresses.{IsAddressIn, IsContactSpelled}
use Rattle.sc_syntax.specs.SpelledSequences.{IsCSeqSpelled}
use Rattle.sc_syntax.proofs.DecimalLaws.{decimal_is_read}
use Rattle.sc_value.specs.SequenceValues.{IsCSeq}
use Rattle.sc_value.specs.ParamRules.{AreHeaderParams}
use Rattle.sc_value.specs.ViaValues.{IsVia}
use Rattle.sc_value.specs.AddressValues.{IsUri, IsAddress}
use Rattle.sc_value.specs.ContactRules.{IsContact}

one_blank : IsBlanks (32 ∷ [])
unfolding is_blank
one_blank = refl

itself_padded : (text : Bytes) → Padded text text
itself_padded text = ([], [], refl, refl, sym (append-nil text))

-- ## Parameters and ports

led_is : (sign : ℕ) (text : Option Bytes) → signed_text sign text ≡ led sign text
unfolding signed_text led
led_is sign None = refl
led_is sign (Some text) = refl

params_spelled : (params : List Param) → AreHeaderParams params → AreParamsSpelled (params_text params) params
unfolding params_text param_text AreLed AreHeaderParams header_param
params_spelled [] h = refl
params_spelled (param ∷ params) h =
    (header_param param, params_text params, (h.0.0, itself_padded (header_param param)), params_spelled params h.1, ap (λ l. 59 ∷ ((param.name ++ l) ++ params_text params)) (led_is 61 param.value))

port_spelled : (port : Option ℕ) → IfSome port (λ n. n < 65536) → IsPortSpelled (port_text port) port
unfolding port_text IsPortSpelled
port_spelled None h = refl
port_spelled (Some port) h = (decimal port, decimal_is_read port 65536 (omega arith) h, refl)

uri_spelled : (uri : Uri) → IsUri uri → IsUriSpelled (uri_text uri) uri
unfolding IsUri uri_text IsUriSpelled
uri_spelled (Sip uri) h = written_is_spelled uri h.0 h.1
uri_spelled (Other text) h = h

-- ## Vias

via_flat : (transport sent params : Bytes) → (((version ++ (47 ∷ [])) ++ transport) ++ (32 ∷ [])) ++ (sent ++ params) ≡ codes "SIP" ++ 47 ∷ (codes "2.0" ++ 47 ∷ ((transport ++ ((32 ∷ []) ++ sent)) ++ params))
unfolding version
via_flat transport sent params =
    append_assoc (((codes "SIP/2.0") ++ (47 ∷ [])) ++ transport) (32 ∷ []) (sent ++ params) ∙ append_assoc ((codes "SIP/2.0") ++ (47 ∷ [])) transport (32 ∷ (sent ++ params))
    ∙ ap (λ l. codes "SIP/2.0/" ++ l) (sym (append_assoc transport (32 ∷ sent) params))

pub via_spelled : (via : Via) → IsVia via → IsViaSpelled (via_text via) via
unfolding via_text
via_spelled via kept =
    let sent = via.host ++ port_text via.port in
    let inner = via.transport ++ ((32 ∷ []) ++ sent) in (
      codes "SIP",
      codes "2.0",
      inner,
      inner,
      params_text via.params,
      itself_padded (codes "SIP"),
      itself_padded (codes "2.0"),
      (kept.transport, kept.host, 32 ∷ [], port_text via.port, one_blank, refl, port_spelled via.port kept.port, refl),
      itself_padded inner,
      params_spelled via.params kept.params,
      via_flat via.transport sent (params_text via.params),
    )

-- ## Addresses

shown_flat : (display uri params : Bytes) → (((((display ++ 32 ∷ []) ++ 60 ∷ []) ++ uri) ++ 62 ∷ []) ++ params) ≡ (display ++ ((32 ∷ []) ++ 60 ∷ (uri ++ 62 ∷ []))) ++ params
shown_flat display uri params =
    ap (λ l. l ++ params) (append_assoc ((display ++ 32 ∷ []) ++ 60 ∷ []) uri (62 ∷ []) ∙ append_assoc (display ++ 32 ∷ []) (60 ∷ []) (uri ++ 62 ∷ []) ∙ append_assoc display (32 ∷ []) (60 ∷ (uri ++ 62 ∷ [])))

-- the blank behind a display
abbrev gap_of : Option Bytes → Bytes
gap_of None = []
gap_of (Some display) = 32 ∷ []

gap_blank : (display : Option Bytes) → IsBlanks (gap_of display)
gap_blank None = refl
gap_blank (Some display) = one_blank

address_flat : (display : Option Bytes) (uri params : Bytes) → (((ended_text display 32 ++ 60 ∷ []) ++ uri) ++ 62 ∷ []) ++ params ≡ (unwrap_or display [] ++ (gap_of display ++ 60 ∷ (uri ++ 62 ∷ []))) ++ params
unfolding ended_text
address_flat None uri params = refl
address_flat (Some display) uri params = shown_flat display uri params

pub address_spelled : (listed : Bool) (address : Address) → IsAddress address → IsAddressIn listed (address_text address) address
unfolding address_text
address_spelled listed address kept =
    let uri = uri_text address.uri in
    let inner = unwrap_or address.display [] ++ (gap_of address.display ++ 60 ∷ (uri ++ 62 ∷ [])) in (
      inner,
      inner,
      params_text address.params,
      inl (kept.display, gap_of address.display, uri, gap_blank address.display, uri_spelled address.uri kept.uri, refl),
      itself_padded inner,
      params_spelled address.params kept.params,
      address_flat address.display uri (params_text address.params),
    )

pub contact_spelled : (contact : Contact) → IsContact contact → IsContactSpelled (contact_text contact) contact
unfolding contact_text IsContact IsContactSpelled
contact_spelled Star kept = itself_padded (42 ∷ [])
contact_spelled (At address) kept = address_spelled true address kept

-- ## Lists of one item

pub one_listed : {X : Type 0} (sign : ℕ) (Spells : Bytes → X → Type 0) (text : Bytes) (x : X) → Spells text x → AreListed sign Spells text (x ∷ [])
unfolding AreListed AreLed
one_listed sign Spells text x h = (text, [], h, refl, sym (append-nil text))

-- ## CSeq

pub cseq_spelled : (cseq : CSeq) → IsCSeq cseq → IsCSeqSpelled (cseq_text cseq) cseq
unfolding cseq_text
cseq_spelled cseq kept =
    let digits = decimal cseq.number in
    let inner = digits ++ ((32 ∷ []) ++ cseq.method) in
    let whole = append_assoc digits (32 ∷ []) cseq.method ∙ sym (append-nil inner) in
    (inner, (kept.method, digits, 32 ∷ [], decimal_is_read cseq.number (2 ^ 31) (omega arith) kept.number, one_blank, refl, refl), ([], [], refl, refl, whole))
