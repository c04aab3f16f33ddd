-- The written forms of parts spell them, and are values of one line.
use Rattle.std.proofs.Common.{◌≡◌, ℕ, true, false, Option, Some, None, List, [], ◌∷◌, ◌++◌, ◌==◌, ◌<◌, ◌≤◌, ◌^◌, inl, inr, length, decimal, refl, sym, ap, subst, ◌∙◌, append_assoc, append-nil, arith}
use Rattle.std.specs.Prelude.{codes, is_some, IfSome}
use Rattle.std.specs.List.{list_all, flat_map}
use Rattle.std.specs.Option.{option_map_or}
use Rattle.std.specs.Char.{is_ascii_digit}
use Rattle.sc_tokens.specs.Names.{same_name}
use Rattle.sc_tokens.specs.Tokens.{is_token, is_token_byte, is_blank, is_line_break, is_one_line}
use Rattle.sc_value.specs.declared.parts.Param.{Param}
use Rattle.sc_value.specs.declared.parts.SipUri.{SipUri}
use Rattle.sc_value.specs.declared.parts.Uri.{Uri}
use Rattle.sc_value.specs.declared.parts.Uri.TheVariants.{Sip, Other}
use Rattle.sc_value.specs.declared.parts.Via.{Via}
use Rattle.sc_grammar.specs.Written.{version, signed_text, param_text, params_text, ended_text, port_text, scheme, sip_uri_text, uri_text, via_text}
use Rattle.sc_tokens.specs.Bytes.{Bytes}
use Rattle.sc_tokens.specs.HeaderTokens.{is_value_byte, is_string, is_param_text}
use Rattle.sc_tokens.specs.UriTokens.{sip_scheme}
use Rattle.sc_syntax.specs.SpelledUris.{behind_sign as led, closed_by, IsPortSpelled, spelled_param, IsSipSpelled, IsUriSpelled}
use Rattle.sc_syntax.specs.SpelledParts.{IsBlanks, Padded, AreLed, header_param, AreParamsSpelled}
use Rattle.sc_syntax.specs.SpelledVias.{IsViaSpelled}
use Rattle.sc_syntax.proofs.ClassLaws.{positive, BeginsSolid, EndsSolid, ends_joined, class_ends, solid_is_trimmed}
use Rattle.sc_syntax.proofs.RunLaws.{comma_sign, string_is_closed}
use Rattle.sc_syntax.proofs.ParameterLaws.{solid_by, token_is, token_solid, either}
use Rattle.sc_syntax.proofs.HostLaws.{is_sent_byte, sent_bytes, number_digits, digits_are}
use Rattle.sc_syntax.proofs.SpelledViaLaws.{sent_solid}
use Rattle.sc_syntax.proofs.SpelledUriLaws.{uri_is_open}
use Rattle.sc_syntax.proofs.DecimalLaws.{decimal_is_read}
use Rattle.sc_value.specs.AddressValues.{IsUri}
use Rattle.sc_value.specs.ParamRules.{AreHeaderParams}
use Rattle.sc_value.specs.ViaValues.{IsVia}
use Rattle.sc_spelling.specs.SpelledLines.{IsValue}
use Rattle.sc_spelling.proofs.StartLaws.{line_joined, class_line, token_line, open_line}

-- ## Numbers and ports

pub number_text : (n limit : ℕ) → limit ≤ 2 ^ 64 → n < limit → ((length (decimal n) == 0) ≡ false) × (list_all is_ascii_digit (decimal n) ≡ true)
number_text n limit less small = digits_are (decimal n) (number_digits limit (decimal n) (ap is_some (decimal_is_read n limit less small)))

pub port_spelled : (port : Option ℕ) → IfSome port (λ n. n < 65536) → IsPortSpelled (port_text port) port
unfolding IsPortSpelled port_text
port_spelled None h = refl
port_spelled (Some port) h = (decimal port, decimal_is_read port 65536 (omega arith) h, refl)

-- ## URIs

pub signed_is : (sign : ℕ) (o : Option Bytes) → signed_text sign o ≡ led sign o
unfolding signed_text led
signed_is sign None = refl
signed_is sign (Some text) = refl

closed_is : (o : Option Bytes) → ended_text o 64 ≡ closed_by 64 o
unfolding ended_text closed_by
closed_is None = refl
closed_is (Some text) = refl

params_are : (params : List Param) → params_text params ≡ flat_map spelled_param params
unfolding params_text param_text spelled_param
params_are [] = refl
params_are (param ∷ params) = ap (λ l. (59 ∷ (param.name ++ l)) ++ flat_map param_text params) (signed_is 61 param.value) ∙ ap (λ l. (59 ∷ (param.name ++ led 61 param.value)) ++ l) (params_are params)

scheme_is : same_name sip_scheme sip_scheme ≡ true
unfolding same_name sip_scheme
scheme_is = refl

sip_is : (uri : SipUri) → sip_uri_text uri ≡ codes "sip:" ++ (ended_text uri.user 64 ++ (uri.host ++ (port_text uri.port ++ (params_text uri.params ++ signed_text 63 uri.headers))))
unfolding sip_uri_text scheme
sip_is uri = simp append_assoc

sip_spelled : (uri : SipUri) → IsUri (Sip uri) → IsSipSpelled (sip_uri_text uri) uri
unfolding IsUri sip_scheme
sip_spelled uri h =
    let front = codes "sip:" in (
      h.0,
      codes "sip",
      port_text uri.port,
      scheme_is,
      port_spelled uri.port h.1,
      sip_is uri ∙ ap (λ l. front ++ (l ++ (uri.host ++ (port_text uri.port ++ (params_text uri.params ++ signed_text 63 uri.headers))))) (closed_is uri.user)
          ∙ ap (λ l. front ++ (closed_by 64 uri.user ++ (uri.host ++ (port_text uri.port ++ (l ++ signed_text 63 uri.headers))))) (params_are uri.params)
          ∙ ap (λ l. front ++ (closed_by 64 uri.user ++ (uri.host ++ (port_text uri.port ++ (flat_map spelled_param uri.params ++ l))))) (signed_is 63 uri.headers),
    )

pub uri_spelled : (uri : Uri) → IsUri uri → IsUriSpelled (uri_text uri) uri
unfolding IsUriSpelled uri_text IsUri
uri_spelled (Sip uri) h = sip_spelled uri h
uri_spelled (Other text) h = h

pub uri_line : (uri : Uri) → IsUri uri → is_one_line (uri_text uri) ≡ true
uri_line uri h = open_line (uri_text uri) (uri_is_open (uri_text uri) uri (uri_spelled uri h))

-- ## Header parameters

pub itself_padded : (text : Bytes) → Padded text text
itself_padded text = ([], [], refl, refl, sym (append-nil text))

pub params_spelled : (params : List Param) → AreHeaderParams params → AreParamsSpelled (params_text params) params
unfolding AreHeaderParams AreLed params_text param_text header_param
params_spelled [] h = refl
params_spelled (param ∷ params) h =
    let one = param.name ++ led 61 param.value in (
      one,
      params_text params,
      (h.0.0, itself_padded one),
      params_spelled params h.1,
      ap (λ l. (59 ∷ (param.name ++ l)) ++ params_text params) (signed_is 61 param.value),
    )

pub signs_line : (is_one_line (59 ∷ []) ≡ true) × (is_one_line (61 ∷ []) ≡ true) × (is_one_line (60 ∷ []) ≡ true) × (is_one_line (62 ∷ []) ≡ true) × (is_one_line (32 ∷ []) ≡ true) × (is_one_line [] ≡ true) × (is_one_line (codes "SIP/2.0/") ≡ true)
unfolding is_one_line is_line_break
signs_line = (refl, refl, refl, refl, refl, refl, refl)

value_line : (value : Option Bytes) → option_map_or is_one_line value true ≡ true → is_one_line (signed_text 61 value) ≡ true
unfolding signed_text
value_line None h = signs_line.5
value_line (Some value) h = line_joined (61 ∷ []) value signs_line.1 h

pub params_line : (params : List Param) → AreHeaderParams params → is_one_line (params_text params) ≡ true
unfolding AreHeaderParams params_text param_text
params_line [] h = signs_line.5
params_line (param ∷ params) h =
    line_joined (59 ∷ (param.name ++ signed_text 61 param.value)) (params_text params)
    (line_joined (59 ∷ []) (param.name ++ signed_text 61 param.value) signs_line.0 (line_joined param.name (signed_text 61 param.value) (token_line param.name h.0.0.0) (value_line param.value h.0.1))) (params_line params h.1)

value_solid : (b : ℕ) → is_value_byte b ≡ true → is_blank b ≡ false
unfolding is_value_byte is_token_byte
value_solid b h = solid_by is_value_byte refl refl b h

equals_solid : is_blank 61 ≡ false
unfolding is_blank
equals_solid = refl

value_ends : (value : Bytes) → is_param_text value ≡ true → EndsSolid (61 ∷ value)
unfolding is_param_text
value_ends [] h = ([], 61, equals_solid, refl)
value_ends (b ∷ bs) h = ends_joined (61 ∷ []) (b ∷ bs) (elim (either (list_all is_value_byte (b ∷ bs)) (is_string (b ∷ bs)) h) as (λ _. EndsSolid (b ∷ bs)) [
  | inl bytes ↦ class_ends is_value_byte value_solid (b ∷ bs) (positive (length bs)) bytes
  | inr string ↦ (string_is_closed 44 (b ∷ bs) comma_sign string).1
])

param_ends : (name : Bytes) (value : Option Bytes) → is_token name ≡ true → option_map_or is_param_text value true ≡ true → EndsSolid (name ++ signed_text 61 value)
unfolding signed_text
param_ends name None n v = let t = token_is name n in subst EndsSolid (sym (append-nil name)) (class_ends is_token_byte token_solid name t.0 t.1)
param_ends name (Some value) n v = ends_joined name (61 ∷ value) (value_ends value v)

-- a text that ends solid does so with parameters behind it
pub params_end : (params : List Param) (front : Bytes) → EndsSolid front → AreHeaderParams params → EndsSolid (front ++ params_text params)
unfolding AreHeaderParams params_text param_text
params_end [] front e h = subst EndsSolid (sym (append-nil front)) e
params_end (param ∷ params) front e h =
    let one = 59 ∷ (param.name ++ signed_text 61 param.value) in
    subst EndsSolid (append_assoc front one (params_text params))
    (params_end params (front ++ one) (ends_joined front one (ends_joined (59 ∷ []) (param.name ++ signed_text 61 param.value) (param_ends param.name param.value h.0.0.0 h.0.0.1))) h.1)

-- a text of one line that begins and ends solid is a value
pub solid_value : (text : Bytes) → is_one_line text ≡ true → BeginsSolid text → EndsSolid text → IsValue text
solid_value text one begin end = (one, solid_is_trimmed text begin end)

-- ## Vias

via_is : (via : Via) → via_text via ≡ codes "SIP/2.0/" ++ (via.transport ++ 32 ∷ (via.host ++ (port_text via.port ++ params_text via.params)))
unfolding via_text version
via_is via =
    let rest = (via.host ++ port_text via.port) ++ params_text via.params in
    ap (λ l. codes "SIP/2.0/" ++ l) (append_assoc via.transport (32 ∷ []) rest ∙ ap (λ l. via.transport ++ 32 ∷ l) (append_assoc via.host (port_text via.port) (params_text via.params)))

pub blank_gap : IsBlanks (32 ∷ [])
unfolding is_blank
blank_gap = refl

pub via_spelled : (via : Via) → IsVia via → IsViaSpelled (via_text via) via
via_spelled via kept =
    let sent = via.host ++ port_text via.port in
    let inner = via.transport ++ (32 ∷ sent) in (
      codes "SIP",
      codes "2.0",
      inner,
      inner,
      params_text via.params,
      itself_padded (codes "SIP"),
      itself_padded (codes "2.0"),
      (kept.transport, kept.host, 32 ∷ [], port_text via.port, blank_gap, refl, port_spelled via.port kept.port, refl),
      itself_padded inner,
      params_spelled via.params kept.params,
      via_is via ∙ ap (λ l. codes "SIP/2.0/" ++ (via.transport ++ 32 ∷ l)) (sym (append_assoc via.host (port_text via.port) (params_text via.params)))
          ∙ ap (λ l. codes "SIP/2.0/" ++ l) (sym (append_assoc via.transport (32 ∷ sent) (params_text via.params))),
    )

sent_line : (text : Bytes) → list_all is_sent_byte text ≡ true → is_one_line text ≡ true
unfolding is_sent_byte
sent_line text h = class_line is_sent_byte refl refl refl text h

letter_solid : is_blank 83 ≡ false
unfolding is_blank
letter_solid = refl

pub via_value : (via : Via) → IsVia via → IsValue (via_text via)
via_value via kept =
    let sent = via.host ++ port_text via.port in
    let bytes = sent_bytes via.host (port_text via.port) via.port kept.host (port_spelled via.port kept.port) in
    let front = codes "SIP/2.0/" ++ (via.transport ++ 32 ∷ sent) in
    let is : via_text via ≡ front ++ params_text via.params =
    via_is via ∙ ap (λ l. codes "SIP/2.0/" ++ (via.transport ++ 32 ∷ l)) (sym (append_assoc via.host (port_text via.port) (params_text via.params)))
    ∙ ap (λ l. codes "SIP/2.0/" ++ l) (sym (append_assoc via.transport (32 ∷ sent) (params_text via.params))) in
    let one = line_joined front (params_text via.params) (line_joined (codes "SIP/2.0/") (via.transport ++ 32 ∷ sent) signs_line.6 (line_joined via.transport (32 ∷ sent) (token_line via.transport kept.transport) (line_joined (32 ∷ []) sent signs_line.4 (sent_line sent bytes.0)))) (params_line via.params kept.params) in
    let end = params_end via.params front (ends_joined (codes "SIP/2.0/") (via.transport ++ 32 ∷ sent) (ends_joined via.transport (32 ∷ sent) (ends_joined (32 ∷ []) sent (class_ends is_sent_byte sent_solid sent bytes.1 bytes.0)))) kept.params in
    let begin : BeginsSolid (front ++ params_text via.params) = (83, codes "IP/2.0/" ++ ((via.transport ++ 32 ∷ sent) ++ params_text via.params), letter_solid, refl) in
    subst IsValue (sym is) (solid_value (front ++ params_text via.params) one begin end)
