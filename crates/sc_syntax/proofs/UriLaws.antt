-- What is read is spelled: where a text is read as a URI, it is a spelling of that URI.
use Rattle.std.proofs.Common.{◌≡◌, ℕ, Bool, true, false, cond, Option, Some, None, Result, Ok, Err, [], ◌∷◌, ◌++◌, ◌+◌, ◌-◌, length, refl, sym, ap, subst, ◌∙◌, append_assoc}
use Rattle.std.specs.Prelude.{unwrap_or}
use Rattle.std.specs.List.{flat_map}
use Rattle.std.specs.Option.{option_map, option_map_or}
use Rattle.sc_tokens.specs.Names.{same_name}
use Rattle.sc_value.specs.declared.parts.SipUri.{SipUri}
use Rattle.sc_value.specs.declared.parts.Uri.{Uri}
use Rattle.sc_value.specs.declared.parts.Uri.TheVariants.{Sip, Other}
use Rattle.sc_tokens.specs.Bytes.{Bytes, is_open}
use Rattle.sc_tokens.specs.Cuts.{before, after}
use Rattle.sc_syntax.specs.UriParts.{Fault, scheme_fault, sent_at, params_at, headers_at}
use Rattle.sc_tokens.specs.UriTokens.{is_scheme, sip_scheme, IsUser}
use Rattle.sc_syntax.specs.Uris.{user_in, behind_user, sent_in, params_text_in, sip_behind, sip_at, other_of, uri_behind, uri_of}
use Rattle.sc_value.specs.UriValues.{IsSipUri}
use Rattle.sc_syntax.specs.SpelledUris.{behind_sign as led, closed_by, IsPortSpelled, spelled_param, spelled_behind, IsUriSpelled}
use Rattle.sc_syntax.proofs.PartLaws.{ok_same, err_ok, if_ok, then_ok, led_text, lacks_before, lacks_all, lacks_after, params_spelled, sent_spelled, headers_are}

-- the parts behind the user, put together
put_together : (rest front host port params headers : Bytes) → front ++ headers ≡ rest → (host ++ port) ++ params ≡ front → rest ≡ host ++ (port ++ (params ++ headers))
put_together rest front host port params headers whole parts =
    sym whole ∙ ap (λ l. l ++ headers) (sym parts) ∙ append_assoc (host ++ port) params headers ∙ append_assoc host port (params ++ headers)

-- a text that spells this URI behind its user
abbrev IsBehind : Option Bytes → Bytes → Uri → Type 0
IsBehind user rest uri = (sip : SipUri) × (port : Bytes) × (Sip sip ≡ uri) × IsSipUri sip × (sip.user ≡ user) × IsPortSpelled port sip.port × (rest ≡ spelled_behind sip port)

behind_spelled : (at : ℕ) (user : Option Bytes) (rest : Bytes) (uri : Uri) → IsUser user (after 63 rest) → sip_behind at user rest ≡ Ok uri → IsBehind user rest uri
unfolding sip_behind sent_in params_text_in
behind_spelled at user rest uri is_user h =
    let front = before 63 rest in
    let sent = then_ok (sent_at at (before 59 front)) _ uri h in
    let params = then_ok (params_at (at + length (before 59 front) + 1) (after 59 front)) _ uri sent.2 in
    let headers = then_ok (headers_at (at + length front + 1) (after 63 rest)) _ uri params.2 in
    let host = sent_spelled at (before 59 front) sent.0 sent.1 in
    let texts = params_spelled (at + length (before 59 front) + 1) (after 59 front) params.0 params.1 in
    let end = headers_are (at + length front + 1) (after 63 rest) headers.0 headers.1 in
    let sip : SipUri = record { user = user; host = sent.0.0; port = sent.0.1; params = params.0; headers = headers.0 } in
    let parts = ap (λ l. l ++ flat_map spelled_param params.0) (sym host.3) ∙ ap (λ l. before 59 front ++ l) texts.0 ∙ led_text 59 front in
    let whole = ap (λ hs. front ++ led 63 hs) (sym end.1) ∙ led_text 63 rest in (
      sip,
      host.1,
      ok_same (Sip sip) uri headers.2,
      record { user = subst (IsUser user) end.1 is_user; host = host.0; params = texts.1; headers = subst (λ (hs : Option Bytes). option_map_or is_open hs true ≡ true) end.1 end.0 },
      refl,
      host.2,
      put_together rest front sent.0.0 host.1 (flat_map spelled_param params.0) (led 63 headers.0) whole parts,
    )

user_kept : (text : Bytes) (o : Option Bytes) → after 64 text ≡ o → option_map_or is_open (option_map (λ _. before 64 text) o) true ≡ true → IsUser (option_map (λ _. before 64 text) o) (after 63 (unwrap_or o text))
unfolding IsUser
user_kept text None h g =
    elim (after 63 text) as (λ (q : Option Bytes). after 63 text ≡ q → IsUser None q) [
      | None ↦ λ _. tt
      | Some headers ↦ λ e. lacks_after 64 63 text headers e (lacks_all 64 text h)
    ] refl
user_kept text (Some rest) h g = (g, lacks_before 64 text)

user_text : (text : Bytes) (o : Option Bytes) → after 64 text ≡ o → closed_by 64 (option_map (λ _. before 64 text) o) ++ unwrap_or o text ≡ text
unfolding closed_by led
user_text text None h = refl
user_text text (Some rest) h = append_assoc (before 64 text) (64 ∷ []) rest ∙ ap (λ a. before 64 text ++ led 64 a) (sym h) ∙ led_text 64 text

-- what stands after the scheme's colon
abbrev IsBehindScheme : Bytes → Uri → Type 0
IsBehindScheme text uri = (sip : SipUri) × (port : Bytes) × (Sip sip ≡ uri) × IsSipUri sip × IsPortSpelled port sip.port × (text ≡ closed_by 64 sip.user ++ spelled_behind sip port)

sip_spelled : (at : ℕ) (text : Bytes) (uri : Uri) → sip_at at text ≡ Ok uri → IsBehindScheme text uri
unfolding sip_at user_in behind_user
sip_spelled at text uri h =
    let user = option_map (λ _. before 64 text) (after 64 text) in
    let rest = unwrap_or (after 64 text) text in
    let is = if_ok (option_map_or is_open user true) (sip_behind (at + (length text - length rest)) user rest) _ uri h in
    let b = behind_spelled (at + (length text - length rest)) user rest uri (user_kept text (after 64 text) refl is.0) is.1 in
    let join = sym (user_text text (after 64 text) refl) ∙ ap (λ u. closed_by 64 u ++ rest) (sym b.4) ∙ ap (λ l. closed_by 64 b.0.user ++ l) b.6 in
    (b.0, b.1, b.2, b.3, b.5, join)

by_scheme : (text rest : Bytes) (uri : Uri) → after 58 text ≡ Some rest → is_scheme (before 58 text) ≡ true → uri_behind text (before 58 text) rest ≡ Ok uri → IsUriSpelled text uri
unfolding uri_behind other_of IsUriSpelled led
by_scheme text rest uri h scheme read =
    let whole = sym (ap (λ a. before 58 text ++ led 58 a) (sym h) ∙ led_text 58 text) in
    elim (same_name (before 58 text) sip_scheme) as (λ (t : Bool). same_name (before 58 text) sip_scheme ≡ t → cond t (sip_at (length (before 58 text) + 1) rest) (cond (is_open text) (Ok (Other text)) (Err scheme_fault)) ≡ Ok uri → IsUriSpelled text uri) [
      | true ↦ λ same e.
          let sip = sip_spelled (length (before 58 text) + 1) rest uri e in
          subst (IsUriSpelled text) sip.2 (sip.3, before 58 text, sip.1, same, sip.4, whole ∙ ap (λ l. before 58 text ++ 58 ∷ l) sip.5)
      | false ↦ λ differs e.
          let is = if_ok (is_open text) (Ok (Other text)) _ uri e in
          subst (IsUriSpelled text) (ok_same (Other text) uri is.1) (refl, is.0, before 58 text, rest, scheme, differs, whole)
    ] refl read

-- a text that is read as a URI spells it
pub read_is_spelled : (text : Bytes) (uri : Uri) → uri_of text ≡ Ok uri → IsUriSpelled text uri
unfolding uri_of
read_is_spelled text uri h =
    let is = if_ok (is_scheme (before 58 text)) (option_map_or (uri_behind text (before 58 text)) (after 58 text) (Err scheme_fault)) _ uri h in
    elim (after 58 text) as (λ (o : Option Bytes). after 58 text ≡ o → option_map_or {T = Bytes} {U = Result Uri Fault} (uri_behind text (before 58 text)) o (Err scheme_fault) ≡ Ok uri → IsUriSpelled text uri) [
      | None ↦ λ _ bad. absurd (err_ok _ uri bad)
      | Some rest ↦ λ e read. by_scheme text rest uri e is.0 read
    ] refl is.1
