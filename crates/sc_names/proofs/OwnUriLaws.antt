-- The text of an own URI, from its pieces.
use Rattle.std.proofs.Common.{◌≡◌, ℕ, List, [], ◌∷◌, ◌++◌, Some, sym, ap, ◌∙◌, append_assoc, append-nil}
use Rattle.std.specs.Prelude.{decimal}
use Rattle.sc_value.specs.declared.parts.Param.{Param}
use Rattle.sc_tokens.specs.Bytes.{Bytes}
use Rattle.sc_grammar.specs.Written.{sip_uri_text, ended_text, port_text, params_text, param_text, signed_text, scheme}
use Rattle.std.proofs.lemmas.List.{append_cancel_left}
use Rattle.sc_value.specs.declared.ids.AppId.{AppId}
use Rattle.sc_model.specs.Names.{IsOf64, ap_name, ap_value, own_uri, session_uri, tcp_param, loose_param}
use Rattle.sc_model.proofs.Names.{joined, ap_same}
use Rattle.sc_names.specs.OwnUris.{listen_text, fixed_params, named_value}

own_params : Bytes → Bytes → List Param
own_params name value = tcp_param ∷ loose_param ∷ record { name = name; value = Some value } ∷ []

params_are : (name value : Bytes) → params_text (own_params name value) ≡ fixed_params ++ named_value name value
unfolding params_text fixed_params named_value param_text signed_text own_params
params_are name value =
    ap (λ l. param_text tcp_param ++ (param_text loose_param ++ l)) (append-nil (59 ∷ (name ++ 61 ∷ value)) ∙ ap (λ l. 59 ∷ l) (sym (joined 61 name value)))
    ∙ sym (append_assoc (param_text tcp_param) (param_text loose_param) (59 ∷ (name ++ 61 ∷ [] ++ value)))

pub own_uri_is : (host : Bytes) (port : ℕ) (name value : Bytes) → sip_uri_text (own_uri host port name value) ≡ listen_text host port ++ fixed_params ++ named_value name value
unfolding sip_uri_text ended_text port_text signed_text own_uri listen_text own_params
own_uri_is host port name value =
    append-nil (scheme ++ [] ++ host ++ (58 ∷ decimal port) ++ params_text (own_params name value))
    ∙ ap (λ l. l ++ host ++ (58 ∷ decimal port) ++ params_text (own_params name value)) (append-nil scheme)
    ∙ ap (λ l. l ++ params_text (own_params name value)) (sym (joined 58 (scheme ++ host) (decimal port)))
    ∙ ap (λ l. listen_text host port ++ l) (params_are name value)
    ∙ sym (append_assoc (listen_text host port) fixed_params (named_value name value))

uri_same : (host : Bytes) (port : ℕ) (name v w : Bytes) → sip_uri_text (own_uri host port name v) ≡ sip_uri_text (own_uri host port name w) → v ≡ w
unfolding named_value
uri_same host port name v w is =
    append_cancel_left (59 ∷ [] ++ name ++ 61 ∷ []) v w
    (append_cancel_left (listen_text host port ++ fixed_params) (named_value name v) (named_value name w) (sym (own_uri_is host port name v) ∙ is ∙ own_uri_is host port name w))

-- equal URIs of sessions name one session
pub session_uri_same : (host : Bytes) (port e f : ℕ) (a b : AppId) → IsOf64 e a 0 → IsOf64 f b 0 → sip_uri_text (session_uri host port e a) ≡ sip_uri_text (session_uri host port f b) → (e ≡ f) × (a ≡ b)
unfolding session_uri
session_uri_same host port e f a b small also is = ap_same e f a b small also (uri_same host port ap_name (ap_value e a) (ap_value f b) is)
