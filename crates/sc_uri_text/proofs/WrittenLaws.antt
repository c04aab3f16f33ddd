-- What is written is spelled: the written form of a URI spells it, so it is one of the texts that
-- a reader takes for it.
use Rattle.std.proofs.Common.{◌≡◌, ℕ, true, Option, Some, None, List, [], ◌∷◌, ◌++◌, ◌<◌, decimal, refl, ap, ◌∙◌, arith, append_assoc}
use Rattle.std.specs.Prelude.{codes, IfSome}
use Rattle.std.specs.List.{flat_map}
use Rattle.sc_tokens.specs.Names.{same_name}
use Rattle.sc_value.specs.declared.parts.Param.{Param}
use Rattle.sc_value.specs.declared.parts.SipUri.{SipUri}
use Rattle.sc_value.specs.declared.parts.Uri.TheVariants.{Sip}
use Rattle.sc_tokens.specs.Bytes.{Bytes}
use Rattle.sc_grammar.specs.Written.{signed_text, param_text, params_text, ended_text, port_text, scheme, sip_uri_text, uri_text}
use Rattle.sc_tokens.specs.UriTokens.{sip_scheme}
use Rattle.sc_value.specs.UriValues.{IsSipUri}
use Rattle.sc_syntax.specs.SpelledUris.{behind_sign as led, closed_by, IsPortSpelled, spelled_param, spelled_behind, IsUriSpelled}
use Rattle.sc_syntax.proofs.DecimalLaws.{decimal_is_read}

led_is : (sign : ℕ) (text : Option Bytes) → signed_text sign text ≡ led sign text
unfolding signed_text led
led_is sign None = refl
led_is sign (Some text) = refl

closed_is : (sign : ℕ) (text : Option Bytes) → ended_text text sign ≡ closed_by sign text
unfolding ended_text closed_by
closed_is sign None = refl
closed_is sign (Some text) = refl

param_is : (param : Param) → param_text param ≡ spelled_param param
unfolding param_text spelled_param
param_is param = ap (λ l. 59 ∷ (param.name ++ l)) (led_is 61 param.value)

params_are : (params : List Param) → params_text params ≡ flat_map spelled_param params
unfolding params_text
params_are [] = refl
params_are (param ∷ params) = ap (λ l. l ++ flat_map param_text params) (param_is param) ∙ ap (λ l. spelled_param param ++ l) (params_are params)

port_is : (port : Option ℕ) → IfSome port (λ n. n < 65536) → IsPortSpelled (port_text port) port
unfolding port_text IsPortSpelled
port_is None h = refl
port_is (Some port) h = (decimal port, decimal_is_read port 65536 (omega arith) h, refl)

same_scheme : same_name (codes "sip") sip_scheme ≡ true
unfolding same_name sip_scheme
same_scheme = refl

flat : (s e h p q r : Bytes) → (((((s ++ e) ++ h) ++ p) ++ q) ++ r) ≡ s ++ (e ++ (h ++ (p ++ (q ++ r))))
flat s e h p q r =
    append_assoc ((((s ++ e) ++ h) ++ p)) q r ∙ append_assoc ((s ++ e) ++ h) p (q ++ r) ∙ append_assoc (s ++ e) h (p ++ (q ++ r)) ∙ append_assoc s e (h ++ (p ++ (q ++ r)))

text_is : (uri : SipUri) → sip_uri_text uri ≡ codes "sip" ++ 58 ∷ (closed_by 64 uri.user ++ spelled_behind uri (port_text uri.port))
unfolding sip_uri_text scheme
text_is uri =
    flat (codes "sip:") (ended_text uri.user 64) uri.host (port_text uri.port) (params_text uri.params) (signed_text 63 uri.headers)
    ∙ ap (λ u. codes "sip:" ++ (u ++ (uri.host ++ (port_text uri.port ++ (params_text uri.params ++ signed_text 63 uri.headers))))) (closed_is 64 uri.user)
    ∙ ap (λ p. codes "sip:" ++ (closed_by 64 uri.user ++ (uri.host ++ (port_text uri.port ++ (p ++ signed_text 63 uri.headers))))) (params_are uri.params)
    ∙ ap (λ h. codes "sip:" ++ (closed_by 64 uri.user ++ (uri.host ++ (port_text uri.port ++ (flat_map spelled_param uri.params ++ h))))) (led_is 63 uri.headers)

-- the written form of a `sip:` URI that keeps its rules spells it
pub written_is_spelled : (uri : SipUri) → IsSipUri uri → IfSome uri.port (λ n. n < 65536) → IsUriSpelled (uri_text (Sip uri)) (Sip uri)
unfolding uri_text IsUriSpelled
written_is_spelled uri kept port = (kept, codes "sip", port_text uri.port, same_scheme, port_is uri.port port, text_is uri)
