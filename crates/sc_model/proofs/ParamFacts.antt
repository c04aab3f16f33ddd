-- Facts of parameters that keep a header's rule.
use Rattle.std.proofs.Common.{◌≡◌, ℕ, Bool, true, false, cond, not, Option, Some, List, [], ◌∷◌, ◌++◌, ◌&&◌, ◌||◌, ◌==◌, length, refl, ap, sym, subst, ◌∙◌, arith}
use Rattle.std.specs.Prelude.{is_some, option_and_then}
use Rattle.std.specs.List.{filter, find, list_all}
use Rattle.std.specs.Option.{option_map_or}
use Rattle.std.proofs.lemmas.Bool.{false≢true, eqb-true}
use Rattle.sc_tokens.specs.Tokens.{is_token, is_token_byte, is_one_line, is_line_break}
use Rattle.sc_tokens.specs.HeaderTokens.{is_param_text, is_string, is_value_byte}
use Rattle.sc_value.specs.declared.parts.Param.{Param}
use Rattle.sc_value.specs.Params.{is_named, param_value, tag_name}
use Rattle.sc_value.specs.ParamRules.{AreHeaderParams}
use Rattle.sc_model.specs.Responses.{tag_param}

passed : (test : List ℕ → Bool) (o : Option (List ℕ)) (value : List ℕ) → option_map_or test o true ≡ true → o ≡ Some value → test value ≡ true
passed test o value h is = subst (λ (q : Option (List ℕ)). option_map_or test q true ≡ true) is h

-- the value of a parameter that is found
pub value_kept : (name : List ℕ) (params : List Param) (value : List ℕ) → AreHeaderParams params → param_value name params ≡ Some value → is_param_text value ≡ true
unfolding param_value AreHeaderParams
value_kept name [] value h is = absurd (false≢true (ap is_some is))
value_kept name (param ∷ params) value h is =
    elim (is_named name param) as (λ (t : Bool). option_and_then (λ (p : Param). p.value) (cond t (Some param) (find (is_named name) params)) ≡ Some value → is_param_text value ≡ true) [
      | true ↦ λ here. passed is_param_text param.value value h.0.0.1 here
      | false ↦ λ later. value_kept name params value h.1 later
    ] is

pub value_line : (name : List ℕ) (params : List Param) (value : List ℕ) → AreHeaderParams params → param_value name params ≡ Some value → is_one_line value ≡ true
unfolding param_value AreHeaderParams
value_line name [] value h is = absurd (false≢true (ap is_some is))
value_line name (param ∷ params) value h is =
    elim (is_named name param) as (λ (t : Bool). option_and_then (λ (p : Param). p.value) (cond t (Some param) (find (is_named name) params)) ≡ Some value → is_one_line value ≡ true) [
      | true ↦ λ here. passed is_one_line param.value value h.0.1 here
      | false ↦ λ later. value_line name params value h.1 later
    ] is

pub params_joined : (params more : List Param) → AreHeaderParams params → AreHeaderParams more → AreHeaderParams (params ++ more)
unfolding AreHeaderParams
params_joined [] more h g = g
params_joined (param ∷ params) more h g = (h.0, params_joined params more h.1 g)

pub params_filtered : (test : Param → Bool) (params : List Param) → AreHeaderParams params → AreHeaderParams (filter test params)
unfolding AreHeaderParams
params_filtered test [] h = tt
params_filtered test (param ∷ params) h =
    elim (test param) as (λ (t : Bool). AreHeaderParams (cond t (param ∷ filter test params) (filter test params))) [
      | true ↦ (h.0, params_filtered test params h.1)
      | false ↦ params_filtered test params h.1
    ]

-- ## Tags

both : (a b : Bool) → (a && b) ≡ true → (a ≡ true) × (b ≡ true)
both true b h = (refl, h)
both false b h = absurd (false≢true h)

value_byte : (b : ℕ) → is_token_byte b ≡ true → is_value_byte b ≡ true
unfolding is_value_byte
value_byte b h = ap (λ t. t || b == 91 || b == 93 || b == 58) h

value_bytes : (text : List ℕ) → list_all is_token_byte text ≡ true → list_all is_value_byte text ≡ true
value_bytes [] h = refl
value_bytes (b ∷ bs) h = let is = both (is_token_byte b) (list_all is_token_byte bs) h in ap (λ t. t && list_all is_value_byte bs) (value_byte b is.0) ∙ value_bytes bs is.1

token_not : (sign : ℕ) → is_token_byte sign ≡ false → (b : ℕ) → is_token_byte b ≡ true → (b == sign) ≡ false
token_not sign fails b is =
    elim (b == sign) as (λ (t : Bool). (b == sign) ≡ t → t ≡ false) [
      | true ↦ λ e. absurd (false≢true (sym fails ∙ ap (λ x. is_token_byte x) (sym (eqb-true b sign e)) ∙ is))
      | false ↦ λ e. refl
    ] refl

token_unbroken : (b : ℕ) → is_token_byte b ≡ true → not (is_line_break b) ≡ true
unfolding is_token_byte is_line_break
token_unbroken b is = rw (token_not 13 refl b is, token_not 10 refl b is, token_not 0 refl b is) refl

tokens_unbroken : (text : List ℕ) → list_all is_token_byte text ≡ true → list_all (λ b. not (is_line_break b)) text ≡ true
tokens_unbroken [] h = refl
tokens_unbroken (b ∷ bs) h =
    let is = both (is_token_byte b) (list_all is_token_byte bs) h in ap (λ t. t && list_all (λ x. not (is_line_break x)) bs) (token_unbroken b is.0) ∙ tokens_unbroken bs is.1

-- a token is the value of a parameter, and of one line
pub token_is_value : (text : List ℕ) → is_token text ≡ true → is_param_text text ≡ true
unfolding is_token is_param_text
token_is_value text h = ap (λ t. t || is_string text) (value_bytes text (both (not (length text == 0)) (list_all is_token_byte text) h).1)

pub token_is_line : (text : List ℕ) → is_token text ≡ true → is_one_line text ≡ true
unfolding is_token is_one_line
token_is_line text h = tokens_unbroken text (both (not (length text == 0)) (list_all is_token_byte text) h).1

pub nothing_is_value : (text : List ℕ) → length text ≡ 0 → is_param_text text ≡ true
unfolding is_param_text
nothing_is_value [] h = refl
nothing_is_value (b ∷ bs) h = absurd (omega (arith, h))

pub nothing_is_line : (text : List ℕ) → length text ≡ 0 → is_one_line text ≡ true
unfolding is_one_line
nothing_is_line [] h = refl
nothing_is_line (b ∷ bs) h = absurd (omega (arith, h))

pub tag_kept : (tag : List ℕ) → is_param_text tag ≡ true → is_one_line tag ≡ true → AreHeaderParams (tag_param tag ∷ [])
unfolding tag_param tag_name is_token is_token_byte AreHeaderParams
tag_kept tag h l = (((refl, h), l), tt)

pub tag_joined : (params : List Param) (tag : List ℕ) → AreHeaderParams params → is_param_text tag ≡ true → is_one_line tag ≡ true → AreHeaderParams (params ++ tag_param tag ∷ [])
tag_joined params tag h g l = params_joined params (tag_param tag ∷ []) h (tag_kept tag g l)
