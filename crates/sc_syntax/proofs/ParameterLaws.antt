-- What is spelled is read: header parameters.
use Rattle.std.proofs.Common.{◌≡◌, ℕ, Bool, true, false, cond, not, Option, Some, None, List, [], ◌∷◌, ◌++◌, ◌&&◌, ◌||◌, ◌==◌, ◌⊎◌, inl, inr, length, refl, sym, ap, subst, ◌∙◌, append-nil}
use Rattle.std.specs.List.{list_all}
use Rattle.std.specs.Option.{option_map_or}
use Rattle.sc_tokens.specs.Tokens.{is_blank, is_token, is_token_byte}
use Rattle.sc_value.specs.declared.parts.Param.{Param}
use Rattle.sc_syntax.specs.declared.scan.Scan.{Scan}
use Rattle.sc_syntax.specs.declared.scan.Scan.TheVariants.{Params}
use Rattle.sc_tokens.specs.Bytes.{Bytes}
use Rattle.sc_tokens.specs.Cuts.{before, after}
use Rattle.sc_tokens.specs.Blanks.{without_blanks as trimmed}
use Rattle.sc_syntax.specs.Scanning.{is_outside, past_params, past, is_part_end, parts}
use Rattle.sc_tokens.specs.HeaderTokens.{is_value_byte, is_string, is_param_text}
use Rattle.sc_syntax.specs.Parameters.{param_in, param_of, params_of}
use Rattle.sc_syntax.specs.SpelledUris.{behind_sign as led}
use Rattle.sc_syntax.specs.SpelledParts.{IsBlanks, Padded, header_param, IsParamSpelled, AreLed, AreParamsSpelled}
use Rattle.sc_syntax.proofs.BlankLaws.{both, and_true, padded_is_trimmed}
use Rattle.sc_syntax.proofs.ClassLaws.{positive, differs, all_weaker, class_lacks, before_joined, after_joined, before_all, after_none, EndsSolid, begins_joined, ends_joined, class_begins, class_ends, solid_is_trimmed, not_true}
use Rattle.sc_syntax.proofs.ListedLaws.{unparted}
use Rattle.sc_syntax.proofs.RunLaws.{through, is_plain, IsSign, comma_sign, semicolon_sign, Passes, passes_none, passes_joined, passes_plain, string_is_closed, led_is_read}

-- ## Classes

-- a class without quote, comma and semicolon is plain
pub plain_by : (p : ℕ → Bool) → p 34 ≡ false → p 44 ≡ false → p 59 ≡ false → (b : ℕ) → p b ≡ true → is_plain b ≡ true
unfolding is_plain
plain_by p q c s b h = rw (differs p b 34 q h, differs p b 44 c h, differs p b 59 s h) refl

-- a class without space and tab is solid
pub solid_by : (p : ℕ → Bool) → p 32 ≡ false → p 9 ≡ false → (b : ℕ) → p b ≡ true → is_blank b ≡ false
unfolding is_blank
solid_by p s t b h = rw (differs p b 32 s h, differs p b 9 t h) refl

pub token_plain : (b : ℕ) → is_token_byte b ≡ true → is_plain b ≡ true
unfolding is_token_byte
token_plain b h = plain_by is_token_byte refl refl refl b h

pub token_solid : (b : ℕ) → is_token_byte b ≡ true → is_blank b ≡ false
unfolding is_token_byte
token_solid b h = solid_by is_token_byte refl refl b h

value_plain : (b : ℕ) → is_value_byte b ≡ true → is_plain b ≡ true
unfolding is_value_byte is_token_byte
value_plain b h = plain_by is_value_byte refl refl refl b h

value_solid : (b : ℕ) → is_value_byte b ≡ true → is_blank b ≡ false
unfolding is_value_byte is_token_byte
value_solid b h = solid_by is_value_byte refl refl b h

blank_plain : (b : ℕ) → is_blank b ≡ true → is_plain b ≡ true
unfolding is_blank
blank_plain b h = plain_by is_blank refl refl refl b h

pub blanks_plain : (text : Bytes) → IsBlanks text → list_all is_plain text ≡ true
blanks_plain text h = all_weaker is_blank is_plain blank_plain text h

no_equals : is_token_byte 61 ≡ false
unfolding is_token_byte
no_equals = refl

equals_plain : list_all is_plain (61 ∷ []) ≡ true
unfolding is_plain
equals_plain = refl

equals_solid : is_blank 61 ≡ false
unfolding is_blank
equals_solid = refl

-- a token has a byte, and all of its class
pub token_is : (text : Bytes) → is_token text ≡ true → ((length text == 0) ≡ false) × (list_all is_token_byte text ≡ true)
unfolding is_token
token_is text h = let is = both (not (length text == 0)) (list_all is_token_byte text) h in (not_true (length text == 0) is.0, is.1)

pub either : (a b : Bool) → (a || b) ≡ true → (a ≡ true) ⊎ (b ≡ true)
either true b h = inl refl
either false b h = inr h

value_is : (value : Bytes) → is_param_text value ≡ true → (list_all is_value_byte value ≡ true) ⊎ (is_string value ≡ true)
unfolding is_param_text
value_is value h = either (list_all is_value_byte value) (is_string value) h

-- ## A parameter without blanks

pub passes_padded : (sign : ℕ) (inner text : Bytes) → IsSign sign → Padded inner text → Passes sign Params inner Params → Passes sign Params text Params
passes_padded sign inner text s (f, b, fb, bb, is) h =
    subst (λ (t : Bytes). Passes sign Params t Params) (sym is)
    (passes_joined sign Params Params Params f (inner ++ b) (passes_plain sign f s (blanks_plain f fb)) (passes_joined sign Params Params Params inner b h (passes_plain sign b s (blanks_plain b bb))))

value_passes : (sign : ℕ) (value : Option Bytes) → IsSign sign → option_map_or is_param_text value true ≡ true → Passes sign Params (led 61 value) Params
unfolding led
value_passes sign None s h = passes_none sign Params
value_passes sign (Some value) s h =
    passes_joined sign Params Params Params (61 ∷ []) value (passes_plain sign (61 ∷ []) s equals_plain) (elim (value_is value h) as (λ _. Passes sign Params value Params) [
      | inl bytes ↦ passes_plain sign value s (all_weaker is_value_byte is_plain value_plain value bytes)
      | inr string ↦ (string_is_closed sign value s string).0
    ])

header_passes : (sign : ℕ) (name : Bytes) (value : Option Bytes) → IsSign sign → is_token name ≡ true → option_map_or is_param_text value true ≡ true → Passes sign Params (name ++ led 61 value) Params
header_passes sign name value s n v =
    passes_joined sign Params Params Params name (led 61 value) (passes_plain sign name s (all_weaker is_token_byte is_plain token_plain name (token_is name n).1)) (value_passes sign value s v)

value_ends : (value : Bytes) → is_param_text value ≡ true → EndsSolid (61 ∷ value)
value_ends [] h = ([], 61, equals_solid, refl)
value_ends (b ∷ bs) h = ends_joined (61 ∷ []) (b ∷ bs) (elim (value_is (b ∷ bs) h) as (λ _. EndsSolid (b ∷ bs)) [
  | inl bytes ↦ class_ends is_value_byte value_solid (b ∷ bs) (positive (length bs)) bytes
  | inr string ↦ (string_is_closed 44 (b ∷ bs) comma_sign string).1
])

header_ends : (name : Bytes) (value : Option Bytes) → is_token name ≡ true → option_map_or is_param_text value true ≡ true → EndsSolid (name ++ led 61 value)
unfolding led
header_ends name None n v = let t = token_is name n in subst EndsSolid (sym (append-nil name)) (class_ends is_token_byte token_solid name t.0 t.1)
header_ends name (Some value) n v = ends_joined name (61 ∷ value) (value_ends value v)

header_trimmed : (name : Bytes) (value : Option Bytes) → is_token name ≡ true → option_map_or is_param_text value true ≡ true → trimmed (name ++ led 61 value) ≡ name ++ led 61 value
header_trimmed name value n v =
    let t = token_is name n in
    solid_is_trimmed (name ++ led 61 value) (begins_joined name (led 61 value) (class_begins is_token_byte token_solid name t.0 t.1)) (header_ends name value n v)

header_cut : (name : Bytes) (value : Option Bytes) → is_token name ≡ true → (before 61 (name ++ led 61 value) ≡ name) × (after 61 (name ++ led 61 value) ≡ value)
unfolding led
header_cut name None n =
    let free = class_lacks is_token_byte 61 name no_equals (token_is name n).1 in
    (ap (before 61) (append-nil name) ∙ before_all 61 name free, ap (after 61) (append-nil name) ∙ after_none 61 name free)
header_cut name (Some value) n = let free = class_lacks is_token_byte 61 name no_equals (token_is name n).1 in (before_joined 61 name value free, after_joined 61 name value free)

header_read : (name : Bytes) (value : Option Bytes) → is_token name ≡ true → option_map_or is_param_text value true ≡ true → param_in (name ++ led 61 value) ≡ Some (record { name = name; value = value })
unfolding param_in
header_read name value n v =
    let cut = header_cut name value n in
    let text = name ++ led 61 value in
    ap (λ f. cond (is_token f && option_map_or is_param_text (after 61 text) true) (Some (record { name = f; value = after 61 text })) None) cut.0
    ∙ ap (λ a. cond (is_token name && option_map_or is_param_text a true) (Some (record { name = name; value = a })) None) cut.1
    ∙ ap (λ t. cond t (Some (record { name = name; value = value })) None) (and_true (is_token name) (option_map_or is_param_text value true) n v)

-- ## Parameters

param_passes : (sign : ℕ) (text : Bytes) (param : Param) → IsSign sign → IsParamSpelled text param → Passes sign Params text Params
unfolding header_param
param_passes sign text param s (kept, pad) = passes_padded sign (header_param param) text s pad (header_passes sign param.name param.value s kept.0 kept.1)

param_is_read : (text : Bytes) (param : Param) → IsParamSpelled text param → param_of text ≡ Some param
unfolding param_of header_param
param_is_read text param (kept, pad) =
    ap param_in (padded_is_trimmed (header_param param) text pad (header_trimmed param.name param.value kept.0 kept.1)) ∙ header_read param.name param.value kept.0 kept.1

pub outside_params : is_outside Params ≡ true
unfolding is_outside
outside_params = refl

-- what is spelled behind a first part are its parameters
pub params_are_read : (params : List Param) (rest first : Bytes) (at to : Scan) → AreParamsSpelled rest params → Passes 59 at first to → is_outside to ≡ true
    → (texts : List Bytes) × (parts Params 59 at (first ++ rest) ≡ first ∷ texts) × (params_of texts ≡ Some params)
params_are_read params rest first at to h p o =
    led_is_read param_of IsParamSpelled 59 Params (λ text param spells. ((Params, param_passes 59 text param semicolon_sign spells, outside_params), param_is_read text param spells)) params rest h at to first p o

semicolon_passes : Passes 44 Params (59 ∷ []) Params
unfolding unparted through past past_params is_part_end is_outside
semicolon_passes = (refl, refl)

-- no comma parts parameters
pub params_pass : (params : List Param) (text : Bytes) → AreParamsSpelled text params → Passes 44 Params text Params
unfolding AreLed
params_pass [] text h = subst (λ (t : Bytes). Passes 44 Params t Params) (sym h) (passes_none 44 Params)
params_pass (param ∷ params) text (item, rest, spells, more, is) =
    subst (λ (t : Bytes). Passes 44 Params t Params) (sym is)
    (passes_joined 44 Params Params Params (59 ∷ []) (item ++ rest) semicolon_passes (passes_joined 44 Params Params Params item rest (param_passes 44 item param comma_sign spells) (params_pass params rest more)))
