-- Sides that are written as later requests write them.
use Rattle.std.proofs.Common.{◌≡◌, ℕ, Bool, true, false, Option, None, Some, List, [], ◌∷◌, ◌&&◌, length, refl, sym, ap, subst, arith}
use Rattle.std.specs.Prelude.{is_some, slice_get}
use Rattle.std.proofs.lemmas.Bool.{false≢true}
use Rattle.std.specs.Cmp.Lexicographic.{same_text}
use Rattle.sc_tokens.specs.Names.{same_bytes, same_name}
use Rattle.sc_value.specs.declared.parts.Address.{Address}
use Rattle.sc_value.specs.declared.parts.Param.{Param}
use Rattle.sc_value.specs.declared.parts.Uri.{Uri}
use Rattle.sc_value.specs.Params.{param_value, tag_name}
use Rattle.sc_model.specs.Dialogs.{bare, tag_of, tag_params}
use Rattle.sc_model.specs.Responses.{tag_param}

both : (a b : Bool) → (a && b) ≡ true → (a ≡ true) × (b ≡ true)
both true b is = (refl, is)
both false b is = absurd (false≢true is)

made-of : (param : Param) (name : List ℕ) (value : Option (List ℕ)) → param.name ≡ name → param.value ≡ value → param ≡ record { name = name; value = value }
made-of param name value name_is value_is = rw (sym name_is, sym value_is) refl

-- the parameter that a side is written with is found in it
made-alone : (value : List ℕ) → tag_param value ∷ [] ≡ tag_params (param_value tag_name (tag_param value ∷ []))
unfolding tag_params param_value tag_param tag_name same_name
made-alone value = refl

value-alone : (param : Param) (value : Option (List ℕ)) → param.value ≡ value → is_some value ≡ true → param.name ≡ tag_name → param ∷ [] ≡ tag_params (param_value tag_name (param ∷ []))
unfolding tag_param
value-alone param None value_is there name_is = absurd (false≢true there)
value-alone param (Some value) value_is there name_is =
    subst (λ (p : Param). p ∷ [] ≡ tag_params (param_value tag_name (p ∷ []))) (sym (made-of param tag_name (Some value) name_is value_is)) (made-alone value)

one-alone : (param : Param) → (same_bytes param.name tag_name && is_some param.value) ≡ true → param ∷ [] ≡ tag_params (param_value tag_name (param ∷ []))
one-alone param plain =
    let (named, there) = both (same_bytes param.name tag_name) (is_some param.value) plain in
    value-alone param param.value refl there (same_text param.name tag_name (sym named))

item-of : Param → Option Param → Param
item-of other None = other
item-of other (Some param) = param

-- a list of one parameter, a tag in small letters with a value, is what a side has with this tag
pub tag_alone : (params : List Param) (param : Param) → slice_get params 0 ≡ Some param → length params ≡ 1 → (same_bytes param.name tag_name && is_some param.value) ≡ true → params ≡ tag_params (param_value tag_name params)
unfolding item-of
tag_alone [] param first one plain = absurd (omega (arith, one))
tag_alone (given ∷ []) param first one plain =
    one-alone given (subst (λ (p : Param). (same_bytes p.name tag_name && is_some p.value) ≡ true) (sym (ap (item-of given) first)) plain)
tag_alone (given ∷ other ∷ rest) param first one plain = absurd (omega (arith, one))

side-of : (address : Address) (display : Option (List ℕ)) (params : List Param) → address.display ≡ display → address.params ≡ params → address ≡ record { display = display; uri = address.uri; params = params }
side-of address display params display_is params_is = rw (sym display_is, sym params_is) refl

nothing : (text : Option (List ℕ)) → is_some text ≡ false → text ≡ None
nothing None none = refl
nothing (Some text) none = cc

-- an address without a display, whose one parameter is its tag, is written as a side
pub bare_address : (address : Address) → is_some address.display ≡ false → address.params ≡ tag_params (param_value tag_name address.params) → address ≡ bare address.uri (tag_of address)
unfolding bare
bare_address address none alone = side-of address None (tag_params (tag_of address)) (nothing address.display none) alone

-- an address that is written as a side is that of each URI which is its own
pub bare_at : (asked given : Address) → given ≡ bare given.uri (tag_of given) → given.uri ≡ asked.uri → given ≡ bare asked.uri (tag_of given)
bare_at asked given is same = subst (λ (uri : Uri). given ≡ bare uri (tag_of given)) same is
