-- The first name that stands twice, as a walk finds it.
use Rattle.std.proofs.Common.{◌≡◌, ℕ, ◌+◌, ◌<◌, ◌≤◌, true, false, ◌||◌, Option, Some, None, List, [], ◌∷◌, map, codes, take, drop, get_or, length, refl, ap, sym, ◌∙◌}
use Rattle.std.specs.List.{list_any}
use Rattle.std.specs.Option.{option_map}
use Rattle.std.proofs.lemmas.List.{drop_more, take_more, map-append, drop_all}
use Rattle.sc_tokens.specs.Names.{same_bytes}
use Rattle.toml.specs.View.{view}
use Rattle.toml.specs.declared.value.Value.{Value}
use Rattle.sc_tokens.specs.Bytes.{Bytes}
use Rattle.sc_config.specs.Faults.{app_text, first_double as doubled, double_name, DOUBLE_NAME}

-- the name of an application
abbrev pub name_in : Value → Bytes
name_in v = app_text (codes "name") (view v)

named_view : (vs : List Value) → map (app_text (codes "name")) (map view vs) ≡ map name_in vs
named_view [] = refl
named_view (v ∷ vs) = ap (λ rest. name_in v ∷ rest) (named_view vs)

any_name : (name : Bytes) (vs : List Value) → list_any (λ other. same_bytes other name) (map name_in vs) ≡ list_any (λ v. same_bytes (name_in v) name) vs
any_name name [] = refl
any_name name (v ∷ vs) = ap (λ rest. same_bytes (name_in v) name || rest) (any_name name vs)

-- the first name of those from the place on that stands before it
abbrev pub doubled_from : List Value → ℕ → Option Bytes
doubled_from vs i = doubled (map name_in (take i vs)) (map name_in (drop i vs))

pub doubled_here : (vs : List Value) (i : ℕ) (d : Value) → i < length vs → list_any (λ v. same_bytes (name_in v) (name_in (get_or vs i d))) (take i vs) ≡ true
    → doubled_from vs i ≡ Some (name_in (get_or vs i d))
unfolding doubled
doubled_here vs i d below stands = rw (drop_more vs i d below, any_name (name_in (get_or vs i d)) (take i vs), stands) refl

pub doubled_next : (vs : List Value) (i : ℕ) (d : Value) → i < length vs → list_any (λ v. same_bytes (name_in v) (name_in (get_or vs i d))) (take i vs) ≡ false
    → doubled_from vs i ≡ doubled_from vs (i + 1)
unfolding doubled
doubled_next vs i d below new =
    rw (drop_more vs i d below, any_name (name_in (get_or vs i d)) (take i vs), new)
    (ap (λ earlier. doubled earlier (map name_in (drop (i + 1) vs))) (sym (ap (map name_in) (take_more vs i d below) ∙ map-append name_in (take i vs) (get_or vs i d ∷ []))))

pub doubled_end : (vs : List Value) (i : ℕ) → length vs ≤ i → doubled_from vs i ≡ None
unfolding doubled
doubled_end vs i past = rw (drop_all i vs past) refl

-- what a place's answer says of the whole
pub double_name_is : (vs : List Value) (i : ℕ) (r : Option Bytes) → doubled_from vs i ≡ doubled_from vs 0 → doubled_from vs i ≡ r → option_map (λ name. (DOUBLE_NAME, name)) r ≡ double_name (map view vs)
unfolding double_name
double_name_is vs i r same is = rw (named_view vs) (ap (option_map (λ name. (DOUBLE_NAME, name))) (sym is ∙ same))
