-- A table of the code and the document that it shows.
use Rattle.std.proofs.Common.{◌≡◌, ℕ, suc, Bool, true, false, cond, Option, Some, None, List, [], ◌∷◌, map, position, get_or, length, refl, ap, sym}
use Rattle.std.specs.List.{list_all, find}
use Rattle.std.specs.Option.{is_some, option_map}
use Rattle.std.proofs.lemmas.List.Folds.{list_all-map}
use Rattle.sc_value.proofs.ListFacts.{find_position, find_none}
use Rattle.toml.specs.Data.{Data, Members, as_array, as_str, as_table}
use Rattle.toml.specs.Parse.{parse_document}
use Rattle.std.specs.Str.{IsUtf8, is_utf8}
use Rattle.std.proofs.lemmas.Str.{is_utf8-from_IsUtf8, IsUtf8-from_is_utf8}
use Rattle.toml.specs.View.{view, items_of, items_view}
use Rattle.toml.specs.declared.value.Value.{Value}
use Rattle.sc_tokens.specs.Bytes.{Bytes}
use Rattle.sc_config.specs.Documents.{document, items_in, elements, first_given}
use Rattle.sc_config.specs.KeyValues.{is_params}
use Rattle.sc_terms.specs.Ranges.{are_few}
use Rattle.std.proofs.lemmas.List.{length-map}

pub items_in-items_of : (ds : List Data) → items_in (items_of ds) ≡ ds
items_in-items_of [] = refl
items_in-items_of (d ∷ ds) = ap (λ rest. d ∷ rest) (items_in-items_of ds)

-- the items of an array
pub elements_view : (value : Data) (vs : List Value) → Some (items_view vs) ≡ as_array value → elements value ≡ map view vs
elements_view value vs e = rw (← e) (items_in-items_of (map view vs))

pub params_view : (value : Data) (vs : List Value) → Some (items_view vs) ≡ as_array value → is_params (Some value) ≡ list_all (λ v. is_some (as_str (view v))) vs
unfolding is_params
params_view value vs e = rw (← e, items_in-items_of (map view vs)) (list_all-map (λ d. is_some (as_str d)) view vs)

find_of : {A B : Type 0} (f : A → B) (p : B → Bool) (x : A) (rest : Option A) (more : Option B) (b : Bool) → more ≡ option_map f rest → cond b (Some (f x)) more ≡ option_map f (cond b (Some x) rest)
find_of f p x rest more true e = refl
find_of f p x rest more false e = e

-- what is found among what a function gives
pub find-map : {A B : Type 0} (f : A → B) (p : B → Bool) (xs : List A) → find p (map f xs) ≡ option_map f (find (λ a. p (f a)) xs)
find-map f p [] = refl
find-map f p (x ∷ xs) = find_of f p x _ _ (p (f x)) (find-map f p xs)

pub first_given_at : {A B C : Type 0} (f : B → Option C) (g : A → B) (xs : List A) (i : ℕ) (d : A) → position (λ a. is_some (f (g a))) xs ≡ Some i → first_given f (map g xs) ≡ f (g (get_or xs i d))
first_given_at f g xs i d e = rw (find-map g (λ b. is_some (f b)) xs, find_position _ xs i d e) refl

pub first_given_none : {A B C : Type 0} (f : B → Option C) (g : A → B) (xs : List A) → position (λ a. is_some (f (g a))) xs ≡ None → first_given f (map g xs) ≡ None
first_given_none f g xs e = rw (find-map g (λ b. is_some (f b)) xs, find_none _ xs e) refl

-- what a slice of values shows
pub tables_view : (vs : List Value) → list_all (λ v. is_some (as_table (view v))) vs ≡ list_all (λ d. is_some (as_table d)) (map view vs)
tables_view vs = sym (list_all-map (λ d. is_some (as_table d)) view vs)

pub length_view : (vs : List Value) → length (map view vs) ≡ length vs
length_view [] = refl
length_view (v ∷ vs) = ap suc (length_view vs)

pub find_view_at : (p : Data → Bool) (vs : List Value) (i : ℕ) (d : Value) → position (λ v. p (view v)) vs ≡ Some i → find p (map view vs) ≡ Some (view (get_or vs i d))
find_view_at p vs i d e = rw (find-map view p vs, find_position _ vs i d e) refl

pub find_view_none : (p : Data → Bool) (vs : List Value) → position (λ v. p (view v)) vs ≡ None → find p (map view vs) ≡ None
find_view_none p vs e = rw (find-map view p vs, find_none _ vs e) refl

pub map_view : {B : Type 0} (f : Data → B) (vs : List Value) → map (λ v. f (view v)) vs ≡ map f (map view vs)
map_view f [] = refl
map_view f (v ∷ vs) = ap (λ rest. f (view v) ∷ rest) (map_view f vs)

-- what the reader of TOML says of bytes
pub document_some : (bytes : Bytes) (top : Members) → IsUtf8 bytes → parse_document bytes ≡ Some top → document bytes ≡ Some top
document_some bytes top utf8 parsed = rw (is_utf8-from_IsUtf8 bytes utf8) parsed

none_if : (bytes : Bytes) (b : Bool) → (IsUtf8 bytes → parse_document bytes ≡ None) → is_utf8 bytes ≡ b → cond b (parse_document bytes) None ≡ None
none_if bytes true none e = none (IsUtf8-from_is_utf8 bytes e)
none_if bytes false none e = refl

pub document_none : (bytes : Bytes) → (IsUtf8 bytes → parse_document bytes ≡ None) → document bytes ≡ None
document_none bytes none = none_if bytes (is_utf8 bytes) none refl

-- as many entries as applications
pub few_entries : {A B : Type 0} (f : A → B) (xs : List A) → are_few (map f xs) ≡ are_few xs
unfolding are_few
few_entries f xs = rw (length-map xs f) refl
