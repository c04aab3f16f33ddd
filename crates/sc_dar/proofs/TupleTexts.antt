-- Tuples, written one by one.
use Rattle.std.proofs.Common.{◌≡◌, ℕ, List, [], ◌∷◌, ◌++◌, ◌+◌, ◌<◌, ◌≤◌, length, drop, refl, sym, ap, ◌∙◌, append_assoc, append-nil, get_or, arith}
use Rattle.std.proofs.lemmas.List.{at_drop_all, at_drop_more}
use Rattle.sc_terms.specs.declared.settings.Tuple.{Tuple}
use Rattle.sc_tokens.specs.Bytes.{Bytes}
use Rattle.sc_dar.specs.WrittenTables.{lead, tuple_text, tuples_text}

first_put : (apps : List Bytes) (order : ℕ) (tuple : Tuple) (more : List Tuple) → tuples_text apps order (tuple ∷ more) ≡ lead order ++ tuple_text apps order tuple ++ tuples_text apps (order + 1) more
unfolding tuples_text
first_put apps order tuple more = let same : ◌≡◌ {A = ℕ} (1 + order) (order + 1) = omega arith in ap (λ n. lead order ++ tuple_text apps order tuple ++ tuples_text apps n more) same

none_put : (apps : List Bytes) (order : ℕ) → tuples_text apps order [] ≡ []
unfolding tuples_text
none_put apps order = refl

onto : (out a b c : Bytes) → out ++ (a ++ b ++ c) ≡ ((out ++ a) ++ b) ++ c
onto out a b c = sym (append_assoc out (a ++ b) c) ∙ ap (λ t. t ++ c) (sym (append_assoc out a b))

pub tuple_put : (apps : List Bytes) (tuples : List Tuple) (order : ℕ) (d : Tuple) (old out : Bytes) → order < length tuples → out ++ tuples_text apps order (drop order tuples) ≡ old ++ tuples_text apps 0 tuples
    → ((out ++ lead order) ++ tuple_text apps order (get_or tuples order d)) ++ tuples_text apps (order + 1) (drop (order + 1) tuples) ≡ old ++ tuples_text apps 0 tuples
tuple_put apps tuples order d old out here so_far =
    sym (onto out (lead order) (tuple_text apps order (get_or tuples order d)) (tuples_text apps (order + 1) (drop (order + 1) tuples)))
    ∙ sym (ap (λ t. out ++ t) (at_drop_more (tuples_text apps order) tuples order d here ∙ first_put apps order (get_or tuples order d) (drop (order + 1) tuples)))
    ∙ so_far

pub all_put : (apps : List Bytes) (tuples : List Tuple) (order : ℕ) (old out : Bytes) → length tuples ≤ order → out ++ tuples_text apps order (drop order tuples) ≡ old ++ tuples_text apps 0 tuples → out ≡ old ++ tuples_text apps 0 tuples
all_put apps tuples order old out past so_far =
    sym (append-nil out) ∙ sym (ap (λ t. out ++ t) (at_drop_all (tuples_text apps order) tuples order past ∙ none_put apps order)) ∙ so_far
