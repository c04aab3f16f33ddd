-- The targets that Contacts give, one after the other.
use Rattle.std.proofs.Common.{◌≡◌, ℕ, ◌+◌, ◌<◌, ◌≤◌, List, [], ◌∷◌, ◌++◌, Bool, true, false, Option, Some, None, length, refl, ap, sym, ◌∙◌, append_assoc, append-nil, drop, get_or}
use Rattle.std.specs.Prelude.{option_to_list}
use Rattle.std.proofs.lemmas.List.{drop_more, drop_all}
use Rattle.std.specs.List.{filter_map, flat_map}
use Rattle.sc_value.specs.declared.parts.Contact.{Contact}
use Rattle.sc_value.specs.declared.parts.Uri.{Uri}
use Rattle.sc_branches.specs.Targets.{target_of, targets_of, with_new}
use Rattle.sc_hosts.specs.Branches.{was_tried, new_targets as untried}

one_more : (contact : Contact) (contacts : List Contact) (o : Option Uri) → target_of contact ≡ o → flat_map targets_of contacts ≡ filter_map target_of contacts
    → option_to_list o ++ flat_map targets_of contacts ≡ filter_map target_of (contact ∷ contacts)
one_more contact contacts None e more = rw (filter_map, e) more
one_more contact contacts (Some uri) e more = rw (filter_map, e) (ap (λ us. uri ∷ us) more)

pub all_targets : (contacts : List Contact) → flat_map targets_of contacts ≡ filter_map target_of contacts
unfolding targets_of
all_targets [] = refl
all_targets (contact ∷ contacts) = one_more contact contacts (target_of contact) refl (all_targets contacts)

tried_one : (all found rest : List Uri) (uri : Uri) (b : Bool) → was_tried all uri ≡ b → with_new b uri found ++ untried (with_new b uri all) rest ≡ found ++ untried all (uri ∷ rest)
unfolding with_new untried
tried_one all found rest uri true e = rw e refl
tried_one all found rest uri false e = rw e (append_assoc found (uri ∷ []) _)

-- one URI more, known or not
pub untried_next : (all found after_all after_found uris : List Uri) (i : ℕ) (known : Bool) (uri : Uri) → i < length uris → uri ≡ get_or uris i uri → known ≡ was_tried all uri → after_all ≡ with_new known uri all → after_found ≡ with_new known uri found
    → after_found ++ untried after_all (drop (i + 1) uris) ≡ found ++ untried all (drop i uris)
untried_next all found after_all after_found uris i known uri below at tested whole more =
    rw (whole, more, tested, drop_more uris i uri below, ← at) (tried_one all found (drop (i + 1) uris) uri (was_tried all uri) refl)

-- none is left
pub untried_end : (all found uris whole : List Uri) (i : ℕ) → length uris ≤ i → found ++ untried all (drop i uris) ≡ whole → found ≡ whole
unfolding untried
untried_end all found uris whole i end so =
    let none : drop i uris ≡ [] = drop_all i uris end in sym (append-nil found) ∙ (sym (ap (λ rest. found ++ untried all rest) none) ∙ so)
