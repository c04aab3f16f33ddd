-- Pages of which items are changed or go.
use Rattle.std.proofs.Common.{◌≡◌, Bool, true, false, not, cond, List, [], ◌∷◌, ◌++◌, length, refl, ap, sym, ◌∙◌, arith, map}
use Rattle.std.specs.List.{AllByRecursion, filter, list_all, list_any}
use Rattle.sc_queue.specs.Joined.{joined}
use Rattle.sc_pages.specs.Filled.{is_filled}
use Rattle.sc_pages.proofs.Basics.{all_true, each_more, filter_all, filter_append, higher_test, none_any}

same_items : {A : Type 0} (f : A → A) (xs : List A) → AllByRecursion (λ x. f x ≡ x) xs → map f xs ≡ xs
same_items f [] all = refl
same_items f (x ∷ xs) all = ap (λ y. y ∷ map f xs) all.0 ∙ ap (λ l. x ∷ l) (same_items f xs all.1)

pub none_changed : {A : Type 0} (p : A → Bool) (f : A → A) (xs : List A) → ((x : A) → p x ≡ false → f x ≡ x) → list_any p xs ≡ false → map f xs ≡ xs
none_changed p f xs same none = same_items f xs (each_more (λ x. p x ≡ false) (λ x. f x ≡ x) same xs (none_any p xs none))

pub all_kept : {A : Type 0} (p : A → Bool) (xs : List A) → list_all p xs ≡ true → filter p xs ≡ xs
all_kept p xs all = filter_all p xs (all_true p xs all)

joined_filter : {A : Type 0} (p : A → Bool) (pages : List (List A)) → joined (map (filter p) pages) ≡ filter p (joined pages)
joined_filter p [] = refl
joined_filter p (page ∷ pages) = ap (λ l. filter p page ++ l) (joined_filter p pages) ∙ sym (filter_append p page (joined pages))

pub kept_of_each : {A : Type 0} (p : A → Bool) (old mid new : List (List A)) → mid ≡ map (filter p) old → joined new ≡ joined mid → joined new ≡ filter p (joined old)
kept_of_each p old mid new is same = same ∙ ap joined is ∙ joined_filter p old

pub joined_filled : {A : Type 0} (pages : List (List A)) → joined (filter is_filled pages) ≡ joined pages
joined_filled [] = refl
joined_filled ([] ∷ pages) = joined_filled pages
joined_filled ((x ∷ xs) ∷ pages) =
    ap (λ b. joined (cond (not b) ((x ∷ xs) ∷ filter is_filled pages) (filter is_filled pages))) (higher_test (length (x ∷ xs)) 0 (omega arith))
    ∙ ap (λ l. (x ∷ xs) ++ l) (joined_filled pages)
