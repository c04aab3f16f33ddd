-- The least due moment of entries that stand in two lists.
use Rattle.std.proofs.Common.{◌≡◌, ℕ, ◌+◌, ◌<◌, List, [], ◌∷◌, ◌++◌, Option, None, Some, min, refl, ap, sym, ◌∙◌, arith, length, take, get_or, append-nil}
use Rattle.std.specs.List.{flat_map}
use Rattle.std.proofs.lemmas.List.{take_more}
use Rattle.std.proofs.lemmas.List.Concat.{flat_map-append}
use Rattle.sc_state.specs.declared.host.Fired.{Fired}
use Rattle.sc_state.specs.Entries.{SessionEntry, lower, due_of_entry, least_due}

min_three : (a b c : ℕ) → min a (min b c) ≡ min (min a b) c
min_three a b c = grind arith

lower_three : (a b c : Option ℕ) → lower a (lower b c) ≡ lower (lower a b) c
lower_three None b c = refl
lower_three (Some a) None c = refl
lower_three (Some a) (Some b) None = refl
lower_three (Some a) (Some b) (Some c) = ap Some (min_three a b c)

pub least_both : (fired : List Fired) (xs ys : List SessionEntry) → least_due fired (xs ++ ys) ≡ lower (least_due fired xs) (least_due fired ys)
unfolding least_due
least_both fired [] ys = refl
least_both fired (x ∷ xs) ys = ap (lower (due_of_entry fired x)) (least_both fired xs ys) ∙ lower_three (due_of_entry fired x) (least_due fired xs) (least_due fired ys)

pub least_none : (fired : List Fired) → None ≡ least_due fired []
unfolding least_due
least_none fired = refl

-- of three lists
pub least_of : (fired : List Fired) (xs ys zs : List SessionEntry) → lower (lower (least_due fired xs) (least_due fired ys)) (least_due fired zs) ≡ least_due fired (xs ++ ys ++ zs)
least_of fired xs ys zs = sym (least_both fired (xs ++ ys) zs ∙ ap (λ o. lower o (least_due fired zs)) (least_both fired xs ys))

-- ## One more

grown : {X : Type 0} (f : X → List SessionEntry) (xs : List X) (i : ℕ) (d : X) → i < length xs → flat_map f (take (i + 1) xs) ≡ flat_map f (take i xs) ++ f (get_or xs i d)
grown f xs i d below =
    ap (flat_map f) (take_more xs i d below) ∙ flat_map-append f (take i xs) (get_or xs i d ∷ [])
    ∙ ap (λ l. flat_map f (take i xs) ++ l) (append-nil (f (get_or xs i d)))

pub due_next : {X : Type 0} (fired : List Fired) (f : X → List SessionEntry) (xs : List X) (i : ℕ) (d : X) (least due next : Option ℕ) → i < length xs → least ≡ least_due fired (flat_map f (take i xs))
    → due ≡ least_due fired (f (get_or xs i d)) → next ≡ lower least due → next ≡ least_due fired (flat_map f (take (i + 1) xs))
due_next fired f xs i d least due next below before own is =
    is ∙ ap (λ o. lower o due) before ∙ ap (lower (least_due fired (flat_map f (take i xs)))) own
    ∙ sym (least_both fired (flat_map f (take i xs)) (f (get_or xs i d))) ∙ ap (least_due fired) (sym (grown f xs i d below))

pub due_more : {X : Type 0} (fired : List Fired) (f : X → List SessionEntry) (xs : List X) (i : ℕ) (x : X) (least due next : Option ℕ) → i < length xs → x ≡ get_or xs i x → least ≡ least_due fired (flat_map f (take i xs))
    → due ≡ least_due fired (f x) → next ≡ lower least due → next ≡ least_due fired (flat_map f (take (i + 1) xs))
due_more fired f xs i x least due next below at before own is = due_next fired f xs i x least due next below before (own ∙ ap (λ y. least_due fired (f y)) at) is
