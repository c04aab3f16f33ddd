-- How many items there are, and what their weights come to.
use Rattle.std.proofs.Common.{◌≡◌, ◌+◌, ◌≤◌, ℕ, suc, true, false, not, cond, T, Option, Some, None, List, [], ◌∷◌, length, refl, ap, sym, subst, ◌∙◌, arith}
use Rattle.std.specs.Prelude.{sum_by}
use Rattle.std.specs.declared.cmp.Ordering.TheVariants.{Less, Equal, Greater}
use Rattle.std.specs.Option.{unwrap_or, option_map}
use Rattle.std.specs.Ordering.{nat_cmp, is_eq}
use Rattle.std.specs.Map.{values_of}
use Rattle.std.specs.FinMap.Entries.{by_order, put, find, is_sorted}
use Rattle.std.proofs.lemmas.List.Sums.{sum_by-cons}
use Rattle.sc_book.specs.declared.counts.Counts.{Counts}
use Rattle.sc_book.specs.Places.{Placed, at_place, with_item, without_item}
use Rattle.sc_book.specs.Counts.{AreCounts, one_at, weight_at}
use Rattle.sc_book.proofs.Basics.{turned, tied}
use Rattle.sc_book.proofs.PlaceLaws.{stays, missed_below, later, headed}

-- ## Weights

-- the weight of what is found
abbrev weighs : {X : Type 0} → (X → ℕ) → Option X → ℕ
weighs w o = unwrap_or (option_map w o) 0

abbrev total_of : {X : Type 0} → (X → ℕ) → Placed X → ℕ
total_of w es = sum_by w (values_of es)

total_cons : {X : Type 0} (w : X → ℕ) (e : ℕ × X) (es : Placed X) → total_of w (e ∷ es) ≡ w e.1 + total_of w es
total_cons w e es = sum_by-cons w e.1 (values_of es)

sum_less : (x e s l t : ℕ) → l ≡ x + t → t ≡ e + s → l + 0 ≡ t + x
sum_less x e s l t p q = omega (arith, p, q)

sum_equal : (x e s l t : ℕ) → l ≡ x + s → t ≡ e + s → l + e ≡ t + x
sum_equal x e s l t p q = omega (arith, p, q)

sum_more : (x e s p f l t : ℕ) → p + f ≡ s + x → l ≡ e + p → t ≡ e + s → l + f ≡ t + x
sum_more x e s p f l t rest a b = omega (arith, rest, a, b)

sum_left : (e s p f l t : ℕ) → p + f ≡ s → l ≡ e + p → t ≡ e + s → l + f ≡ t
sum_left e s p f l t rest a b = omega (arith, rest, a, b)

sum_gone : (e s l t : ℕ) → l ≡ s → t ≡ e + s → l + e ≡ t
sum_gone e s l t a b = omega (arith, a, b)

sum_put : {X : Type 0} (w : X → ℕ) (k : ℕ) (x : X) (es : Placed X) → T (is_sorted nat_cmp es) → total_of w (put nat_cmp k x es) + weighs w (find nat_cmp k es) ≡ total_of w es + w x
sum_put w k x [] up = sum_less (w x) 0 0 (total_of w ((k, x) ∷ [])) 0 (total_cons w (k, x) []) refl
sum_put {X} w k x (e ∷ es) up =
    elim (nat_cmp k e.0) as (λ o. nat_cmp k e.0 ≡ o → total_of w (by_order o ((k, x) ∷ e ∷ es) ((e.0, x) ∷ es) (e ∷ put nat_cmp k x es)) + weighs w (cond (is_eq o) (Some e.1) (find nat_cmp k es)) ≡ total_of w (e ∷ es) + w x) [
      | Less ↦ λ less. subst (λ (f : Option X). total_of w ((k, x) ∷ e ∷ es) + weighs w f ≡ total_of w (e ∷ es) + w x) (sym (missed_below k e.0 es less (headed e es up)))
          (sum_less (w x) (w e.1) (total_of w es) (total_of w ((k, x) ∷ e ∷ es)) (total_of w (e ∷ es)) (total_cons w (k, x) (e ∷ es)) (total_cons w e es))
      | Equal ↦ λ same. sum_equal (w x) (w e.1) (total_of w es) (total_of w ((e.0, x) ∷ es)) (total_of w (e ∷ es)) (total_cons w (e.0, x) es) (total_cons w e es)
      | Greater ↦ λ more. sum_more (w x) (w e.1) (total_of w es) (total_of w (put nat_cmp k x es)) (weighs w (find nat_cmp k es)) (total_of w (e ∷ put nat_cmp k x es)) (total_of w (e ∷ es))
          (sum_put w k x es (later e es up)) (total_cons w e (put nat_cmp k x es)) (total_cons w e es)
    ] refl

sum_without : {X : Type 0} (w : X → ℕ) (k : ℕ) (es : Placed X) → T (is_sorted nat_cmp es) → total_of w (without_item es k) + weighs w (find nat_cmp k es) ≡ total_of w es
sum_without w k [] up = refl
sum_without {X} w k (e ∷ es) up =
    elim (is_eq (nat_cmp k e.0)) as (λ b. is_eq (nat_cmp k e.0) ≡ b → total_of w (cond (not b) (e ∷ without_item es k) (without_item es k)) + weighs w (cond b (Some e.1) (find nat_cmp k es)) ≡ total_of w (e ∷ es)) [
      | true ↦ λ same. sum_gone (w e.1) (total_of w es) (total_of w (without_item es k)) (total_of w (e ∷ es)) (ap (total_of w) (stays k e.0 es (tied (nat_cmp k e.0) same) (headed e es up))) (total_cons w e es)
      | false ↦ λ _. sum_left (w e.1) (total_of w es) (total_of w (without_item es k)) (weighs w (find nat_cmp k es)) (total_of w (e ∷ without_item es k)) (total_of w (e ∷ es)) (sum_without w k es (later e es up)) (total_cons w e (without_item es k)) (total_cons w e es)
    ] refl

-- ## How many

count_one : (l n m : ℕ) → l ≡ 1 + n → n ≡ m → l ≡ m + 1
count_one l n m p q = omega (arith, p, q)

ones : {X : Type 0} (xs : List X) → sum_by (λ (x : X). 1) xs ≡ length xs
ones [] = refl
ones {X} (x ∷ xs) = count_one (sum_by (λ (x : X). 1) (x ∷ xs)) (sum_by (λ (x : X). 1) xs) (length xs) (sum_by-cons (λ (x : X). 1) x xs) (ones xs) ∙ one_more (length xs)
  where
    one_more : (n : ℕ) → n + 1 ≡ suc n
    one_more n = omega (arith)

found_one : {X : Type 0} (w : X → ℕ) (o : Option X) → weighs (λ (x : X). 1) o ≡ one_at (option_map w o)
found_one w None = refl
found_one w (Some x) = refl

found_weight : {X : Type 0} (w : X → ℕ) (o : Option X) → weighs w o ≡ weight_at (option_map w o)
found_weight w None = refl
found_weight w (Some x) = refl

swap_more : (a b c d e f : ℕ) → a ≡ b → c ≡ d → e ≡ f → a + c ≡ e + 1 → b + d ≡ f + 1
swap_more a b c d e f p q r s = omega (arith, p, q, r, s)

swap_all : (a b c d e f : ℕ) → a ≡ b → c ≡ d → e ≡ f → a + c ≡ e → b + d ≡ f
swap_all a b c d e f p q r s = omega (arith, p, q, r, s)

count_put : {X : Type 0} (w : X → ℕ) (k : ℕ) (x : X) (es : Placed X) → T (is_sorted nat_cmp es) → length (values_of (with_item es k x)) + one_at (option_map w (at_place k es)) ≡ length (values_of es) + 1
count_put {X} w k x es up = swap_more (total_of (λ (y : X). 1) (put nat_cmp k x es)) (length (values_of (put nat_cmp k x es))) (weighs (λ (y : X). 1) (find nat_cmp k es)) (one_at (option_map w (find nat_cmp k es))) (total_of (λ (y : X). 1) es) (length (values_of es))
    (ones (values_of (put nat_cmp k x es))) (found_one w (find nat_cmp k es)) (ones (values_of es)) (sum_put (λ (y : X). 1) k x es up)

count_without : {X : Type 0} (w : X → ℕ) (k : ℕ) (es : Placed X) → T (is_sorted nat_cmp es) → length (values_of (without_item es k)) + one_at (option_map w (at_place k es)) ≡ length (values_of es)
count_without {X} w k es up = swap_all (total_of (λ (y : X). 1) (without_item es k)) (length (values_of (without_item es k))) (weighs (λ (y : X). 1) (find nat_cmp k es)) (one_at (option_map w (find nat_cmp k es))) (total_of (λ (y : X). 1) es) (length (values_of es))
    (ones (values_of (without_item es k))) (found_one w (find nat_cmp k es)) (ones (values_of es)) (sum_without (λ (y : X). 1) k es up)

-- ## Counts that follow the items

pub no_counts : {X : Type 0} (w : X → ℕ) (es : Placed X) (counts : Counts) → es ≡ [] → counts ≡ record { items = 0; total = 0 } → AreCounts w es counts
no_counts {X} w es counts none zero = subst (λ l. AreCounts w l counts) (sym none) (subst (λ (c : Counts). AreCounts {T = X} w [] c) (sym zero) (record { items = refl; total = refl }))

same_more : (a b c d e f y : ℕ) → c ≡ d → e ≡ f → a + c ≡ e + y → b + d ≡ f + y → a ≡ b
same_more a b c d e f y p q r s = omega (arith, p, q, r, s)

same_all : (a b c d e f : ℕ) → c ≡ d → e ≡ f → a + c ≡ e → b + d ≡ f → a ≡ b
same_all a b c d e f p q r s = omega (arith, p, q, r, s)

fits : (a c d e f : ℕ) → c ≡ d → e ≡ f → a + d ≡ f → c ≤ e
fits a c d e f p q r = omega (arith, p, q, r)

-- a former weight is that of what is found
former_weight : {X : Type 0} (w : X → ℕ) (k : ℕ) (es : Placed X) (former : Option ℕ) → former ≡ option_map w (at_place k es) → weight_at former ≡ weighs w (find nat_cmp k es)
former_weight w k es former was = ap weight_at was ∙ sym (found_weight w (find nat_cmp k es))

pub counts_put : {X : Type 0} (w : X → ℕ) (k : ℕ) (x : X) (es fs : Placed X) (former : Option ℕ) (before after : Counts) → AreCounts w es before → is_sorted nat_cmp es ≡ true → former ≡ option_map w (at_place k es) → fs ≡ with_item es k x
    → after.items + one_at former ≡ before.items + 1 → after.total + weight_at former ≡ before.total + w x → AreCounts w fs after
counts_put w k x es fs former before after counts up was now items total = subst (λ l. AreCounts w l after) (sym now) (record {
  items = same_more after.items (length (values_of (with_item es k x))) (one_at former) (one_at (option_map w (at_place k es))) before.items (length (values_of es)) 1
      (ap one_at was) counts.items items (count_put w k x es (turned (is_sorted nat_cmp es) up));
  total = same_more after.total (total_of w (with_item es k x)) (weight_at former) (weighs w (find nat_cmp k es)) before.total (total_of w es) (w x)
      (former_weight w k es former was) counts.total total (sum_put w k x es (turned (is_sorted nat_cmp es) up));
})

pub counts_take : {X : Type 0} (w : X → ℕ) (k : ℕ) (es fs : Placed X) (former : Option ℕ) (before after : Counts) → AreCounts w es before → is_sorted nat_cmp es ≡ true → former ≡ option_map w (at_place k es) → fs ≡ without_item es k
    → after.items + one_at former ≡ before.items → after.total + weight_at former ≡ before.total → AreCounts w fs after
counts_take w k es fs former before after counts up was now items total = subst (λ l. AreCounts w l after) (sym now) (record {
  items = same_all after.items (length (values_of (without_item es k))) (one_at former) (one_at (option_map w (at_place k es))) before.items (length (values_of es))
      (ap one_at was) counts.items items (count_without w k es (turned (is_sorted nat_cmp es) up));
  total = same_all after.total (total_of w (without_item es k)) (weight_at former) (weighs w (find nat_cmp k es)) before.total (total_of w es)
      (former_weight w k es former was) counts.total total (sum_without w k es (turned (is_sorted nat_cmp es) up));
})

-- what was there is counted
pub counted_items : {X : Type 0} (w : X → ℕ) (k : ℕ) (es : Placed X) (former : Option ℕ) (counts : Counts) → AreCounts w es counts → is_sorted nat_cmp es ≡ true → former ≡ option_map w (at_place k es) → one_at former ≤ counts.items
counted_items w k es former counts are up was = fits (length (values_of (without_item es k))) (one_at former) (one_at (option_map w (at_place k es))) counts.items (length (values_of es))
    (ap one_at was) are.items (count_without w k es (turned (is_sorted nat_cmp es) up))

pub counted_total : {X : Type 0} (w : X → ℕ) (k : ℕ) (es : Placed X) (former : Option ℕ) (counts : Counts) → AreCounts w es counts → is_sorted nat_cmp es ≡ true → former ≡ option_map w (at_place k es) → weight_at former ≤ counts.total
counted_total w k es former counts are up was = fits (total_of w (without_item es k)) (weight_at former) (weighs w (find nat_cmp k es)) counts.total (total_of w es)
    (former_weight w k es former was) are.total (sum_without w k es (turned (is_sorted nat_cmp es) up))
