-- What holds of each view, and of pairs of views, as one changes and as one is added.
use Rattle.std.proofs.Common.{◌≡◌, ◌≢◌, ◌⊎◌, ℕ, zero, suc, List, [], ◌∷◌, ◌++◌, length, set, sym, refl, ap, ◌∙◌, subst, ⊎_elim, inl, inr}
use Rattle.std.specs.List.{AllByRecursion}
use mathlib.Core.Option.{some, some-ne-none, some-injective}
use lib.ListN.{get_elem?}
use Rattle.crossbeam_queue.proofs.Lists.{at_set}
use Rattle.sc_desk.specs.declared.desk_queue.DeskView.{DeskView}
use Rattle.sc_desk.specs.DeskRules.{AreOne}

module _ {A : Type 0} where
  pub all_more : (P Q : A → Type 0) (xs : List A) → ((x : A) → P x → Q x) → AllByRecursion P xs → AllByRecursion Q xs
  all_more P Q [] more all = tt
  all_more P Q (x ∷ xs) more all = (more x all.0, all_more P Q xs more all.1)

  pub all_snoc : (P : A → Type 0) (xs : List A) (x : A) → AllByRecursion P xs → P x → AllByRecursion P (xs ++ x ∷ [])
  all_snoc P [] x all one = (one, tt)
  all_snoc P (y ∷ ys) x all one = (all.0, all_snoc P ys x all.1 one)

  pub all_both : (P Q R : A → Type 0) (xs : List A) → ((x : A) → P x → Q x → R x) → AllByRecursion P xs → AllByRecursion Q xs → AllByRecursion R xs
  all_both P Q R [] more all others = tt
  all_both P Q R (x ∷ xs) more all others = (more x all.0 others.0, all_both P Q R xs more all.1 others.1)

-- a view that stands in the list with one changed is that one, or stood there before
pub there : {B : Type 0} (views : List DeskView) (seat j : ℕ) (w u : DeskView) → (j ≡ seat → w ≡ u → B) → (j ≢ seat → get_elem? views j ≡ some u → B) → get_elem? (set views seat w) j ≡ some u → B
there views seat j w u mine others at = ⊎_elim (λ (x : (j ≡ seat) × (w ≡ u)). mine x.0 x.1) (λ (x : (j ≢ seat) × (get_elem? views j ≡ some u)). others x.0 x.1) (at_set views seat j w u at)

-- a view that stands in the list with one more is at its end, or stood there before
pub at_end : (views : List DeskView) (w u : DeskView) (j : ℕ) → get_elem? (views ++ w ∷ []) j ≡ some u → (get_elem? views j ≡ some u) ⊎ ((j ≡ length views) × (w ≡ u))
at_end [] w u zero at = inr (refl, some-injective w u at)
at_end [] w u (suc j) at = absurd (some-ne-none u (sym at))
at_end (x ∷ xs) w u zero at = inl at
at_end (x ∷ xs) w u (suc j) at = ⊎_elim (λ (before : get_elem? xs j ≡ some u). inl before) (λ (last : (j ≡ length xs) × (w ≡ u)). inr (ap suc last.0, last.1)) (at_end xs w u j at)

-- a view changes to one that is alike to no other that the old one wasn't alike to
pub one_set : (Both : DeskView → DeskView → Type 0) (views : List DeskView) (seat : ℕ) (v w : DeskView) → get_elem? views seat ≡ some v → ((u : DeskView) → Both w u → Both v u) → ((u : DeskView) → Both u w → Both u v)
    → AreOne Both views → AreOne Both (set views seat w)
one_set Both views seat v w at left right one i j a b at_i at_j both =
    there views seat i w a
    (λ i_is w_is.
    there views seat j w b
    (λ j_is _. i_is ∙ sym j_is)
    (λ _ b_at. i_is ∙ one seat j v b at b_at (left b (subst (λ (u : DeskView). Both u b) (sym w_is) both)))
    at_j)
    (λ _ a_at.
    there views seat j w b
    (λ j_is w_is. one i seat a v a_at at (right a (subst (λ (u : DeskView). Both a u) (sym w_is) both)) ∙ sym j_is)
    (λ _ b_at. one i j a b a_at b_at both)
    at_j)
    at_i

-- one more, which is alike to none
pub one_more : (Both : DeskView → DeskView → Type 0) (views : List DeskView) (w : DeskView) → ((j : ℕ) (u : DeskView) → get_elem? views j ≡ some u → Both w u → ⊥) → ((j : ℕ) (u : DeskView) → get_elem? views j ≡ some u → Both u w → ⊥)
    → AreOne Both views → AreOne Both (views ++ w ∷ [])
one_more Both views w left right one i j a b at_i at_j both =
    ⊎_elim
    (λ (a_at : get_elem? views i ≡ some a). ⊎_elim
    (λ (b_at : get_elem? views j ≡ some b). one i j a b a_at b_at both)
    (λ (last : (j ≡ length views) × (w ≡ b)). absurd (right i a a_at (subst (λ (u : DeskView). Both a u) (sym last.1) both)))
    (at_end views w b j at_j))
    (λ (end : (i ≡ length views) × (w ≡ a)). ⊎_elim
    (λ (b_at : get_elem? views j ≡ some b). absurd (left j b b_at (subst (λ (u : DeskView). Both u b) (sym end.1) both)))
    (λ (last : (j ≡ length views) × (w ≡ b)). end.0 ∙ sym last.0)
    (at_end views w b j at_j))
    (at_end views w a i at_i)
