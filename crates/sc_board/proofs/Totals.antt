-- Sums over the views of all passes, and what holds of each view.
use Rattle.std.proofs.Common.{Bool, true, false, inl, inr, ◌⊎◌, ◌≡◌, ◌≢◌, ℕ, zero, suc, ◌+◌, ◌<◌, ◌≤◌, List, [], ◌∷◌, ◌++◌, length, set, sym, refl, ap, subst, ⊎_elim, arith}
use Rattle.std.specs.List.{sum_by, AllByRecursion}
use Rattle.std.proofs.lemmas.List.Sums.{sum_by-cons, sum_by-append}
use mathlib.Core.Option.{some, some-ne-none, some-injective}
use lib.ListN.{get_elem?}
use Rattle.crossbeam_queue.proofs.Lists.{at_set, at_snoc}

pub either_way : (b : Bool) → (b ≡ true) ⊎ (b ≡ false)
either_way true = inl refl
either_way false = inr refl

pub some_or_none : (n : ℕ) → (n ≡ 0) ⊎ (0 < n)
some_or_none zero = inl refl
some_or_none (suc n) = inr (omega arith)

module _ {V : Type 0} where
  pub all_more : (P Q : V → Type 0) (xs : List V) → ((x : V) → P x → Q x) → AllByRecursion P xs → AllByRecursion Q xs
  all_more P Q [] more all = tt
  all_more P Q (x ∷ xs) more all = (more x all.0, all_more P Q xs more all.1)

  pub all_snoc : (P : V → Type 0) (xs : List V) (x : V) → AllByRecursion P xs → P x → AllByRecursion P (xs ++ x ∷ [])
  all_snoc P [] x all one = (one, tt)
  all_snoc P (y ∷ ys) x all one = (all.0, all_snoc P ys x all.1 one)

  -- a view changes: what all weigh changes by as much
  pub total_set : (f : V → ℕ) (views : List V) (port : ℕ) (v w : V) → get_elem? views port ≡ some v → sum_by f (set views port w) + f v ≡ sum_by f views + f w
  total_set f [] port v w at = absurd (some-ne-none v (sym at))
  total_set f (x ∷ xs) zero v w at =
      let a = sum_by-cons f w xs in
      let b = sum_by-cons f x xs in
      let same = ap f (some-injective x v at) in
      omega (arith, a, b, same)
  total_set f (x ∷ xs) (suc port) v w at =
      let a = sum_by-cons f x (set xs port w) in
      let b = sum_by-cons f x xs in
      let later = total_set f xs port v w at in
      omega (arith, a, b, later)

  pub total_snoc : (f : V → ℕ) (views : List V) (w : V) → sum_by f (views ++ w ∷ []) ≡ sum_by f views + f w
  total_snoc f views w = let a = sum_by-append f views (w ∷ []) in let b = sum_by-cons f w [] in omega (arith, a, b)

  pub within_total : (f : V → ℕ) (views : List V) (port : ℕ) (v : V) → get_elem? views port ≡ some v → f v ≤ sum_by f views
  within_total f [] port v at = absurd (some-ne-none v (sym at))
  within_total f (x ∷ xs) zero v at = let b = sum_by-cons f x xs in let same = ap f (some-injective x v at) in omega (arith, b, same)
  within_total f (x ∷ xs) (suc port) v at = let b = sum_by-cons f x xs in let later = within_total f xs port v at in omega (arith, b, later)

  nothing : (f g : V → ℕ) (views : List V) → ((j : ℕ) (u : V) → get_elem? views j ≡ some u → g u ≡ 0 → f u ≡ 0) → sum_by g views ≡ 0 → sum_by f views ≡ 0
  nothing f g [] light none = refl
  nothing f g (x ∷ xs) light none =
      let a = sum_by-cons g x xs in
      let b = sum_by-cons f x xs in
      let here : f x ≡ 0 = light zero x refl (omega (arith, a, none)) in
      let later : sum_by f xs ≡ 0 = nothing f g xs (λ j u at. light (suc j) u at) (omega (arith, a, none)) in
      omega (arith, b, here, later)

  -- one view has all that weighs by g, so it has all that weighs by f
  pub alone : (f g : V → ℕ) (views : List V) (port : ℕ) (v : V) → get_elem? views port ≡ some v → ((j : ℕ) (u : V) → get_elem? views j ≡ some u → g u ≡ 0 → f u ≡ 0)
      → sum_by g views ≡ g v → sum_by f views ≡ f v
  alone f g [] port v at light all = absurd (some-ne-none v (sym at))
  alone f g (x ∷ xs) zero v at light all =
      let a = sum_by-cons g x xs in
      let b = sum_by-cons f x xs in
      let same_g = ap g (some-injective x v at) in
      let same_f = ap f (some-injective x v at) in
      let later : sum_by f xs ≡ 0 = nothing f g xs (λ j u at. light (suc j) u at) (omega (arith, a, all, same_g)) in
      omega (arith, b, same_f, later)
  alone f g (x ∷ xs) (suc port) v at light all =
      let a = sum_by-cons g x xs in
      let b = sum_by-cons f x xs in
      let most = within_total g xs port v at in
      let here : f x ≡ 0 = light zero x refl (omega (arith, a, all, most)) in
      let later : sum_by f xs ≡ f v = alone f g xs port v at (λ j u at. light (suc j) u at) (omega (arith, a, all, most)) in
      omega (arith, b, here, later)

  -- where one view has all that weighs by g, each other has nothing
  pub others_none : (g : V → ℕ) (views : List V) (port : ℕ) (v : V) → get_elem? views port ≡ some v → sum_by g views ≡ g v
      → (j : ℕ) (u : V) → j ≢ port → get_elem? views j ≡ some u → g u ≡ 0
  others_none g [] port v at all j u other there = absurd (some-ne-none v (sym at))
  others_none g (x ∷ xs) zero v at all zero u other there = absurd (other refl)
  others_none g (x ∷ xs) zero v at all (suc j) u other there =
      let a = sum_by-cons g x xs in
      let same = ap g (some-injective x v at) in
      let most = within_total g xs j u there in
      omega (arith, a, all, same, most)
  others_none g (x ∷ xs) (suc port) v at all zero u other there =
      let a = sum_by-cons g x xs in
      let same = ap g (some-injective x u there) in
      let most = within_total g xs port v at in
      omega (arith, a, all, same, most)
  others_none g (x ∷ xs) (suc port) v at all (suc j) u other there =
      let a = sum_by-cons g x xs in
      let most = within_total g xs port v at in
      others_none g xs port v at (omega (arith, a, all, most)) j u (λ same. other (ap suc same)) there

  abbrev pub Each : (V → Type 0) → List V → Type 0
  Each P views = (port : ℕ) (v : V) → get_elem? views port ≡ some v → P v

  pub each_set : (P : V → Type 0) (views : List V) (port : ℕ) (w : V) → P w → Each P views → Each P (set views port w)
  each_set P views port w mine others j u at = ⊎_elim (λ (x : (j ≡ port) × (w ≡ u)). subst P x.1 mine) (λ (x : (j ≢ port) × (get_elem? views j ≡ some u)). others j u x.1) (at_set views port j w u at)

  pub each_snoc : (P : V → Type 0) (views : List V) (w : V) → P w → Each P views → Each P (views ++ w ∷ [])
  each_snoc P views w mine others j u at = ⊎_elim (λ (x : get_elem? views j ≡ some u). others j u x) (λ (same : w ≡ u). subst P same mine) (at_snoc views w u j at)

  pub each_one : (P : V → Type 0) (w : V) → P w → Each P (w ∷ [])
  each_one P w mine zero u at = subst P (some-injective w u at) mine
  each_one P w mine (suc j) u at = absurd (some-ne-none u (sym at))

  pub within_length : (views : List V) (port : ℕ) (v : V) → get_elem? views port ≡ some v → port < length views
  within_length [] port v at = absurd (some-ne-none v (sym at))
  within_length (x ∷ xs) zero v at = omega arith
  within_length (x ∷ xs) (suc port) v at = let later = within_length xs port v at in omega (arith, later)

  -- what stands in a list with one more at its end: it stood before, or is that one at its place
  pub at_length : (views : List V) (w u : V) (j : ℕ) → get_elem? (views ++ w ∷ []) j ≡ some u → (get_elem? views j ≡ some u) ⊎ ((j ≡ length views) × (w ≡ u))
  at_length [] w u zero at = inr (refl, some-injective w u at)
  at_length [] w u (suc j) at = absurd (some-ne-none u (sym at))
  at_length (x ∷ xs) w u zero at = inl at
  at_length (x ∷ xs) w u (suc j) at = ⊎_elim (λ (there : get_elem? xs j ≡ some u). inl there) (λ (last : (j ≡ length xs) × (w ≡ u)). inr (ap suc last.0, last.1)) (at_length xs w u j at)
