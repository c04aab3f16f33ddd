-- Lists of keys that rise: one more key at its place, a filter, and that they are known by which keys they have.
use Rattle.std.proofs.Common.{◌≡◌, Bool, true, false, cond, ◌&&◌, ◌||◌, T, List, [], ◌∷◌, map, Some, None, Option, refl, sym, ap, subst, ◌∙◌}
use Rattle.std.specs.Prelude.{is_some}
use Rattle.std.specs.declared.cmp.Ordering.{Ordering}
use Rattle.std.specs.declared.cmp.Ordering.TheVariants.{Less, Equal, Greater}
use Rattle.std.specs.List.{filter, list_any}
use Rattle.std.specs.Ordering.{eq_by_cmp, match_ordering}
use Rattle.std.specs.Cmp.{IsTotalOrder}
use Rattle.std.specs.BTreeSet.{insert_key}
use Rattle.std.specs.FinMap.Entries.{by_order, put, find, is_sorted, is_some-find, is_sorted-where_key, find-where_key, is_sorted-put, find-put, same_entries}
use Rattle.std.proofs.lemmas.Map.Lookups.{CmpEqualImpliesEq}

module _ {K : Type 0} where
  -- keys as entries of a map that has nothing at each
  abbrev pub marked : List K → List (K × Unit {0})
  marked keys = map (λ (k : K). (k, tt)) keys

  keys-marked : (keys : List K) → map (λ (e : K × Unit {0}). e.0) (marked keys) ≡ keys
  keys-marked [] = refl
  keys-marked (k ∷ ks) = ap (λ l. k ∷ l) (keys-marked ks)

  marked-filter : (p : K → Bool) (keys : List K) → marked (filter p keys) ≡ filter (λ (e : K × Unit {0}). p e.0) (marked keys)
  marked-filter p [] = refl
  marked-filter p (k ∷ ks) = elim (p k) as (λ b. marked (cond b (k ∷ filter p ks) (filter p ks)) ≡ cond b ((k, tt) ∷ filter (λ (e : K × Unit {0}). p e.0) (marked ks)) (filter (λ (e : K × Unit {0}). p e.0) (marked ks)))
      [ true ↦ ap (λ l. (k, tt) ∷ l) (marked-filter p ks) | false ↦ marked-filter p ks ]

same_marks : (x y : Option (Unit {0})) → is_some x ≡ is_some y → x ≡ y
same_marks None None e = refl
same_marks None (Some u) e = absurd (subst T (sym e) tt)
same_marks (Some u) None e = absurd (subst T e tt)
same_marks (Some u) (Some v) e = refl

some_or : (b : Bool) (x : Option (Unit {0})) → is_some (cond b (Some tt) x) ≡ (b || is_some x)
some_or true x = refl
some_or false x = refl

some_and : (b : Bool) (x : Option (Unit {0})) → is_some (cond b x None) ≡ (b && is_some x)
some_and true x = refl
some_and false x = refl

module _ {K : Type 0} (R : K → K → Ordering) where
  -- a key is among the keys
  abbrev pub has : List K → K → Bool
  has keys q = list_any (eq_by_cmp R q) keys

  -- the keys rise
  abbrev pub rises : List K → Type 0
  rises keys = T (is_sorted R (marked keys))

  has_marked : (q : K) (keys : List K) → is_some (find R q (marked keys)) ≡ has keys q
  has_marked q keys = is_some-find R q (marked keys) ∙ ap (λ l. list_any (eq_by_cmp R q) l) (keys-marked keys)

  marked-insert_key : (k : K) (keys : List K) → marked (insert_key R keys k) ≡ put R k tt (marked keys)
  marked-insert_key k [] = refl
  marked-insert_key k (x ∷ xs) = elim (R k x) as (λ o. marked (match_ordering o (k ∷ x ∷ xs) (x ∷ xs) (x ∷ insert_key R xs k)) ≡ by_order o ((k, tt) ∷ (x, tt) ∷ marked xs) ((x, tt) ∷ marked xs) ((x, tt) ∷ put R k tt (marked xs)))
      [ Less ↦ refl | Equal ↦ refl | Greater ↦ ap (λ l. (x, tt) ∷ l) (marked-insert_key k xs) ]

  module _ (o : IsTotalOrder R) where
    pub rises-insert_key : (k : K) (keys : List K) → rises keys → rises (insert_key R keys k)
    rises-insert_key k keys h = subst (λ (l : List (K × Unit {0})). T (is_sorted R l)) (sym (marked-insert_key k keys)) (is_sorted-put R o k tt (marked keys) h)

    pub has-insert_key : (q k : K) (keys : List K) → has (insert_key R keys k) q ≡ (eq_by_cmp R q k || has keys q)
    has-insert_key q k keys =
        sym (has_marked q (insert_key R keys k))
        ∙ ap (λ l. is_some (find R q l)) (marked-insert_key k keys)
        ∙ ap is_some (find-put R o q k tt (marked keys))
        ∙ some_or (eq_by_cmp R q k) (find R q (marked keys))
        ∙ ap (λ b. eq_by_cmp R q k || b) (has_marked q keys)

    pub rises-filter : (p : K → Bool) (keys : List K) → rises keys → rises (filter p keys)
    rises-filter p keys h = subst (λ (l : List (K × Unit {0})). T (is_sorted R l)) (sym (marked-filter p keys)) (is_sorted-where_key R p (marked keys) h)

    pub has-filter : (p : K → Bool) (q : K) (keys : List K) → ((x : K) → R q x ≡ Equal → p x ≡ p q) → has (filter p keys) q ≡ (p q && has keys q)
    has-filter p q keys alike =
        sym (has_marked q (filter p keys))
        ∙ ap (λ l. is_some (find R q l)) (marked-filter p keys)
        ∙ ap is_some (find-where_key R p q alike (marked keys))
        ∙ some_and (p q) (find R q (marked keys))
        ∙ ap (λ b. p q && b) (has_marked q keys)

    -- keys that rise are known by which keys they are
    pub same_keys : CmpEqualImpliesEq R → (xs ys : List K) → rises xs → rises ys → ((q : K) → has xs q ≡ has ys q) → xs ≡ ys
    same_keys exact xs ys up also h =
        sym (keys-marked xs)
        ∙ ap (λ l. map (λ (e : K × Unit {0}). e.0) l) (same_entries R o exact (marked xs) (marked ys) up also (λ q. same_marks _ _ (has_marked q xs ∙ h q ∙ sym (has_marked q ys))))
        ∙ keys-marked ys
