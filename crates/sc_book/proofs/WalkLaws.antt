-- The first item of a group that passes, found by a walk over the pairs of the group's number.
use Rattle.std.proofs.Common.{◌≡◌, ◌<◌, ◌+◌, ℕ, Bool, true, false, not, cond, ◌&&◌, ◌||◌, T, Option, None, [], ◌∷◌, refl, ap, sym, subst, ◌∙◌, arith}
use Rattle.std.proofs.lemmas.Bool.Decides.{nat_tests}
use Rattle.std.proofs.lemmas.List.Kept.{IsStrictlySortedBy-filter}
use Rattle.std.specs.declared.cmp.Ordering.{Ordering}
use Rattle.std.specs.declared.cmp.Ordering.TheVariants.{Less, Equal, Greater}
use Rattle.std.specs.List.{filter, find as first_of, AllByRecursion}
use Rattle.std.specs.List.Sorted.{IsStrictlySortedBy}
use Rattle.std.specs.Ordering.{nat_cmp, is_eq, is_le, ordering_then}
use Rattle.std.specs.BTreeSet.{BTreeSet}
use Rattle.std.specs.FinMap.Entries.{is_sorted}
use Rattle.sc_book.specs.Places.{Placed, passes_at}
use Rattle.sc_book.specs.Pairs.{Pairs, pair_cmp, has_pair}
use Rattle.sc_book.specs.Words.{belongs, in_groups}
use Rattle.sc_book.specs.Found.{HasAll}
use Rattle.sc_book.specs.Gathering.{has_place, IsFirst, pairs_from, places_in}
use Rattle.sc_book.proofs.Basics.{or_true, eq_then}
use Rattle.sc_book.proofs.PlaceSets.{from_has}
use Rattle.sc_book.proofs.FindLaws.{first_among}

-- ## Places of pairs

-- the place of a pair is among the places of all
there_in : (v p : ℕ) (pairs : Pairs) → has_pair pairs v p ≡ true → has_place (places_in pairs) p ≡ true
there_in v p [] h = absurd (subst T (sym h) tt)
there_in v p (x ∷ xs) h =
    elim (is_eq (pair_cmp (v, p) x)) as (λ b. is_eq (pair_cmp (v, p) x) ≡ b → (b || has_pair xs v p) ≡ true → (is_eq (nat_cmp p x.1) || has_place (places_in xs) p) ≡ true) [
      | true ↦ λ t _. ap (λ b. b || has_place (places_in xs) p) (eq_then (nat_cmp v x.0) (nat_cmp p x.1) t).1
      | false ↦ λ _ rest. ap (λ b. is_eq (nat_cmp p x.1) || b) (there_in v p xs rest) ∙ or_true (is_eq (nat_cmp p x.1))
    ] refl h

same_order : (a b : ℕ) → a ≡ b → nat_cmp a b ≡ Equal
same_order a b same = grind (arith, nat_tests, same)

-- pairs of one number are in the order of their places
by_place : (v : ℕ) (x y : ℕ × ℕ) → x.0 ≡ v → y.0 ≡ v → pair_cmp x y ≡ Less → nat_cmp x.1 y.1 ≡ Less
by_place v x y one two low = subst (λ o. ordering_then o (nat_cmp x.1 y.1) ≡ Less) (same_order x.0 y.0 (one ∙ sym two)) low

above : (v : ℕ) (x : ℕ × ℕ) (xs : Pairs) → x.0 ≡ v → AllByRecursion (λ q. q.0 ≡ v) xs → AllByRecursion (λ y. pair_cmp x y ≡ Less) xs → AllByRecursion (λ p. nat_cmp x.1 p ≡ Less) (places_in xs)
above v x [] one all up = tt
above v x (y ∷ ys) one all up = (by_place v x y one all.0 up.0, above v x ys one all.1 up.1)

in_order : (v : ℕ) (pairs : Pairs) → AllByRecursion (λ q. q.0 ≡ v) pairs → IsStrictlySortedBy pair_cmp pairs → IsStrictlySortedBy nat_cmp (places_in pairs)
unfolding IsStrictlySortedBy
in_order v [] all up = tt
in_order v (x ∷ xs) all up = (above v x xs all.0 all.1 up.0, in_order v xs all.1 up.1)

-- ## Pairs of one number

-- what passes a test that tells the number has it
numbered : (test : ℕ × ℕ → Bool) (v : ℕ) (pairs : Pairs) → ((q : ℕ × ℕ) → test q ≡ true → q.0 ≡ v) → AllByRecursion (λ q. q.0 ≡ v) (filter test pairs)
numbered test v [] tells = tt
numbered test v (x ∷ xs) tells =
    elim (test x) as (λ b. test x ≡ b → AllByRecursion (λ q. q.0 ≡ v) (cond b (x ∷ filter test xs) (filter test xs))) [
      | true ↦ λ t. (tells x t, numbered test v xs tells)
      | false ↦ λ _. numbered test v xs tells
    ] refl

-- a number from this one on and before the next one is this one
one_number : (low past n m : ℕ) → past ≡ low + 1 → (is_le (ordering_then (nat_cmp low n) (nat_cmp 0 m)) && not (is_le (ordering_then (nat_cmp past n) (nat_cmp 0 m)))) ≡ true → n ≡ low
one_number low past n m next between =
    elim (nat_cmp low n) as (λ o. nat_cmp low n ≡ o → (is_le (ordering_then o (nat_cmp 0 m)) && not (is_le (ordering_then (nat_cmp past n) (nat_cmp 0 m)))) ≡ true → n ≡ low) [
      | Less ↦ λ less is. absurd (past_not (nat_cmp past n) refl less is)
      | Equal ↦ λ same _. sym (equal low n same)
      | Greater ↦ λ _ is. absurd (subst T (sym is) tt)
    ] refl between
  where
    equal : (a b : ℕ) → nat_cmp a b ≡ Equal → a ≡ b
    equal a b e = grind (arith, nat_tests, e)

    zero_le : (n : ℕ) → is_le (nat_cmp 0 n) ≡ true
    zero_le n = grind (arith, nat_tests)

    greater : (a b : ℕ) → nat_cmp a b ≡ Greater → b < a
    greater a b e = grind (arith, nat_tests, e)

    lower : (a b : ℕ) → nat_cmp a b ≡ Less → a < b
    lower a b e = grind (arith, nat_tests, e)

    past_not : (o : Ordering) → nat_cmp past n ≡ o → nat_cmp low n ≡ Less → not (is_le (ordering_then o (nat_cmp 0 m))) ≡ true → ⊥
    past_not Less e less is = subst T (sym is) tt
    past_not Equal e less is = subst T (sym (ap not (sym (zero_le m)) ∙ is)) tt
    past_not Greater e less is = omega (arith, next, lower low n less, greater past n e)

-- ## The first

-- the first place among those of a group's number whose item passes is the first of all
pub first_walked : {X : Type 0} (group_of : X → ℕ × ℕ) (test : X → Bool) (es : Placed X) (ks : Pairs) (pairs : BTreeSet (ℕ × ℕ)) (low past : ℕ) (o : Option ℕ)
    → is_sorted nat_cmp es ≡ true → HasAll (λ x. in_groups (group_of x)) es ks → o ≡ first_of (passes_at test es) (places_in (pairs_from low past pairs)) → IsStrictlySortedBy pair_cmp pairs.keys → pairs.keys ≡ ks
    → past ≡ low + 1 → ((x : X) → test x ≡ true → belongs group_of low x ≡ true) → IsFirst test es o
first_walked group_of test es ks pairs low past o ordered groups is up same next own =
    first_among test (belongs group_of low) es (places_in (pairs_from low past pairs)) o own
    (record {
      ordered = ordered;
      covers = λ p x at of_group.
          there_in low p (pairs_from low past pairs) (from_has low past p pairs (omega (arith, next)) (subst (λ l. has_pair l low p ≡ true) (sym same) (groups.all low p x at of_group)));
    })
    (in_order low (pairs_from low past pairs)
    (numbered (λ q. is_le (pair_cmp (low, 0) q) && not (is_le (pair_cmp (past, 0) q))) low pairs.keys (λ q t. one_number low past q.0 q.1 next t))
    (IsStrictlySortedBy-filter pair_cmp (λ q. is_le (pair_cmp (low, 0) q) && not (is_le (pair_cmp (past, 0) q))) pairs.keys up))
    is

-- nothing passes where there is nothing
pub first_nowhere : {X : Type 0} (test : X → Bool) (es : Placed X) → es ≡ [] → IsFirst test es None
first_nowhere test es none = record {
  sorted = ap (is_sorted nat_cmp) none;
  passes = tt;
  before = tt;
  none = λ p. ap (λ l. passes_at test l p) none;
}

-- what is first in a base is first in a book that has no changes
pub first_same : {X : Type 0} (test : X → Bool) (es fs : Placed X) (o : Option ℕ) → es ≡ fs → IsFirst test es o → IsFirst test fs o
first_same test es fs o same is = subst (λ l. IsFirst test l o) same is
