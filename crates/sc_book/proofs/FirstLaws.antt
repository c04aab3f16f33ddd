-- The lowest number of all items, found by an index.
use Rattle.std.proofs.lemmas.Bool.Decides.{nat_tests}
use Rattle.std.proofs.Common.{◌≡◌, ◌==◌, ◌≤◌, ◌<◌, ℕ, Bool, true, false, cond, ◌&&◌, ◌||◌, T, Option, Some, None, List, [], ◌∷◌, refl, ap, sym, subst, ◌∙◌, arith}
use Rattle.std.specs.declared.cmp.Ordering.{Ordering}
use Rattle.std.specs.declared.cmp.Ordering.TheVariants.{Less, Equal, Greater}
use Rattle.std.specs.Prelude.{nat_lt, Result, IfOk}
use Rattle.std.specs.declared.result.Result.TheVariants.{Ok, Err}
use Rattle.std.specs.List.{filter, find as first_of, AllByRecursion}
use Rattle.std.specs.List.Sorted.{IsStrictlySortedBy}
use Rattle.std.specs.Ordering.{nat_cmp, is_eq, is_lt, is_gt, ordering_then, MatchOrdering}
use Rattle.std.specs.Option.{option_map_or}
use Rattle.std.specs.Map.{values_of}
use Rattle.std.specs.FinMap.Entries.{find, below_all, is_sorted, is_sorted-where_key, find-where_key}
use Rattle.std.proofs.lemmas.Cmp.{ranked}
use Rattle.std.proofs.lemmas.Map.Keys.{sorted_head, sorted_tail}
use Rattle.std.proofs.lemmas.Map.Lookups.{exact_unsigned}
use Rattle.sc_book.specs.Places.{Placed, at_place}
use Rattle.sc_book.specs.Pairs.{Pairs, pair_cmp, has_pair, is_number}
use Rattle.sc_book.specs.Found.{HasAll}
use Rattle.sc_book.specs.Words.{number_and_key as paired, sooner, earliest, is_free}
use Rattle.sc_book.specs.Firsts.{free_of, is_numbered, is_next, earliest_at}
use Rattle.sc_book.specs.Keys.{AreKeyed}
use Rattle.sc_book.proofs.Basics.{none_some, some_is, not_true, turned, first, second, same_number, same_place, own_number, itself, eq_then, and_second, less_tested, tied}
use Rattle.sc_book.proofs.PlaceLaws.{missed, later, headed}

-- ## The first pair that passes

-- one of the pairs is no lower than another
abbrev NoLower : ℕ × ℕ → ℕ × ℕ → Type 0
NoLower a b = is_gt (pair_cmp a b) ≡ false

alike : (a b : Ordering) → a ≡ Equal → b ≡ Equal → is_gt (ordering_then a b) ≡ false
alike a b p q = ap (λ o. is_gt (ordering_then o b)) p ∙ ap is_gt q

equal : (a b : ℕ) → is_eq (nat_cmp a b) ≡ true → nat_cmp b a ≡ Equal
equal a b e = grind (arith, nat_tests, e)

own_lower : (x : ℕ × ℕ) (v p : ℕ) → is_eq (pair_cmp (v, p) x) ≡ true → NoLower x (v, p)
own_lower x v p t = let tie = eq_then (nat_cmp v x.0) (nat_cmp p x.1) t in alike (nat_cmp x.0 v) (nat_cmp x.1 p) (equal v x.0 tie.0) (equal p x.1 tie.1)

above_all : (x : ℕ × ℕ) (ks : Pairs) (v p : ℕ) → AllByRecursion (λ y. pair_cmp x y ≡ Less) ks → has_pair ks v p ≡ true → NoLower x (v, p)
above_all x [] v p up h = absurd (subst T (sym h) tt)
above_all x (y ∷ ys) v p up h =
    elim (is_eq (pair_cmp (v, p) y)) as (λ b. is_eq (pair_cmp (v, p) y) ≡ b → (b || has_pair ys v p) ≡ true → NoLower x (v, p)) [
      | true ↦ λ t _. let tie = eq_then (nat_cmp v y.0) (nat_cmp p y.1) t in
          ap (λ n. is_gt (ordering_then (nat_cmp x.0 n) (nat_cmp x.1 p))) (same_place v y.0 tie.0) ∙ ap (λ n. is_gt (ordering_then (nat_cmp x.0 y.0) (nat_cmp x.1 n))) (same_place p y.1 tie.1) ∙ ap is_gt up.0
      | false ↦ λ _ e. above_all x ys v p up.1 e
    ] refl h

same_seen : (test : ℕ → ℕ → Bool) (x : ℕ × ℕ) (v p : ℕ) → is_eq (pair_cmp (v, p) x) ≡ true → test v p ≡ test x.0 x.1
same_seen test x v p t = let tie = eq_then (nat_cmp v x.0) (nat_cmp p x.1) t in ap (λ n. test n p) (same_place v x.0 tie.0) ∙ ap (test x.0) (same_place p x.1 tie.1)

-- what is found passes
found_passes : (test : ℕ → ℕ → Bool) (ks : Pairs) (r : ℕ × ℕ) → first_of (λ q. test q.0 q.1) ks ≡ Some r → test r.0 r.1 ≡ true
found_passes test [] r is = absurd (none_some r is)
found_passes test (x ∷ xs) r is =
    elim (test x.0 x.1) as (λ b. test x.0 x.1 ≡ b → cond b (Some x) (first_of (λ q. test q.0 q.1) xs) ≡ Some r → test r.0 r.1 ≡ true) [
      | true ↦ λ t e. subst (λ q. test q.0 q.1 ≡ true) (some_is x r e) t
      | false ↦ λ _ e. found_passes test xs r e
    ] refl is

-- no pair that passes is lower
found_lowest : (test : ℕ → ℕ → Bool) (ks : Pairs) (r : ℕ × ℕ) → IsStrictlySortedBy pair_cmp ks → first_of (λ q. test q.0 q.1) ks ≡ Some r → (v p : ℕ) → has_pair ks v p ≡ true → test v p ≡ true → NoLower r (v, p)
found_lowest test [] r up is v p there passes = absurd (none_some r is)
found_lowest test (x ∷ xs) r up is v p there passes =
    elim (test x.0 x.1) as (λ b. test x.0 x.1 ≡ b → cond b (Some x) (first_of (λ q. test q.0 q.1) xs) ≡ Some r → NoLower r (v, p)) [
      | true ↦ λ t e. subst (λ q. NoLower q (v, p)) (some_is x r e)
          (elim (is_eq (pair_cmp (v, p) x)) as (λ b. is_eq (pair_cmp (v, p) x) ≡ b → (b || has_pair xs v p) ≡ true → NoLower x (v, p)) [
            | true ↦ λ s _. own_lower x v p s
            | false ↦ λ _ h. above_all x xs v p (sorted_head pair_cmp x xs up) h
          ] refl there)
      | false ↦ λ t e. elim (is_eq (pair_cmp (v, p) x)) as (λ b. is_eq (pair_cmp (v, p) x) ≡ b → (b || has_pair xs v p) ≡ true → NoLower r (v, p)) [
        | true ↦ λ s _. absurd (not_true (test v p) passes (same_seen test x v p s ∙ t))
        | false ↦ λ _ h. found_lowest test xs r (sorted_tail pair_cmp x xs up) e v p h passes
      ] refl there
    ] refl is

-- where none is found, none passes
found_none : (test : ℕ → ℕ → Bool) (ks : Pairs) → first_of (λ q. test q.0 q.1) ks ≡ None → (v p : ℕ) → has_pair ks v p ≡ true → test v p ≡ false
found_none test [] is v p there = absurd (subst T (sym there) tt)
found_none test (x ∷ xs) is v p there =
    elim (test x.0 x.1) as (λ b. test x.0 x.1 ≡ b → cond b (Some x) (first_of (λ q. test q.0 q.1) xs) ≡ None → test v p ≡ false) [
      | true ↦ λ _ e. absurd (none_some x (sym e))
      | false ↦ λ t e. elim (is_eq (pair_cmp (v, p) x)) as (λ b. is_eq (pair_cmp (v, p) x) ≡ b → (b || has_pair xs v p) ≡ true → test v p ≡ false) [
        | true ↦ λ s _. same_seen test x v p s ∙ t
        | false ↦ λ _ h. found_none test xs e v p h
      ] refl there
    ] refl is

-- ## The lowest number of items in order

number_is : (o : Option ℕ) (v : ℕ) → is_number o v ≡ true → o ≡ Some v
number_is None v e = absurd (subst T (sym e) tt)
number_is (Some m) v e = ap Some (same_number m v e)

-- a number among the later items is one among all
later_numbered : {X : Type 0} (number : X → Option ℕ) (e : ℕ × X) (es : Placed X) (v q : ℕ) → T (is_sorted nat_cmp (e ∷ es)) → is_numbered number es v q ≡ true → is_numbered number (e ∷ es) v q ≡ true
later_numbered {X} number e es v q up h =
    elim (is_eq (nat_cmp q e.0)) as (λ b. is_eq (nat_cmp q e.0) ≡ b → option_map_or (λ (x : X). is_number (number x) v) (cond b (Some e.1) (find nat_cmp q es)) false ≡ true) [
      | true ↦ λ t. absurd (subst T (sym h ∙ ap (λ o. option_map_or (λ (x : X). is_number (number x) v) o false) (missed q e.0 es (tied (nat_cmp q e.0) t) (headed e es up))) tt)
      | false ↦ λ _. h
    ] refl

-- the number of the first item is one among all
own_numbered : {X : Type 0} (number : X → Option ℕ) (e : ℕ × X) (es : Placed X) (n : ℕ) → number e.1 ≡ Some n → is_numbered number (e ∷ es) n e.0 ≡ true
own_numbered {X} number e es n is =
    ap (λ b. option_map_or (λ (x : X). is_number (number x) n) (cond b (Some e.1) (find nat_cmp e.0 es)) false) (itself e.0)
    ∙ ap (λ o. is_number o n) is ∙ own_number n

no_lower : (a v : ℕ) (o : Ordering) → is_gt (ordering_then (nat_cmp a v) o) ≡ false → a ≤ v
no_lower a v o not_past = by (nat_cmp a v) (ranked a v (nat_cmp a v) refl) not_past
  where
    by : (r : Ordering) → MatchOrdering r (a < v) (a ≡ v) (v < a) → is_gt (ordering_then r o) ≡ false → a ≤ v
    by Less h _ = omega (arith, h)
    by Equal h _ = omega (arith, h)
    by Greater h e = absurd (subst T e tt)

abbrev AtLeast : ℕ → Option (ℕ × ℕ) → Type 0
AtLeast m None = Unit {0}
AtLeast m (Some b) = m ≤ b.0

sooner_least : (m : ℕ) (a b : Option (ℕ × ℕ)) → AtLeast m a → AtLeast m b → AtLeast m (sooner a b)
sooner_least m None b p q = q
sooner_least m (Some a) None p q = p
sooner_least m (Some a) (Some b) p q = elim (nat_lt b.0 a.0) as (λ t. AtLeast m (cond t (Some b) (Some a))) [ true ↦ q | false ↦ p ]

paired_least : (m key : ℕ) (o : Option ℕ) → ((n : ℕ) → o ≡ Some n → m ≤ n) → AtLeast m (paired o key)
paired_least m key None h = tt
paired_least m key (Some a) h = h a refl

all_least : {X : Type 0} (number : X → Option ℕ) (m : ℕ) (es : Placed X) → T (is_sorted nat_cmp es) → ((v q : ℕ) → is_numbered number es v q ≡ true → m ≤ v) → AtLeast m (earliest_at number es)
unfolding earliest_at
all_least number m [] up h = tt
all_least number m (e ∷ es) up h =
    sooner_least m (paired (number e.1) e.0) (earliest_at number es)
    (paired_least m e.0 (number e.1) (λ n is. h n e.0 (own_numbered number e es n is)))
    (all_least number m es (later e es up) (λ v q is. h v q (later_numbered number e es v q up is)))

sooner_here : (m p q : ℕ) (a : Option ℕ) (b : Option (ℕ × ℕ)) → a ≡ Some m → p ≡ q → AtLeast m b → sooner (paired a q) b ≡ Some (m, p)
sooner_here m p q a None is same least = ap (λ o. sooner (paired o q) None) is ∙ ap (λ n. Some (m, n)) (sym same)
sooner_here m p q a (Some b) is same least = ap (λ o. sooner (paired o q) (Some b)) is ∙ ap (λ t. cond t (Some b) (Some (m, q))) (not_less b.0 m least) ∙ ap (λ n. Some (m, n)) (sym same)
  where
    not_less : (b m : ℕ) → m ≤ b → nat_lt b m ≡ false
    not_less b m h = grind (arith, nat_tests, h)

sooner_there : (m p q : ℕ) (a : Option ℕ) (b : Option (ℕ × ℕ)) → b ≡ Some (m, p) → ((n : ℕ) → a ≡ Some n → nat_lt m n ≡ true) → sooner (paired a q) b ≡ Some (m, p)
sooner_there m p q None b is lower = is
sooner_there m p q (Some n) b is lower = ap (sooner (Some (n, q))) is ∙ ap (λ t. cond t (Some (m, p)) (Some (n, q))) (lower n refl)

above_found : {X : Type 0} (k p : ℕ) (x : X) (es : Placed X) → T (below_all nat_cmp k es) → find nat_cmp p es ≡ Some x → nat_cmp k p ≡ Less
above_found k p x [] below at = absurd (none_some x at)
above_found {X} k p x (e ∷ es) below at =
    elim (is_eq (nat_cmp p e.0)) as (λ b. is_eq (nat_cmp p e.0) ≡ b → cond b (Some e.1) (find nat_cmp p es) ≡ Some x → nat_cmp k p ≡ Less) [
      | true ↦ λ t _. subst (λ q. nat_cmp k q ≡ Less) (sym (same_place p e.0 t)) (less_tested (nat_cmp k e.0) (first (is_lt (nat_cmp k e.0)) (below_all nat_cmp k es) below))
      | false ↦ λ _ is. above_found k p x es (second (is_lt (nat_cmp k e.0)) (below_all nat_cmp k es) below) is
    ] refl at

above_numbered : {X : Type 0} (number : X → Option ℕ) (k : ℕ) (es : Placed X) (m p : ℕ) → T (below_all nat_cmp k es) → is_numbered number es m p ≡ true → nat_cmp k p ≡ Less
above_numbered {X} number k es m p below is = by (at_place p es) refl is
  where
    by : (o : Option X) → at_place p es ≡ o → option_map_or (λ x. is_number (number x) m) o false ≡ true → nat_cmp k p ≡ Less
    by None at e = absurd (subst T (sym e) tt)
    by (Some x) at e = above_found k p x es below at

-- a pair that is no lower, though its place is, has a higher number
higher : (m p n k : ℕ) → nat_cmp k p ≡ Less → is_gt (ordering_then (nat_cmp m n) (nat_cmp p k)) ≡ false → nat_lt m n ≡ true
higher m p n k before not_past = by (nat_cmp m n) refl not_past
  where
    lower_is : (m n : ℕ) → nat_cmp m n ≡ Less → nat_lt m n ≡ true
    lower_is m n e = grind (arith, nat_tests, e)

    past : (a b : ℕ) → nat_cmp a b ≡ Less → is_gt (nat_cmp b a) ≡ true
    past a b e = grind (arith, nat_tests, e)

    by : (o : Ordering) → nat_cmp m n ≡ o → is_gt (ordering_then o (nat_cmp p k)) ≡ false → nat_lt m n ≡ true
    by Less e _ = lower_is m n e
    by Equal e h = absurd (not_true (is_gt (nat_cmp p k)) (past k p before) h)
    by Greater e h = absurd (subst T h tt)

earliest_is : {X : Type 0} (number : X → Option ℕ) (m p : ℕ) (es : Placed X) → T (is_sorted nat_cmp es) → is_numbered number es m p ≡ true → ((v q : ℕ) → is_numbered number es v q ≡ true → NoLower (m, p) (v, q)) → earliest_at number es ≡ Some (m, p)
unfolding earliest_at
earliest_is number m p [] up there h = absurd (subst T (sym there) tt)
earliest_is {X} number m p (e ∷ es) up there h =
    let after = later e es up in
    let goes : (v q : ℕ) → is_numbered number es v q ≡ true → NoLower (m, p) (v, q) = λ v q is. h v q (later_numbered number e es v q up is) in
    elim (is_eq (nat_cmp p e.0)) as (λ b. is_eq (nat_cmp p e.0) ≡ b → option_map_or (λ (x : X). is_number (number x) m) (cond b (Some e.1) (find nat_cmp p es)) false ≡ true → sooner (paired (number e.1) e.0) (earliest_at number es) ≡ Some (m, p)) [
      | true ↦ λ t is. sooner_here m p e.0 (number e.1) (earliest_at number es) (number_is (number e.1) m is) (same_place p e.0 t) (all_least number m es after (λ v q seen. no_lower m v (nat_cmp p q) (goes v q seen)))
      | false ↦ λ t is. sooner_there m p e.0 (number e.1) (earliest_at number es) (earliest_is number m p es after is goes)
          (λ n own. higher m p n e.0 (above_numbered number e.0 es m p (headed e es up) is) (h n e.0 (own_numbered number e es n own)))
    ] refl there

unnumbered : (o : Option ℕ) → ((v : ℕ) → is_number o v ≡ false) → o ≡ None
unnumbered None h = refl
unnumbered (Some m) h = absurd (not_true (m == m) (own_number m) (h m))

later_false : {X : Type 0} (number : X → Option ℕ) (e : ℕ × X) (es : Placed X) (v q : ℕ) (b : Bool) → is_numbered number es v q ≡ b → T (is_sorted nat_cmp (e ∷ es)) → is_numbered number (e ∷ es) v q ≡ false → b ≡ false
later_false number e es v q true is up bare = absurd (not_true (is_numbered number (e ∷ es) v q) (later_numbered number e es v q up is) bare)
later_false number e es v q false is up bare = refl

earliest_nothing : {X : Type 0} (number : X → Option ℕ) (es : Placed X) → T (is_sorted nat_cmp es) → ((v q : ℕ) → is_numbered number es v q ≡ false) → earliest_at number es ≡ None
unfolding earliest_at
earliest_nothing number [] up h = refl
earliest_nothing {X} number (e ∷ es) up h =
    ap (λ o. sooner (paired o e.0) (earliest_at number es)) (unnumbered (number e.1) (λ v. sym (ap (λ b. option_map_or (λ (x : X). is_number (number x) v) (cond b (Some e.1) (find nat_cmp e.0 es)) false) (itself e.0)) ∙ h v e.0))
    ∙ earliest_nothing number es (later e es up) (λ v q. later_false number e es v q (is_numbered number es v q) refl up (h v q))

-- ## Of the items that aren't passed over

free_numbered : {X : Type 0} (number : X → Option ℕ) (places : List ℕ) (es : Placed X) (v p : ℕ) → is_numbered number (free_of places es) v p ≡ (is_free places p && is_numbered number es v p)
free_numbered {X} number places es v p =
    ap (λ o. option_map_or (λ (x : X). is_number (number x) v) o false) (find-where_key nat_cmp (is_free places) p (λ x t. ap (is_free places) (sym (exact_unsigned p x t))) es)
    ∙ elim (is_free places p) as (λ b. option_map_or (λ (x : X). is_number (number x) v) (cond b (find nat_cmp p es) None) false ≡ (b && is_numbered number es v p)) [ true ↦ refl | false ↦ refl ]

numbered_there : {X : Type 0} (number : X → Option ℕ) (es : Placed X) (ks : Pairs) (v p : ℕ) → HasAll (λ x. is_number (number x)) es ks → is_numbered number es v p ≡ true → has_pair ks v p ≡ true
numbered_there {X} number es ks v p all is = by (at_place p es) refl is
  where
    by : (o : Option X) → at_place p es ≡ o → option_map_or (λ x. is_number (number x) v) o false ≡ true → has_pair ks v p ≡ true
    by None at e = absurd (subst T (sym e) tt)
    by (Some x) at e = all.all v p x at e

-- the first pair that is that of an item, and isn't passed over, is the lowest
pub first_found : {X : Type 0} (number : X → Option ℕ) (places : List ℕ) (es : Placed X) (ks : Pairs) → is_sorted nat_cmp es ≡ true → HasAll (λ x. is_number (number x)) es ks → IsStrictlySortedBy pair_cmp ks → first_of (is_next number places es) ks ≡ earliest_at number (free_of places es)
first_found {X} number places es ks up all order = by (first_of (λ q. test q.0 q.1) ks) refl
  where
    test : ℕ → ℕ → Bool
    test v p = is_free places p && is_numbered number es v p

    free_up : T (is_sorted nat_cmp (free_of places es))
    free_up = is_sorted-where_key nat_cmp (is_free places) es (turned (is_sorted nat_cmp es) up)

    bare : (v p : ℕ) (b : Bool) → test v p ≡ b → first_of (λ q. test q.0 q.1) ks ≡ None → b ≡ false
    bare v p true t none = absurd (not_true (test v p) t (found_none test ks none v p (numbered_there number es ks v p all (and_second (is_free places p) (is_numbered number es v p) t))))
    bare v p false t none = refl

    by : (o : Option (ℕ × ℕ)) → first_of (λ q. test q.0 q.1) ks ≡ o → o ≡ earliest_at number (free_of places es)
    by None is = sym (earliest_nothing number (free_of places es) free_up (λ v p. free_numbered number places es v p ∙ bare v p (test v p) refl is))
    by (Some r) is = sym (earliest_is number r.0 r.1 (free_of places es) free_up (free_numbered number places es r.0 r.1 ∙ found_passes test ks r is)
        (λ v p seen. let passes : test v p ≡ true = sym (free_numbered number places es v p) ∙ seen in
        found_lowest test ks r order is v p (numbered_there number es ks v p all (and_second (is_free places p) (is_numbered number es v p) passes)) passes))

pub none_earliest : {X : Type 0} (number : X → Option ℕ) (places : List ℕ) (es : Placed X) → es ≡ [] → None ≡ earliest_at number (free_of places es)
unfolding earliest_at
none_earliest number places es none = ap (λ l. earliest_at number (free_of places l)) (sym none)

-- ## By keys

pub earliest_keyed : {X : Type 0} (key : X → ℕ) (number : X → Option ℕ) (skip : List ℕ) (es : Placed X) → AreKeyed key es → earliest_at number (free_of skip es) ≡ earliest key number (filter (λ x. is_free skip (key x)) (values_of es))
unfolding AreKeyed earliest earliest_at
earliest_keyed key number skip [] h = refl
earliest_keyed key number skip (e ∷ es) h =
    elim (is_free skip e.0) as (λ b. earliest_at number (cond b (e ∷ free_of skip es) (free_of skip es)) ≡ earliest key number (cond b (e.1 ∷ filter (λ x. is_free skip (key x)) (values_of es)) (filter (λ x. is_free skip (key x)) (values_of es)))) [
      | true ↦ ap (sooner (paired (number e.1) e.0)) (earliest_keyed key number skip es h.1) ∙ ap (λ n. sooner (paired (number e.1) n) (earliest key number (filter (λ x. is_free skip (key x)) (values_of es)))) (sym h.0)
      | false ↦ earliest_keyed key number skip es h.1
    ]
    ∙ ap (λ n. earliest key number (cond (is_free skip n) (e.1 ∷ filter (λ x. is_free skip (key x)) (values_of es)) (filter (λ x. is_free skip (key x)) (values_of es)))) (sym h.0)

pub earliest_rows : {X E : Type 0} (key : X → ℕ) (number : X → Option ℕ) (skip : List ℕ) (es fs : Placed X) → AreKeyed key es → fs ≡ es → (r : Result (Option (ℕ × ℕ)) E) → IfOk r (λ next. next ≡ earliest_at number (free_of skip fs))
    → IfOk r (λ next. next ≡ earliest key number (filter (λ x. is_free skip (key x)) (values_of es)))
earliest_rows key number skip es fs keyed same (Ok next) is = is ∙ ap (λ l. earliest_at number (free_of skip l)) same ∙ earliest_keyed key number skip es keyed
earliest_rows key number skip es fs keyed same (Err e) is = tt
