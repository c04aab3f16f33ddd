-- Sets of places that are filled from an index, or from items.
use Rattle.std.proofs.Common.{◌≡◌, ◌<◌, ℕ, Bool, true, false, not, cond, ◌&&◌, ◌||◌, T, Some, List, [], ◌∷◌, length, refl, ap, sym, subst, ◌∙◌, arith}
use Rattle.std.proofs.lemmas.Bool.Decides.{nat_tests}
use Rattle.std.specs.declared.cmp.Ordering.TheVariants.{Less, Equal, Greater}
use Rattle.std.specs.List.{filter}
use Rattle.std.specs.Ordering.{nat_cmp, is_eq, is_le, is_gt, ordering_then, match_ordering}
use Rattle.std.specs.BTreeSet.{BTreeSet, insert_key}
use Rattle.std.specs.Map.{keys_of}
use Rattle.std.specs.FinMap.Entries.{find, is_sorted}
use Rattle.sc_book.specs.Places.{Placed, at_place}
use Rattle.sc_book.specs.Pairs.{Pairs, pair_cmp, has_pair}
use Rattle.sc_book.specs.Gathering.{has_place, MorePlaces, Covers, with_all, with_places, pairs_below, pairs_from, pairs_up}
use Rattle.sc_book.proofs.Basics.{none_some, both, or_true, itself, same_place, eq_then}

-- ## One place more

kept_insert : (p k : ℕ) (ks : List ℕ) → has_place ks p ≡ true → has_place (insert_key nat_cmp ks k) p ≡ true
kept_insert p k [] h = absurd (subst T (sym h) tt)
kept_insert p k (x ∷ xs) h =
    elim (nat_cmp k x) as (λ o. has_place (match_ordering o (k ∷ x ∷ xs) (x ∷ xs) (x ∷ insert_key nat_cmp xs k)) p ≡ true) [
      | Less ↦ ap (λ b. is_eq (nat_cmp p k) || b) h ∙ or_true (is_eq (nat_cmp p k))
      | Equal ↦ h
      | Greater ↦ elim (is_eq (nat_cmp p x)) as (λ b. (b || has_place xs p) ≡ true → (b || has_place (insert_key nat_cmp xs k) p) ≡ true) [
        | true ↦ λ _. refl
        | false ↦ λ rest. kept_insert p k xs rest
      ] h
    ]

there_insert : (p : ℕ) (ks : List ℕ) → has_place (insert_key nat_cmp ks p) p ≡ true
there_insert p [] = ap (λ b. b || false) (itself p)
there_insert p (x ∷ xs) =
    elim (nat_cmp p x) as (λ o. nat_cmp p x ≡ o → has_place (match_ordering o (p ∷ x ∷ xs) (x ∷ xs) (x ∷ insert_key nat_cmp xs p)) p ≡ true) [
      | Less ↦ λ _. ap (λ b. b || has_place (x ∷ xs) p) (itself p)
      | Equal ↦ λ same. ap (λ o. is_eq o || has_place xs p) same
      | Greater ↦ λ _. ap (λ b. is_eq (nat_cmp p x) || b) (there_insert p xs) ∙ or_true (is_eq (nat_cmp p x))
    ] refl

pub more_insert : (k : ℕ) (ks ls : List ℕ) → ls ≡ insert_key nat_cmp ks k → MorePlaces ks ls
more_insert k ks ls is = record { more = λ p there. ap (λ l. has_place l p) is ∙ kept_insert p k ks there }

pub own_insert : (k : ℕ) (ks ls : List ℕ) → ls ≡ insert_key nat_cmp ks k → has_place ls k ≡ true
own_insert k ks ls is = ap (λ l. has_place l k) is ∙ there_insert k ks

-- ## The places of items

kept_all : (p : ℕ) (ks ps : List ℕ) → has_place ks p ≡ true → has_place (with_all ks ps) p ≡ true
kept_all p ks [] h = h
kept_all p ks (x ∷ xs) h = kept_all p (insert_key nat_cmp ks x) xs (kept_insert p x ks h)

there_all : (p : ℕ) (ks ps : List ℕ) → has_place ps p ≡ true → has_place (with_all ks ps) p ≡ true
there_all p ks [] h = absurd (subst T (sym h) tt)
there_all p ks (x ∷ xs) h =
    elim (is_eq (nat_cmp p x)) as (λ b. is_eq (nat_cmp p x) ≡ b → (b || has_place xs p) ≡ true → has_place (with_all (insert_key nat_cmp ks x) xs) p ≡ true) [
      | true ↦ λ t _. kept_all p (insert_key nat_cmp ks x) xs (subst (λ k. has_place (insert_key nat_cmp ks k) p ≡ true) (same_place p x t) (there_insert p ks))
      | false ↦ λ _ rest. there_all p (insert_key nat_cmp ks x) xs rest
    ] refl h

key_there : {X : Type 0} (p : ℕ) (x : X) (es : List (ℕ × X)) → find nat_cmp p es ≡ Some x → has_place (keys_of es) p ≡ true
key_there p x [] at = absurd (none_some x at)
key_there {X} p x (e ∷ es) at =
    elim (is_eq (nat_cmp p e.0)) as (λ b. cond b (Some e.1) (find nat_cmp p es) ≡ Some x → (b || has_place (keys_of es) p) ≡ true) [
      | true ↦ λ _. refl
      | false ↦ λ is. key_there p x es is
    ] at

pub more_all : {X : Type 0} (es : List (ℕ × X)) (ks ls : List ℕ) → ls ≡ with_all ks (keys_of es) → MorePlaces ks ls
more_all es ks ls is = record { more = λ p there. ap (λ l. has_place l p) is ∙ kept_all p ks (keys_of es) there }

pub all_there : {X : Type 0} (es : List (ℕ × X)) (ks ls : List ℕ) → ls ≡ with_all ks (keys_of es) → (p : ℕ) (x : X) → find nat_cmp p es ≡ Some x → has_place ls p ≡ true
all_there es ks ls is p x at = ap (λ l. has_place l p) is ∙ there_all p ks (keys_of es) (key_there p x es at)

pub all_covered : {X : Type 0} (es : Placed X) (ks ls : List ℕ) → is_sorted nat_cmp es ≡ true → ls ≡ with_all ks (keys_of es) → Covers (λ _. true) es ls
all_covered es ks ls up is = record { ordered = up; covers = λ p x at _. all_there es ks ls is p x at }

pub more_own : (ks : List ℕ) → MorePlaces ks ks
more_own ks = record { more = λ p there. there }

pub more_on : (ks ls ms : List ℕ) → MorePlaces ks ls → MorePlaces ls ms → MorePlaces ks ms
more_on ks ls ms one two = record { more = λ p there. two.more p (one.more p there) }

pub none_covered : {X : Type 0} (test : X → Bool) (es : Placed X) (ks : List ℕ) → es ≡ [] → Covers test es ks
none_covered test es ks none = record { ordered = ap (is_sorted nat_cmp) none; covers = λ p x at _. absurd (none_some x (ap (λ l. at_place p l) (sym none) ∙ at)) }

-- ## The places of an index

kept_places : (p : ℕ) (ks : List ℕ) (pairs : Pairs) → has_place ks p ≡ true → has_place (with_places ks pairs) p ≡ true
kept_places p ks [] h = h
kept_places p ks (x ∷ xs) h = kept_places p (insert_key nat_cmp ks x.1) xs (kept_insert p x.1 ks h)

-- the place of a pair is among the places
there_places : (v p : ℕ) (ks : List ℕ) (pairs : Pairs) → has_pair pairs v p ≡ true → has_place (with_places ks pairs) p ≡ true
there_places v p ks [] h = absurd (subst T (sym h) tt)
there_places v p ks (x ∷ xs) h =
    elim (is_eq (pair_cmp (v, p) x)) as (λ b. is_eq (pair_cmp (v, p) x) ≡ b → (b || has_pair xs v p) ≡ true → has_place (with_places (insert_key nat_cmp ks x.1) xs) p ≡ true) [
      | true ↦ λ t _. kept_places p (insert_key nat_cmp ks x.1) xs
          (subst (λ k. has_place (insert_key nat_cmp ks k) p ≡ true) (same_place p x.1 (eq_then (nat_cmp v x.0) (nat_cmp p x.1) t).1) (there_insert p ks))
      | false ↦ λ _ rest. there_places v p (insert_key nat_cmp ks x.1) xs rest
    ] refl h

-- a pair that passes stays in the filter
there_filter : (test : ℕ × ℕ → Bool) (v p : ℕ) (ks : Pairs) → ((q : ℕ × ℕ) → is_eq (pair_cmp (v, p) q) ≡ true → test q ≡ true) → has_pair ks v p ≡ true → has_pair (filter test ks) v p ≡ true
there_filter test v p [] pass h = h
there_filter test v p (x ∷ xs) pass h =
    elim (is_eq (pair_cmp (v, p) x)) as (λ b. is_eq (pair_cmp (v, p) x) ≡ b → (b || has_pair xs v p) ≡ true → has_pair (cond (test x) (x ∷ filter test xs) (filter test xs)) v p ≡ true) [
      | true ↦ λ t _. ap (λ b. has_pair (cond b (x ∷ filter test xs) (filter test xs)) v p) (pass x t) ∙ ap (λ b. b || has_pair (filter test xs) v p) t
      | false ↦ λ t rest. later (test x) (there_filter test v p xs pass rest)
    ] refl h
  where
    later : (b : Bool) → has_pair (filter test xs) v p ≡ true → has_pair (cond b (x ∷ filter test xs) (filter test xs)) v p ≡ true
    later true rest = ap (λ b. is_eq (pair_cmp (v, p) x) || b) rest ∙ or_true (is_eq (pair_cmp (v, p) x))
    later false rest = rest

from_low : (v p : ℕ) (q : ℕ × ℕ) → is_eq (pair_cmp (v, p) q) ≡ true → is_le (pair_cmp (v, 0) q) ≡ true
from_low v p q t = ap (λ o. is_le (ordering_then o (nat_cmp 0 q.1))) (equal v q.0 (eq_then (nat_cmp v q.0) (nat_cmp p q.1) t).0) ∙ zero_le q.1
  where
    equal : (a b : ℕ) → is_eq (nat_cmp a b) ≡ true → nat_cmp a b ≡ Equal
    equal a b e = grind (arith, nat_tests, e)

    zero_le : (n : ℕ) → is_le (nat_cmp 0 n) ≡ true
    zero_le n = grind (arith, nat_tests)

to_past : (v p past : ℕ) (q : ℕ × ℕ) → v < past → is_eq (pair_cmp (v, p) q) ≡ true → not (is_le (pair_cmp (past, 0) q)) ≡ true
to_past v p past q low t =
    let same : v ≡ q.0 = same_place v q.0 (eq_then (nat_cmp v q.0) (nat_cmp p q.1) t).0 in
    ap (λ o. not (is_le (ordering_then o (nat_cmp 0 q.1)))) (above past q.0 (subst (λ n. n < past) same low))
  where
    above : (a b : ℕ) → b < a → nat_cmp a b ≡ Greater
    above a b h = grind (arith, nat_tests, h)

pub below_there : (past : ℕ) (pairs : BTreeSet (ℕ × ℕ)) (ks ls : List ℕ) → ls ≡ with_places ks (pairs_below past pairs) → (v p : ℕ) → v < past → has_pair pairs.keys v p ≡ true → has_place ls p ≡ true
below_there past pairs ks ls is v p low there = ap (λ l. has_place l p) is ∙ there_places v p ks (pairs_below past pairs)
    (there_filter (λ q. true && not (is_le (pair_cmp (past, 0) q))) v p pairs.keys (λ q t. to_past v p past q low t) there)

-- an empty index has no pair
pub none_there : (pairs : Pairs) (v p : ℕ) (ls : List ℕ) → length pairs ≡ 0 → has_pair pairs v p ≡ true → has_place ls p ≡ true
none_there [] v p ls none there = absurd (subst T (sym there) tt)
none_there (x ∷ xs) v p ls none there = absurd (omega (arith, none))

-- a pair of the lower number lies between it and the next one
pub from_has : (number past p : ℕ) (pairs : BTreeSet (ℕ × ℕ)) → number < past → has_pair pairs.keys number p ≡ true → has_pair (pairs_from number past pairs) number p ≡ true
from_has number past p pairs low there =
    there_filter (λ q. is_le (pair_cmp (number, 0) q) && not (is_le (pair_cmp (past, 0) q))) number p pairs.keys
    (λ q t. both (is_le (pair_cmp (number, 0) q)) (not (is_le (pair_cmp (past, 0) q))) (from_low number p q t) (to_past number p past q low t)) there

pub from_more : (number past : ℕ) (pairs : BTreeSet (ℕ × ℕ)) (ks ls : List ℕ) → ls ≡ with_places ks (pairs_from number past pairs) → MorePlaces ks ls
from_more number past pairs ks ls is = record { more = λ p there. ap (λ l. has_place l p) is ∙ kept_places p ks (pairs_from number past pairs) there }

pub from_there : (number past : ℕ) (pairs : BTreeSet (ℕ × ℕ)) (ks ls : List ℕ) → ls ≡ with_places ks (pairs_from number past pairs) → number < past → (p : ℕ) → has_pair pairs.keys number p ≡ true → has_place ls p ≡ true
from_there number past pairs ks ls is low p there = ap (λ l. has_place l p) is ∙ there_places number p ks (pairs_from number past pairs) (from_has number past p pairs low there)

pub up_more : (number : ℕ) (pairs : BTreeSet (ℕ × ℕ)) (ks ls : List ℕ) → ls ≡ with_places ks (pairs_up number pairs) → MorePlaces ks ls
up_more number pairs ks ls is = record { more = λ p there. ap (λ l. has_place l p) is ∙ kept_places p ks (pairs_up number pairs) there }

pub up_there : (number : ℕ) (pairs : BTreeSet (ℕ × ℕ)) (ks ls : List ℕ) → ls ≡ with_places ks (pairs_up number pairs) → (p : ℕ) → has_pair pairs.keys number p ≡ true → has_place ls p ≡ true
up_there number pairs ks ls is p there = ap (λ l. has_place l p) is ∙ there_places number p ks (pairs_up number pairs)
    (there_filter (λ q. is_le (pair_cmp (number, 0) q) && not false) number p pairs.keys (λ q t. both (is_le (pair_cmp (number, 0) q)) (not false) (from_low number p q t) refl) there)

-- the ends of a range are in order
pub in_turn : (low past a b : ℕ) → low < past → is_gt (ordering_then (nat_cmp low past) (nat_cmp a b)) ≡ false
in_turn low past a b up = ap (λ o. is_gt (ordering_then o (nat_cmp a b))) (less low past up)
  where
    less : (a b : ℕ) → a < b → nat_cmp a b ≡ Less
    less a b h = grind (arith, nat_tests, h)
