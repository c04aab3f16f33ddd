-- The first item that passes, found among places.
use Rattle.std.proofs.Common.{◌≡◌, ℕ, Bool, true, false, not, cond, ◌||◌, T, Option, Some, None, List, [], ◌∷◌, refl, ap, sym, subst, ◌∙◌}
use Rattle.std.specs.declared.cmp.Ordering.TheVariants.{Less, Equal, Greater}
use Rattle.std.specs.List.{find as first_of, AllByRecursion}
use Rattle.std.specs.List.Sorted.{IsStrictlySortedBy}
use Rattle.std.specs.Ordering.{nat_cmp, is_eq}
use Rattle.std.specs.Option.{option_map_or}
use Rattle.std.specs.Map.{values_of}
use Rattle.std.specs.FinMap.Entries.{by_order, put, find, is_sorted}
use Rattle.std.proofs.lemmas.Map.Keys.{sorted_head, sorted_tail}
use Rattle.sc_value.specs.Lists.{change_first, remove_first}
use Rattle.sc_book.specs.Places.{Placed, at_place, passes_at, with_item, without_item}
use Rattle.sc_book.specs.Gathering.{has_place, Covers}
use Rattle.sc_book.specs.Gathering.{IsFirst}
use Rattle.sc_book.specs.Keys.{AreBelow, AreRows}
use Rattle.sc_book.proofs.Basics.{none_some, some_is, not_true, turned, tied, itself, same_place, not_self, not_both, flip_order}
use Rattle.sc_book.proofs.PlaceLaws.{missed, none_first, stays, later, headed}
use Rattle.sc_book.proofs.RowLaws.{below_set, rows_set}

-- ## The first place that passes

none_pass : (f : ℕ → Bool) (ks : List ℕ) → first_of f ks ≡ None → (p : ℕ) → has_place ks p ≡ true → f p ≡ false
none_pass f [] is p there = absurd (subst T (sym there) tt)
none_pass f (x ∷ xs) is p there =
    elim (f x) as (λ b. f x ≡ b → cond b (Some x) (first_of f xs) ≡ None → f p ≡ false) [
      | true ↦ λ _ e. absurd (none_some x (sym e))
      | false ↦ λ t e. elim (is_eq (nat_cmp p x)) as (λ b. is_eq (nat_cmp p x) ≡ b → (b || has_place xs p) ≡ true → f p ≡ false) [
        | true ↦ λ s _. ap f (same_place p x s) ∙ t
        | false ↦ λ _ h. none_pass f xs e p h
      ] refl there
    ] refl is

above_first : (x : ℕ) (ks : List ℕ) (p : ℕ) → AllByRecursion (λ y. nat_cmp x y ≡ Less) ks → has_place ks p ≡ true → nat_cmp x p ≡ Less
above_first x [] p up h = absurd (subst T (sym h) tt)
above_first x (y ∷ ys) p up h =
    elim (is_eq (nat_cmp p y)) as (λ b. is_eq (nat_cmp p y) ≡ b → (b || has_place ys p) ≡ true → nat_cmp x p ≡ Less) [
      | true ↦ λ s _. subst (λ q. nat_cmp x q ≡ Less) (sym (same_place p y s)) up.0
      | false ↦ λ _ e. above_first x ys p up.1 e
    ] refl h

first_passes : (f : ℕ → Bool) (ks : List ℕ) (k : ℕ) → first_of f ks ≡ Some k → f k ≡ true
first_passes f [] k is = absurd (none_some k is)
first_passes f (x ∷ xs) k is =
    elim (f x) as (λ b. f x ≡ b → cond b (Some x) (first_of f xs) ≡ Some k → f k ≡ true) [
      | true ↦ λ t e. subst (λ q. f q ≡ true) (some_is x k e) t
      | false ↦ λ _ e. first_passes f xs k e
    ] refl is

first_quiet : (f : ℕ → Bool) (ks : List ℕ) (k : ℕ) → IsStrictlySortedBy nat_cmp ks → first_of f ks ≡ Some k → (p : ℕ) → nat_cmp p k ≡ Less → has_place ks p ≡ true → f p ≡ false
first_quiet f [] k up is p low there = absurd (subst T (sym there) tt)
first_quiet f (x ∷ xs) k up is p low there =
    elim (f x) as (λ b. f x ≡ b → cond b (Some x) (first_of f xs) ≡ Some k → f p ≡ false) [
      | true ↦ λ t e.
          let low_x : nat_cmp p x ≡ Less = subst (λ q. nat_cmp p q ≡ Less) (sym (some_is x k e)) low in
          elim (is_eq (nat_cmp p x)) as (λ b. is_eq (nat_cmp p x) ≡ b → (b || has_place xs p) ≡ true → f p ≡ false) [
            | true ↦ λ s _. absurd (not_self x (subst (λ q. nat_cmp q x ≡ Less) (same_place p x s) low_x))
            | false ↦ λ _ h. absurd (not_both p x low_x (above_first x xs p (sorted_head nat_cmp x xs up) h))
          ] refl there
      | false ↦ λ t e. elim (is_eq (nat_cmp p x)) as (λ b. is_eq (nat_cmp p x) ≡ b → (b || has_place xs p) ≡ true → f p ≡ false) [
        | true ↦ λ s _. ap f (same_place p x s) ∙ t
        | false ↦ λ _ h. first_quiet f xs k (sorted_tail nat_cmp x xs up) e p low h
      ] refl there
    ] refl is

-- a place that isn't among those that have all doesn't pass
quiet_all : {X : Type 0} (test own : X → Bool) (es : Placed X) (ks : List ℕ) → ((x : X) → test x ≡ true → own x ≡ true) → Covers own es ks → (p : ℕ) → (has_place ks p ≡ true → passes_at test es p ≡ false) → passes_at test es p ≡ false
quiet_all {X} test own es ks weaker there p told = by (at_place p es) refl
  where
    by : (o : Option X) → at_place p es ≡ o → passes_at test es p ≡ false
    by None at = ap (λ o. option_map_or test o false) at
    by (Some x) at = elim (test x) as (λ b. test x ≡ b → passes_at test es p ≡ false) [
      | true ↦ λ t. told (there.covers p x at (weaker x t))
      | false ↦ λ t. ap (λ o. option_map_or test o false) at ∙ t
    ] refl

-- what is found among places that have all is the first of all
pub first_among : {X : Type 0} (test own : X → Bool) (es : Placed X) (ks : List ℕ) (o : Option ℕ) → ((x : X) → test x ≡ true → own x ≡ true) → Covers own es ks → IsStrictlySortedBy nat_cmp ks → o ≡ first_of (passes_at test es) ks → IsFirst test es o
first_among test own es ks None weaker there up is = record {
  sorted = there.ordered;
  passes = tt;
  before = tt;
  none = λ p. quiet_all test own es ks weaker there p (λ at. none_pass (passes_at test es) ks (sym is) p at);
}
first_among test own es ks (Some k) weaker there up is = record {
  sorted = there.ordered;
  passes = first_passes (passes_at test es) ks k (sym is);
  before = λ p low. quiet_all test own es ks weaker there p (λ at. first_quiet (passes_at test es) ks k up (sym is) p low at);
  none = tt;
}

-- ## In the list

quiet_tail : {X : Type 0} (test : X → Bool) (e : ℕ × X) (es : Placed X) (p : ℕ) → T (is_sorted nat_cmp (e ∷ es)) → passes_at test (e ∷ es) p ≡ false → passes_at test es p ≡ false
quiet_tail test e es p up h =
    elim (is_eq (nat_cmp p e.0)) as (λ b. is_eq (nat_cmp p e.0) ≡ b → option_map_or test (cond b (Some e.1) (find nat_cmp p es)) false ≡ false → passes_at test es p ≡ false) [
      | true ↦ λ t _. ap (λ o. option_map_or test o false) (missed p e.0 es (tied (nat_cmp p e.0) t) (headed e es up))
      | false ↦ λ _ q. q
    ] refl h

own_test : {X : Type 0} (test : X → Bool) (e : ℕ × X) (es : Placed X) → test e.1 ≡ passes_at test (e ∷ es) e.0
own_test test e es = ap (λ b. option_map_or test (cond b (Some e.1) (find nat_cmp e.0 es)) false) (sym (itself e.0))

none_lower : {X : Type 0} (test : X → Bool) (k : ℕ) (e : ℕ × X) (es : Placed X) → T (is_sorted nat_cmp (e ∷ es)) → nat_cmp k e.0 ≡ Less → passes_at test (e ∷ es) k ≡ true → ⊥
none_lower test k e es up less pass = not_true (passes_at test (e ∷ es) k) pass (ap (λ o. option_map_or test o false) (none_first k e es less up))

unchanged : {X : Type 0} (test : X → Bool) (f : X → X) (es : Placed X) → T (is_sorted nat_cmp es) → ((p : ℕ) → passes_at test es p ≡ false) → values_of es ≡ change_first test f (values_of es)
unfolding change_first
unchanged test f [] up quiet = refl
unchanged test f (e ∷ es) up quiet =
    ap (λ l. e.1 ∷ l) (unchanged test f es (later e es up) (λ p. quiet_tail test e es p up (quiet p)))
    ∙ ap (λ b. cond b (f e.1 ∷ values_of es) (e.1 ∷ change_first test f (values_of es))) (sym (own_test test e es ∙ quiet e.0))

unremoved : {X : Type 0} (test : X → Bool) (es : Placed X) → T (is_sorted nat_cmp es) → ((p : ℕ) → passes_at test es p ≡ false) → values_of es ≡ remove_first test (values_of es)
unfolding remove_first
unremoved test [] up quiet = refl
unremoved test (e ∷ es) up quiet =
    ap (λ l. e.1 ∷ l) (unremoved test es (later e es up) (λ p. quiet_tail test e es p up (quiet p)))
    ∙ ap (λ b. cond b (values_of es) (e.1 ∷ remove_first test (values_of es))) (sym (own_test test e es ∙ quiet e.0))

unfound : {X : Type 0} (test : X → Bool) (es : Placed X) → T (is_sorted nat_cmp es) → ((p : ℕ) → passes_at test es p ≡ false) → None ≡ first_of test (values_of es)
unfound test [] up quiet = refl
unfound test (e ∷ es) up quiet =
    unfound test es (later e es up) (λ p. quiet_tail test e es p up (quiet p))
    ∙ ap (λ b. cond b (Some e.1) (first_of test (values_of es))) (sym (own_test test e es ∙ quiet e.0))

changed : {X : Type 0} (test : X → Bool) (k : ℕ) (x : X) (es : Placed X) → T (is_sorted nat_cmp es) → passes_at test es k ≡ true → ((p : ℕ) → nat_cmp p k ≡ Less → passes_at test es p ≡ false) → values_of (put nat_cmp k x es) ≡ change_first test (λ _. x) (values_of es)
unfolding change_first
changed test k x [] up pass quiet = absurd (subst T (sym pass) tt)
changed {X} test k x (e ∷ es) up pass quiet =
    elim (nat_cmp k e.0) as (λ o. nat_cmp k e.0 ≡ o → option_map_or test (cond (is_eq o) (Some e.1) (find nat_cmp k es)) false ≡ true
    → values_of (by_order o ((k, x) ∷ e ∷ es) ((e.0, x) ∷ es) (e ∷ put nat_cmp k x es)) ≡ cond (test e.1) (x ∷ values_of es) (e.1 ∷ change_first test (λ _. x) (values_of es))) [
      | Less ↦ λ less is. absurd (none_lower test k e es up less pass)
      | Equal ↦ λ same is. ap (λ b. cond b (x ∷ values_of es) (e.1 ∷ change_first test (λ _. x) (values_of es))) (sym is)
      | Greater ↦ λ more is. ap (λ l. e.1 ∷ l) (changed test k x es (later e es up) is (λ p low. quiet_tail test e es p up (quiet p low)))
          ∙ ap (λ b. cond b (x ∷ values_of es) (e.1 ∷ change_first test (λ _. x) (values_of es))) (sym (own_test test e es ∙ quiet e.0 (flip_order k e.0 more)))
    ] refl pass

removed : {X : Type 0} (test : X → Bool) (k : ℕ) (es : Placed X) → T (is_sorted nat_cmp es) → passes_at test es k ≡ true → ((p : ℕ) → nat_cmp p k ≡ Less → passes_at test es p ≡ false) → values_of (without_item es k) ≡ remove_first test (values_of es)
unfolding remove_first
removed test k [] up pass quiet = absurd (subst T (sym pass) tt)
removed {X} test k (e ∷ es) up pass quiet =
    elim (nat_cmp k e.0) as (λ o. nat_cmp k e.0 ≡ o → option_map_or test (cond (is_eq o) (Some e.1) (find nat_cmp k es)) false ≡ true
    → values_of (cond (not (is_eq o)) (e ∷ without_item es k) (without_item es k)) ≡ cond (test e.1) (values_of es) (e.1 ∷ remove_first test (values_of es))) [
      | Less ↦ λ less is. absurd (none_lower test k e es up less pass)
      | Equal ↦ λ same is. ap values_of (stays k e.0 es same (headed e es up)) ∙ ap (λ b. cond b (values_of es) (e.1 ∷ remove_first test (values_of es))) (sym is)
      | Greater ↦ λ more is. ap (λ l. e.1 ∷ l) (removed test k es (later e es up) is (λ p low. quiet_tail test e es p up (quiet p low)))
          ∙ ap (λ b. cond b (values_of es) (e.1 ∷ remove_first test (values_of es))) (sym (own_test test e es ∙ quiet e.0 (flip_order k e.0 more)))
    ] refl pass

found : {X : Type 0} (test : X → Bool) (k : ℕ) (es : Placed X) → T (is_sorted nat_cmp es) → passes_at test es k ≡ true → ((p : ℕ) → nat_cmp p k ≡ Less → passes_at test es p ≡ false) → at_place k es ≡ first_of test (values_of es)
found test k [] up pass quiet = refl
found {X} test k (e ∷ es) up pass quiet =
    elim (nat_cmp k e.0) as (λ o. nat_cmp k e.0 ≡ o → option_map_or test (cond (is_eq o) (Some e.1) (find nat_cmp k es)) false ≡ true
    → cond (is_eq o) (Some e.1) (find nat_cmp k es) ≡ cond (test e.1) (Some e.1) (first_of test (values_of es))) [
      | Less ↦ λ less is. absurd (none_lower test k e es up less pass)
      | Equal ↦ λ same is. ap (λ b. cond b (Some e.1) (first_of test (values_of es))) (sym is)
      | Greater ↦ λ more is. found test k es (later e es up) is (λ p low. quiet_tail test e es p up (quiet p low))
          ∙ ap (λ b. cond b (Some e.1) (first_of test (values_of es))) (sym (own_test test e es ∙ quiet e.0 (flip_order k e.0 more)))
    ] refl pass

-- ## What the calls owe

one_first : {X : Type 0} (test : X → Bool) (es : Placed X) (o : Option ℕ) (k : ℕ) → IsFirst test es o → o ≡ Some k → IsFirst test es (Some k)
one_first test es o k is at = subst (λ p. IsFirst test es p) at is

none_of : {X : Type 0} (test : X → Bool) (es : Placed X) (o : Option ℕ) → IsFirst test es o → o ≡ None → IsFirst test es None
none_of test es o is at = subst (λ p. IsFirst test es p) at is

pub find_at : {X : Type 0} (test : X → Bool) (es : Placed X) (o : Option ℕ) (k : ℕ) → IsFirst test es o → o ≡ Some k → at_place k es ≡ first_of test (values_of es)
find_at test es o k is at = let first = one_first test es o k is at in found test k es (turned (is_sorted nat_cmp es) first.sorted) first.passes first.before

pub find_none : {X : Type 0} (test : X → Bool) (es : Placed X) (o : Option ℕ) → IsFirst test es o → o ≡ None → None ≡ first_of test (values_of es)
find_none test es o is at = let first = none_of test es o is at in unfound test es (turned (is_sorted nat_cmp es) first.sorted) first.none

pub set_at : {X : Type 0} (test : X → Bool) (es fs : Placed X) (o : Option ℕ) (k : ℕ) (x : X) → IsFirst test es o → o ≡ Some k → fs ≡ with_item es k x → values_of fs ≡ change_first test (λ _. x) (values_of es)
set_at test es fs o k x is at now = let first = one_first test es o k is at in ap values_of now ∙ changed test k x es (turned (is_sorted nat_cmp es) first.sorted) first.passes first.before

pub set_none : {X : Type 0} (test : X → Bool) (es : Placed X) (o : Option ℕ) (x : X) → IsFirst test es o → o ≡ None → values_of es ≡ change_first test (λ _. x) (values_of es)
set_none test es o x is at = let first = none_of test es o is at in unchanged test (λ _. x) es (turned (is_sorted nat_cmp es) first.sorted) first.none

pub remove_at : {X : Type 0} (test : X → Bool) (es fs : Placed X) (o : Option ℕ) (k : ℕ) → IsFirst test es o → o ≡ Some k → fs ≡ without_item es k → values_of fs ≡ remove_first test (values_of es)
remove_at test es fs o k is at now = let first = one_first test es o k is at in ap values_of now ∙ removed test k es (turned (is_sorted nat_cmp es) first.sorted) first.passes first.before

pub remove_none : {X : Type 0} (test : X → Bool) (es : Placed X) (o : Option ℕ) → IsFirst test es o → o ≡ None → values_of es ≡ remove_first test (values_of es)
remove_none test es o is at = let first = none_of test es o is at in unremoved test es (turned (is_sorted nat_cmp es) first.sorted) first.none

passing_there : {X : Type 0} (test : X → Bool) (es : Placed X) (k : ℕ) → passes_at test es k ≡ true → (x : X) × (Some x ≡ at_place k es)
passing_there {X} test es k is = by (at_place k es) refl is
  where
    by : (o : Option X) → at_place k es ≡ o → option_map_or test o false ≡ true → (x : X) × (Some x ≡ at_place k es)
    by None at e = absurd (subst T (sym e) tt)
    by (Some x) at e = (x, sym at)

-- the place of the first item that passes has an item
pub below_set_at : {X : Type 0} (test : X → Bool) (next : ℕ) (es fs : Placed X) (o : Option ℕ) (k : ℕ) (x : X) → AreBelow next es → IsFirst test es o → o ≡ Some k → fs ≡ with_item es k x → AreBelow next fs
below_set_at test next es fs o k x below is at now = let old = passing_there test es k (one_first test es o k is at).passes in below_set next k x old.0 es fs below old.1 now

pub rows_set_at : {X : Type 0} (test : X → Bool) (key : X → ℕ) (next : ℕ) (es fs : Placed X) (o : Option ℕ) (k : ℕ) (x : X) → AreRows key es next → IsFirst test es o → o ≡ Some k → key x ≡ k → fs ≡ with_item es k x → AreRows key fs next
rows_set_at test key next es fs o k x rows is at own now = let old = passing_there test es k (one_first test es o k is at).passes in rows_set key next k x old.0 es fs rows old.1 own now
