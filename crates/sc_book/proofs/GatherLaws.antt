-- Items gathered from places that may have them are the filter of all.
use Rattle.std.proofs.Common.{◌≡◌, ℕ, Bool, true, false, cond, ◌||◌, T, Option, Some, None, List, [], ◌∷◌, ◌++◌, append_assoc, append-nil, refl, ap, sym, subst, ◌∙◌}
use Rattle.std.specs.declared.cmp.Ordering.TheVariants.{Less, Equal}
use Rattle.std.specs.List.{filter, AllByRecursion}
use Rattle.std.specs.List.Sorted.{IsStrictlySortedBy}
use Rattle.std.specs.Ordering.{nat_cmp, is_eq, is_lt}
use Rattle.std.specs.Map.{values_of}
use Rattle.std.specs.FinMap.Entries.{find, below_all, is_sorted, same_entries}
use Rattle.std.proofs.lemmas.Cmp.{nat_cmp_total}
use Rattle.std.proofs.lemmas.Map.Keys.{sorted_head, sorted_tail}
use Rattle.std.proofs.lemmas.Map.Lookups.{exact_unsigned}
use Rattle.sc_book.specs.Places.{Placed, at_place}
use Rattle.sc_book.specs.Gathering.{has_place, Covers, if_passing as picked, with_one, items_at as gathered, one_of}
use Rattle.sc_book.proofs.Basics.{has_one, turned, first, second, joined, less, tied}
use Rattle.sc_book.proofs.PlaceLaws.{missed}

-- ---- what is gathered

below_one : {X : Type 0} (k p : ℕ) (o : Option X) (es : Placed X) → nat_cmp k p ≡ Less → T (below_all nat_cmp k es) → T (below_all nat_cmp k (with_one p o es))
below_one k p None es up h = h
below_one k p (Some x) es up h = joined (is_lt (nat_cmp k p)) (below_all nat_cmp k es) (less (nat_cmp k p) up) h

below_gathered : {X : Type 0} (test : X → Bool) (es : Placed X) (k : ℕ) (ps : List ℕ) → AllByRecursion (λ y. nat_cmp k y ≡ Less) ps → T (below_all nat_cmp k (gathered test es ps))
unfolding gathered
below_gathered test es k [] h = tt
below_gathered test es k (p ∷ ps) h = below_one k p (picked test (at_place p es)) (gathered test es ps) h.0 (below_gathered test es k ps h.1)

sorted_one : {X : Type 0} (p : ℕ) (o : Option X) (es : Placed X) → T (below_all nat_cmp p es) → T (is_sorted nat_cmp es) → T (is_sorted nat_cmp (with_one p o es))
sorted_one p None es below h = h
sorted_one p (Some x) es below h = joined (below_all nat_cmp p es) (is_sorted nat_cmp es) below h

sorted_gathered : {X : Type 0} (test : X → Bool) (es : Placed X) (ps : List ℕ) → IsStrictlySortedBy nat_cmp ps → T (is_sorted nat_cmp (gathered test es ps))
unfolding gathered
sorted_gathered test es [] up = tt
sorted_gathered test es (p ∷ ps) up =
    sorted_one p (picked test (at_place p es)) (gathered test es ps) (below_gathered test es p ps (sorted_head nat_cmp p ps up)) (sorted_gathered test es ps (sorted_tail nat_cmp p ps up))

none_both : (X : Type 0) (b : Bool) → ◌≡◌ {A = Option X} (cond b None None) None
none_both X true = refl
none_both X false = refl

found_one : {X : Type 0} (k p : ℕ) (o : Option X) (es : Placed X) (b : Bool) (w : Option X) → find nat_cmp k es ≡ cond b w None → (nat_cmp k p ≡ Equal → w ≡ o) → find nat_cmp k (with_one p o es) ≡ cond (is_eq (nat_cmp k p) || b) w None
found_one {X} k p None es b w rest same =
    elim (is_eq (nat_cmp k p)) as (λ t. is_eq (nat_cmp k p) ≡ t → find nat_cmp k es ≡ cond (t || b) w None) [
      | true ↦ λ t. rest ∙ ap (λ o. cond b o None) (same (tied (nat_cmp k p) t)) ∙ none_both X b ∙ sym (same (tied (nat_cmp k p) t))
      | false ↦ λ _. rest
    ] refl
found_one {X} k p (Some x) es b w rest same =
    elim (is_eq (nat_cmp k p)) as (λ t. is_eq (nat_cmp k p) ≡ t → cond t (Some x) (find nat_cmp k es) ≡ cond (t || b) w None) [
      | true ↦ λ t. sym (same (tied (nat_cmp k p) t))
      | false ↦ λ _. rest
    ] refl

found_gathered : {X : Type 0} (test : X → Bool) (es : Placed X) (k : ℕ) (ps : List ℕ) → find nat_cmp k (gathered test es ps) ≡ cond (has_place ps k) (picked test (at_place k es)) None
unfolding gathered
found_gathered test es k [] = refl
found_gathered test es k (p ∷ ps) =
    found_one k p (picked test (at_place p es)) (gathered test es ps) (has_place ps k) (picked test (at_place k es)) (found_gathered test es k ps)
    (λ same. ap (λ q. picked test (at_place q es)) (exact_unsigned k p same))

-- ---- the filter of all

pub passing : {X : Type 0} → (X → Bool) → Placed X → Placed X
passing test es = filter (λ e. test e.1) es

below_passing : {X : Type 0} (test : X → Bool) (k : ℕ) (es : Placed X) → T (below_all nat_cmp k es) → T (below_all nat_cmp k (passing test es))
unfolding passing
below_passing test k [] h = tt
below_passing test k (e ∷ es) h =
    elim (test e.1) as (λ b. T (below_all nat_cmp k (cond b (e ∷ passing test es) (passing test es)))) [
      | true ↦ joined (is_lt (nat_cmp k e.0)) (below_all nat_cmp k (passing test es)) (first (is_lt (nat_cmp k e.0)) (below_all nat_cmp k es) h) (below_passing test k es (second (is_lt (nat_cmp k e.0)) (below_all nat_cmp k es) h))
      | false ↦ below_passing test k es (second (is_lt (nat_cmp k e.0)) (below_all nat_cmp k es) h)
    ]

pub sorted_passing : {X : Type 0} (test : X → Bool) (es : Placed X) → T (is_sorted nat_cmp es) → T (is_sorted nat_cmp (passing test es))
unfolding passing
sorted_passing test [] h = tt
sorted_passing test (e ∷ es) h =
    let rest = sorted_passing test es (second (below_all nat_cmp e.0 es) (is_sorted nat_cmp es) h) in
    elim (test e.1) as (λ b. T (is_sorted nat_cmp (cond b (e ∷ passing test es) (passing test es)))) [
      | true ↦ joined (below_all nat_cmp e.0 (passing test es)) (is_sorted nat_cmp (passing test es)) (below_passing test e.0 es (first (below_all nat_cmp e.0 es) (is_sorted nat_cmp es) h)) rest
      | false ↦ rest
    ]

pub found_passing : {X : Type 0} (test : X → Bool) (k : ℕ) (es : Placed X) → T (is_sorted nat_cmp es) → find nat_cmp k (passing test es) ≡ picked test (find nat_cmp k es)
unfolding passing
found_passing test k [] h = refl
found_passing {X} test k (e ∷ es) h =
    let rest = found_passing test k es (second (below_all nat_cmp e.0 es) (is_sorted nat_cmp es) h) in
    elim (is_eq (nat_cmp k e.0)) as (λ t. is_eq (nat_cmp k e.0) ≡ t → find nat_cmp k (cond (test e.1) (e ∷ passing test es) (passing test es)) ≡ picked test (cond t (Some e.1) (find nat_cmp k es))) [
      | true ↦ λ t. elim (test e.1) as (λ b. find nat_cmp k (cond b (e ∷ passing test es) (passing test es)) ≡ cond b (Some e.1) None) [
        | true ↦ ap (λ b. cond b (Some e.1) (find nat_cmp k (passing test es))) t
        | false ↦ rest ∙ ap (picked test) (missed k e.0 es (tied (nat_cmp k e.0) t) (first (below_all nat_cmp e.0 es) (is_sorted nat_cmp es) h))
      ]
      | false ↦ λ t. elim (test e.1) as (λ b. find nat_cmp k (cond b (e ∷ passing test es) (passing test es)) ≡ picked test (find nat_cmp k es)) [
        | true ↦ ap (λ b. cond b (Some e.1) (find nat_cmp k (passing test es))) t ∙ rest
        | false ↦ rest
      ]
    ] refl

all_there : {X : Type 0} (b : Bool) (w : Option X) → ((x : X) → w ≡ Some x → b ≡ true) → cond b w None ≡ w
all_there true w h = refl
all_there false None h = refl
all_there false (Some x) h = absurd (subst T (sym (h x refl)) tt)

pub picked_found : {X : Type 0} (test : X → Bool) (o : Option X) (x : X) → picked test o ≡ Some x → (o ≡ Some x) × (test x ≡ true)
picked_found test None x is = absurd (subst has_one (sym is) tt)
picked_found {X} test (Some y) x is =
    elim (test y) as (λ b. test y ≡ b → cond b (Some y) None ≡ Some x → (Some y ≡ Some x) × (test x ≡ true)) [
      | true ↦ λ t e. (e, subst (λ (o : Option X). passes o) e t)
      | false ↦ λ _ e. absurd (subst has_one (sym e) tt)
    ] refl is
  where
    passes : Option X → Type 0
    passes None = Unit {0}
    passes (Some z) = test z ≡ true

pub values_passing : {X : Type 0} (test : X → Bool) (es : Placed X) → values_of (passing test es) ≡ filter test (values_of es)
unfolding passing
values_passing test [] = refl
values_passing test (e ∷ es) =
    elim (test e.1) as (λ b. values_of (cond b (e ∷ passing test es) (passing test es)) ≡ cond b (e.1 ∷ filter test (values_of es)) (filter test (values_of es))) [
      | true ↦ ap (λ l. e.1 ∷ l) (values_passing test es)
      | false ↦ values_passing test es
    ]

-- where each item that passes stands at one of these places, those gathered are all
pub gathered_all : {X : Type 0} (test : X → Bool) (es : Placed X) (ps : List ℕ) → Covers test es ps → IsStrictlySortedBy nat_cmp ps → values_of (gathered test es ps) ≡ filter test (values_of es)
gathered_all test es ps there up =
    let order : T (is_sorted nat_cmp es) = turned (is_sorted nat_cmp es) there.ordered in
    ap values_of (same_entries nat_cmp nat_cmp_total exact_unsigned (gathered test es ps) (passing test es) (sorted_gathered test es ps up) (sorted_passing test es order)
    (λ k. found_gathered test es k ps
    ∙ all_there (has_place ps k) (picked test (at_place k es)) (λ x is. let both = picked_found test (at_place k es) x is in there.covers k x both.0 both.1)
    ∙ sym (found_passing test k es order)))
    ∙ values_passing test es

-- all that is wanted of all is all
pub filter_all : {X : Type 0} (xs : List X) → filter (λ _. true) xs ≡ xs
filter_all [] = refl
filter_all (x ∷ xs) = ap (λ l. x ∷ l) (filter_all xs)

spread_one : {X : Type 0} (p : ℕ) (o : Option X) (es : Placed X) → values_of (with_one p o es) ≡ one_of o ++ values_of es
spread_one p None es = refl
spread_one p (Some x) es = refl

-- a walk over places has gathered one more
pub gathered_next : {X : Type 0} (test : X → Bool) (es : Placed X) (before own all : List X) (p : ℕ) (o : Option X) (ps qs : List ℕ) → own ≡ before ++ one_of (picked test o) → o ≡ at_place p es → qs ≡ p ∷ ps → before ++ values_of (gathered test es qs) ≡ all → own ++ values_of (gathered test es ps) ≡ all
unfolding gathered
gathered_next test es before own all p o ps qs now at next so_far =
    ap (λ l. l ++ values_of (gathered test es ps)) (now ∙ ap (λ x. before ++ one_of (picked test x)) at)
    ∙ append_assoc before (one_of (picked test (at_place p es))) (values_of (gathered test es ps))
    ∙ ap (λ l. before ++ l) (sym (spread_one p (picked test (at_place p es)) (gathered test es ps)))
    ∙ ap (λ l. before ++ values_of (gathered test es l)) (sym next)
    ∙ so_far

-- it has gathered all
pub gathered_end : {X : Type 0} (test : X → Bool) (es : Placed X) (own all : List X) (ps : List ℕ) → ps ≡ [] → own ++ values_of (gathered test es ps) ≡ all → own ≡ all
unfolding gathered
gathered_end test es own all ps none so_far = sym (append-nil own) ∙ ap (λ l. own ++ values_of (gathered test es l)) (sym none) ∙ so_far
