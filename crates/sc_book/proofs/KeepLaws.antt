-- What is left where items that don't pass go.
use Rattle.std.proofs.Common.{◌≡◌, ℕ, Bool, true, false, not, cond, ◌||◌, T, Option, Some, None, List, [], ◌∷◌, refl, ap, sym, subst, ◌∙◌}
use Rattle.std.specs.List.{filter}
use Rattle.std.specs.Ordering.{nat_cmp, is_eq, eq_by_cmp}
use Rattle.std.specs.Option.{option_map_or}
use Rattle.std.specs.Map.{values_of}
use Rattle.std.specs.FinMap.Entries.{is_sorted, is_sorted-where_key, same_entries}
use Rattle.std.proofs.lemmas.Cmp.{nat_cmp_total}
use Rattle.std.proofs.lemmas.Map.Lookups.{exact_unsigned}
use Rattle.sc_book.specs.Places.{Placed, at_place, passes_at, without_item}
use Rattle.sc_book.specs.Gathering.{has_place, Covers, if_passing as picked, left_once, left_at}
use Rattle.sc_book.proofs.Basics.{not_true, turned, same_place, same_test, flip_test}
use Rattle.sc_book.proofs.PlaceLaws.{found_without}
use Rattle.sc_book.proofs.GatherLaws.{passing, sorted_passing, found_passing, values_passing}

-- ## At one place

pub once_fails : {X : Type 0} (test : X → Bool) (es fs : Placed X) (p : ℕ) → passes_at (λ x. not (test x)) es p ≡ true → fs ≡ without_item es p → fs ≡ left_once test es p
unfolding left_once
once_fails test es fs p fails is = is ∙ ap (λ b. cond b (without_item es p) es) (sym fails)

pub once_passes : {X : Type 0} (test : X → Bool) (es : Placed X) (p : ℕ) → passes_at (λ x. not (test x)) es p ≡ false → es ≡ left_once test es p
unfolding left_once
once_passes test es p passes = ap (λ b. cond b (without_item es p) es) (sym passes)

sorted_once : {X : Type 0} (test : X → Bool) (es : Placed X) (p : ℕ) → T (is_sorted nat_cmp es) → T (is_sorted nat_cmp (left_once test es p))
unfolding left_once
sorted_once test es p up = elim (passes_at (λ x. not (test x)) es p) as (λ b. T (is_sorted nat_cmp (cond b (without_item es p) es))) [ true ↦ is_sorted-where_key nat_cmp (λ x. not (eq_by_cmp nat_cmp p x)) es up | false ↦ up ]

none_left : {X : Type 0} (test : X → Bool) (o : Option X) → option_map_or (λ x. not (test x)) o false ≡ true → picked test o ≡ None
none_left test None e = refl
none_left test (Some x) e = by (test x) refl e
  where
    by : (b : Bool) → test x ≡ b → not b ≡ true → cond (test x) (Some x) None ≡ None
    by true t h = absurd (subst T (sym h) tt)
    by false t h = ap (λ b. cond b (Some x) None) t

one_left : {X : Type 0} (test : X → Bool) (o : Option X) → option_map_or (λ x. not (test x)) o false ≡ false → picked test o ≡ o
one_left test None e = refl
one_left test (Some x) e = by (test x) refl e
  where
    by : (b : Bool) → test x ≡ b → not b ≡ false → cond (test x) (Some x) None ≡ Some x
    by true t h = ap (λ b. cond b (Some x) None) t
    by false t h = absurd (subst T h tt)

-- what is found then: at this place what passes, elsewhere what there was
found_once : {X : Type 0} (test : X → Bool) (es : Placed X) (p q : ℕ) → at_place q (left_once test es p) ≡ cond (is_eq (nat_cmp q p)) (picked test (at_place q es)) (at_place q es)
unfolding left_once
found_once {X} test es p q = by (passes_at (λ x. not (test x)) es p) refl
  where
    swap : is_eq (nat_cmp p q) ≡ is_eq (nat_cmp q p)
    swap = same_test p q ∙ flip_test p q

    gone : passes_at (λ x. not (test x)) es p ≡ true → (b : Bool) → is_eq (nat_cmp q p) ≡ b → cond (not b) (at_place q es) None ≡ cond b (picked test (at_place q es)) (at_place q es)
    gone fails true same = sym (ap (λ k. picked test (at_place k es)) (same_place q p same) ∙ none_left test (at_place p es) fails)
    gone fails false same = refl

    stay : passes_at (λ x. not (test x)) es p ≡ false → (b : Bool) → is_eq (nat_cmp q p) ≡ b → at_place q es ≡ cond b (picked test (at_place q es)) (at_place q es)
    stay passes true same = sym (one_left test (at_place q es) (ap (λ k. passes_at (λ x. not (test x)) es k) (same_place q p same) ∙ passes))
    stay passes false same = refl

    by : (b : Bool) → passes_at (λ x. not (test x)) es p ≡ b → at_place q (cond b (without_item es p) es) ≡ cond (is_eq (nat_cmp q p)) (picked test (at_place q es)) (at_place q es)
    by true t = found_without q p es ∙ ap (λ b. cond (not b) (at_place q es) None) swap ∙ gone t (is_eq (nat_cmp q p)) refl
    by false t = stay t (is_eq (nat_cmp q p)) refl

-- ## At many places

sorted_left : {X : Type 0} (test : X → Bool) (es : Placed X) (ps : List ℕ) → T (is_sorted nat_cmp es) → T (is_sorted nat_cmp (left_at test es ps))
sorted_left test es [] up = up
sorted_left test es (p ∷ ps) up = sorted_left test (left_once test es p) ps (sorted_once test es p up)

picked_twice : {X : Type 0} (test : X → Bool) (o : Option X) → picked test (picked test o) ≡ picked test o
picked_twice test None = refl
picked_twice test (Some x) = by (test x) refl
  where
    by : (b : Bool) → test x ≡ b → picked test (cond b (Some x) None) ≡ cond b (Some x) None
    by true t = ap (λ b. cond b (Some x) None) t
    by false t = refl

either : {X : Type 0} (test : X → Bool) (a b : Bool) (o : Option X) → cond b (picked test (cond a (picked test o) o)) (cond a (picked test o) o) ≡ cond (a || b) (picked test o) o
either test true true o = picked_twice test o
either test true false o = refl
either test false b o = refl

found_left : {X : Type 0} (test : X → Bool) (es : Placed X) (ps : List ℕ) (q : ℕ) → at_place q (left_at test es ps) ≡ cond (has_place ps q) (picked test (at_place q es)) (at_place q es)
found_left test es [] q = refl
found_left test es (p ∷ ps) q =
    found_left test (left_once test es p) ps q
    ∙ ap (λ o. cond (has_place ps q) (picked test o) o) (found_once test es p q)
    ∙ either test (is_eq (nat_cmp q p)) (has_place ps q) (at_place q es)

covered : {X : Type 0} (test : X → Bool) (b : Bool) (o : Option X) → ((x : X) → o ≡ Some x → not (test x) ≡ true → b ≡ true) → cond b (picked test o) o ≡ picked test o
covered test true o h = refl
covered test false None h = refl
covered test false (Some x) h = by (test x) refl
  where
    by : (b : Bool) → test x ≡ b → Some x ≡ cond (test x) (Some x) None
    by true t = sym (ap (λ b. cond b (Some x) None) t)
    by false t = absurd (subst T (sym (h x refl (ap not t))) tt)

-- where the places have all that doesn't pass, what is left is what passes
pub left_all : {X : Type 0} (test : X → Bool) (es fs : Placed X) (ps : List ℕ) → Covers (λ x. not (test x)) es ps → fs ≡ left_at test es ps → values_of fs ≡ filter test (values_of es)
left_all test es fs ps there now =
    let order : T (is_sorted nat_cmp es) = turned (is_sorted nat_cmp es) there.ordered in
    ap values_of now
    ∙ ap values_of (same_entries nat_cmp nat_cmp_total exact_unsigned (left_at test es ps) (passing test es) (sorted_left test es ps order) (sorted_passing test es order)
    (λ q. found_left test es ps q ∙ covered test (has_place ps q) (at_place q es) (λ x is fails. there.covers q x is fails) ∙ sym (found_passing test q es order)))
    ∙ values_passing test es

-- all that is outside of the group passes
pub left_in : {X : Type 0} (test own : X → Bool) (es fs : Placed X) (ps : List ℕ) → ((x : X) → own x ≡ false → test x ≡ true) → Covers own es ps → fs ≡ left_at test es ps → values_of fs ≡ filter test (values_of es)
left_in {X} test own es fs ps outside there now = left_all test es fs ps (record { ordered = there.ordered; covers = λ p x at fails. there.covers p x at (inside x fails (own x) refl) }) now
  where
    inside : (x : X) → not (test x) ≡ true → (b : Bool) → own x ≡ b → b ≡ true
    inside x fails true is = refl
    inside x fails false is = absurd (not_true (not (test x)) fails (ap not (outside x is)))

pub left_of_all : {X : Type 0} (test : X → Bool) (es fs : Placed X) (ps : List ℕ) → Covers (λ _. true) es ps → fs ≡ left_at test es ps → values_of fs ≡ filter test (values_of es)
left_of_all test es fs ps there now = left_in test (λ _. true) es fs ps (λ x outside. absurd (subst T outside tt)) there now
