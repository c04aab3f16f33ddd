-- Changes over a base, and their groups.
use Rattle.std.proofs.lemmas.Bool.Decides.{nat_tests}
use Rattle.std.proofs.Common.{◌≡◌, ◌<◌, ℕ, Bool, true, false, cond, ◌||◌, T, Option, Some, None, List, [], ◌∷◌, length, refl, ap, sym, subst, ◌∙◌, arith}
use Rattle.std.specs.declared.cmp.Ordering.TheVariants.{Less, Equal, Greater}
use Rattle.std.specs.Prelude.{IfSome, IsSome, slice_get}
use Rattle.std.specs.Option.{option_map, option_map_or, unwrap_or}
use Rattle.std.specs.List.Sorted.{IsStrictlySortedBy}
use Rattle.std.specs.Map.{keys_of}
use Rattle.std.specs.Ordering.{nat_cmp, is_eq, is_lt, match_ordering}
use Rattle.std.specs.BTreeMap.{insert_entry}
use Rattle.std.specs.FinMap.Entries.{find, below_all, is_sorted}
use Rattle.std.proofs.lemmas.Map.Keys.{sorted_tail}
use Rattle.std.proofs.lemmas.Map.Lookups.{exact_unsigned}
use Rattle.sc_book.specs.Places.{Placed, at_place, passes_at, with_item_at as laid, all_laid}
use Rattle.sc_book.specs.Words.{in_groups, belongs}
use Rattle.sc_book.specs.Pairs.{Pairs, has_pair, is_group, Grown, HasOr}
use Rattle.sc_book.specs.Gathering.{has_place, MorePlaces, Covers, with_all}
use Rattle.sc_book.specs.Groups.{IsFresh, AreFresh, IsBook, KeepsBook}
use Rattle.sc_book.proofs.Basics.{none_some, some_is, first, second, less_tested, tied}
use Rattle.sc_book.proofs.PlaceLaws.{sorted_of, found_laid, found_all, order_over, settled_same, headed}
use Rattle.sc_book.proofs.PlaceSets.{more_all, all_there}

-- ## One change more

or_grown : (a x y : Bool) → (x ≡ true → y ≡ true) → (a || x) ≡ true → (a || y) ≡ true
or_grown true x y goes is = refl
or_grown false x y goes is = goes is

more_one : {X : Type 0} (group_of : X → ℕ × ℕ) (es : Placed X) (p : ℕ) (o : Option X) (ks ls : Pairs) → IsFresh group_of es p o ks → Grown ks ls → IsFresh group_of es p o ls
more_one group_of es p None ks ls had more = tt
more_one group_of es p (Some x) ks ls had more = λ v is. or_grown (passes_at (belongs group_of v) es p) (has_pair ks v p) (has_pair ls v p) (more.grown v p) (had v is)

more_fresh : {X : Type 0} (group_of : X → ℕ × ℕ) (es : Placed X) (cs : List (ℕ × Option X)) (ks ls : Pairs) → AreFresh group_of es cs ks → Grown ks ls → AreFresh group_of es cs ls
unfolding AreFresh
more_fresh group_of es [] ks ls had more = tt
more_fresh group_of es (c ∷ cs) ks ls had more = (more_one group_of es c.0 c.1 ks ls had.0 more, more_fresh group_of es cs ks ls had.1 more)

fresh_insert : {X : Type 0} (group_of : X → ℕ × ℕ) (es : Placed X) (cs : List (ℕ × Option X)) (ks : Pairs) (p : ℕ) (o : Option X) → AreFresh group_of es cs ks → IsFresh group_of es p o ks → AreFresh group_of es (insert_entry nat_cmp cs p o) ks
unfolding AreFresh
fresh_insert group_of es [] ks p o had own = (own, tt)
fresh_insert group_of es (c ∷ cs) ks p o had own =
    elim (nat_cmp p c.0) as (λ r. nat_cmp p c.0 ≡ r → AreFresh group_of es (match_ordering r ((p, o) ∷ c ∷ cs) ((c.0, o) ∷ cs) (c ∷ insert_entry nat_cmp cs p o)) ks) [
      | Less ↦ λ _. (own, had)
      | Equal ↦ λ same. (subst (λ q. IsFresh group_of es q o ks) (exact_unsigned p c.0 same) own, had.1)
      | Greater ↦ λ _. (had.0, fresh_insert group_of es cs ks p o had.1 own)
    ] refl

former_groups : {X : Type 0} (group_of : X → ℕ × ℕ) (v : ℕ) (o : Option X) → is_group (option_map group_of o) v ≡ option_map_or (belongs group_of v) o false
former_groups group_of v None = refl
former_groups group_of v (Some x) = refl

pub more_book : {X : Type 0} (group_of : X → ℕ × ℕ) (es : Placed X) (cs ds : List (ℕ × Option X)) (ks ls : Pairs) → IsBook group_of es cs ks → Grown ks ls → ds ≡ cs → IsBook group_of es ds ls
more_book group_of es cs ds ks ls had more same = subst (λ l. IsBook group_of es l ls) (sym same) (record { sorted = had.sorted; ordered = had.ordered; fresh = more_fresh group_of es cs ks ls had.fresh more })

pub put_book : {X : Type 0} (group_of : X → ℕ × ℕ) (es : Placed X) (cs ds : List (ℕ × Option X)) (ks ls : Pairs) (p : ℕ) (x : X) (former : Option (ℕ × ℕ)) (new : ℕ × ℕ) → IsBook group_of es cs ks → Grown ks ls
    → former ≡ option_map group_of (at_place p es) → new ≡ group_of x → HasOr (is_group former) (in_groups new) p ls → ds ≡ insert_entry nat_cmp cs p (Some x) → IsStrictlySortedBy nat_cmp (keys_of ds) → IsBook group_of es ds ls
put_book {X} group_of es cs ds ks ls p x former new had more was own there now up = record {
  sorted = had.sorted;
  ordered = up;
  fresh = subst (λ l. AreFresh group_of es l ls) (sym now) (fresh_insert group_of es cs ls p (Some x) (more_fresh group_of es cs ks ls had.fresh more) own_fresh);
}
  where
    own_fresh : (v : ℕ) → belongs group_of v x ≡ true → (passes_at (belongs group_of v) es p || has_pair ls v p) ≡ true
    own_fresh v is = ap (λ b. b || has_pair ls v p) (sym (ap (λ o. is_group o v) was ∙ former_groups group_of v (at_place p es))) ∙ there.has v (ap (λ g. in_groups g v) own ∙ is)

pub take_book : {X : Type 0} (group_of : X → ℕ × ℕ) (es : Placed X) (cs ds : List (ℕ × Option X)) (ks : Pairs) (p : ℕ) → IsBook group_of es cs ks → ds ≡ insert_entry nat_cmp cs p None → IsStrictlySortedBy nat_cmp (keys_of ds) → IsBook group_of es ds ks
take_book group_of es cs ds ks p had now up = record {
  sorted = had.sorted;
  ordered = up;
  fresh = subst (λ l. AreFresh group_of es l ks) (sym now) (fresh_insert group_of es cs ks p None had.fresh tt);
}

-- without changes
pub none_book : {X : Type 0} (group_of : X → ℕ × ℕ) (es : Placed X) (cs : List (ℕ × Option X)) (ks : Pairs) → is_sorted nat_cmp es ≡ true → cs ≡ [] → IsStrictlySortedBy nat_cmp (keys_of cs) → IsBook group_of es cs ks
unfolding AreFresh
none_book {X} group_of es cs ks sorted none up = record { sorted = sorted; ordered = up; fresh = subst (λ l. AreFresh group_of es l ks) (sym none) tt }

pub no_changes : {X : Type 0} (cs : List X) → length cs ≡ 0 → cs ≡ []
no_changes [] none = refl
no_changes (c ∷ cs) none = absurd (omega (arith, none))

pub empty_book : {X : Type 0} (group_of : X → ℕ × ℕ) (es : Placed X) (cs : List (ℕ × Option X)) (ks ls : Pairs) → IsBook group_of es cs ks → length cs ≡ 0 → IsBook group_of es cs ls
empty_book group_of es cs ks ls had none = none_book group_of es cs ls had.sorted (no_changes cs none) had.ordered

-- ## A change goes into the base

-- other places stay as they are
apart_fresh : {X : Type 0} (group_of : X → ℕ × ℕ) (es fs : Placed X) (p : ℕ) (o : Option X) (ks : Pairs) → at_place p fs ≡ at_place p es → IsFresh group_of es p o ks → IsFresh group_of fs p o ks
apart_fresh group_of es fs p None ks same had = tt
apart_fresh group_of es fs p (Some x) ks same had = λ v is. ap (λ o. option_map_or (belongs group_of v) o false || has_pair ks v p) same ∙ had v is

apart : {X : Type 0} (p : ℕ) (o : Option X) (es : Placed X) (q : ℕ) → nat_cmp p q ≡ Less → at_place q (laid es p o) ≡ at_place q es
apart {X} p o es q low = found_laid q p o es ∙ ap (λ b. cond b o (at_place q es)) (other p q low)
  where
    other : (a b : ℕ) → nat_cmp a b ≡ Less → is_eq (nat_cmp b a) ≡ false
    other a b h = grind (arith, nat_tests, h)

settled_fresh : {X : Type 0} (group_of : X → ℕ × ℕ) (es : Placed X) (p : ℕ) (o : Option X) (cs : List (ℕ × Option X)) (ks : Pairs) → T (below_all nat_cmp p cs) → AreFresh group_of es cs ks → AreFresh group_of (laid es p o) cs ks
unfolding AreFresh
settled_fresh group_of es p o [] ks below had = tt
settled_fresh group_of es p o (c ∷ cs) ks below had = (
  apart_fresh group_of es (laid es p o) c.0 c.1 ks (apart p o es c.0 (less_tested (nat_cmp p c.0) (first (is_lt (nat_cmp p c.0)) (below_all nat_cmp p cs) below))) had.0,
  settled_fresh group_of es p o cs ks (second (is_lt (nat_cmp p c.0)) (below_all nat_cmp p cs) below) had.1,
)

tail_fresh : {X : Type 0} (group_of : X → ℕ × ℕ) (es : Placed X) (c : ℕ × Option X) (cs : List (ℕ × Option X)) (ks : Pairs) → AreFresh group_of es (c ∷ cs) ks → AreFresh group_of es cs ks
unfolding AreFresh
tail_fresh group_of es c cs ks had = had.1

settled_book : {X : Type 0} (group_of : X → ℕ × ℕ) (es fs : Placed X) (p : ℕ) (o : Option X) (cs : List (ℕ × Option X)) → fs ≡ laid es p o → is_sorted nat_cmp fs ≡ true → KeepsBook group_of es ((p, o) ∷ cs) fs cs
settled_book group_of es fs p o cs now sorted = record {
  keeps = λ pairs had. record {
    sorted = sorted;
    ordered = sorted_tail nat_cmp p (keys_of cs) had.ordered;
    fresh = subst (λ l. AreFresh group_of l cs pairs) (sym now) (settled_fresh group_of es p o cs pairs (headed (p, o) cs (sorted_of ((p, o) ∷ cs) had.ordered)) (tail_fresh group_of es (p, o) cs pairs had.fresh));
  };
}

-- the first change is the one that was popped
popped : {A : Type 0} (a : A) (r : Option A) (cs ds : List A) → slice_get cs 0 ≡ Some a → (0 < length cs → IsSome r) → IfSome r (λ q. cs ≡ q ∷ ds) → cs ≡ a ∷ ds
popped a r [] ds at some removal = absurd (none_some a at)
popped a None (c ∷ cs) ds at some removal = absurd (subst T (sym (some (omega (arith)))) tt)
popped a (Some q) (c ∷ cs) ds at some removal = removal ∙ ap (λ x. x ∷ ds) (some_is q a (sym (ap (λ l. slice_get l 0) removal) ∙ at))

one_laid : {X : Type 0} (es : Placed X) (p : ℕ) (o : Option X) (ds : List (ℕ × Option X)) → all_laid (laid es p o) ds ≡ all_laid es ((p, o) ∷ ds)
unfolding all_laid
one_laid es p o ds = refl

pub settled_first : {X : Type 0} (es fs : Placed X) (p : ℕ) (o : Option X) (r : Option (ℕ × Option X)) (cs ds : List (ℕ × Option X)) → fs ≡ laid es p o → slice_get cs 0 ≡ Some (p, o) → (0 < length cs → IsSome r) → IfSome r (λ q. cs ≡ q ∷ ds) → all_laid fs ds ≡ all_laid es cs
settled_first es fs p o r cs ds now at some removal = ap (λ l. all_laid l ds) now ∙ one_laid es p o ds ∙ ap (all_laid es) (sym (popped (p, o) r cs ds at some removal))

pub kept_first : {X : Type 0} (group_of : X → ℕ × ℕ) (es fs : Placed X) (p : ℕ) (o : Option X) (r : Option (ℕ × Option X)) (cs ds : List (ℕ × Option X)) → fs ≡ laid es p o → is_sorted nat_cmp fs ≡ true → slice_get cs 0 ≡ Some (p, o) → (0 < length cs → IsSome r)
    → IfSome r (λ q. cs ≡ q ∷ ds) → KeepsBook group_of es cs fs ds
kept_first group_of es fs p o r cs ds now sorted at some removal = subst (λ l. KeepsBook group_of es l fs ds) (sym (popped (p, o) r cs ds at some removal)) (settled_book group_of es fs p o ds now sorted)

pub kept_own : {X : Type 0} (group_of : X → ℕ × ℕ) (es fs : Placed X) (cs ds : List (ℕ × Option X)) → fs ≡ es → ds ≡ cs → KeepsBook group_of es cs fs ds
kept_own group_of es fs cs ds one two = record { keeps = λ pairs had. subst (λ l. IsBook group_of l ds pairs) (sym one) (subst (λ l. IsBook group_of es l pairs) (sym two) had) }

pub kept_on : {X : Type 0} (group_of : X → ℕ × ℕ) (es fs gs : Placed X) (cs ds bs : List (ℕ × Option X)) → KeepsBook group_of es cs fs ds → KeepsBook group_of fs ds gs bs → KeepsBook group_of es cs gs bs
kept_on group_of es fs gs cs ds bs one two = record { keeps = λ pairs had. two.keeps pairs (one.keeps pairs had) }

-- ## What is found

-- the place of a change is among those of its groups
fresh_there : {X : Type 0} (group_of : X → ℕ × ℕ) (es : Placed X) (cs : List (ℕ × Option X)) (ks : Pairs) (v p : ℕ) (x : X) → AreFresh group_of es cs ks → find nat_cmp p cs ≡ Some (Some x) → belongs group_of v x ≡ true
    → (passes_at (belongs group_of v) es p || has_pair ks v p) ≡ true
unfolding AreFresh
fresh_there group_of es [] ks v p x had at is = absurd (none_some (Some x) at)
fresh_there {X} group_of es (c ∷ cs) ks v p x had at is =
    elim (is_eq (nat_cmp p c.0)) as (λ b. is_eq (nat_cmp p c.0) ≡ b → cond b (Some c.1) (find nat_cmp p cs) ≡ Some (Some x) → (passes_at (belongs group_of v) es p || has_pair ks v p) ≡ true) [
      | true ↦ λ t e. subst (λ q. (passes_at (belongs group_of v) es q || has_pair ks v q) ≡ true) (sym (exact_unsigned p c.0 (tied (nat_cmp p c.0) t))) (subst (λ o. IsFresh group_of es c.0 o ks) (some_is c.1 (Some x) e) had.0 v is)
      | false ↦ λ t e. fresh_there group_of es cs ks v p x had.1 e is
    ] refl at

found_passing : {X : Type 0} (test : X → Bool) (es : Placed X) (p : ℕ) (o : Option X) → at_place p es ≡ o → option_map_or test o false ≡ true → (x : X) × (at_place p es ≡ Some x) × (test x ≡ true)
found_passing test es p None at is = absurd (subst T (sym is) tt)
found_passing test es p (Some x) at is = (x, at, is)

pub book_covers : {X : Type 0} (group_of : X → ℕ × ℕ) (group : ℕ) (es : Placed X) (cs : List (ℕ × Option X)) (ks : Pairs) (one two : List ℕ) → IsBook group_of es cs ks → Covers (belongs group_of group) es one → MorePlaces one two
    → ((p : ℕ) → has_pair ks group p ≡ true → has_place two p ≡ true) → Covers (belongs group_of group) (all_laid es cs) two
book_covers {X} group_of group es cs ks one two book base more over = record {
  ordered = order_over es cs book.sorted;
  covers = λ p x at is. by p x is (find nat_cmp p cs) refl (sym (found_all p es cs (sorted_of cs book.ordered)) ∙ at);
}
  where
    or_over : (p : ℕ) (b : Bool) → passes_at (belongs group_of group) es p ≡ b → (b || has_pair ks group p) ≡ true → has_place two p ≡ true
    or_over p true t _ = let seen = found_passing (belongs group_of group) es p (at_place p es) refl t in more.more p (base.covers p seen.0 seen.1 seen.2)
    or_over p false _ is = over p is

    by : (p : ℕ) (x : X) → belongs group_of group x ≡ true → (o : Option (Option X)) → find nat_cmp p cs ≡ o → unwrap_or o (at_place p es) ≡ Some x → has_place two p ≡ true
    by p x is None _ e = more.more p (base.covers p x e is)
    by p x is (Some o) f e = or_over p (passes_at (belongs group_of group) es p) refl (fresh_there group_of es cs ks group p x book.fresh (f ∙ ap Some e) is)

pub all_book_covers : {X : Type 0} (group_of : X → ℕ × ℕ) (es : Placed X) (cs : List (ℕ × Option X)) (ks : Pairs) (one two : List ℕ) → IsBook group_of es cs ks → Covers (λ _. true) es one → two ≡ with_all one (keys_of cs) → Covers (λ _. true) (all_laid es cs) two
all_book_covers {X} group_of es cs ks one two book base now = record {
  ordered = order_over es cs book.sorted;
  covers = λ p x at is. by p x (find nat_cmp p cs) refl (sym (found_all p es cs (sorted_of cs book.ordered)) ∙ at);
}
  where
    by : (p : ℕ) (x : X) → (o : Option (Option X)) → find nat_cmp p cs ≡ o → unwrap_or o (at_place p es) ≡ Some x → has_place two p ≡ true
    by p x None _ e = (more_all cs one two now).more p (base.covers p x e refl)
    by p x (Some o) f e = all_there cs one two now p o f

-- a book without changes
pub settled_items : {X : Type 0} (es : Placed X) (cs : List (ℕ × Option X)) → length cs ≡ 0 → es ≡ all_laid es cs
settled_items es cs none = settled_same es es cs (length cs) refl none refl

pub settled_covers : {X : Type 0} (test : X → Bool) (es : Placed X) (cs : List (ℕ × Option X)) (ks : List ℕ) → length cs ≡ 0 → Covers test es ks → Covers test (all_laid es cs) ks
settled_covers test es cs ks none base = subst (λ l. Covers test l ks) (settled_items es cs none) base
