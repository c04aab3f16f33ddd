-- Laws of a base with one change over it.
use Rattle.std.proofs.Common.{◌≡◌, ℕ, Bool, true, false, cond, T, Option, Some, None, List, length, refl, ap, sym, subst, ◌∙◌}
use Rattle.std.specs.Ordering.{nat_cmp, is_eq, eq_by_cmp}
use Rattle.std.specs.FinMap.Entries.{is_sorted, same_entries}
use Rattle.std.proofs.lemmas.Cmp.{nat_cmp_total}
use Rattle.std.proofs.lemmas.Map.Lookups.{exact_unsigned}
use Rattle.sc_book.specs.Places.{Placed, at_place, with_item, without_item, with_item_at as laid, all_laid}
use Rattle.sc_book.specs.Pairs.{Pairs}
use Rattle.sc_book.specs.Gathering.{has_place, MorePlaces, Covers}
use Rattle.sc_book.specs.Groups.{IsBook, KeepsBook}
use Rattle.sc_book.proofs.Basics.{whole, itself, same_place}
use Rattle.sc_book.proofs.PlaceLaws.{found_laid, sorted_laid}
use Rattle.sc_book.proofs.FreshLaws.{none_book, no_changes, settled_items}

-- ## What is found

-- the change is found at its place
pub at_top : {X : Type 0} (q p : ℕ) (o : Option X) (es : Placed X) → p ≡ q → o ≡ at_place q (laid es p o)
at_top q p o es same = sym (found_laid q p o es ∙ ap (λ b. cond b o (at_place q es)) (subst (λ r. is_eq (nat_cmp q r) ≡ true) (sym same) (itself q)))

-- elsewhere there is what the base has
pub beside_top : {X : Type 0} (q p : ℕ) (o seen : Option X) (es : Placed X) → (p ≡ q → ⊥) → seen ≡ at_place q es → seen ≡ at_place q (laid es p o)
beside_top {X} q p o seen es other is = is ∙ sym (found_laid q p o es ∙ ap (λ b. cond b o (at_place q es)) (apart (is_eq (nat_cmp q p)) refl))
  where
    apart : (b : Bool) → is_eq (nat_cmp q p) ≡ b → b ≡ false
    apart true t = absurd (other (sym (same_place q p t)))
    apart false t = refl

-- ## What is laid

pub order_laid : {X : Type 0} (p : ℕ) (o : Option X) (es : Placed X) → is_sorted nat_cmp es ≡ true → is_sorted nat_cmp (laid es p o) ≡ true
order_laid p o es up = whole (is_sorted nat_cmp (laid es p o)) (sorted_laid p o es (subst T (sym up) tt))

twice : {X : Type 0} (b : Bool) (r o x : Option X) → cond b r (cond b o x) ≡ cond b r x
twice true r o x = refl
twice false r o x = refl

-- a change takes the place of the former one at its place
pub laid_again : {X : Type 0} (es : Placed X) (p q : ℕ) (o r : Option X) → is_sorted nat_cmp es ≡ true → p ≡ q → laid es p r ≡ laid (laid es p o) q r
laid_again {X} es p q o r up same = subst (λ n. laid es p r ≡ laid (laid es p o) n r) same
    (same_entries nat_cmp nat_cmp_total exact_unsigned (laid es p r) (laid (laid es p o) p r)
    (sorted_laid p r es (subst T (sym up) tt)) (sorted_laid p r (laid es p o) (sorted_laid p o es (subst T (sym up) tt)))
    (λ k. found_laid k p r es ∙ sym (twice (eq_by_cmp nat_cmp k p) r o (at_place k es)) ∙ ap (cond (eq_by_cmp nat_cmp k p) r) (sym (found_laid k p o es)) ∙ sym (found_laid k p r (laid es p o))))

-- the place of the change is covered too
pub top_covers : {X : Type 0} (test : X → Bool) (es : Placed X) (p : ℕ) (o : Option X) (ks ls : List ℕ) → Covers test es ks → MorePlaces ks ls → has_place ls p ≡ true → Covers test (laid es p o) ls
top_covers {X} test es p o ks ls base more own = record {
  ordered = order_laid p o es base.ordered;
  covers = λ q x at is. by q x is (is_eq (nat_cmp q p)) refl (sym (found_laid q p o es) ∙ at);
}
  where
    by : (q : ℕ) (x : X) → test x ≡ true → (b : Bool) → is_eq (nat_cmp q p) ≡ b → cond b o (at_place q es) ≡ Some x → has_place ls q ≡ true
    by q x is true t e = subst (λ n. has_place ls n ≡ true) (sym (same_place q p t)) own
    by q x is false _ e = more.more q (base.covers q x e is)

-- ## A book whose changes lie in its base

pub kept_under : {X : Type 0} (group_of : X → ℕ × ℕ) (es fs gs : Placed X) (cs ds : List (ℕ × Option X)) → fs ≡ es → KeepsBook group_of fs cs gs ds → KeepsBook group_of es cs gs ds
kept_under group_of es fs gs cs ds same kept = subst (λ l. KeepsBook group_of l cs gs ds) same kept

pub bare_book : {X : Type 0} (group_of : X → ℕ × ℕ) (es fs : Placed X) (cs : List (ℕ × Option X)) (ks : Pairs) (p : ℕ) (o : Option X) → IsBook group_of es cs ks → length cs ≡ 0 → fs ≡ laid es p o → IsBook group_of fs cs ks
bare_book group_of es fs cs ks p o had none now = none_book group_of fs cs ks (ap (is_sorted nat_cmp) now ∙ order_laid p o es had.sorted) (no_changes cs none) had.ordered

pub bare_laid : {X : Type 0} (es fs : Placed X) (cs : List (ℕ × Option X)) (p : ℕ) (o : Option X) → length cs ≡ 0 → fs ≡ laid es p o → all_laid fs cs ≡ laid (all_laid es cs) p o
bare_laid es fs cs p o none now = sym (settled_items fs cs none) ∙ now ∙ ap (λ l. laid l p o) (settled_items es cs none)

pub bare_put : {X : Type 0} (es fs : Placed X) (cs : List (ℕ × Option X)) (p : ℕ) (x : X) → length cs ≡ 0 → fs ≡ laid es p (Some x) → all_laid fs cs ≡ with_item (all_laid es cs) p x
unfolding laid
bare_put es fs cs p x none now = bare_laid es fs cs p (Some x) none now

pub bare_take : {X : Type 0} (es fs : Placed X) (cs : List (ℕ × Option X)) (p : ℕ) → length cs ≡ 0 → fs ≡ laid es p None → all_laid fs cs ≡ without_item (all_laid es cs) p
unfolding laid
bare_take es fs cs p none now = bare_laid es fs cs p None none now
