-- Indexes that follow the items.
use Rattle.std.proofs.Common.{◌≡◌, ◌<◌, ℕ, Bool, true, false, not, cond, T, Option, Some, None, List, [], refl, ap, sym, subst, ◌∙◌, arith}
use Rattle.std.proofs.lemmas.Bool.Decides.{nat_tests}
use Rattle.std.specs.Ordering.{nat_cmp, is_eq}
use Rattle.std.specs.Option.{option_map}
use Rattle.std.specs.List.Sorted.{IsStrictlySortedBy}
use Rattle.std.specs.Map.{keys_of}
use Rattle.std.specs.FinMap.Entries.{find, find-put, is_sorted}
use Rattle.std.proofs.lemmas.Cmp.{nat_cmp_total}
use Rattle.sc_book.specs.declared.numbers.Numbers.{Numbers}
use Rattle.sc_book.specs.declared.indexes.Indexes.{Indexes}
use Rattle.sc_book.specs.Places.{Placed, at_place, with_item, without_item}
use Rattle.sc_book.specs.Words.{in_groups, belongs, is_before}
use Rattle.sc_book.specs.Pairs.{Pairs, has_pair, is_number, is_group, Grown, HasOwn, KeptBut}
use Rattle.sc_book.specs.Found.{numbers_of, due_of, first_of, groups_of, HasNumbers, AllGrown, AllKeptBut, HasAll, AreFound}
use Rattle.sc_book.specs.Gathering.{has_place, Covers}
use Rattle.sc_book.proofs.Basics.{none_some, some_is, not_true, same_place, itself, own_number}
use Rattle.sc_book.proofs.PlaceLaws.{in_order, found_without}
use Rattle.sc_book.proofs.PairLaws.{grown_own, kept_same}

-- ## One index

pub none_all : {X : Type 0} (own : X → ℕ → Bool) (es : Placed X) (ks : Pairs) → es ≡ [] → HasAll own es ks
none_all own es ks none = record { all = λ v p x at is. absurd (none_some x (ap (λ l. at_place p l) (sym none) ∙ at)) }

pub put_all : {X : Type 0} (own : X → ℕ → Bool) (es fs : Placed X) (ks ls ms : Pairs) (place : ℕ) (x : X) → HasAll own es ks → Grown ks ls → HasOwn (own x) place ls → fs ≡ with_item es place x → KeptBut (own x) place ls ms → HasAll own fs ms
put_all {X} own es fs ks ls ms place x had more there now ended = record { all = λ v p y at is. by v p y is (is_eq (nat_cmp p place)) refl (sym (find-put nat_cmp nat_cmp_total p place x es) ∙ ap (λ l. at_place p l) (sym now) ∙ at) }
  where
    by : (v p : ℕ) (y : X) → own y v ≡ true → (b : Bool) → is_eq (nat_cmp p place) ≡ b → cond b (Some x) (find nat_cmp p es) ≡ Some y → has_pair ms v p ≡ true
    by v p y is true t e =
        let own_is : own x v ≡ true = ap (λ z. own z v) (some_is x y e) ∙ is in
        ended.kept v p (subst (λ q. has_pair ls v q ≡ true) (sym (same_place p place t)) (there.has v own_is)) (λ _. own_is)
    by v p y is false t e = ended.kept v p (more.grown v p (had.all v p y e is)) (λ at_it. absurd (not_true (is_eq (nat_cmp p place)) (ap (λ q. is_eq (nat_cmp q place)) at_it ∙ itself place) t))

pub take_all : {X : Type 0} (own : X → ℕ → Bool) (passes : ℕ → Bool) (es fs : Placed X) (ks ls : Pairs) (place : ℕ) → HasAll own es ks → fs ≡ without_item es place → KeptBut passes place ks ls → HasAll own fs ls
take_all {X} own passes es fs ks ls place had now ended = record { all = λ v p x at is. by v p x is (is_eq (nat_cmp place p)) refl (sym (found_without p place es) ∙ ap (λ l. at_place p l) (sym now) ∙ at) }
  where
    by : (v p : ℕ) (x : X) → own x v ≡ true → (b : Bool) → is_eq (nat_cmp place p) ≡ b → cond (not b) (find nat_cmp p es) None ≡ Some x → has_pair ls v p ≡ true
    by v p x is true t e = absurd (none_some x e)
    by v p x is false t e = ended.kept v p (had.all v p x e is) (λ at_it. absurd (not_true (is_eq (nat_cmp place p)) (ap (λ q. is_eq (nat_cmp place q)) at_it ∙ itself place) t))

-- where an item couldn't be put: nothing is missing of the one that is there
back_all : {X : Type 0} (own : X → ℕ → Bool) (passes : ℕ → Bool) (es fs : Placed X) (ks ls ms : Pairs) (place : ℕ) → HasAll own es ks → Grown ks ls → ((x : X) → at_place place es ≡ Some x → (v : ℕ) → own x v ≡ true → passes v ≡ true) → fs ≡ es → KeptBut passes place ls ms → HasAll own fs ms
back_all {X} own passes es fs ks ls ms place had more goes same ended = record { all = λ v p x at is. by v p x is (ap (at_place p) (sym same) ∙ at) }
  where
    by : (v p : ℕ) (x : X) → own x v ≡ true → at_place p es ≡ Some x → has_pair ms v p ≡ true
    by v p x is at = ended.kept v p (more.grown v p (had.all v p x at is)) (λ here. goes x (subst (λ q. at_place q es ≡ Some x) here at) v is)

-- ## All of them

pub all_grown_own : (i : Indexes) → AllGrown i i
all_grown_own i = record { dues = grown_own i.dues; firsts = grown_own i.firsts; groups = grown_own i.groups }

pub all_kept_own : (numbers : Option Numbers) (place : ℕ) (i : Indexes) → AllKeptBut numbers place i i
all_kept_own numbers place i = record { dues = kept_same _ place i.dues i.dues refl; firsts = kept_same _ place i.firsts i.firsts refl; groups = kept_same _ place i.groups i.groups refl }

pub nothing_found : {X : Type 0} (due first : X → Option ℕ) (group_of : X → ℕ × ℕ) (es : Placed X) (i : Indexes) → es ≡ [] → AreFound due first group_of es i
nothing_found due first group_of es i none = record {
  ordered = ap (is_sorted nat_cmp) none;
  dues = none_all (λ x. is_number (due x)) es i.dues none;
  firsts = none_all (λ x. is_number (first x)) es i.firsts none;
  groups = none_all (λ x. in_groups (group_of x)) es i.groups none;
}

-- the numbers of the item at a place are in the indexes
pub had_numbers : {X : Type 0} (due first : X → Option ℕ) (group_of : X → ℕ × ℕ) (es : Placed X) (i : Indexes) (place : ℕ) (old : Option Numbers) → AreFound due first group_of es i → old ≡ option_map (numbers_of due first group_of) (at_place place es) → HasNumbers old place i
had_numbers {X} due first group_of es i place old found is = subst (λ o. HasNumbers o place i) (sym is) (by (at_place place es) refl)
  where
    by : (o : Option X) → at_place place es ≡ o → HasNumbers (option_map (numbers_of due first group_of) o) place i
    by None at = record {
      dues = record { has = λ v e. absurd (subst T (sym e) tt) };
      firsts = record { has = λ v e. absurd (subst T (sym e) tt) };
      groups = record { has = λ v e. absurd (subst T (sym e) tt) };
    }
    by (Some x) at = record {
      dues = record { has = λ v e. found.dues.all v place x at e };
      firsts = record { has = λ v e. found.firsts.all v place x at e };
      groups = record { has = λ v e. found.groups.all v place x at e };
    }

pub back_found : {X : Type 0} (due first : X → Option ℕ) (group_of : X → ℕ × ℕ) (es fs : Placed X) (i j k : Indexes) (place : ℕ) (old : Option Numbers) → AreFound due first group_of es i → AllGrown i j → old ≡ option_map (numbers_of due first group_of) (at_place place es)
    → fs ≡ es → AllKeptBut old place j k → AreFound due first group_of fs k
back_found {X} due first group_of es fs i j k place old had more was same kept = record {
  ordered = ap (is_sorted nat_cmp) same ∙ had.ordered;
  dues = back_all (λ x. is_number (due x)) (is_number (due_of old)) es fs i.dues j.dues k.dues place had.dues more.dues (λ x at v is. ap (λ o. is_number (due_of o) v) (own x at) ∙ is) same kept.dues;
  firsts = back_all (λ x. is_number (first x)) (is_number (first_of old)) es fs i.firsts j.firsts k.firsts place had.firsts more.firsts (λ x at v is. ap (λ o. is_number (first_of o) v) (own x at) ∙ is) same kept.firsts;
  groups = back_all (λ x. in_groups (group_of x)) (is_group (groups_of old)) es fs i.groups j.groups k.groups place had.groups more.groups (λ x at v is. ap (λ o. is_group (groups_of o) v) (own x at) ∙ is) same kept.groups;
}
  where
    own : (x : X) → at_place place es ≡ Some x → old ≡ Some (numbers_of due first group_of x)
    own x at = was ∙ ap (option_map (numbers_of due first group_of)) at

pub put_found : {X : Type 0} (due first : X → Option ℕ) (group_of : X → ℕ × ℕ) (es fs : Placed X) (i j k : Indexes) (place : ℕ) (x : X) (new : Numbers) → AreFound due first group_of es i → AllGrown i j → HasNumbers (Some (numbers_of due first group_of x)) place j → new ≡ numbers_of due first group_of x
    → fs ≡ with_item es place x → IsStrictlySortedBy nat_cmp (keys_of fs) → AllKeptBut (Some new) place j k → AreFound due first group_of fs k
put_found {X} due first group_of es fs i j k place x new had more there own now up kept =
    let own_kept : AllKeptBut (Some (numbers_of due first group_of x)) place j k = subst (λ n. AllKeptBut (Some n) place j k) own kept in
    record {
      ordered = in_order fs up;
      dues = put_all (λ x. is_number (due x)) es fs i.dues j.dues k.dues place x had.dues more.dues there.dues now own_kept.dues;
      firsts = put_all (λ x. is_number (first x)) es fs i.firsts j.firsts k.firsts place x had.firsts more.firsts there.firsts now own_kept.firsts;
      groups = put_all (λ x. in_groups (group_of x)) es fs i.groups j.groups k.groups place x had.groups more.groups there.groups now own_kept.groups;
    }

pub take_found : {X : Type 0} (due first : X → Option ℕ) (group_of : X → ℕ × ℕ) (es fs : Placed X) (i j : Indexes) (place : ℕ) → AreFound due first group_of es i → fs ≡ without_item es place → IsStrictlySortedBy nat_cmp (keys_of fs) → AllKeptBut None place i j → AreFound due first group_of fs j
take_found due first group_of es fs i j place had now up kept = record {
  ordered = in_order fs up;
  dues = take_all (λ x. is_number (due x)) (λ _. false) es fs i.dues j.dues place had.dues now kept.dues;
  firsts = take_all (λ x. is_number (first x)) (λ _. false) es fs i.firsts j.firsts place had.firsts now kept.firsts;
  groups = take_all (λ x. in_groups (group_of x)) (λ _. false) es fs i.groups j.groups place had.groups now kept.groups;
}

-- ## The places of what is looked for

pub group_covers : {X : Type 0} (due first : X → Option ℕ) (group_of : X → ℕ × ℕ) (group : ℕ) (es : Placed X) (i : Indexes) (ks : List ℕ) → AreFound due first group_of es i → ((p : ℕ) → has_pair i.groups group p ≡ true → has_place ks p ≡ true) → Covers (belongs group_of group) es ks
group_covers due first group_of group es i ks found there = record { ordered = found.ordered; covers = λ p x at is. there p (found.groups.all group p x at is) }

-- a moment below this one, as a number
abbrev Below : ℕ → Option ℕ → Type 0
Below past None = ⊥
Below past (Some m) = m < past

below_some : (past : ℕ) (o : Option ℕ) → is_before past o ≡ true → Below past o
below_some past None e = absurd (subst T (sym e) tt)
below_some past (Some m) e = grind (arith, nat_tests, e)

pub due_covers : {X : Type 0} (due first : X → Option ℕ) (group_of : X → ℕ × ℕ) (past : ℕ) (es : Placed X) (i : Indexes) (ks : List ℕ) → AreFound due first group_of es i → ((v p : ℕ) → v < past → has_pair i.dues v p ≡ true → has_place ks p ≡ true) → Covers (λ x. is_before past (due x)) es ks
due_covers {X} due first group_of past es i ks found there = record { ordered = found.ordered; covers = λ p x at is. by p x at (due x) refl (below_some past (due x) is) }
  where
    by : (p : ℕ) (x : X) → at_place p es ≡ Some x → (o : Option ℕ) → due x ≡ o → Below past o → has_place ks p ≡ true
    by p x at None is low = absurd low
    by p x at (Some m) is low = there m p low (found.dues.all m p x at (ap (λ o. is_number o m) is ∙ own_number m))
