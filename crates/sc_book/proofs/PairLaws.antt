-- Laws of pairs that come and go.
use Rattle.std.proofs.Common.{◌≡◌, ◌==◌, ℕ, Bool, true, false, not, cond, ◌||◌, T, Some, None, refl, ap, sym, subst, ◌∙◌}
use Rattle.std.specs.Ordering.{nat_cmp, is_eq}
use Rattle.std.specs.BTreeMap.{is_at}
use Rattle.sc_book.specs.Words.{in_groups}
use Rattle.sc_book.specs.Pairs.{Pairs, pair_cmp, has_pair, is_number, Grown, HasOwn, HasOr, KeptBut}
use Rattle.sc_book.proofs.Basics.{not_true, itself, same_number, own_number, same_place, eq_then, then_eq}

-- ## One pair

own_pair : (a b : ℕ) → is_eq (pair_cmp (a, b) (a, b)) ≡ true
own_pair a b = then_eq (nat_cmp a a) (nat_cmp b b) (itself a) (itself b)

or_cond : (b x : Bool) → x ≡ true → cond b true x ≡ true
or_cond true x e = refl
or_cond false x e = e

pub added_grown : (a b : ℕ) (ks ls : Pairs) → ((q : ℕ × ℕ) → has_pair ls q.0 q.1 ≡ cond (is_at (pair_cmp (a, b)) q) true (has_pair ks q.0 q.1)) → Grown ks ls
added_grown a b ks ls told = record { grown = λ v p is. told (v, p) ∙ or_cond (is_at (pair_cmp (a, b)) (v, p)) (has_pair ks v p) is }

pub added_there : (a b : ℕ) (ks ls : Pairs) → ((q : ℕ × ℕ) → has_pair ls q.0 q.1 ≡ cond (is_at (pair_cmp (a, b)) q) true (has_pair ks q.0 q.1)) → has_pair ls a b ≡ true
added_there a b ks ls told = told (a, b) ∙ ap (λ x. cond x true (has_pair ks a b)) (own_pair a b)

other_pair : (a b v p : ℕ) → (p ≡ b → not (a == v) ≡ true) → (x : Bool) → is_eq (pair_cmp (a, b) (v, p)) ≡ x → x ≡ false
other_pair a b v p apart true is =
    let tie = eq_then (nat_cmp a v) (nat_cmp b p) is in
    absurd (subst T (sym (apart (sym (same_place b p tie.1))) ∙ ap (λ n. not (n == v)) (same_place a v tie.0) ∙ ap not (own_number v)) tt)
other_pair a b v p apart false is = refl

pub taken_kept : (a b : ℕ) (ks ls : Pairs) → ((q : ℕ × ℕ) → has_pair ls q.0 q.1 ≡ cond (is_at (pair_cmp (a, b)) q) false (has_pair ks q.0 q.1)) → KeptBut (λ v. not (a == v)) b ks ls
taken_kept a b ks ls told = record { kept = λ v p is apart. told (v, p) ∙ ap (λ x. cond x false (has_pair ks v p)) (other_pair a b v p apart (is_eq (pair_cmp (a, b) (v, p))) refl) ∙ is }

-- ## What grows, and what is kept

pub grown_same : (ks ls : Pairs) → ls ≡ ks → Grown ks ls
grown_same ks ls same = record { grown = λ v p is. ap (λ l. has_pair l v p) same ∙ is }

pub grown_own : (ks : Pairs) → Grown ks ks
grown_own ks = grown_same ks ks refl

pub grown_on : (ks ls ms : Pairs) → Grown ks ls → Grown ls ms → Grown ks ms
grown_on ks ls ms one two = record { grown = λ v p is. two.grown v p (one.grown v p is) }

pub kept_same : (own : ℕ → Bool) (place : ℕ) (ks ls : Pairs) → ls ≡ ks → KeptBut own place ks ls
kept_same own place ks ls same = record { kept = λ v p is _. ap (λ l. has_pair l v p) same ∙ is }

pub kept_on : (own : ℕ → Bool) (place : ℕ) (ks ls ms : Pairs) → KeptBut own place ks ls → KeptBut own place ls ms → KeptBut own place ks ms
kept_on own place ks ls ms one two = record { kept = λ v p is passes. two.kept v p (one.kept v p is passes) passes }

-- a number that doesn't pass goes
pub ended : (own : ℕ → Bool) (old place : ℕ) (ks ls : Pairs) → own old ≡ false → KeptBut (λ v. not (old == v)) place ks ls → KeptBut own place ks ls
ended own old place ks ls fails one = record { kept = λ v p is passes. one.kept v p is (λ at. apart v (passes at) (old == v) refl) }
  where
    apart : (v : ℕ) → own v ≡ true → (b : Bool) → (old == v) ≡ b → not b ≡ true
    apart v passes true same = absurd (not_true (own v) passes (ap own (sym (same_number old v same)) ∙ fails))
    apart v passes false same = refl

-- ## What is there

pub none_new : (old : ℕ → Bool) (place : ℕ) (ks : Pairs) → HasOr old (is_number None) place ks
none_new old place ks = record { has = λ v is. absurd (subst T (sym is) tt) }

pub one_new : (old : ℕ → Bool) (new place : ℕ) (ks : Pairs) → (old new || has_pair ks new place) ≡ true → HasOr old (is_number (Some new)) place ks
one_new old new place ks there = record { has = λ v is. subst (λ n. (old n || has_pair ks n place) ≡ true) (same_number new v is) there }

or_grown : (a x y : Bool) → (x ≡ true → y ≡ true) → (a || x) ≡ true → (a || y) ≡ true
or_grown true x y goes is = refl
or_grown false x y goes is = goes is

pub two_new : (old : ℕ → Bool) (new : ℕ × ℕ) (place : ℕ) (ks ls : Pairs) → (old new.0 || has_pair ks new.0 place) ≡ true → Grown ks ls → (old new.1 || has_pair ls new.1 place) ≡ true → HasOr old (in_groups new) place ls
two_new old new place ks ls one more two = record { has = λ v is. by v (new.0 == v) refl is }
  where
    by : (v : ℕ) (b : Bool) → (new.0 == v) ≡ b → (b || (new.1 == v)) ≡ true → (old v || has_pair ls v place) ≡ true
    by v true same is = subst (λ n. (old n || has_pair ls n place) ≡ true) (same_number new.0 v same) (or_grown (old new.0) (has_pair ks new.0 place) (has_pair ls new.0 place) (more.grown new.0 place) one)
    by v false same is = subst (λ n. (old n || has_pair ls n place) ≡ true) (same_number new.1 v is) two

-- two that are alike are one
pub twice_new : (old : ℕ → Bool) (new : ℕ × ℕ) (place : ℕ) (ks : Pairs) → (old new.0 || has_pair ks new.0 place) ≡ true → new.1 ≡ new.0 → HasOr old (in_groups new) place ks
twice_new old new place ks one same = two_new old new place ks ks one (grown_own ks) (subst (λ n. (old n || has_pair ks n place) ≡ true) (sym same) one)

-- what was there and what came
pub has_new : (old new : ℕ → Bool) (place : ℕ) (ks ls : Pairs) → HasOwn old place ks → Grown ks ls → HasOr old new place ls → HasOwn new place ls
has_new old new place ks ls had more there = record { has = λ v is. by v (old v) refl (there.has v is) }
  where
    by : (v : ℕ) (b : Bool) → old v ≡ b → (b || has_pair ls v place) ≡ true → has_pair ls v place ≡ true
    by v true own is = more.grown v place (had.has v own)
    by v false own is = is
