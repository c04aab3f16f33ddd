-- Small laws of tests, orders and Options.
use Rattle.std.proofs.Common.{◌≡◌, ◌==◌, ℕ, Bool, true, false, ◌&&◌, ◌||◌, T, Option, Some, None, refl, ap, sym, subst, ◌∙◌, arith}
use Rattle.std.proofs.lemmas.Bool.Decides.{nat_tests}
use Rattle.std.specs.declared.cmp.Ordering.{Ordering}
use Rattle.std.specs.declared.cmp.Ordering.TheVariants.{Less, Equal, Greater}
use Rattle.std.specs.Prelude.{Result, OnOk, OnErr}
use Rattle.std.specs.declared.result.Result.TheVariants.{Ok, Err}
use Rattle.std.specs.Ordering.{nat_cmp, is_eq, is_lt, ordering_then}

-- ## Tests

pub turned : (b : Bool) → b ≡ true → T b
turned b e = subst T (sym e) tt

pub whole : (b : Bool) → T b → b ≡ true
whole true p = refl
whole false p = absurd p

pub not_true : (b : Bool) → b ≡ true → b ≡ false → ⊥
not_true b e f = subst T (sym e ∙ f) tt

pub first : (a b : Bool) → T (a && b) → T a
first true b p = tt
first false b p = absurd p

pub second : (a b : Bool) → T (a && b) → T b
second true b p = p
second false b p = absurd p

pub joined : (a b : Bool) → T a → T b → T (a && b)
joined true b p q = q
joined false b p q = absurd p

pub both : (a b : Bool) → a ≡ true → b ≡ true → (a && b) ≡ true
both a b p q = ap (λ x. x && b) p ∙ q

pub and_first : (a b : Bool) → (a && b) ≡ true → a ≡ true
and_first true b e = refl
and_first false b e = e

pub and_second : (a b : Bool) → (a && b) ≡ true → b ≡ true
and_second true b e = e
and_second false b e = absurd (subst T (sym e) tt)

pub or_true : (a : Bool) → (a || true) ≡ true
or_true true = refl
or_true false = refl

-- ## Options

abbrev pub has_one : {A : Type 0} → Option A → Type 0
has_one None = ⊥
has_one (Some a) = Unit {0}

pub none_some : {A : Type 0} (a : A) → None ≡ Some a → ⊥
none_some a e = subst has_one (sym e) tt

pub some_is : {A : Type 0} (x y : A) → Some x ≡ Some y → x ≡ y
some_is x y e = ap (λ o. elim o as (λ _. _) [ None ↦ x | Some z ↦ z ]) e

-- ## Results

pub either_way : {A E P Q R : Type 0} (r : Result A E) → OnOk r P → OnErr r Q → (P → R) → (Q → R) → R
either_way (Ok x) one two goes back = goes one
either_way (Err e) one two goes back = back two

pub on_ok : {A E P Q : Type 0} (r : Result A E) → (P → Q) → OnOk r P → OnOk r Q
on_ok (Ok x) goes is = goes is
on_ok (Err e) goes is = tt

-- ## Numbers

pub same_number : (a b : ℕ) → (a == b) ≡ true → a ≡ b
same_number a b e = grind (arith, nat_tests, e)

pub same_place : (a b : ℕ) → is_eq (nat_cmp a b) ≡ true → a ≡ b
same_place a b e = grind (arith, nat_tests, e)

pub own_number : (n : ℕ) → (n == n) ≡ true
own_number n = grind (arith, nat_tests)

pub itself : (n : ℕ) → is_eq (nat_cmp n n) ≡ true
itself n = grind (arith, nat_tests)

pub same_test : (a b : ℕ) → is_eq (nat_cmp a b) ≡ (a == b)
same_test a b = grind (arith, nat_tests)

pub flip_test : (a b : ℕ) → (a == b) ≡ is_eq (nat_cmp b a)
flip_test a b = grind (arith, nat_tests)

pub swap_test : (a b : ℕ) → (a == b) ≡ (b == a)
swap_test a b = grind (arith, nat_tests)

pub flip_order : (a b : ℕ) → nat_cmp a b ≡ Greater → nat_cmp b a ≡ Less
flip_order a b e = grind (arith, nat_tests, e)

pub not_self : (a : ℕ) → nat_cmp a a ≡ Less → ⊥
not_self a e = absurd (subst (λ o. T (is_eq o)) e (turned (is_eq (nat_cmp a a)) (itself a)))

pub not_both : (a b : ℕ) → nat_cmp a b ≡ Less → nat_cmp b a ≡ Less → ⊥
not_both a b p q = not_self a (chain a b p q)
  where
    chain : (a b : ℕ) → nat_cmp a b ≡ Less → nat_cmp b a ≡ Less → nat_cmp a a ≡ Less
    chain a b p q = grind (arith, nat_tests, p, q)

-- ## Orders

pub tied : (o : Ordering) → is_eq o ≡ true → o ≡ Equal
tied Less e = absurd (subst T (sym e) tt)
tied Equal e = refl
tied Greater e = absurd (subst T (sym e) tt)

pub less : (o : Ordering) → o ≡ Less → T (is_lt o)
less o e = subst (λ o. T (is_lt o)) (sym e) tt

pub less_tested : (o : Ordering) → T (is_lt o) → o ≡ Less
less_tested Less p = refl
less_tested Equal p = absurd p
less_tested Greater p = absurd p

pub eq_then : (a b : Ordering) → is_eq (ordering_then a b) ≡ true → (is_eq a ≡ true) × (is_eq b ≡ true)
eq_then Less b e = absurd (subst T (sym e) tt)
eq_then Equal b e = (refl, e)
eq_then Greater b e = absurd (subst T (sym e) tt)

pub then_eq : (a b : Ordering) → is_eq a ≡ true → is_eq b ≡ true → is_eq (ordering_then a b) ≡ true
then_eq Less b p q = p
then_eq Equal b p q = q
then_eq Greater b p q = p
