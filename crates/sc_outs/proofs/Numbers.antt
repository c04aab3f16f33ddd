-- The numbers of the connections that are gone.
use Rattle.std.proofs.Common.{◌≡◌, ℕ, ◌==◌, Bool, true, false, ◌||◌, cond, List, [], ◌∷◌, refl, ap, sym, ◌∙◌, subst, arith}
use Rattle.std.proofs.lemmas.Bool.Decides.{nat_tests}
use Rattle.std.specs.BTreeSet.{BTreeSet, Updates, contains_by}
use Rattle.std.specs.Cmp.{unsigned_tied}
use Rattle.std.specs.List.{list_any}
use Rattle.std.specs.Ordering.{is_eq, nat_cmp}
use Rattle.sc_value.specs.declared.ids.Place.{Place}
use Rattle.sc_value.specs.declared.ids.Place.TheVariants.{Back, To}
use Rattle.sc_value.specs.Places.{same_place}
use Rattle.sc_outs.specs.Owing.{IsGoneToo, is_among, is_gone_from}

found : (number : ℕ) (numbers : List ℕ) → list_any (λ (k : ℕ). is_eq (nat_cmp number k)) numbers ≡ is_among numbers number
unfolding is_among
found number [] = refl
found number (k ∷ ks) = rw (unsigned_tied number k, found number ks) refl

turned : (a b : ℕ) → (a == b) ≡ (b == a)
turned a b = grind (arith, nat_tests)

or_true : (a b : Bool) → cond b true a ≡ (a || b)
or_true true true = refl
or_true true false = refl
or_true false true = refl
or_true false false = refl

or_none : (b : Bool) → b ≡ (b || false)
or_none true = refl
or_none false = refl

gone_more : (number : ℕ) (old new : List ℕ)
    → ((q : ℕ) → list_any (λ (k : ℕ). is_eq (nat_cmp q k)) new ≡ cond (is_eq (nat_cmp number q)) true (list_any (λ (k : ℕ). is_eq (nat_cmp q k)) old)) → IsGoneToo (Back number) old new
unfolding IsGoneToo is_gone_from same_place
gone_more number old new e (Back q) =
    sym (found q new) ∙ (e q ∙ rw (unsigned_tied number q, found q old, turned number q) (or_true (is_among old q) (q == number)))
gone_more number old new e (To ip port) = refl

-- a set has a number exactly where it is one of its keys
pub found_in : (number : ℕ) (s : BTreeSet ℕ) (numbers : List ℕ) (b : Bool) → s.keys ≡ numbers → b ≡ contains_by (nat_cmp number) s → b ≡ is_among numbers number
found_in number s numbers b keys is = is ∙ (found number s.keys ∙ ap (λ (ks : List ℕ). is_among ks number) keys)

-- a number was put into a set
pub more_in : (number : ℕ) (s t : BTreeSet ℕ) (old : List ℕ) → s.keys ≡ old → Updates nat_cmp s t number true → IsGoneToo (Back number) old t.keys
more_in number s t old keys updates = subst (λ (ks : List ℕ). IsGoneToo (Back number) ks t.keys) keys (gone_more number s.keys t.keys updates.0)

-- an address that failed changes nothing
pub gone_never : (at : Place) (ip : List ℕ) (port : ℕ) (numbers : List ℕ) → at ≡ To ip port → IsGoneToo at numbers numbers
unfolding IsGoneToo
gone_never at ip port numbers is place = rw is (or_none (is_gone_from numbers place))
