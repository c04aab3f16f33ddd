-- The orders of one poster, in a list that grows.
use Rattle.std.proofs.Common.{◌≡◌, ◌≢◌, ℕ, ◌<◌, Bool, true, false, List, [], ◌∷◌, ◌++◌, refl, sym, ap, ◌∙◌, arith, nat_eq, eq-eqb, ne_eqb, if◌then◌else◌}
use Rattle.std.specs.List.{AllByRecursion}
use Rattle.sc_edge.specs.declared.orders.Order.{Order}
use Rattle.sc_desk.specs.declared.posted.Posted.{Posted}
use Rattle.sc_desk.specs.DeskRules.{orders_by}

more-by : (number : ℕ) (p : Posted) (later : List Posted) (b : Bool) → nat_eq p.by number ≡ b → orders_by number (p ∷ later) ≡ (if b then p.order ∷ orders_by number later else orders_by number later)
unfolding orders_by
more-by number p later true is = rw is refl
more-by number p later false is = rw is refl

joined-by : (number : ℕ) (p : Posted) (xs ys : List Posted) (b : Bool) → nat_eq p.by number ≡ b → orders_by number (xs ++ ys) ≡ orders_by number xs ++ orders_by number ys
    → orders_by number (p ∷ (xs ++ ys)) ≡ orders_by number (p ∷ xs) ++ orders_by number ys
joined-by number p xs ys true is later = more-by number p (xs ++ ys) true is ∙ (ap (λ (rest : List Order). p.order ∷ rest) later ∙ ap (λ (rest : List Order). rest ++ orders_by number ys) (sym (more-by number p xs true is)))
joined-by number p xs ys false is later = more-by number p (xs ++ ys) false is ∙ (later ∙ ap (λ (rest : List Order). rest ++ orders_by number ys) (sym (more-by number p xs false is)))

none-by : (number : ℕ) → orders_by number [] ≡ []
unfolding orders_by
none-by number = refl

pub by_append : (number : ℕ) (xs ys : List Posted) → orders_by number (xs ++ ys) ≡ orders_by number xs ++ orders_by number ys
by_append number [] ys = ap (λ (first : List Order). first ++ orders_by number ys) (sym (none-by number))
by_append number (p ∷ xs) ys = joined-by number p xs ys (nat_eq p.by number) refl (by_append number xs ys)

pub by_mine : (number : ℕ) (p : Posted) → p.by ≡ number → orders_by number (p ∷ []) ≡ p.order ∷ []
by_mine number p is = more-by number p [] true (eq-eqb p.by number is) ∙ ap (λ (rest : List Order). p.order ∷ rest) (none-by number)

pub by_other : (number : ℕ) (p : Posted) → p.by ≢ number → orders_by number (p ∷ []) ≡ []
by_other number p apart = more-by number p [] false (ne_eqb p.by number apart) ∙ none-by number

-- a poster that is to come posted none
pub by_none : (number : ℕ) (all : List Posted) → AllByRecursion (λ (p : Posted). p.by < number) all → orders_by number all ≡ []
by_none number [] below = none-by number
by_none number (p ∷ later) below =
    more-by number p later false (ne_eqb p.by number (λ same. let less = below.0 in omega (arith, less, same))) ∙ by_none number later below.1
