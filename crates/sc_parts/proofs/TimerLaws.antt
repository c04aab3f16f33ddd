-- Laws of the order of timers' names.
use Rattle.std.proofs.Common.{◌≡◌, ℕ, true, cond, refl, sym, ap, ◌∙◌}
use Rattle.std.proofs.lemmas.Bool.{false≢true}
use Rattle.std.proofs.lemmas.Cmp.{nat_cmp_total, on_total, then_total, tied_itself}
use Rattle.std.proofs.lemmas.Map.Lookups.{CmpEqualImpliesEq, exact_unsigned, exact_pairs}
use Rattle.std.specs.Prelude.{◌==◌}
use Rattle.std.specs.Cmp.{IsTotalOrder}
use Rattle.std.specs.declared.cmp.Ordering.{Ordering}
use Rattle.std.specs.declared.cmp.Ordering.TheVariants.{Less, Equal, Greater}
use Rattle.std.specs.Ordering.{is_eq, nat_cmp}
use Rattle.sc_parts.specs.declared.timers.TimerName.{TimerName}
use Rattle.sc_parts.specs.declared.timers.TimerName.TheVariants.{Expiry, Servlet, Branch, Client, Cancel, Server}
use Rattle.sc_parts.specs.TimerNames.{number_of, rank_of, timer_order, same_timer}

pub timers_total : IsTotalOrder timer_order
timers_total = then_total (on_total number_of nat_cmp_total) (on_total rank_of nat_cmp_total)

-- ## Names that compare alike are one

-- the name of this number and rank
abbrev name_at : ℕ × ℕ → TimerName
name_at p =
    cond (p.1 == 0) Expiry (cond (p.1 == 1) (Servlet (record { 0 = p.0 })) (cond (p.1 == 2) (Branch p.0)
    (cond (p.1 == 3) (Client p.0) (cond (p.1 == 4) (Cancel p.0) (Server p.0)))))

own-name : (timer : TimerName) → timer ≡ name_at (number_of timer, rank_of timer)
own-name Expiry = refl
own-name (Servlet id) = refl
own-name (Branch number) = refl
own-name (Client branch) = refl
own-name (Cancel branch) = refl
own-name (Server event) = refl

pub timers_exact : CmpEqualImpliesEq timer_order
timers_exact a b h =
    own-name a ∙ ap name_at (exact_pairs nat_cmp nat_cmp exact_unsigned exact_unsigned (number_of a, rank_of a) (number_of b, rank_of b) h)
    ∙ sym (own-name b)

tied : (o : Ordering) → is_eq o ≡ true → o ≡ Equal
tied Equal h = refl
tied Less h = absurd (false≢true h)
tied Greater h = absurd (false≢true h)

pub timer_is : (a b : TimerName) → same_timer a b ≡ true → a ≡ b
timer_is a b h = timers_exact a b (tied (timer_order a b) h)

pub timer_itself : (timer : TimerName) → same_timer timer timer ≡ true
timer_itself timer = ap is_eq (tied_itself timers_total timer)
