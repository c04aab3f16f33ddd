use Rattle.std.proofs.Common.{◌≡◌, ℕ, List, [], ◌++◌, take, refl, sym, subst, arith}
use Rattle.std.proofs.lemmas.Grind.{common_steps}
use Rattle.std.specs.Prelude.{Option, Result, Ok, Err, OnErr}
use Rattle.sc_edge.specs.Taking.{Takes, TakesPart, Takes_none, Takes_part, Takes_then}
use Rattle.sc_edge.proofs.putting.put_all.Goals as goal

pub loop-rest-init : goal.loop-rest-init
loop-rest-init g c = record { later = omega arith; put = ([], refl, Takes_none _) }

pub loop-rest-preserved : goal.loop-rest-preserved
loop-rest-preserved g c =
    let i = c.loop-rest.invariant in
    record {
      later = omega (arith, i.later, c.in_ok-count.ensures.later);
      put = (
        i.put.0 ++ take c.in_ok-count.count c.loop-rest.rest.now,
        grind (arith, common_steps, i.put.1, c.in_ok-count.ensures.bound.0),
        Takes_then _ _ _ _ _ i.put.2 c.in_ok-count.ensures.taken,
      );
    }

-- a fact holds of either answer
on_either : {A E P : Type 0} (r : Result A E) → P → OnErr r P
on_either (Ok a) p = tt
on_either (Err e) p = p

-- the sink took a front of the bytes, and nothing since
part : (a b c : Option (List ℕ)) (x y bytes : List ℕ) → bytes ≡ x ++ y → Takes a b x → c ≡ b → TakesPart a c bytes
part a b c x y bytes whole first same =
    subst (λ (m : Option (List ℕ)). TakesPart a m bytes) (sym same)
    (subst (λ (bs : List ℕ). TakesPart a b bs) (sym whole) (Takes_part a b x y first))

pub returns-in_err-count-clause-cut : goal.returns-in_err-count-clause-cut
returns-in_err-count-clause-cut g c =
    let i = c.loop-rest.invariant in
    on_either _ (part _ _ _ i.put.0 c.loop-rest.rest.now _ i.put.1 i.put.2 c.in_err-count.ensures.failed.0)
