use Rattle.std.proofs.Common.{refl}
use Rattle.sc_rounds.proofs.GivingUps.{broke_now, broken_came, gave_at}
use Rattle.sc_rounds.proofs.OftenGivings.{came_out}
use Rattle.sc_rounds.proofs.polling.hear_bytes.Goals as goal

pub returns-in-Ok-clause-gave : goal.returns-in-Ok-clause-gave
returns-in-Ok-clause-gave g c from edge text s place e =
    let (is, here) = broken_came _ place _ _ _ c.came_of.ensures refl e in
    gave_at _ _ _ _ here (broke_now (c.hear_all.ensures.gave from edge text s is))

pub returns-in-Ok-clause-gives : goal.returns-in-Ok-clause-gives
returns-in-Ok-clause-gives g c = came_out _ _ _ _ _ c.came_of.ensures (c.in-Ok.ensures.gives refl)
