use Rattle.std.proofs.Common.{refl}
use Rattle.sc_rounds.specs.Stepping.{Withdraws}
use Rattle.sc_rounds.proofs.Refusals.{withdrawal_due}
use Rattle.sc_rounds.proofs.Steppings.{gone_order, moved_same, none_withdrew, withdrew, withdrew_behind, withdrew_false, withdrew_true}
use Rattle.sc_rounds.proofs.stepping.Core.withdraw.Goals as goal

pub returns-in-Ok-clause-ok : goal.returns-in-Ok-clause-ok
unfolding Withdraws
returns-in-Ok-clause-ok g c =
    let lived = withdrew_true _ _ _ _ c.in-Ok-true.field-0-test c.in-Ok-true.ensures.ok in
    withdrew _ _ _ _ _ _ _ _ c.hand_on.ensures.same c.hand_on.ensures.epoch lived.1 lived.0 c.in-Ok.ensures.ok

pub returns-in-Err-settle-clause-err : goal.returns-in-Err-settle-clause-err
returns-in-Err-settle-clause-err g c =
    let lived = withdrew_true _ _ _ _ c.in-Ok-true.field-0-test c.in-Ok-true.ensures.ok in
    withdrew_behind _ _ _ _ _ _ _ _ c.hand_on.ensures.same c.hand_on.ensures.epoch lived.1 lived.0 c.in-Err-settle.ensures.err

pub returns-in-Ok-false-clause-ok : goal.returns-in-Ok-false-clause-ok
unfolding Withdraws
returns-in-Ok-false-clause-ok g c =
    let gone = withdrew_false _ _ _ _ c.in-Ok-false.field-0-test c.in-Ok-false.ensures.ok in
    gone_order _ _ _ _ _ _ c.hand_on.ensures.same c.hand_on.ensures.epoch gone.0 (moved_same _ _ _ gone.1 refl refl refl refl refl)

pub returns-in-Err-clause-err : goal.returns-in-Err-clause-err
returns-in-Err-clause-err g c = none_withdrew _ _ _ _ _ _ c.hand_on.ensures.same c.in-Err.ensures.err

pub returns-in-Err-clause-due : goal.returns-in-Err-clause-due
returns-in-Err-clause-due g c = withdrawal_due _ _ c.args.app _ c.in-Err.ensures.err c.in-Err.ensures.lives c.in-Err.ensures.refused
