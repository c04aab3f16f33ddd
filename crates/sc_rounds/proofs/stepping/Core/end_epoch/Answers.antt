use Rattle.std.proofs.Common.{refl}
use Rattle.sc_rounds.proofs.Overs.{refused_over, turned_over, undue_over}
use Rattle.sc_rounds.proofs.Steppings.{moved_same, same_core, turned_moment, turned_same}
use Rattle.sc_rounds.proofs.stepping.Core.end_epoch.Goals as goal

pub returns-then-not-is_epoch_due-clause-same : goal.returns-then-not-is_epoch_due-clause-same
returns-then-not-is_epoch_due-clause-same g c = same_core _ _

pub returns-in-Ok-clause-same : goal.returns-in-Ok-clause-same
returns-in-Ok-clause-same g c = turned_same c.args.self.now _ _ _ c.in-Ok.field-0 c.in-Ok.ensures.turned c.in-Ok.ensures.last (c.is_epoch_due.ensures.long c.if-not-is_epoch_due.false) c.epoch.ensures

pub returns-in-Ok-clause-moment : goal.returns-in-Ok-clause-moment
returns-in-Ok-clause-moment g c = turned_moment _ _ _ c.in-Ok.ensures.turned

pub returns-in-Err-clause-same : goal.returns-in-Err-clause-same
returns-in-Err-clause-same g c = moved_same _ _ _ c.in-Err.ensures.err refl refl refl refl refl

pub returns-then-not-is_epoch_due-clause-over : goal.returns-then-not-is_epoch_due-clause-over
returns-then-not-is_epoch_due-clause-over g c = undue_over _ _ (c.is_epoch_due.ensures.lives c.if-not-is_epoch_due.true)

pub returns-in-Ok-clause-over : goal.returns-in-Ok-clause-over
returns-in-Ok-clause-over g c = turned_over _ _ _ c.in-Ok.field-0 c.in-Ok.ensures.turned

pub returns-in-Err-clause-over : goal.returns-in-Err-clause-over
returns-in-Err-clause-over g c = refused_over _ _ _ _ c.in-Err.ensures.err c.in-Err.ensures.refused
