use Rattle.sc_rounds.proofs.Steppings.{same_core}
use Rattle.sc_rounds.proofs.stepping.Core.hand_on.Goals as goal

pub returns-then-not-is_part_due-clause-same : goal.returns-then-not-is_part_due-clause-same
returns-then-not-is_part_due-clause-same g c = same_core _ _

pub returns-clause-same : goal.returns-clause-same
returns-clause-same g c = c.hand_all.ensures.same
