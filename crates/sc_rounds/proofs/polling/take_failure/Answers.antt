use Rattle.sc_rounds.proofs.OftenGivings.{failed_gives}
use Rattle.sc_rounds.proofs.polling.take_failure.Goals as goal

pub returns-in-Ok-clause-none : goal.returns-in-Ok-clause-none
returns-in-Ok-clause-none g c place e = cc

pub returns-in-Err-clause-none : goal.returns-in-Err-clause-none
returns-in-Err-clause-none g c place e = cc

pub returns-in-Ok-clause-gives : goal.returns-in-Ok-clause-gives
returns-in-Ok-clause-gives g c = failed_gives _ _ _ c.fail.ensures.kept
