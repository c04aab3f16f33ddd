use Rattle.sc_follow.proofs.LineSteps.{withdrew_cut, withdrew_done}
use Rattle.sc_follow.proofs.lines.do_drop.Goals as goal

pub returns-in-Ok-clause-ok : goal.returns-in-Ok-clause-ok
returns-in-Ok-clause-ok c = withdrew_done _ _ _ _ c.in-Ok.ensures.ok c.requires.untaken c.requires.free

pub returns-in-Err-clause-err : goal.returns-in-Err-clause-err
returns-in-Err-clause-err c = withdrew_cut _ _ _ _ c.in-Err.ensures.err c.requires.untaken c.in-Err.ensures.stopped
