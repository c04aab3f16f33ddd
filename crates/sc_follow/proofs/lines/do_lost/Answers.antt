use Rattle.sc_follow.proofs.LineSteps.{lost_cut, lost_done}
use Rattle.sc_follow.proofs.lines.do_lost.Goals as goal

pub returns-in-Ok-clause-ok : goal.returns-in-Ok-clause-ok
returns-in-Ok-clause-ok c = lost_done _ _ _ _ _ c.in-Ok.ensures.ok c.drop_of.ensures

pub returns-in-Err-clause-err : goal.returns-in-Err-clause-err
returns-in-Err-clause-err c = lost_cut _ _ _ _ _ c.in-Err.ensures.err c.requires.untaken c.in-Err.ensures.stopped
