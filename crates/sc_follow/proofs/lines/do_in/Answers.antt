use Rattle.sc_follow.proofs.LineSteps.{fed_cut, fed_done, in_starved}
use Rattle.sc_follow.proofs.lines.do_in.Goals as goal

pub returns-in-Ok-clause-ok : goal.returns-in-Ok-clause-ok
returns-in-Ok-clause-ok c = fed_done _ _ _ _ _ _ _ c.hear_all.result c.in-Ok.ensures c.hear_all.ensures.kept c.hear_all.ensures.ok

pub returns-in-Ok-clause-err : goal.returns-in-Ok-clause-err
returns-in-Ok-clause-err c = fed_cut _ _ _ _ _ _ c.hear_all.result c.in-Ok.ensures c.hear_all.ensures.err

pub returns-in-Err-clause-err : goal.returns-in-Err-clause-err
returns-in-Err-clause-err c = in_starved _ _ _ _ c.requires.untaken
