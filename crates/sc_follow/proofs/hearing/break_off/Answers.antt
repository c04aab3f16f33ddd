use Rattle.sc_follow.proofs.Hearings.{broken_ok, broken_err, cut_bad}
use Rattle.sc_follow.proofs.hearing.break_off.Goals as goal

pub returns-in-Ok-clause-ok : goal.returns-in-Ok-clause-ok
returns-in-Ok-clause-ok c = broken_ok _ _ _ _ _ c.lost.result c.in-Ok.ensures.ok c.lost.ensures.ok

pub returns-in-Ok-clause-err : goal.returns-in-Ok-clause-err
returns-in-Ok-clause-err c = broken_err _ _ _ _ _ c.lost.result c.in-Ok.ensures.ok c.lost.ensures.err c.lost.ensures.stopped

pub returns-in-Err-clause-err : goal.returns-in-Err-clause-err
returns-in-Err-clause-err c = cut_bad _ _ _ _ _ c.in-Err.ensures.err c.requires.untaken c.in-Err.ensures.stopped
