use Rattle.sc_rounds.proofs.Listenings.{broke_first, broke_later, broke_off}
use Rattle.sc_rounds.proofs.hearing.break_off.Goals as goal

pub returns-in-Ok-lose-clause-ok : goal.returns-in-Ok-lose-clause-ok
returns-in-Ok-lose-clause-ok g c = broke_off _ _ _ _ _ (g.N.Notice.noted c.args.notice.now) (g.N.Notice.noted c.hear_bad.new.notice) (g.N.Notice.noted c.lose.new.notice) c.in-Ok.ensures.ok c.in-Ok-lose.ensures.ok

pub returns-in-Err-lose-clause-err : goal.returns-in-Err-lose-clause-err
returns-in-Err-lose-clause-err g c = broke_later _ _ _ _ _ (g.N.Notice.noted c.args.notice.now) (g.N.Notice.noted c.hear_bad.new.notice) (g.N.Notice.noted c.lose.new.notice) c.in-Ok.ensures.ok c.in-Err-lose.ensures.err

pub returns-in-Err-clause-err : goal.returns-in-Err-clause-err
returns-in-Err-clause-err g c = broke_first _ _ _ _ (g.N.Notice.noted c.args.notice.now) (g.N.Notice.noted c.hear_bad.new.notice) c.in-Err.ensures.err
