use Rattle.sc_rounds.proofs.Servings.{failed_err, failed_ok}
use Rattle.sc_rounds.proofs.polling.fail.Goals as goal

pub returns-clause-ok : goal.returns-clause-ok
returns-clause-ok g c from old new s comes = failed_ok _ from old new (g.N.Notice.noted c.args.notice.now) (g.N.Notice.noted c.fail.new.notice) _ _ _ _ _ comes c.fail.ensures.ok c.drop_of.ensures s

pub returns-clause-err : goal.returns-clause-err
returns-clause-err g c from old new s comes = failed_err _ from old new (g.N.Notice.noted c.args.notice.now) (g.N.Notice.noted c.fail.new.notice) _ c.fail.new.self _ _ comes c.fail.ensures.err s
