use Rattle.std.proofs.Common.{false}
use Rattle.sc_edge.specs.declared.edge.Polled.TheVariants as answers
use Rattle.sc_courses.proofs.HeardLaws.{ends_so}
use Rattle.sc_rounds.proofs.OftenGivings.{end_gives}
use Rattle.sc_rounds.proofs.Servings.{ended_lost, serves_lost}
use Rattle.sc_rounds.proofs.polling.take_end.Goals as goal

pub returns-in-Ok-clause-ok : goal.returns-in-Ok-clause-ok
returns-in-Ok-clause-ok g c from old new s comes =
    serves_lost from old new (g.N.Notice.noted c.args.notice.now) (g.N.Notice.noted c.lose.new.notice) _ _ _ _ (answers.End c.args.at) c.args.at false comes (ends_so c.args.at) c.in-Ok.ensures.ok c.lose.ensures.kept s

pub returns-in-Err-clause-err : goal.returns-in-Err-clause-err
returns-in-Err-clause-err g c from old new s comes =
    ended_lost from old new (g.N.Notice.noted c.args.notice.now) (g.N.Notice.noted c.lose.new.notice) _ c.lose.new.core _ (answers.End c.args.at) c.args.at false comes (ends_so c.args.at) c.in-Err.ensures.err s

pub returns-in-Ok-clause-none : goal.returns-in-Ok-clause-none
returns-in-Ok-clause-none g c place e = cc

pub returns-in-Err-clause-none : goal.returns-in-Err-clause-none
returns-in-Err-clause-none g c place e = cc

pub returns-in-Ok-clause-gives : goal.returns-in-Ok-clause-gives
returns-in-Ok-clause-gives g c = end_gives _ _ _ c.lose.ensures.kept
