use Rattle.sc_rounds.proofs.Servings.{failed_kept, put_failed, put_not_yet, put_wrote}
use Rattle.sc_rounds.proofs.GivingUps.{tried_on}
use Rattle.sc_rounds.proofs.OftenGivings.{failed_on, unwritten_on, wrote_on}
use Rattle.sc_rounds.proofs.putting.put_place.Goals as goal

pub returns-in-Wrote-clause-ok : goal.returns-in-Wrote-clause-ok
returns-in-Wrote-clause-ok g c from s = put_wrote from (g.E.Edge.state c.args.edge.now) (g.E.Edge.state c.put.new.edge) (g.N.Notice.noted c.args.notice.now) _ _ _ _ _ _ c.in-Wrote.is c.put.ensures.tried s

pub returns-in-NotYet-clause-ok : goal.returns-in-NotYet-clause-ok
returns-in-NotYet-clause-ok g c from s = put_not_yet from (g.E.Edge.state c.args.edge.now) (g.E.Edge.state c.put.new.edge) (g.N.Notice.noted c.args.notice.now) _ _ _ _ _ c.in-NotYet.is c.put.ensures.tried s

pub returns-in-Ok-clause-ok : goal.returns-in-Ok-clause-ok
returns-in-Ok-clause-ok g c from s =
    c.in-Ok.ensures.ok from (g.E.Edge.state c.args.edge.now) (g.E.Edge.state c.put.new.edge)
    (failed_kept from (g.E.Edge.state c.args.edge.now) (g.E.Edge.state c.put.new.edge) (g.N.Notice.noted c.args.notice.now) _ _ _ _ _ c.in-Failed.is c.put.ensures.tried s)
    (put_failed (g.E.Edge.state c.args.edge.now) (g.E.Edge.state c.put.new.edge) _ _ _ _ c.in-Failed.is c.put.ensures.tried)

pub returns-in-Err-clause-err : goal.returns-in-Err-clause-err
returns-in-Err-clause-err g c from s =
    c.in-Err.ensures.err from (g.E.Edge.state c.args.edge.now) (g.E.Edge.state c.put.new.edge)
    (failed_kept from (g.E.Edge.state c.args.edge.now) (g.E.Edge.state c.put.new.edge) (g.N.Notice.noted c.args.notice.now) _ _ _ _ _ c.in-Failed.is c.put.ensures.tried s)
    (put_failed (g.E.Edge.state c.args.edge.now) (g.E.Edge.state c.put.new.edge) _ _ _ _ c.in-Failed.is c.put.ensures.tried)

pub returns-in-Wrote-clause-tells : goal.returns-in-Wrote-clause-tells
returns-in-Wrote-clause-tells g c = tried_on (g.E.Edge.state c.args.edge.now) (g.E.Edge.state c.put.new.edge) _ _ _ _ c.put.ensures.tried

pub returns-in-NotYet-clause-tells : goal.returns-in-NotYet-clause-tells
returns-in-NotYet-clause-tells g c = tried_on (g.E.Edge.state c.args.edge.now) (g.E.Edge.state c.put.new.edge) _ _ _ _ c.put.ensures.tried

pub returns-in-Ok-clause-tells : goal.returns-in-Ok-clause-tells
returns-in-Ok-clause-tells g c = tried_on (g.E.Edge.state c.args.edge.now) (g.E.Edge.state c.put.new.edge) _ _ _ _ c.put.ensures.tried

pub returns-in-Err-clause-tells : goal.returns-in-Err-clause-tells
returns-in-Err-clause-tells g c = tried_on (g.E.Edge.state c.args.edge.now) (g.E.Edge.state c.put.new.edge) _ _ _ _ c.put.ensures.tried

pub returns-in-Wrote-clause-gives : goal.returns-in-Wrote-clause-gives
returns-in-Wrote-clause-gives g c = wrote_on (g.E.Edge.state c.args.edge.now) (g.E.Edge.state c.put.new.edge) _ _ _ _ _ _ c.in-Wrote.is c.put.ensures.tried

pub returns-in-NotYet-clause-gives : goal.returns-in-NotYet-clause-gives
returns-in-NotYet-clause-gives g c = unwritten_on (g.E.Edge.state c.args.edge.now) (g.E.Edge.state c.put.new.edge) _ _ _ _ _ c.in-NotYet.is c.put.ensures.tried

pub returns-in-Ok-clause-gives : goal.returns-in-Ok-clause-gives
returns-in-Ok-clause-gives g c = failed_on (g.E.Edge.state c.args.edge.now) (g.E.Edge.state c.put.new.edge) _ _ _ _ _ _ c.in-Failed.is c.put.ensures.tried c.fail.ensures.kept

pub returns-in-Err-clause-gives : goal.returns-in-Err-clause-gives
returns-in-Err-clause-gives g c = failed_on (g.E.Edge.state c.args.edge.now) (g.E.Edge.state c.put.new.edge) _ _ _ _ _ _ c.in-Failed.is c.put.ensures.tried c.fail.ensures.kept
