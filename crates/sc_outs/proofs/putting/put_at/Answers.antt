use Rattle.sc_outs.proofs.EntryLaws.{read_at}
use Rattle.sc_outs.proofs.Puttings.{tried_failed, tried_none, tried_not, tried_wrote, within}
use Rattle.sc_outs.proofs.putting.put_at.Goals as goal

pub returns-then-is_empty-clause-tried : goal.returns-then-is_empty-clause-tried
returns-then-is_empty-clause-tried g c gone = tried_none (g.E.Edge.state c.args.edge.now) _ _ gone

pub take_at-requires-clause-within : goal.take_at-requires-clause-within
take_at-requires-clause-within g c = within _ _ _ (read_at _ _ _ _ _ _ c.as_slice.ensures c.requires.at c.index-as_slice-at.is c.left-left.ensures) c.in-Wrote.ensures.bound.0

pub returns-in-Wrote-clause-tried : goal.returns-in-Wrote-clause-tried
returns-in-Wrote-clause-tried g c gone =
    tried_wrote (g.E.Edge.state c.args.edge.now) (g.E.Edge.state c.put.new.self) _ _ _ gone _ _ _ (read_at _ _ _ _ _ _ c.as_slice.ensures c.requires.at c.index-as_slice-at.is c.left-left.ensures) c.is_empty.ensures c.if-is_empty.false c.take_at.ensures.left
    c.in-Wrote.ensures.took c.in-Wrote.ensures.stands c.in-Wrote.ensures.tells

pub returns-in-NotYet-clause-tried : goal.returns-in-NotYet-clause-tried
returns-in-NotYet-clause-tried g c gone =
    tried_not (g.E.Edge.state c.args.edge.now) (g.E.Edge.state c.put.new.self) _ _ gone _ _ (read_at _ _ _ _ _ _ c.as_slice.ensures c.requires.at c.index-as_slice-at.is c.left-left.ensures) c.is_empty.ensures c.if-is_empty.false
    c.in-NotYet.ensures.took c.in-NotYet.ensures.stands c.in-NotYet.ensures.tells

pub returns-in-Failed-clause-tried : goal.returns-in-Failed-clause-tried
returns-in-Failed-clause-tried g c gone =
    tried_failed (g.E.Edge.state c.args.edge.now) (g.E.Edge.state c.put.new.self) _ _ gone _ _ (read_at _ _ _ _ _ _ c.as_slice.ensures c.requires.at c.index-as_slice-at.is c.left-left.ensures) c.is_empty.ensures c.if-is_empty.false
    c.in-Failed.ensures.took c.in-Failed.ensures.stands c.in-Failed.ensures.tells
