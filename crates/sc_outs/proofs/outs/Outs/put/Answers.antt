use Rattle.sc_outs.proofs.Owings.{tried_seen}
use Rattle.sc_outs.proofs.outs.Outs.put.Goals as goal

pub returns-clause-tried : goal.returns-clause-tried
returns-clause-tried g c = tried_seen (g.E.Edge.state c.args.edge.now) (g.E.Edge.state c.put_left.new.edge) _ _ _ _ _ _ c.self.view_is c.put_left.ensures.tried
