use Rattle.sc_outs.proofs.Puttings.{tried_none}
use Rattle.sc_outs.proofs.putting.put_left.Goals as goal

pub returns-in-None-clause-tried : goal.returns-in-None-clause-tried
returns-in-None-clause-tried g c gone = tried_none (g.E.Edge.state c.args.edge.now) _ _ gone
