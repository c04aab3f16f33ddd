use Rattle.sc_outs.proofs.Owings.{lost_seen}
use Rattle.sc_outs.proofs.outs.Outs.lose.Goals as goal

pub returns-clause-ok : goal.returns-clause-ok
returns-clause-ok c = lost_seen _ _ _ _ _ _ c.self.view_is c.drop_left.ensures.left c.in_ok-add.ensures.ok
