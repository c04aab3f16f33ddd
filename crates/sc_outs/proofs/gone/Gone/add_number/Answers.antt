use Rattle.sc_outs.proofs.Numbers.{more_in}
use Rattle.sc_outs.proofs.gone.Gone.add_number.Goals as goal

pub returns-clause-ok : goal.returns-clause-ok
returns-clause-ok c = more_in _ _ _ _ c.self.view_is c.in_ok-insert.ensures.updates
