use Rattle.sc_outs.proofs.Numbers.{gone_never}
use Rattle.sc_outs.proofs.gone.Gone.add.Goals as goal

pub returns-in-To-clause-ok : goal.returns-in-To-clause-ok
returns-in-To-clause-ok c = gone_never _ _ _ _ c.in-To.is
