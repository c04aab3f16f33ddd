use Rattle.sc_follow.proofs.Steppings.{withdrew_ok, still_err}
use Rattle.sc_follow.proofs.stepping.withdraw.Goals as goal

pub returns-clause-ok : goal.returns-clause-ok
returns-clause-ok c = withdrew_ok _ _ _ c.withdraw.result c.withdraw.ensures.ok c.requires.untaken c.requires.free

pub returns-clause-stopped : goal.returns-clause-stopped
returns-clause-stopped c = still_err _ _ c.withdraw.result c.withdraw.ensures.lives c.withdraw.ensures.refused
