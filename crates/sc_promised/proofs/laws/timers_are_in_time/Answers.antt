use Rattle.sc_promised.proofs.DeadlineLaws.{refresh-early, peer-late}
use Rattle.sc_promised.proofs.Refreshes.{begun-timed}
use Rattle.sc_promised.proofs.laws.timers_are_in_time.Goals as goal

pub returns-clause-begun : goal.returns-clause-begun
returns-clause-begun c = begun-timed

pub returns-clause-early : goal.returns-clause-early
returns-clause-early c = refresh-early

pub returns-clause-other : goal.returns-clause-other
returns-clause-other c = peer-late
