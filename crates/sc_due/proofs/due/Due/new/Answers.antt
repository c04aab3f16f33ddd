use Rattle.sc_due.proofs.HeldLaws.{nothing_held}
use Rattle.sc_due.proofs.due.Due.new.Goals as goal

pub returns-clause-begins : goal.returns-clause-begins
returns-clause-begins g c = nothing_held c.new.result.entries c.new.ensures.empty
