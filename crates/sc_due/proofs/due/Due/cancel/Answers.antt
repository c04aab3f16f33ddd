use Rattle.sc_due.proofs.HeldLaws.{one_ended}
use Rattle.sc_due.proofs.due.Due.cancel.Goals as goal

pub returns-clause-ended : goal.returns-clause-ended
returns-clause-ended g c = λ events stands. one_ended events c.args.self.now c.self.inside.kept.entries c.remove.new.self.entries c.args.key c.self.view_is c.remove.ensures.entries stands
