use Rattle.sc_due.proofs.HeldLaws.{one_made}
use Rattle.sc_due.proofs.due.Due.add.Goals as goal

pub returns-clause-made : goal.returns-clause-made
returns-clause-made g c = λ events stands. one_made events c.args.self.now c.self.inside.kept.entries c.insert.new.self.entries c.args.key c.args.what c.self.view_is c.in_ok-insert.ensures.entries stands
