use Rattle.sc_book.proofs.PairLaws.{added_grown, added_there}
use Rattle.sc_book.proofs.index.Index.add.Goals as goal

pub returns-clause-grown : goal.returns-clause-grown
returns-clause-grown c = rw (← c.self.view_is) (added_grown c.args.number c.args.place c.self.inside.pairs.keys c.insert.new.self.keys c.in_ok-insert.ensures.updates.0)

pub returns-clause-there : goal.returns-clause-there
returns-clause-there c = added_there c.args.number c.args.place c.self.inside.pairs.keys c.insert.new.self.keys c.in_ok-insert.ensures.updates.0
