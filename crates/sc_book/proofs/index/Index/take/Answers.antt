use Rattle.sc_book.proofs.PairLaws.{taken_kept}
use Rattle.sc_book.proofs.index.Index.take.Goals as goal

pub returns : goal.returns
returns c = rw (← c.self.view_is) (taken_kept c.args.number c.args.place c.self.inside.pairs.keys c.remove.new.self.keys c.remove.ensures.updates.0)
