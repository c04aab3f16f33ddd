use Rattle.sc_book.proofs.Basics.{either_way}
use Rattle.sc_book.proofs.RowLaws.{fewer_own, fewer_without, rows_fewer}
use Rattle.sc_book.proofs.rows.Rows.remove_first.Goals as goal

pub invariant_of-self : goal.invariant_of-self
invariant_of-self g c = rows_fewer g.T.Keyed.key c.self.inside.next c.self.inside.items c.take.new.self c.self.invariant
    (either_way c.take.result c.take.ensures.ok c.take.ensures.err (fewer_without c.in-Some.place c.self.inside.items c.take.new.self) (fewer_own c.self.inside.items c.take.new.self))
