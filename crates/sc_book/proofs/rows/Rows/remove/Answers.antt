use Rattle.sc_book.proofs.Basics.{either_way, on_ok}
use Rattle.sc_book.proofs.RowLaws.{fewer_own, fewer_without, rows_fewer, left_keyed}
use Rattle.sc_book.proofs.rows.Rows.remove.Goals as goal

pub invariant_of-self : goal.invariant_of-self
invariant_of-self g c = rows_fewer g.T.Keyed.key c.self.inside.next c.self.inside.items c.take.new.self c.self.invariant
    (either_way c.take.result c.take.ensures.ok c.take.ensures.err (fewer_without c.args.key c.self.inside.items c.take.new.self) (fewer_own c.self.inside.items c.take.new.self))

pub returns-clause-ok : goal.returns-clause-ok
returns-clause-ok g c = rw (← c.self.view_is) (on_ok c.take.result (left_keyed g.T.Keyed.key c.args.key c.self.inside.items c.take.new.self c.self.invariant.keyed c.take.ensures.sorted) c.take.ensures.ok)
