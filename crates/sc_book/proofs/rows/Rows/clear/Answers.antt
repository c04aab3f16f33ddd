use Rattle.sc_book.proofs.RowLaws.{no_rows}
use Rattle.sc_book.proofs.rows.Rows.clear.Goals as goal

pub invariant_of-self : goal.invariant_of-self
invariant_of-self g c = no_rows g.T.Keyed.key c.clear.new.self 0 c.clear.ensures
