use Rattle.sc_book.proofs.RowLaws.{no_rows}
use Rattle.sc_book.proofs.rows.Rows.new.Goals as goal

pub invariant_of-result : goal.invariant_of-result
invariant_of-result g c = no_rows g.T.Keyed.key c.new.result 0 c.new.ensures
