use Rattle.sc_book.proofs.FirstLaws.{earliest_rows}
use Rattle.sc_book.proofs.rows.Rows.first_but.Goals as goal

pub returns : goal.returns
returns g c = rw (← c.self.view_is) (earliest_rows g.T.Keyed.key g.T.Item.first c.args.skip.now c.self.inside.items c.book.result.now c.self.invariant.keyed c.book.ensures c.first_but.result c.first_but.ensures)
