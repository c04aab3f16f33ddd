use Rattle.sc_book.proofs.Basics.{on_ok}
use Rattle.sc_book.proofs.FoundLaws.{due_covers}
use Rattle.sc_book.proofs.base.Base.places_before.Goals as goal

pub returns : goal.returns
returns g c = rw (← c.self.view_is) (on_ok c.places_below.result (due_covers g.T.Item.due g.T.Item.first g.T.Item.groups c.args.moment c.self.inside.items.entries c.self.inside.indexes c.places_below.new.places.keys c.self.invariant) c.places_below.ensures)
