use Rattle.sc_book.proofs.FreshLaws.{all_book_covers}
use Rattle.sc_book.proofs.book.Book.all_places.Goals as goal

pub returns : goal.returns
returns g c = rw (← c.self.view_is) (all_book_covers g.T.Item.groups c.self.inside.base c.self.inside.changes.entries c.self.inside.fresh c.all_places.new.places.keys c.add_keys.new.keys.keys
    c.self.invariant c.in_ok-all_places.ensures.there c.in_ok-add_keys.ensures)
