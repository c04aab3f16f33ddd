use Rattle.sc_book.proofs.FreshLaws.{book_covers}
use Rattle.sc_book.proofs.book.Book.places_of.Goals as goal

pub returns : goal.returns
returns g c = rw (← c.self.view_is) (book_covers g.T.Item.groups c.args.group c.self.inside.base c.self.inside.changes.entries c.self.inside.fresh c.places_of.new.places.keys c.places_at.new.places.keys
    c.self.invariant c.in_ok-places_of.ensures.there c.in_ok-places_at.ensures.more c.in_ok-places_at.ensures.there)
