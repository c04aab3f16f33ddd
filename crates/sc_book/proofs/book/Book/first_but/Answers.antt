use Rattle.std.proofs.Common.{ap, ◌∙◌}
use Rattle.sc_book.specs.Firsts.{earliest_at, free_of}
use Rattle.sc_book.proofs.FreshLaws.{settled_items}
use Rattle.sc_book.proofs.book.Book.first_but.Goals as goal

pub returns : goal.returns
returns g c =
    let none = c.is_empty.ensures.0 c.if-not-is_empty.false in
    c.in_ok-next.ensures ∙ ap (λ l. earliest_at g.T.Item.first (free_of c.args.places.now l)) (settled_items c.self.inside.base c.self.inside.changes.entries none ∙ c.self.view_is)
