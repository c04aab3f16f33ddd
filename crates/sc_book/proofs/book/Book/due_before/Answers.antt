use Rattle.std.proofs.Common.{Bool}
use Rattle.sc_book.specs.Words.{is_before}
use Rattle.sc_book.proofs.FreshLaws.{settled_covers}
use Rattle.sc_book.proofs.book.Book.due_before.Goals as goal

pub gather-requires : goal.gather-requires
gather-requires g c =
    let test : g.row.T.Denot → Bool = λ x. is_before c.args.moment (g.T.Item.due x) in
    let none = c.is_empty.ensures.0 c.if-not-is_empty.false in
    rw (← c.self.view_is) (settled_covers test c.self.inside.base c.self.inside.changes.entries c.places_before.new.places.keys none c.in_ok-places_before.ensures)
