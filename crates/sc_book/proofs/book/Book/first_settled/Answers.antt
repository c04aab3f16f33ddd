use Rattle.std.proofs.Common.{◌∙◌}
use Rattle.sc_book.proofs.FreshLaws.{settled_items}
use Rattle.sc_book.proofs.WalkLaws.{first_same}
use Rattle.sc_book.proofs.book.Book.first_settled.Goals as goal

pub returns : goal.returns
returns g c =
    let none = c.is_empty.ensures.0 c.if-not-is_empty.false in
    first_same (g.P.Probe.passes c.args.probe.now) c.self.inside.base c.args.self.now _
    (settled_items c.self.inside.base c.self.inside.changes.entries none ∙ c.self.view_is) c.in_ok-place.ensures
