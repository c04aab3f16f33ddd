use Rattle.std.proofs.Common.{◌≡◌, length, None, sym, subst, rules}
use Rattle.sc_book.specs.Groups.{IsBook}
use Rattle.sc_book.proofs.Basics.{either_way}
use Rattle.sc_book.proofs.TopLaws.{bare_book}
use Rattle.sc_book.proofs.book.Book.take.Goals as goal

pub invariant_of-self-then-has_room : goal.invariant_of-self-then-has_room
invariant_of-self-then-has_room g c =
    let none : length c.self.inside.changes.entries ≡ 0 = search (rules) in
    either_way c.lay.result c.lay.ensures.ok c.lay.ensures.err
    (bare_book g.T.Item.groups c.self.inside.base c.lay.new.self c.self.inside.changes.entries c.self.inside.fresh c.args.place None c.self.invariant none)
    (λ same. subst (λ es. IsBook g.T.Item.groups es c.self.inside.changes.entries c.self.inside.fresh) (sym same) c.self.invariant)
