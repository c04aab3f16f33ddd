use Rattle.std.proofs.Common.{refl, ap, ◌∙◌}
use Rattle.sc_book.specs.Places.{all_laid}
use Rattle.sc_book.proofs.PlaceLaws.{put_over}
use Rattle.sc_book.proofs.FreshLaws.{more_book, put_book}
use Rattle.sc_book.proofs.book.Book.put_over.Goals as goal

pub invariant_of-self : goal.invariant_of-self
invariant_of-self g c = more_book g.T.Item.groups c.self.inside.base c.self.inside.changes.entries c.self.inside.changes.entries c.self.inside.fresh c.add_groups.new.index c.self.invariant c.add_groups.ensures.grown refl

pub invariant_of-self-in_err-insert : goal.invariant_of-self-in_err-insert
invariant_of-self-in_err-insert g c = more_book g.T.Item.groups c.self.inside.base c.self.inside.changes.entries c.insert.new.self.entries c.self.inside.fresh c.add_groups.new.index c.self.invariant c.add_groups.ensures.grown c.in_err-insert.ensures.err

pub invariant_of-self-2 : goal.invariant_of-self-2
invariant_of-self-2 g c =
    put_book g.T.Item.groups c.self.inside.base c.self.inside.changes.entries c.insert.new.self.entries c.self.inside.fresh c.add_groups.new.index c.args.place c.args.entry c.groups_in-former.result c.numbers.result.groups
    c.self.invariant c.add_groups.ensures.grown c.groups_in-former.ensures (ap (λ n. n.groups) c.numbers.ensures) c.in_ok-add_groups.ensures.there c.in_ok-insert.ensures.entries c.insert.ensures.ordered

pub returns-clause-ok : goal.returns-clause-ok
returns-clause-ok g c = rw (← c.self.view_is) (ap (all_laid c.self.inside.base) c.in_ok-insert.ensures.entries ∙ put_over c.self.inside.base c.self.inside.changes.entries c.args.place c.args.entry c.self.invariant.sorted c.self.invariant.ordered)
