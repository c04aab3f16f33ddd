use Rattle.sc_book.proofs.CountLaws.{counted_total, counts_take}
use Rattle.sc_book.proofs.counted.Counted.take.Goals as goal

pub without-counts-requires-clause-total : goal.without-counts-requires-clause-total
without-counts-requires-clause-total g c = counted_total g.T.Item.weight c.args.place c.self.inside.book c.weight_in-former.result c.self.inside.counts c.self.invariant c.weight_in-former.ensures.sorted c.weight_in-former.ensures.weight

pub invariant_of-self-2 : goal.invariant_of-self-2
invariant_of-self-2 g c =
    counts_take g.T.Item.weight c.args.place c.self.inside.book c.take.new.self c.weight_in-former.result c.self.inside.counts c.without-counts.result
    c.self.invariant c.weight_in-former.ensures.sorted c.weight_in-former.ensures.weight c.in_ok-take.ensures.ok c.without-counts.ensures.items c.without-counts.ensures.total
