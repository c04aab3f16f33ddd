use Rattle.std.proofs.Common.{◌+◌, ap, ◌∙◌}
use Rattle.sc_book.proofs.CountLaws.{counted_total, counts_put}
use Rattle.sc_book.proofs.counted.Counted.put.Goals as goal

pub with-requires-clause-total : goal.with-requires-clause-total
with-requires-clause-total g c = counted_total g.T.Item.weight c.args.place c.self.inside.book c.weight_in-former.result c.self.inside.counts c.self.invariant c.weight_in-former.ensures.sorted c.weight_in-former.ensures.weight

pub invariant_of-self-2 : goal.invariant_of-self-2
invariant_of-self-2 g c =
    counts_put g.T.Item.weight c.args.place c.in_ok-entry.entry c.self.inside.book c.put.new.self c.weight_in-former.result c.self.inside.counts c.in_ok-counts.counts
    c.self.invariant c.weight_in-former.ensures.sorted c.weight_in-former.ensures.weight c.in_ok-put.ensures.ok c.in_ok-counts.ensures.items (c.in_ok-counts.ensures.total ∙ ap (λ n. c.self.inside.counts.total + n) c.weight.ensures)
