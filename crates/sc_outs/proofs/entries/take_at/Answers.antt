use Rattle.sc_outs.proofs.EntryLaws.{read_at, removed_distinct, removed_whole}
use Rattle.sc_outs.proofs.entries.take_at.Goals as goal

pub returns-then-count-left-clause-distinct : goal.returns-then-count-left-clause-distinct
returns-then-count-left-clause-distinct c = removed_distinct _ _ _ _ _ c.requires.distinct c.requires.at c.outs.view_is c.remove.ensures.items

pub returns-then-count-left-clause-left : goal.returns-then-count-left-clause-left
returns-then-count-left-clause-left c =
    removed_whole _ _ _ _ _ _ _ c.requires.distinct c.requires.at (read_at _ _ _ _ _ _ c.as_slice.ensures c.requires.at c.index-as_slice-at.is c.left.ensures) c.if-count-left.true c.outs.view_is c.remove.ensures.items
