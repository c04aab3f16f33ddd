use Rattle.sc_outs.proofs.EntryLaws.{removed_distinct_at, removed_kept_at, none_kept_at}
use Rattle.sc_outs.proofs.entries.drop_left.Goals as goal

pub returns-in-Some-clause-distinct : goal.returns-in-Some-clause-distinct
returns-in-Some-clause-distinct c = removed_distinct_at _ _ _ _ _ _ _ c.requires.distinct c.as_slice.ensures c.place_of.ensures c.in-Some.is c.outs.view_is c.remove.ensures.items

pub returns-in-Some-clause-left : goal.returns-in-Some-clause-left
returns-in-Some-clause-left c = removed_kept_at _ _ _ _ _ _ _ c.requires.distinct c.as_slice.ensures c.place_of.ensures c.in-Some.is c.outs.view_is c.remove.ensures.items

pub returns-in-None-clause-left : goal.returns-in-None-clause-left
returns-in-None-clause-left c = none_kept_at _ _ _ _ c.as_slice.ensures c.place_of.ensures c.in-None.is
