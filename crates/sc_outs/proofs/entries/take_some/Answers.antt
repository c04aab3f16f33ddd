use Rattle.sc_outs.proofs.EntryLaws.{took_distinct, took_kept, within_at}
use Rattle.sc_outs.proofs.entries.take_some.Goals as goal

pub take-requires : goal.take-requires
take-requires c = within_at _ _ _ _ _ c.requires.at c.requires.within

pub returns-clause-distinct : goal.returns-clause-distinct
returns-clause-distinct c = took_distinct _ _ _ _ _ _ c.requires.distinct c.requires.at c.take.ensures

pub returns-clause-left : goal.returns-clause-left
returns-clause-left c = took_kept _ _ _ _ _ _ c.requires.at c.take.ensures
