use Rattle.sc_outs.proofs.EntryLaws.{appended_distinct, appended_kept}
use Rattle.sc_outs.proofs.entries.owe_more.Goals as goal

pub returns-clause-distinct : goal.returns-clause-distinct
returns-clause-distinct c = appended_distinct _ _ _ _ _ _ _ c.requires.distinct c.requires.at c.append.ensures.ok c.append.ensures.err

pub returns-clause-ok : goal.returns-clause-ok
returns-clause-ok c = appended_kept _ _ _ _ _ _ _ c.requires.at c.append.ensures.ok
